use Rattle.std.proofs.Common.{ℕ, Bool, ◌||◌, arith}
use Rattle.st_pages.specs.Attempt.{Agrees, over}
use Rattle.st_pages.specs.Calls.{no_page}
use Rattle.st_pages.specs.Chains.{is_on_way}
use Rattle.st_catalog.specs.Catalog.{NamesPlaces}
use Rattle.st_pages.proofs.Carried.{under}
use Rattle.st_catalog.proofs.Whole.{first-of, second-of, roots-broken}
use Rattle.st_catalog.proofs.read.read_database.Goals as goal

pub returns-in-Err-clause-asked : goal.returns-in-Err-clause-asked
returns-in-Err-clause-asked g c = λ pages agrees.
    let array = over (g.P.Pages.attempt c.args.pages.now) pages in
    g.met.P.Pages.asked_more c.args.pages.now c.read_schema.new.pages (is_on_way array 1) no_page (λ page. is_on_way array 1 page || is_on_way array 0 page) no_page 0 0 (first-of array) (λ p e. e) (omega arith) (c.read_schema.ensures.asked pages agrees)

pub returns-in-Ok-read_places-clause-asked : goal.returns-in-Ok-read_places-clause-asked
returns-in-Ok-read_places-clause-asked g c = λ pages agrees.
    let laws = g.met.P.Pages in
    let attempt = g.P.Pages.attempt in
    let array = over (attempt c.args.pages.now) pages in
    let mid : Agrees (attempt c.read_schema.new.pages) pages = λ page image e. agrees page image (laws.seen_stays c.read_schema.new.pages c.read_places.new.pages c.read_places.ensures.follows page image e) in
    let both : ℕ → Bool = λ page. is_on_way array 1 page || is_on_way array 0 page in
    let one = laws.asked_more c.args.pages.now c.read_schema.new.pages (is_on_way array 1) no_page both no_page 0 0 (first-of array) (λ p e. e) (omega arith) (c.read_schema.ensures.asked pages mid) in
    let way = under (attempt c.args.pages.now) (attempt c.read_schema.new.pages) (attempt c.read_places.new.pages) (λ a. g.P.Pages.asked c.read_schema.new.pages c.read_places.new.pages (is_on_way a 0) no_page 0) c.read_schema.ensures.written c.read_places.ensures.asked pages agrees in
    let two = laws.asked_more c.read_schema.new.pages c.read_places.new.pages (is_on_way array 0) no_page both no_page 0 0 (second-of array) (λ p e. e) (omega arith) way in
    laws.asked_on c.args.pages.now c.read_schema.new.pages c.read_places.new.pages both no_page 0 0 c.read_schema.ensures.follows c.read_places.ensures.follows one two

pub returns-in-Err-read_places-clause-asked : goal.returns-in-Err-read_places-clause-asked
returns-in-Err-read_places-clause-asked g c = λ pages agrees.
    let laws = g.met.P.Pages in
    let attempt = g.P.Pages.attempt in
    let array = over (attempt c.args.pages.now) pages in
    let mid : Agrees (attempt c.read_schema.new.pages) pages = λ page image e. agrees page image (laws.seen_stays c.read_schema.new.pages c.read_places.new.pages c.read_places.ensures.follows page image e) in
    let both : ℕ → Bool = λ page. is_on_way array 1 page || is_on_way array 0 page in
    let one = laws.asked_more c.args.pages.now c.read_schema.new.pages (is_on_way array 1) no_page both no_page 0 0 (first-of array) (λ p e. e) (omega arith) (c.read_schema.ensures.asked pages mid) in
    let way = under (attempt c.args.pages.now) (attempt c.read_schema.new.pages) (attempt c.read_places.new.pages) (λ a. g.P.Pages.asked c.read_schema.new.pages c.read_places.new.pages (is_on_way a 0) no_page 0) c.read_schema.ensures.written c.read_places.ensures.asked pages agrees in
    let two = laws.asked_more c.read_schema.new.pages c.read_places.new.pages (is_on_way array 0) no_page both no_page 0 0 (second-of array) (λ p e. e) (omega arith) way in
    laws.asked_on c.args.pages.now c.read_schema.new.pages c.read_places.new.pages both no_page 0 0 c.read_schema.ensures.follows c.read_places.ensures.follows one two

pub returns-in-Ok-read_places-clause-has : goal.returns-in-Ok-read_places-clause-has
returns-in-Ok-read_places-clause-has g c = λ pages agrees.
    let laws = g.met.P.Pages in
    let attempt = g.P.Pages.attempt in
    let mid : Agrees (attempt c.read_schema.new.pages) pages = λ page image e. agrees page image (laws.seen_stays c.read_schema.new.pages c.read_places.new.pages c.read_places.ensures.follows page image e) in
    record {
      spells = c.in-Ok.ensures.spells pages mid;
      names = under (attempt c.args.pages.now) (attempt c.read_schema.new.pages) (attempt c.read_places.new.pages) (λ a. NamesPlaces a c.in-Ok.schema c.in-Ok-read_places.places) c.read_schema.ensures.written c.in-Ok-read_places.ensures.names pages agrees;
    }

pub returns-in-Err-read_places-clause-broken : goal.returns-in-Err-read_places-clause-broken
returns-in-Err-read_places-clause-broken g c =
    let attempt = g.P.Pages.attempt in
    roots-broken (attempt c.args.pages.now) (attempt c.read_schema.new.pages) (attempt c.read_places.new.pages) c.in-Ok.schema c.in-Err-read_places.fault c.read_schema.ensures.written
    (g.met.P.Pages.seen_stays c.read_schema.new.pages c.read_places.new.pages c.read_places.ensures.follows) c.in-Ok.ensures.spells c.in-Err-read_places.ensures.broken
