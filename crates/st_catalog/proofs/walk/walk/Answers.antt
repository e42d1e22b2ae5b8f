use Rattle.std.proofs.Common.{◌≡◌, ◌<◌, ◌∙◌, sym, subst, arith}
use Rattle.st_pages.specs.Attempt.{Agrees, over}
use Rattle.st_pages.specs.Calls.{no_page, only}
use Rattle.st_pages.specs.Chains.{is_on_way}
use Rattle.st_pages.proofs.Carried.{under, only-within, next-is-page}
use Rattle.st_catalog.proofs.Walking.{Far, further, ended, is-way, endless, breaks, above-0}
use Rattle.st_catalog.proofs.walk.walk.Goals as goal

pub returns-in-Err-clause-asked : goal.returns-in-Err-clause-asked
returns-in-Err-clause-asked g c = λ pages agrees.
    let laws = g.met.P.Pages in
    let array = over (g.P.Pages.attempt c.args.pages.now) pages in
    let mid : Agrees (g.P.Pages.attempt c.loop.pages) pages = λ page image e. agrees page image (laws.seen_stays c.loop.pages c.step.new.pages c.step.ensures.follows page image e) in
    let way = is-way c.args.wanted array c.args.first c.loop.page c.loop.counter (g.G.Gather.told c.loop.gather) (c.loop.invariant.far pages mid) c.loop-test.true in
    laws.asked_on c.args.pages.now c.loop.pages c.step.new.pages (is_on_way array c.args.first) no_page 0 0 c.loop.invariant.follows c.step.ensures.follows (c.loop.invariant.asked pages mid)
    (laws.asked_more c.loop.pages c.step.new.pages (only c.loop.page) no_page (is_on_way array c.args.first) no_page 0 0 (only-within (is_on_way array c.args.first) c.loop.page way) (λ p e. e) (omega arith) c.step.ensures.asked)

pub returns-in-Err-clause-bad : goal.returns-in-Err-clause-bad
returns-in-Err-clause-bad g c =
    let attempt = g.P.Pages.attempt in
    breaks c.args.wanted (attempt c.args.pages.now) (attempt c.loop.pages) (attempt c.step.new.pages) c.args.first c.loop.page (g.G.Gather.told c.loop.gather) c.loop.counter c.in-Err.fault c.loop.invariant.written
    (g.met.P.Pages.seen_stays c.loop.pages c.step.new.pages c.step.ensures.follows) c.loop.invariant.far c.in-Err.ensures.bad

pub returns-in-Ok-eq0-clause-asked : goal.returns-in-Ok-eq0-clause-asked
returns-in-Ok-eq0-clause-asked g c = λ pages agrees.
    let laws = g.met.P.Pages in
    let array = over (g.P.Pages.attempt c.args.pages.now) pages in
    let mid : Agrees (g.P.Pages.attempt c.loop.pages) pages = λ page image e. agrees page image (laws.seen_stays c.loop.pages c.step.new.pages c.step.ensures.follows page image e) in
    let way = is-way c.args.wanted array c.args.first c.loop.page c.loop.counter (g.G.Gather.told c.loop.gather) (c.loop.invariant.far pages mid) c.loop-test.true in
    laws.asked_on c.args.pages.now c.loop.pages c.step.new.pages (is_on_way array c.args.first) no_page 0 0 c.loop.invariant.follows c.step.ensures.follows (c.loop.invariant.asked pages mid)
    (laws.asked_more c.loop.pages c.step.new.pages (only c.loop.page) no_page (is_on_way array c.args.first) no_page 0 0 (only-within (is_on_way array c.args.first) c.loop.page way) (λ p e. e) (omega arith) c.step.ensures.asked)

pub returns-in-Ok-eq0-clause-walked : goal.returns-in-Ok-eq0-clause-walked
returns-in-Ok-eq0-clause-walked g c = λ pages agrees.
    let laws = g.met.P.Pages in
    let attempt = g.P.Pages.attempt in
    let array = over (attempt c.args.pages.now) pages in
    let mid : Agrees (g.P.Pages.attempt c.loop.pages) pages = λ page image e. agrees page image (laws.seen_stays c.loop.pages c.step.new.pages c.step.ensures.follows page image e) in
    let stepped = c.in-Ok-eq0.ensures.stepped in
    let at = under (attempt c.args.pages.now) (attempt c.loop.pages) (attempt c.step.new.pages) (λ a. a c.loop.page ≡ stepped.0) c.loop.invariant.written stepped.1 pages agrees in
    ended c.args.wanted array c.args.first c.loop.page c.loop.counter c.in-Ok-eq0.field-0 stepped.0 (g.G.Gather.told c.loop.gather) (g.G.Gather.told c.step.new.gather) (c.loop.invariant.far pages mid) c.loop-test.true at stepped.2 c.in-Ok-eq0.field-0-test

pub loop-preserved : goal.loop-preserved
loop-preserved g c =
    let laws = g.met.P.Pages in
    let attempt = g.P.Pages.attempt in
    let stepped = c.in-Ok.ensures.stepped in
    record {
      page = subst (λ n. n < 65536) (sym stepped.2.next_page) (next-is-page c.args.wanted stepped.0 stepped.2.wanted_page);
      follows = laws.follows_on c.args.pages.now c.loop.pages c.step.new.pages c.loop.invariant.follows c.step.ensures.follows;
      written = c.step.ensures.written ∙ c.loop.invariant.written;
      far = λ pages agrees.
          let array = over (attempt c.args.pages.now) pages in
          let mid : Agrees (g.P.Pages.attempt c.loop.pages) pages = λ page image e. agrees page image (laws.seen_stays c.loop.pages c.step.new.pages c.step.ensures.follows page image e) in
          let at = under (attempt c.args.pages.now) (attempt c.loop.pages) (attempt c.step.new.pages) (λ a. a c.loop.page ≡ stepped.0) c.loop.invariant.written stepped.1 pages agrees in
          further c.args.wanted array c.args.first c.loop.page c.loop.counter c.in-Ok.next stepped.0 (g.G.Gather.told c.loop.gather) (g.G.Gather.told c.step.new.gather) (c.loop.invariant.far pages mid) at stepped.2 (above-0 c.in-Ok.next c.in-Ok.next-test.1);
      asked = λ pages agrees.
          let array = over (attempt c.args.pages.now) pages in
          let mid : Agrees (g.P.Pages.attempt c.loop.pages) pages = λ page image e. agrees page image (laws.seen_stays c.loop.pages c.step.new.pages c.step.ensures.follows page image e) in
          let way = is-way c.args.wanted array c.args.first c.loop.page c.loop.counter (g.G.Gather.told c.loop.gather) (c.loop.invariant.far pages mid) c.loop-test.true in
          laws.asked_on c.args.pages.now c.loop.pages c.step.new.pages (is_on_way array c.args.first) no_page 0 0 c.loop.invariant.follows c.step.ensures.follows (c.loop.invariant.asked pages mid)
          (laws.asked_more c.loop.pages c.step.new.pages (only c.loop.page) no_page (is_on_way array c.args.first) no_page 0 0 (only-within (is_on_way array c.args.first) c.loop.page way) (λ p e. e) (omega arith) c.step.ensures.asked);
    }

pub returns-clause-walked : goal.returns-clause-walked
returns-clause-walked g c = λ pages agrees.
    endless c.args.wanted (over (g.P.Pages.attempt c.args.pages.now) pages) c.args.first c.loop.page (g.G.Gather.told c.loop.gather) (subst (λ n. Far c.args.wanted (over (g.P.Pages.attempt c.args.pages.now) pages) c.args.first c.loop.page n (g.G.Gather.told c.loop.gather)) (omega (arith, c.loop-test.false, c.loop.auto.counter-end)) (c.loop.invariant.far pages agrees))
