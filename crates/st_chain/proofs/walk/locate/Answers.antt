use Rattle.std.proofs.Common.{IsSome, IsTrue, ◌≡◌, ◌<◌, ◌∙◌, [], refl, sym, subst, arith}
use Rattle.st_image.specs.Bytes.{IsBytes}
use Rattle.st_image.specs.Fields.{next_of}
use Rattle.st_image.specs.Grammar.{IsPage}
use Rattle.st_image.specs.declared.wanted.Wanted.TheVariants.{Chain}
use Rattle.st_pages.specs.Attempt.{Agrees, over}
use Rattle.st_pages.specs.Calls.{met_fault, no_page, only}
use Rattle.st_pages.proofs.Carried.{handed, only-within, under, next-is-page}
use Rattle.st_store.specs.Chain.{is_on_chain}
use Rattle.st_chain.specs.Counted.{way-reached}
use Rattle.st_chain.proofs.Faults.{bad-first, bad-next}
use Rattle.st_chain.proofs.Fronts.{front-reached, if-each}
use Rattle.st_chain.proofs.Walks.{come-first, come-next, come-on, first-way, is-on, rank-grows, rank-most}
use Rattle.st_chain.proofs.walk.locate.Goals as goal

pub returns-in-Err-clause-asked : goal.returns-in-Err-clause-asked
returns-in-Err-clause-asked g c = λ pages agrees.
    let laws = g.met.P.Pages in
    let place = c.args.place in
    let array = over (g.P.Pages.attempt c.args.pages.now) pages in
    laws.asked_more c.args.pages.now c.get_wanted.new.pages (only place.first) no_page (is_on_chain place array) no_page 0 0
    (only-within (is_on_chain place array) place.first (is-on place array [] place.first (first-way place array) (omega arith))) (λ p e. e) (omega arith) c.get_wanted.ensures.asked

pub returns-in-Err-clause-bad : goal.returns-in-Err-clause-bad
returns-in-Err-clause-bad g c =
    let attempt = g.P.Pages.attempt in
    bad-first c.args.place c.chain_page.result (attempt c.args.pages.now) (attempt c.get_wanted.new.pages) c.in-Err.fault c.chain_page.ensures c.in-Err.ensures.bad

pub loop-alloc-init : goal.loop-alloc-init
loop-alloc-init g c =
    let laws = g.met.P.Pages in
    let place = c.args.place in
    let attempt = g.P.Pages.attempt in
    record {
      follows = c.get_wanted.ensures.follows;
      written = c.get_wanted.ensures.written;
      page = c.requires.place.first;
      front = tt;
      seen = c.in-Ok.ensures.seen;
      sound = subst (λ w. IsPage w c.get_wanted.new.frame) c.chain_page.ensures c.in-Ok.ensures.wanted;
      come = λ pages agrees.
          come-first place (over (attempt c.args.pages.now) pages) c.args.key.now c.get_wanted.new.frame _ refl (c.in-Ok.ensures.image pages agrees)
          (subst (λ w. IsPage w c.get_wanted.new.frame) c.chain_page.ensures c.in-Ok.ensures.wanted);
      asked = λ pages agrees.
          let array = over (attempt c.args.pages.now) pages in
          laws.asked_more c.args.pages.now c.get_wanted.new.pages (only place.first) no_page (is_on_chain place array) no_page 0 0
          (only-within (is_on_chain place array) place.first (is-on place array [] place.first (first-way place array) (omega arith))) (λ p e. e) (omega arith) c.get_wanted.ensures.asked;
    }

pub returns-in-Err-next_page-clause-met : goal.returns-in-Err-next_page-clause-met
returns-in-Err-next_page-clause-met g c =
    let met = g.P.Pages.met in
    handed (met c.args.pages.now) (met c.loop-alloc.pages) (met c.next_page.new.pages) (met_fault c.in-Err-next_page.fault) (g.met.P.Pages.met_never_falls c.args.pages.now c.loop-alloc.pages c.loop-alloc.invariant.follows) c.in-Err-next_page.ensures.met

pub returns-in-Err-next_page-clause-asked : goal.returns-in-Err-next_page-clause-asked
returns-in-Err-next_page-clause-asked g c = λ pages agrees.
    let laws = g.met.P.Pages in
    let place = c.args.place in
    let loop = c.loop-alloc in
    let array = over (g.P.Pages.attempt c.args.pages.now) pages in
    let bytes : IsBytes c.args.key.now = λ i. omega (arith, c.type_inv.key i) in
    let mid : Agrees (g.P.Pages.attempt loop.pages) pages = λ page image e. agrees page image (laws.seen_stays loop.pages c.next_page.new.pages c.next_page.ensures.follows page image e) in
    let way = come-on place array c.args.key.now loop.spot loop.frame c.requires.place c.requires.key bytes (loop.invariant.come pages mid) loop.invariant.sound (c.goes_up_to.ensures.below c.loop-alloc-test.true) in
    laws.asked_on c.args.pages.now loop.pages c.next_page.new.pages (is_on_chain place array) no_page 0 0 loop.invariant.follows c.next_page.ensures.follows (loop.invariant.asked pages mid)
    (laws.asked_more loop.pages c.next_page.new.pages (only (next_of loop.frame)) no_page (is_on_chain place array) no_page 0 0 (only-within (is_on_chain place array) (next_of loop.frame) way) (λ p e. e) (omega arith) c.next_page.ensures.asked)

pub returns-in-Err-next_page-clause-bad : goal.returns-in-Err-next_page-clause-bad
returns-in-Err-next_page-clause-bad g c =
    let attempt = g.P.Pages.attempt in
    let loop = c.loop-alloc in
    bad-next c.args.place (attempt c.args.pages.now) (attempt loop.pages) (attempt c.next_page.new.pages) c.args.key.now loop.spot loop.frame c.in-Err-next_page.fault loop.invariant.written
    (g.met.P.Pages.seen_stays loop.pages c.next_page.new.pages c.next_page.ensures.follows) loop.invariant.come loop.invariant.sound (c.goes_up_to.ensures.below c.loop-alloc-test.true) c.in-Err-next_page.ensures.bad

pub loop-alloc-smaller : goal.loop-alloc-smaller
loop-alloc-smaller g c =
    let place = c.args.place in
    let grows = rank-grows place c.loop-alloc.frame c.next_page.new.frame c.requires.place c.loop-alloc.invariant.sound c.in-Ok-next_page.ensures.sound c.in-Ok-next_page.ensures.above in
    let most = rank-most place c.next_page.new.frame c.requires.place c.in-Ok-next_page.ensures.sound in
    omega (arith, grows, most)

pub loop-alloc-preserved : goal.loop-alloc-preserved
loop-alloc-preserved g c =
    let laws = g.met.P.Pages in
    let place = c.args.place in
    let attempt = g.P.Pages.attempt in
    let loop = c.loop-alloc in
    let below = c.goes_up_to.ensures.below c.loop-alloc-test.true in
    let bytes : IsBytes c.args.key.now = λ i. omega (arith, c.type_inv.key i) in
    record {
      follows = laws.follows_on c.args.pages.now loop.pages c.next_page.new.pages loop.invariant.follows c.next_page.ensures.follows;
      written = c.next_page.ensures.written ∙ loop.invariant.written;
      front = loop.invariant.page;
      page = subst (λ n. n < 65536) (sym c.next-page.ensures) (next-is-page (Chain place.store place.key place.width) loop.frame loop.invariant.sound);
      seen = subst (λ n. IsSome ((attempt c.next_page.new.pages).seen n)) (sym c.next-page.ensures) c.in-Ok-next_page.ensures.seen;
      sound = c.in-Ok-next_page.ensures.sound;
      come = λ pages agrees.
          let array = over (attempt c.args.pages.now) pages in
          let mid : Agrees (attempt loop.pages) pages = λ page image e. agrees page image (laws.seen_stays loop.pages c.next_page.new.pages c.next_page.ensures.follows page image e) in
          let at = under (attempt c.args.pages.now) (attempt loop.pages) (attempt c.next_page.new.pages) (λ a. a (next_of loop.frame) ≡ c.next_page.new.frame) loop.invariant.written c.in-Ok-next_page.ensures.image pages agrees in
          come-next place array c.args.key.now loop.spot loop.frame c.next-page.result c.next_page.new.frame (loop.invariant.come pages mid) loop.invariant.sound below c.next-page.ensures at c.in-Ok-next_page.ensures.above;
      asked = λ pages agrees.
          let array = over (attempt c.args.pages.now) pages in
          let mid : Agrees (attempt loop.pages) pages = λ page image e. agrees page image (laws.seen_stays loop.pages c.next_page.new.pages c.next_page.ensures.follows page image e) in
          let way = come-on place array c.args.key.now loop.spot loop.frame c.requires.place c.requires.key bytes (loop.invariant.come pages mid) loop.invariant.sound below in
          laws.asked_on c.args.pages.now loop.pages c.next_page.new.pages (is_on_chain place array) no_page 0 0 loop.invariant.follows c.next_page.ensures.follows (loop.invariant.asked pages mid)
          (laws.asked_more loop.pages c.next_page.new.pages (only (next_of loop.frame)) no_page (is_on_chain place array) no_page 0 0 (only-within (is_on_chain place array) (next_of loop.frame) way) (λ p e. e) (omega arith) c.next_page.ensures.asked);
    }

pub returns-clause-reached : goal.returns-clause-reached
returns-clause-reached g c = λ pages agrees.
    let array = over (g.P.Pages.attempt c.args.pages.now) pages in
    let come = c.loop-alloc.invariant.come pages agrees in
    way-reached c.args.place array come.pages c.loop-alloc.spot.page come.way

pub returns-clause-front_reached : goal.returns-clause-front_reached
returns-clause-front_reached g c =
    let attempt = g.P.Pages.attempt in
    if-each (attempt c.args.pages.now) (attempt c.loop-alloc.pages) c.loop-alloc.spot.previous (λ page array. IsTrue (is_on_chain c.args.place array page))
    (λ pages agrees. front-reached c.args.place (over (attempt c.args.pages.now) pages) c.args.key.now c.loop-alloc.spot c.loop-alloc.frame (c.loop-alloc.invariant.come pages agrees))
