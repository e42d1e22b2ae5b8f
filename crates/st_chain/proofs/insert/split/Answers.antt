use Rattle.std.proofs.Common.{◌∷◌, ◌++◌, IsTrue, take, drop, inl, inr, arith}
use Rattle.st_image.specs.Fields.{rows_of}
use Rattle.st_pages.specs.Attempt.{over}
use Rattle.st_pages.specs.Calls.{no_page}
use Rattle.st_store.specs.Stores.{drew_between}
use Rattle.st_chain.specs.Changes.{either_of, page_or_drawn}
use Rattle.st_chain.proofs.Asking.{nowhere}
use Rattle.st_chain.proofs.Numbered.{of-split, two-put}
use Rattle.st_chain.proofs.Putting.{drew-later, handed-on, on-ok, some-stays, split-of, split-within}
use Rattle.st_chain.proofs.insert.split.Goals as goal

pub put_both-requires-clause-second : goal.put_both-requires-clause-second
put_both-requires-clause-second g c =
    some-stays (g.P.Pages.attempt c.args.pages.now) (g.P.Pages.attempt c.draw.new.pages) c.args.page (g.met.P.Pages.seen_stays c.args.pages.now c.draw.new.pages c.draw.ensures.follows) c.requires.seen

pub returns-clause-met : goal.returns-clause-met
returns-clause-met g c =
    handed-on (g.P.Pages.met c.args.pages.now) (g.P.Pages.met c.draw.new.pages) (g.P.Pages.met c.put_both.new.pages) c.put_both.result (g.met.P.Pages.met_never_falls _ _ c.draw.ensures.follows) c.put_both.ensures.met

pub returns-clause-asked : goal.returns-clause-asked
returns-clause-asked g c =
    let attempt = g.P.Pages.attempt in
    let drawn = c.in-Ok.drawn in
    let some = page_or_drawn (attempt c.args.pages.now) (attempt c.put_both.new.pages) c.args.page in
    let both = either_of drawn c.args.page in
    let drew : IsTrue (drew_between (attempt c.args.pages.now) (attempt c.put_both.new.pages) drawn) =
    drew-later (attempt c.args.pages.now) (attempt c.draw.new.pages) (attempt c.put_both.new.pages) drawn c.in-Ok.ensures.drawn.drew
    (g.met.P.Pages.drawn_stays c.draw.new.pages c.put_both.new.pages c.put_both.ensures.follows drawn) in
    g.met.P.Pages.asked_on c.args.pages.now c.draw.new.pages c.put_both.new.pages no_page some 2 0 c.draw.ensures.follows c.put_both.ensures.follows
    (g.met.P.Pages.asked_more _ _ no_page no_page no_page some 2 2 (nowhere no_page) (nowhere some) (omega arith) c.draw.ensures.asked)
    (g.met.P.Pages.asked_more _ _ no_page both no_page some 0 0 (nowhere no_page) (split-within (attempt c.args.pages.now) (attempt c.put_both.new.pages) c.args.page drawn drew) (omega arith) c.put_both.ensures.asked)

pub returns-clause-split : goal.returns-clause-split
returns-clause-split g c =
    let attempt = g.P.Pages.attempt in
    let rows = rows_of c.args.place.width c.args.frame.now in
    on-ok _ _ c.put_both.result c.put_both.ensures.ok (λ is array agrees at.
    split-of c.args.place (attempt c.args.pages.now) (attempt c.draw.new.pages) (attempt c.put_both.new.pages) array c.args.page c.in-Ok.drawn c.args.frame.now c.parted-other.new.page c.set_next.new.self c.parted-other.result
    (take c.args.index rows ++ c.args.row.now ∷ drop c.args.index rows) c.in-Ok.ensures.drawn c.draw.ensures.written c.set_next.ensures is
    (λ p. (g.met.P.Pages.is_sound c.put_both.new.pages).drawn p) agrees c.parted-other.ensures c.requires.kind at)

pub returns-clause-numbers : goal.returns-clause-numbers
returns-clause-numbers g c = λ array agrees at.
    let attempt = g.P.Pages.attempt in
    let old = attempt c.args.pages.now in
    let new = attempt c.put_both.new.pages in
    let drawn = c.in-Ok.drawn in
    let drew : IsTrue (drew_between old new drawn) =
    drew-later old (attempt c.draw.new.pages) new drawn c.in-Ok.ensures.drawn.drew (g.met.P.Pages.drawn_stays c.draw.new.pages c.put_both.new.pages c.put_both.ensures.follows drawn) in
    two-put old new array c.put_both.result (attempt c.draw.new.pages) drawn c.args.page c.parted-other.result c.set_next.new.self c.put_both.ensures.ok c.put_both.ensures.err c.draw.ensures.written (inr drew)
    (inl (of-split c.args.place.width drawn c.args.frame.now c.parted-other.new.page c.set_next.new.self c.parted-other.result _ (over old array c.args.page) c.parted-other.ensures c.set_next.ensures at))
