use Rattle.std.proofs.Common.{◌≡◌, ℕ, ◌+◌, ◌*◌, ◌≤◌, List, sym, ◌∙◌, subst, length}
use Rattle.std.specs.List.{All}
use Rattle.st_pages.specs.Attempt.{over}
use Rattle.st_pages.specs.Reading.{ForEach, OfDamage}
use Rattle.st_store.specs.Stores.{Advanced}
use Rattle.st_index.proofs.Changes.{damage-weaken}
use Rattle.st_index.proofs.Looked.{err-weaken, within-page}
use Rattle.st_lookups.proofs.Walked.{first-has, want-of-memory}
use Rattle.st_lookups.proofs.walks.step.Goals as goal

pub take_row-requires-clause-passed : goal.take_row-requires-clause-passed
take_row-requires-clause-passed g c =
    let place = g.S.Store.location c.args.store.now in
    let passed = c.in-Ok-true.ensures.row c.in-Ok-true.field-0-test in
    let fits = c.in-Ok-true.ensures.fits in
    let width : length c.advance.new.row ≡ place.width = c.advance.auto.row ∙ c.requires.row in
    (passed.0, passed.1, subst (λ (w : ℕ). passed.0 * w + w ≤ 4080) (sym width) (within-page fits.0 place.store place.key place.width passed.0 c.advance.new.cursor.page c.advance.new.row fits.1 passed.2))

pub returns-in-Ok-true-clause-met : goal.returns-in-Ok-true-clause-met
returns-in-Ok-true-clause-met g c = c.take_row.ensures.met (g.P.Pages.met c.args.pages.now) (g.P.Pages.met c.advance.new.pages)

pub returns-in-Ok-true-clause-bad : goal.returns-in-Ok-true-clause-bad
returns-in-Ok-true-clause-bad g c =
    let attempt = g.P.Pages.attempt in
    let place = g.S.Store.location c.args.store.now in
    let sound = g.V.Visit.sound c.args.visit.now in
    err-weaken (OfDamage (λ page at. sound c.advance.new.row → ⊥))
    (OfDamage (λ page at. ForEach (attempt c.args.pages.now) (attempt c.advance.new.pages) (λ array. (rest : List (List ℕ)) → g.S.Store.ahead place array c.args.cursor.now rest → All sound rest → g.S.Store.bad place array page at)))
    c.take_row.result
    (damage-weaken (λ page at. sound c.advance.new.row → ⊥)
    (λ page at. ForEach (attempt c.args.pages.now) (attempt c.advance.new.pages) (λ array. (rest : List (List ℕ)) → g.S.Store.ahead place array c.args.cursor.now rest → All sound rest → g.S.Store.bad place array page at))
    (λ page at never pages agrees rest ahead all.
    let on = subst (λ b. Advanced (g.S.Store.ahead place (over (attempt c.args.pages.now) pages) c.advance.new.cursor) rest b c.advance.new.row) c.in-Ok-true.field-0-test (c.in-Ok-true.ensures.next pages agrees rest ahead) in
    absurd (never (first-has sound rest on.0 c.advance.new.row on.1 all))))
    (want-of-memory (sound c.advance.new.row) (λ page at. ⊥) c.take_row.result c.take_row.ensures.refused)
