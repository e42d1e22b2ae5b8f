use Rattle.std.proofs.Common.{List, ◌+◌, not, refl, sym, ap, subst, ◌∙◌, arith}
use Rattle.st_state.specs.declared.triple.Triple.{Triple}
use Rattle.st_state.specs.State.{same_triple, triple_before}
use Rattle.st_triples.specs.Parts.{IsPlace, IsRun}
use Rattle.st_triples.proofs.Parts.{some-run, empty-run}
use Rattle.st_triples.proofs.Runs.{added-inserted, added-same}
use Rattle.st_triples.proofs.cells.add.Goals as goal

pub returns-in-Ok-clause-changed : goal.returns-in-Ok-clause-changed
returns-in-Ok-clause-changed c =
    let P : List Triple → Type 0 = λ z. IsRun (same_triple c.args.triple) z c.in-Ok.field-0 (c.in-Ok.field-0 + 1) in
    sym (ap not (some-run (same_triple c.args.triple) c.args.cells.now.items _ _ (subst P c.as_slice.ensures c.in-Ok.ensures.there) (omega arith)))

pub returns-in-Ok-clause-ok : goal.returns-in-Ok-clause-ok
returns-in-Ok-clause-ok c =
    let P : List Triple → Type 0 = λ z. IsRun (same_triple c.args.triple) z c.in-Ok.field-0 (c.in-Ok.field-0 + 1) in
    added-same c.args.triple c.args.cells.now.items c.in-Ok.field-0 (subst P c.as_slice.ensures c.in-Ok.ensures.there)

pub returns-in_ok-insert-in-Err-clause-changed : goal.returns-in_ok-insert-in-Err-clause-changed
returns-in_ok-insert-in-Err-clause-changed c =
    let P : List Triple → Type 0 = λ z. IsRun (same_triple c.args.triple) z c.in-Err.place c.in-Err.place in
    sym (ap not (empty-run (same_triple c.args.triple) c.args.cells.now.items _ _ (subst P c.as_slice.ensures c.in-Err.ensures.absent) refl))

pub returns-in_ok-insert-in-Err-clause-ok : goal.returns-in_ok-insert-in-Err-clause-ok
returns-in_ok-insert-in-Err-clause-ok c =
    let P : List Triple → Type 0 = λ z. IsRun (same_triple c.args.triple) z c.in-Err.place c.in-Err.place in
    let Q : List Triple → Type 0 = λ z. IsPlace (λ u. triple_before u c.args.triple) z c.in-Err.place in
    c.in_ok-insert-in-Err.ensures.ok
    ∙ added-inserted c.args.triple c.args.cells.now.items c.requires c.in-Err.place (subst Q c.as_slice.ensures c.in-Err.ensures.place) (subst P c.as_slice.ensures c.in-Err.ensures.absent)
