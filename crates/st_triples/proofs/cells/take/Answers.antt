use Rattle.std.proofs.Common.{List, ◌+◌, refl, sym, ap, subst, ◌∙◌, arith}
use Rattle.std.specs.Prelude.{remove}
use Rattle.st_state.specs.declared.triple.Triple.{Triple}
use Rattle.st_state.specs.State.{same_triple}
use Rattle.st_triples.specs.Marked.{triple_of}
use Rattle.st_triples.specs.Parts.{IsRun}
use Rattle.st_triples.proofs.Parts.{some-run, empty-run}
use Rattle.st_triples.proofs.Runs.{taken-removed, taken-same}
use Rattle.st_triples.proofs.cells.take.Goals as goal

pub returns-in_ok-make_room-in-Ok-clause-changed : goal.returns-in_ok-make_room-in-Ok-clause-changed
returns-in_ok-make_room-in-Ok-clause-changed c =
    let t = triple_of c.args.attribute c.args.entity c.args.value.now in
    let P : List Triple → Type 0 = λ z. IsRun (same_triple t) z c.in-Ok.place (c.in-Ok.place + 1) in
    sym (some-run (same_triple t) c.args.cells.now.items _ _ (subst P c.as_slice.ensures c.in-Ok.ensures.there) (omega arith))

pub returns-in_ok-make_room-in-Ok-clause-ok : goal.returns-in_ok-make_room-in-Ok-clause-ok
returns-in_ok-make_room-in-Ok-clause-ok c =
    let t = triple_of c.args.attribute c.args.entity c.args.value.now in
    let P : List Triple → Type 0 = λ z. IsRun (same_triple t) z c.in-Ok.place (c.in-Ok.place + 1) in
    c.remove.ensures.items ∙ ap (λ z. remove z c.in-Ok.place) c.make_room.ensures.items
    ∙ taken-removed t c.args.cells.now.items c.in-Ok.place (subst P c.as_slice.ensures c.in-Ok.ensures.there)

pub returns-in-Err-clause-changed : goal.returns-in-Err-clause-changed
returns-in-Err-clause-changed c =
    let t = triple_of c.args.attribute c.args.entity c.args.value.now in
    let P : List Triple → Type 0 = λ z. IsRun (same_triple t) z c.in-Err.field-0 c.in-Err.field-0 in
    sym (empty-run (same_triple t) c.args.cells.now.items _ _ (subst P c.as_slice.ensures c.in-Err.ensures.absent) refl)

pub returns-in-Err-clause-ok : goal.returns-in-Err-clause-ok
returns-in-Err-clause-ok c =
    let t = triple_of c.args.attribute c.args.entity c.args.value.now in
    let P : List Triple → Type 0 = λ z. IsRun (same_triple t) z c.in-Err.field-0 c.in-Err.field-0 in
    taken-same t c.args.cells.now.items c.in-Err.field-0 (subst P c.as_slice.ensures c.in-Err.ensures.absent)
