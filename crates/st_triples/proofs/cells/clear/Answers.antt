use Rattle.std.proofs.Common.{List, sym, ap, subst, ◌∙◌}
use Rattle.std.specs.List.{remove_range}
use Rattle.st_state.specs.declared.triple.Triple.{Triple}
use Rattle.st_state.specs.State.{is_at}
use Rattle.st_triples.specs.Parts.{IsRun}
use Rattle.st_triples.proofs.Parts.{run-rest}
use Rattle.st_triples.proofs.cells.clear.Goals as goal

pub returns-clause-ok : goal.returns-clause-ok
returns-clause-ok c =
    let from = c.run_of-run.result.from in
    let to = c.run_of-run.result.to in
    let P : List Triple → Type 0 = λ z. IsRun (is_at c.args.attribute c.args.entity) z from to in
    c.remove_range.ensures.items ∙ ap (λ z. remove_range z from to) c.make_room.ensures.items
    ∙ sym (run-rest (is_at c.args.attribute c.args.entity) c.args.cells.now.items from to (subst P c.as_slice.ensures c.run_of-run.ensures.run))
