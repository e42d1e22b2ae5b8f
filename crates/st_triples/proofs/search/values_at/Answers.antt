use Rattle.std.proofs.Common.{◌≡◌, List, map, sym, subst}
use Rattle.std.specs.Prelude.{IfOk}
use Rattle.st_state.specs.declared.triple.Triple.{Triple}
use Rattle.st_state.specs.State.{is_at}
use Rattle.st_triples.proofs.Parts.{run-filter}
use Rattle.st_triples.proofs.search.values_at.Goals as goal

pub returns : goal.returns
returns c =
    let P : List Triple → Type 0 = λ z. IfOk c.copies_of_values.result (λ values. values ≡ map (λ (t : Triple). t.value) z) in
    subst P (sym (run-filter (is_at c.args.attribute c.args.entity) c.args.triples.now c.run_of-run.result.from c.run_of-run.result.to c.run_of-run.ensures.run)) c.copies_of_values.ensures
