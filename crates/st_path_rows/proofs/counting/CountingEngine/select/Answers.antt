use Rattle.std.proofs.Common.{ap, ◌∙◌}
use Rattle.st_state.specs.State.{State}
use Rattle.st_lattice.specs.Outline.{Outline}
use Rattle.st_select.specs.Search.{search_of}
use Rattle.st_path_rows.proofs.counting.CountingEngine.select.Goals as goal

pub returns-clause-looks : goal.returns-clause-looks
returns-clause-looks c = λ w s agrees stands checked.
    c.filtered.ensures.looks w s agrees stands c.args.variables.now c.args.query.now
    (c.in_ok-search.ensures.value ∙ ap (λ (o : Outline). search_of o c.args.variables.now c.args.query.now) (c.schema.ensures ∙ ap (λ (x : State). x.schema) stands)) checked
