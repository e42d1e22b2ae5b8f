use Rattle.std.proofs.Common.{sym, ◌∙◌, ap}
use Rattle.st_sexp.specs.declared.nested.Path.{Path}
use Rattle.st_sexp.specs.Nested.{descent}
use Rattle.st_sexp.proofs.Descents.{onto, one_down, at_end, tokens_of_second}
use Rattle.st_sexp.proofs.nested.descent.Goals as goal

pub loop-step-smaller : goal.loop-step-smaller
loop-step-smaller c = tokens_of_second c.loop-step.form c.in-Ok.step c.in-Ok.second (sym c.in-Ok.ensures)

pub loop-step-preserved : goal.loop-step-preserved
loop-step-preserved c =
    ap (λ levels. onto levels (descent c.in-Ok.second)) c.in_ok-push-in-Ok.ensures.ok
    ∙ one_down c.loop-step.levels c.loop-step.form c.in-Ok.second c.in-Ok.step (descent c.args.form) c.loop-step.invariant (sym c.in-Ok.ensures)

pub returns-in-Err : goal.returns-in-Err
returns-in-Err c =
    ap (λ levels. let p : Path = record { levels = levels; inner = c.in-Err.inner } in p) c.in_ok-levels-in-Err.ensures
    ∙ at_end c.loop-step.levels c.loop-step.form c.in-Err.inner (descent c.args.form) c.loop-step.invariant (sym c.in-Err.ensures)
