use Rattle.std.proofs.Common.{length, arith}
use Rattle.std.proofs.lemmas.Result.{err_from_is_err_and}
use Rattle.st_schema.specs.Meaning.{wide_at}
use Rattle.st_schema.proofs.Firsts.{passes_on, refuses_at}
use Rattle.st_schema.proofs.check.widths.check_widths.Goals as goal

pub loop-ty-preserved : goal.loop-ty-preserved
loop-ty-preserved c =
    passes_on (wide_at c.args.schema.now) (length c.args.schema.now.names) c.loop-ty.ty (omega arith) c.loop-ty.invariant c.in_ok-check_width.ensures

pub returns-in_err-check_width : goal.returns-in_err-check_width
returns-in_err-check_width c =
    let p = err_from_is_err_and c.from_residual.result c.from_residual.ensures.1 in
    rw (p.1, p.2)
    (refuses_at (wide_at c.args.schema.now) (length c.args.schema.now.names) c.loop-ty.ty _ (omega arith) c.loop-ty.invariant c.in_err-check_width.ensures)
