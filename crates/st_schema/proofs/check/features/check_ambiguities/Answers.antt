use Rattle.std.proofs.Common.{length, arith}
use Rattle.std.proofs.lemmas.Result.{err_from_is_err_and}
use Rattle.st_schema.specs.Meaning.{ambiguous_at}
use Rattle.st_schema.proofs.Firsts.{passes_on, refuses_at}
use Rattle.st_schema.proofs.check.features.check_ambiguities.Goals as goal

pub loop-ty-preserved : goal.loop-ty-preserved
loop-ty-preserved c =
    passes_on (ambiguous_at c.args.schema.now c.args.features.now) (length c.args.schema.now.names) c.loop-ty.ty (omega arith) c.loop-ty.invariant c.in_ok-check_ambiguous.ensures

pub returns-in_err-check_ambiguous : goal.returns-in_err-check_ambiguous
returns-in_err-check_ambiguous c =
    let p = err_from_is_err_and c.from_residual.result c.from_residual.ensures.1 in
    rw (p.1, p.2)
    (refuses_at (ambiguous_at c.args.schema.now c.args.features.now) (length c.args.schema.now.names) c.loop-ty.ty _ (omega arith) c.loop-ty.invariant c.in_err-check_ambiguous.ensures)
