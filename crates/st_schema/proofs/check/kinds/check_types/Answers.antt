use Rattle.std.proofs.lemmas.Result.{err_from_is_err_and}
use Rattle.std.proofs.Common.{arith}
use Rattle.st_schema.proofs.Firsts.{unknown_refuses}
use Rattle.st_schema.proofs.check.kinds.check_types.Goals as goal

pub returns-in_err-check_types_in : goal.returns-in_err-check_types_in
returns-in_err-check_types_in c =
    let p = err_from_is_err_and c.from_residual.result c.from_residual.ensures.1 in
    rw (p.1, p.2)
    (unknown_refuses c.args.names.now c.args.types.now c.loop-ty.ty-index c.ty-item.result _ (omega arith) c.ty-item.is c.loop-ty.invariant
    (rw c.as_slice.ensures at c.in_err-check_types_in.ensures))
