use Rattle.std.proofs.lemmas.Result.{err_from_is_err_and}
use Rattle.std.proofs.Common.{arith}
use Rattle.st_schema.proofs.Firsts.{parents_refuse, parents_pass}
use Rattle.st_schema.proofs.check.names.check_parents.Goals as goal

pub returns-in_err-check_parents_of : goal.returns-in_err-check_parents_of
returns-in_err-check_parents_of c =
    let p = err_from_is_err_and c.from_residual.result c.from_residual.ensures.1 in
    rw (p.1, p.2)
    (parents_refuse c.args.names.now c.args.types.now c.loop-ty.ty-index c.ty-item.result _ c.requires (omega arith) c.ty-item.is c.loop-ty.invariant.left
    (rw (c.as_slice.ensures, c.loop-ty.invariant.counted) at c.in_err-check_parents_of.ensures))

pub loop-ty-preserved : goal.loop-ty-preserved
loop-ty-preserved c = record {
  counted = omega arith;
  left = parents_pass c.args.names.now c.args.types.now c.loop-ty.ty-index c.ty-item.result c.requires (omega arith) c.ty-item.is c.loop-ty.invariant.left
      (rw (c.as_slice.ensures, c.loop-ty.invariant.counted) at c.in_ok-check_parents_of.ensures);
}
