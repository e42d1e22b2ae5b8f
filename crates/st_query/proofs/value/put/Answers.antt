use Rattle.std.proofs.Common.{arith, ◌<◌, length}
use Rattle.st_query.proofs.Places.{set-split}
use Rattle.st_query.proofs.value.put.Goals as goal

pub returns-then-place-len-clause-ok : goal.returns-then-place-len-clause-ok
returns-then-place-len-clause-ok c =
    let inside : c.args.place < length c.args.variables.now.items = omega arith in
    set-split _ _ _ inside
