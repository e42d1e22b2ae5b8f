use Rattle.std.proofs.Common.{◌/◌, ◌^◌, ◌<◌, ◌≤◌, arith}
use Rattle.std.proofs.Math.Nat.{div-le_self, pow-le-pow_right}
use Rattle.st_image.proofs.check.most_rows.Goals as goal

pub returns-else-key-eq1-clause-keys : goal.returns-else-key-eq1-clause-keys
returns-else-key-eq1-clause-keys c =
    let some : 0 < 256 = omega arith in
    let two : 2 ≤ c.args.key = omega (arith, c.if-key-eq1.false, c.requires.key) in
    let keys : 256 ^ 2 ≤ 256 ^ c.args.key = pow-le-pow_right some two in
    let room : 4080 / c.args.width ≤ 4080 = div-le_self 4080 c.args.width in
    omega (arith, keys, room)
