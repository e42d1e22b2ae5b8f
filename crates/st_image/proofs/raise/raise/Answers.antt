use Rattle.std.proofs.Common.{◌≡◌, ◌+◌, ◌-◌, subst, arith}
use Rattle.st_image.proofs.Raising.{Raised, raised-done, raised-more}
use Rattle.st_image.proofs.raise.raise.Goals as goal

pub returns-then-bytes-i-lt255 : goal.returns-then-bytes-i-lt255
returns-then-bytes-i-lt255 c h =
    let e : c.loop-i.i ≡ c.loop-i.i - 1 + 1 = omega (arith, c.loop-i-test.true) in
    raised-done c.args.bytes.now c.loop-i.bytes (c.loop-i.i - 1) (subst (Raised c.args.bytes.now c.loop-i.bytes) e c.loop-i.invariant)

pub loop-i-preserved : goal.loop-i-preserved
loop-i-preserved c =
    let e : c.loop-i.i ≡ c.loop-i.i - 1 + 1 = omega (arith, c.loop-i-test.true) in
    raised-more c.args.bytes.now c.loop-i.bytes (c.loop-i.i - 1) (subst (Raised c.args.bytes.now c.loop-i.bytes) e c.loop-i.invariant) (omega (arith, c.if-bytes-i-lt255.false))
