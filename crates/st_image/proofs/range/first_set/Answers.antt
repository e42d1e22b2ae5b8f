use Rattle.std.proofs.Common.{◌∙◌, refl, arith}
use Rattle.st_image.proofs.Numbers.{number-more}
use Rattle.st_image.proofs.Sides.{are-bytes}
use Rattle.st_image.proofs.Zeros.{wrong-zero}
use Rattle.st_image.proofs.range.first_set.Goals as goal

pub returns-then-bytes-i-ne0 : goal.returns-then-bytes-i-ne0
returns-then-bytes-i-ne0 c =
    let bytes = c.args.bytes.now in
    (c.loop-i-test.true, wrong-zero _ c.loop-i.i bytes c.loop-i-test.true refl (are-bytes bytes c.type_inv.bytes) c.loop-i.invariant c.if-bytes-i-ne0.true)

pub loop-i-preserved : goal.loop-i-preserved
loop-i-preserved c =
    number-more c.args.bytes.now c.loop-i.i c.loop-i-test.true ∙ omega (arith, c.loop-i.invariant, c.if-bytes-i-ne0.false)
