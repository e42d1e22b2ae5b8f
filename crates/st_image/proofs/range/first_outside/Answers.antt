use Rattle.std.proofs.Common.{ℕ, ◌+◌, ◌<◌, List, length, take, get_or, refl, arith}
use Rattle.st_image.specs.Bytes.{number}
use Rattle.st_image.specs.Parts.{Field}
use Rattle.st_image.specs.Prefixes.{IsFirstWrong}
use Rattle.st_image.proofs.Ranges.{Bounds, field-between}
use Rattle.st_image.proofs.Sides.{Side, are-bytes, high-free, high-tied, low-free, low-tied, picked-true, side-below, wrong-high, wrong-low}
use Rattle.st_image.proofs.range.first_outside.Goals as goal
use Rattle.st_image.proofs.range.first_outside.Goals.{then-on_low+else-byte-low, else-on_low, then-on_high+else-high-i, else-on_high}

pub returns-then-byte-low : goal.returns-then-byte-low
returns-then-byte-low c =
    let low : List ℕ = c.args.low.now in
    let high : List ℕ = c.args.high.now in
    let bytes : List ℕ = c.args.bytes.now in
    let i : ℕ = c.loop-i.i in
    let bounds : Bounds (length bytes) low high = record { low_wide = c.requires.low; high_wide = c.requires.high; low_bytes = are-bytes low c.type_inv.low; high_bytes = are-bytes high c.type_inv.high; order = c.requires.order } in
    let wrong : IsFirstWrong (Field (length bytes) (number low) (number high)) bytes i =
    wrong-low c.loop-i.on_low c.loop-i.on_high (length bytes) i low high bytes (get_or low i 0) bounds c.loop-i-test.true refl (are-bytes bytes c.type_inv.bytes) c.loop-i.invariant.low c.loop-i.invariant.high (picked-true c.loop-i.on_low (get_or low i 0) 0 (get_or low i 0) c.if-on_low.true refl) c.if-byte-low.true in
    (c.loop-i-test.true, wrong)

pub returns-then-high-i : goal.returns-then-high-i
returns-then-high-i c =
    let low : List ℕ = c.args.low.now in
    let high : List ℕ = c.args.high.now in
    let bytes : List ℕ = c.args.bytes.now in
    let i : ℕ = c.loop-i.i in
    let bounds : Bounds (length bytes) low high = record { low_wide = c.requires.low; high_wide = c.requires.high; low_bytes = are-bytes low c.type_inv.low; high_bytes = are-bytes high c.type_inv.high; order = c.requires.order } in
    let wrong : IsFirstWrong (Field (length bytes) (number low) (number high)) bytes i =
    wrong-high c.loop-i.on_high c.loop-i.on_low (length bytes) i low high bytes (get_or high i 0) bounds c.loop-i-test.true refl (are-bytes bytes c.type_inv.bytes) c.loop-i.invariant.low c.loop-i.invariant.high (picked-true c.loop-i.on_high (get_or high i 0) 255 (get_or high i 0) c.if-on_high.true refl) c.if-high-i.true in
    (c.loop-i-test.true, wrong)

pub returns-then-not-on_high : goal.returns-then-not-on_high
returns-then-not-on_high c =
    let low : List ℕ = c.args.low.now in
    let high : List ℕ = c.args.high.now in
    let bytes : List ℕ = c.args.bytes.now in
    let i : ℕ = c.loop-i.i in
    let bounds : Bounds (length bytes) low high = record { low_wide = c.requires.low; high_wide = c.requires.high; low_bytes = are-bytes low c.type_inv.low; high_bytes = are-bytes high c.type_inv.high; order = c.requires.order } in
    let in-low : i < length low = omega (arith, c.requires.low, c.loop-i-test.true) in
    let in-high : i < length high = omega (arith, c.requires.high, c.loop-i-test.true) in
    let next-low : Side c.if-on_low.on_low (number (take (i + 1) low)) (number (take (i + 1) bytes)) =
    elim c.if-on_low.branch [
      | then-on_low+else-byte-low w ↦ low-tied c.loop-i.on_low c.if-on_low.on_low low bytes i (are-bytes low c.type_inv.low) in-low c.loop-i-test.true w.if-on_low.true w.if-byte-low.false w.on_low-is c.loop-i.invariant.low
      | else-on_low w ↦ low-free c.loop-i.on_low c.if-on_low.on_low low bytes i (are-bytes low c.type_inv.low) in-low c.loop-i-test.true w.if-on_low.false w.on_low-is c.loop-i.invariant.low
    ] in
    let next-high : Side c.if-on_high.on_high (number (take (i + 1) bytes)) (number (take (i + 1) high)) =
    elim c.if-on_high.branch [
      | then-on_high+else-high-i w ↦ high-tied c.loop-i.on_high c.if-on_high.on_high high bytes i (are-bytes bytes c.type_inv.bytes) in-high c.loop-i-test.true w.if-on_high.true w.if-high-i.false w.on_high-is c.loop-i.invariant.high
      | else-on_high w ↦ high-free c.loop-i.on_high c.if-on_high.on_high high bytes i (are-bytes bytes c.type_inv.bytes) in-high c.loop-i-test.true w.if-on_high.false w.on_high-is c.loop-i.invariant.high
    ] in
    field-between (length bytes) (i + 1) low high bytes bounds refl (are-bytes bytes c.type_inv.bytes)
    (side-below _ _ _ c.if-not-on_low.true next-low)
    (side-below _ _ _ c.if-not-on_high.true next-high)

pub loop-i-preserved : goal.loop-i-preserved
loop-i-preserved c =
    let low : List ℕ = c.args.low.now in
    let high : List ℕ = c.args.high.now in
    let bytes : List ℕ = c.args.bytes.now in
    let i : ℕ = c.loop-i.i in
    let in-low : i < length low = omega (arith, c.requires.low, c.loop-i-test.true) in
    let in-high : i < length high = omega (arith, c.requires.high, c.loop-i-test.true) in
    let next-low : Side c.if-on_low.on_low (number (take (i + 1) low)) (number (take (i + 1) bytes)) =
    elim c.if-on_low.branch [
      | then-on_low+else-byte-low w ↦ low-tied c.loop-i.on_low c.if-on_low.on_low low bytes i (are-bytes low c.type_inv.low) in-low c.loop-i-test.true w.if-on_low.true w.if-byte-low.false w.on_low-is c.loop-i.invariant.low
      | else-on_low w ↦ low-free c.loop-i.on_low c.if-on_low.on_low low bytes i (are-bytes low c.type_inv.low) in-low c.loop-i-test.true w.if-on_low.false w.on_low-is c.loop-i.invariant.low
    ] in
    let next-high : Side c.if-on_high.on_high (number (take (i + 1) bytes)) (number (take (i + 1) high)) =
    elim c.if-on_high.branch [
      | then-on_high+else-high-i w ↦ high-tied c.loop-i.on_high c.if-on_high.on_high high bytes i (are-bytes bytes c.type_inv.bytes) in-high c.loop-i-test.true w.if-on_high.true w.if-high-i.false w.on_high-is c.loop-i.invariant.high
      | else-on_high w ↦ high-free c.loop-i.on_high c.if-on_high.on_high high bytes i (are-bytes bytes c.type_inv.bytes) in-high c.loop-i-test.true w.if-on_high.false w.on_high-is c.loop-i.invariant.high
    ] in
    record { low = next-low; high = next-high }
