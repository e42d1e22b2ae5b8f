use Rattle.std.proofs.Common.{◌≡◌, ℕ, ◌+◌, ◌-◌, ◌^◌, ◌≤◌, List, ◌++◌, length, drop, take, replicate, ap, ◌∙◌, arith}
use Rattle.std.proofs.lemmas.List.{length-append, length-replicate, length-take-le}
use Rattle.st_image.proofs.RowChecks.{many-below, one-below}
use Rattle.st_image.proofs.rows.set_below.Goals as goal

pub returns-then-bytes-eq1 : goal.returns-then-bytes-eq1
returns-then-bytes-eq1 c =
    let limit : 256 ^ length c.args.bytes.now ≡ 256 ^ 1 = ap (λ (n : ℕ). 256 ^ n) c.if-bytes-eq1.true in
    one-below c.args.bytes.now (256 - c.args.by) c.args.by c.if-bytes-eq1.true (omega (arith, limit, c.requires.within))

pub returns : goal.returns
returns c =
    let bytes : List ℕ = c.args.bytes.now in
    let at : ℕ = length bytes - 2 in
    let size : length (take at bytes) ≡ at = length-take-le at bytes (omega arith) in
    let front : c.fill.new.self ≡ replicate at 255 = c.fill.ensures.after (λ y h. h) ∙ ap (λ (n : ℕ). replicate n 255) size in
    let wide : length c.fill.new.self ≡ at = ap length front ∙ length-replicate {A = ℕ} at 255 in
    let sum : length (c.fill.new.self ++ drop at bytes) ≡ length c.fill.new.self + length (drop at bytes) = length-append c.fill.new.self (drop at bytes) in
    let room : length (drop at bytes) ≤ length (c.fill.new.self ++ drop at bytes) - at = omega (arith, wide, sum) in
    let whole : at + 2 ≡ length bytes = omega (arith, c.if-bytes-eq1.false, c.requires.some) in
    many-below at (length (c.fill.new.self ++ drop at bytes) - at) c.args.by c.fill.new.self (drop at bytes) c.copy_from_slice.new.self c.requires.least c.requires.most front room (c.copy_from_slice.ensures.after ∙ c.to_be_bytes.ensures)
    ∙ ap (λ (n : ℕ). 256 ^ n) whole
