use Rattle.std.proofs.Common.{◌≡◌, ℕ, suc, ◌+◌, ◌-◌, ◌*◌, ◌^◌, ◌≤◌, cond, List, length, arith}
use Rattle.st_image.specs.Bytes.{number}
use Rattle.st_image.specs.Parts.{ceiling}
use Rattle.st_image.proofs.RowLoop.{bound-is, last-fits, next-high, next-low, progress-end, progress-end-wrong, progress-next, progress-wrong, row-fails, row-holds}
use Rattle.st_image.proofs.rows.rows_between.Goals as goal

pub returns-in-Some : goal.returns-in-Some
returns-in-Some c =
    let key : ℕ = length c.args.low.now in
    let width : ℕ = c.args.width in
    let body : List ℕ = c.args.body.now in
    let i : ℕ = c.loop-i.i in
    let left : ℕ = c.args.count - (i + 1) in
    let low : ℕ = number c.loop-i.low in
    let high : ℕ = number c.loop-i.high in
    let wide : length c.loop-i.low ≡ key = omega (arith, c.loop-i.auto.low) in
    let inside : i * width + width ≤ length body = last-fits i c.args.count width (length body) c.loop-i-test.true c.requires.room in
    let top : high + suc left ≡ 256 ^ key = omega (arith, c.loop-i.invariant.top c.loop-i-test.true, c.loop-i-test.true) in
    let fails = row-fails c.args.child key width low (cond c.loop-i.is_first low high) (ceiling key c.loop-i.is_first left) (i * width) body (length c.loop-i.low) c.in-Some.place wide (bound-is key left low high c.loop-i.is_first top c.loop-i.invariant.zero) inside c.in-Some.ensures in
    (omega (arith, fails.0, inside), progress-wrong c.args.child key width c.args.first c.args.count body i c.loop-i.is_first low high c.in-Some.place c.loop-i.invariant c.loop-i-test.true c.requires.within fails.0 fails.1)

pub loop-i-preserved : goal.loop-i-preserved
loop-i-preserved c =
    let key : ℕ = length c.args.low.now in
    let width : ℕ = c.args.width in
    let body : List ℕ = c.args.body.now in
    let i : ℕ = c.loop-i.i in
    let left : ℕ = c.args.count - (i + 1) in
    let low : ℕ = number c.loop-i.low in
    let high : ℕ = number c.loop-i.high in
    let wide : length c.loop-i.low ≡ key = omega (arith, c.loop-i.auto.low) in
    let wide-high : length c.loop-i.high ≡ key = omega (arith, c.loop-i.auto.high, c.if-count-gt0.auto.high, c.requires.high) in
    let inside : i * width + width ≤ length body = last-fits i c.args.count width (length body) c.loop-i-test.true c.requires.room in
    let top : high + suc left ≡ 256 ^ key = omega (arith, c.loop-i.invariant.top c.loop-i-test.true, c.loop-i-test.true) in
    let holds = row-holds c.args.child key width low (cond c.loop-i.is_first low high) (ceiling key c.loop-i.is_first left) (i * width) body (length c.loop-i.low) wide (bound-is key left low high c.loop-i.is_first top c.loop-i.invariant.zero) inside c.in_default.ensures in
    progress-next c.args.child key width c.args.first c.args.count body i c.loop-i.is_first low high (number c.go_on.new.low) (number c.go_on.new.high) c.loop-i.invariant c.loop-i-test.true c.requires.within c.requires.room holds
    (next-low key width (i * width) (length c.loop-i.low) (number c.go_on.new.low) body wide c.go_on.ensures.low)
    (next-high key (length c.loop-i.high) high (number c.go_on.new.high) wide-high c.go_on.ensures.high)

pub returns-in-Some-first_set : goal.returns-in-Some-first_set
returns-in-Some-first_set c =
    let last : c.loop-i.i ≡ c.args.count = omega (arith, c.loop-i-test.false, c.loop-i.auto.i-end) in
    progress-end-wrong c.args.child (length c.args.low.now) c.args.width c.args.first c.args.count c.args.body.now c.loop-i.i c.loop-i.is_first (number c.loop-i.low) (number c.loop-i.high) c.in-Some-first_set.place c.loop-i.invariant last c.requires.room c.in-Some-first_set.ensures

pub returns-in-None : goal.returns-in-None
returns-in-None c =
    let last : c.loop-i.i ≡ c.args.count = omega (arith, c.loop-i-test.false, c.loop-i.auto.i-end) in
    progress-end c.args.child (length c.args.low.now) c.args.width c.args.first c.args.count c.args.body.now c.loop-i.i c.loop-i.is_first (number c.loop-i.low) (number c.loop-i.high) c.loop-i.invariant last c.requires.room c.in-None.ensures
