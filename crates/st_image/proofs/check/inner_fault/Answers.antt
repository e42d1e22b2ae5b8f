use Rattle.std.proofs.Common.{ℕ, ◌+◌, ◌*◌, ◌/◌, ◌^◌, ◌<◌, ◌≤◌, true, subst, arith}
use Rattle.std.proofs.Math.Nat.{div-mul-le_self, le-div_iff_mul-le, pow-le-pow_right}
use Rattle.st_image.specs.Grammar.{inner_header}
use Rattle.st_image.specs.Parts.{Finds, RowPage}
use Rattle.st_image.proofs.PageKinds.{Limits, children-finds}
use Rattle.st_image.proofs.check.inner_fault.Goals as goal

pub row_page_fault-requires-clause-order : goal.row_page_fault-requires-clause-order
row_page_fault-requires-clause-order c =
    let some : 0 < 256 = omega arith in
    let keys : 256 ^ 1 ≤ 256 ^ c.args.key = pow-le-pow_right some c.requires.least in
    let wide : 0 < c.args.key + 4 = omega arith in
    let two : 2 * (c.args.key + 4) ≤ 4080 = omega (arith, c.requires.most) in
    let room : 2 ≤ 4080 / (c.args.key + 4) = (le-div_iff_mul-le wide).1 two in
    c.most_rows.ensures.greatest 2 room (omega (arith, keys))

pub returns : goal.returns
returns c =
    let most : ℕ = c.most_rows.result in
    let limits : Limits c.args.key (c.args.key + 4) most (4080 / (c.args.key + 4)) = record {
      within = omega arith;
      fits = c.most_rows.ensures.fits;
      room = div-mul-le_self 4080 (c.args.key + 4);
      at_most = c.most_rows.ensures.room;
      greatest = c.most_rows.ensures.greatest;
    } in
    children-finds (inner_header c.args.store c.args.key) c.args.key most (omega arith) limits c.args.bytes.now c.row_page_fault.result
    (subst (λ (last : ℕ). Finds (RowPage 4 2 most c.args.store 0 last true c.args.key (c.args.key + 4) true) c.args.bytes.now c.row_page_fault.result) c.last_serial.ensures c.row_page_fault.ensures)
