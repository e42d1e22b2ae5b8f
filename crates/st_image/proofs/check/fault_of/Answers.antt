use Rattle.std.proofs.Common.{◌≡◌, ℕ, get_or, subst, arith}
use Rattle.st_image.specs.Grammar.{AreChildren, AreRows, inner_header, rows_header}
use Rattle.st_image.specs.Parts.{Field, Finds}
use Rattle.st_image.specs.declared.wanted.Wanted.TheVariants.{Free, Node}
use Rattle.st_image.proofs.PageKinds.{blank-finds, finds-left, finds-right, finds-wanted}
use Rattle.st_image.proofs.check.fault_of.Goals as goal

pub returns-in-Free : goal.returns-in-Free
returns-in-Free c =
    finds-wanted c.args.wanted Free c.args.bytes.now c.first_set.result c.in-Free.is
    (blank-finds c.args.bytes.now c.first_set.result (subst (λ (n : ℕ). Finds (Field n 0 0) c.args.bytes.now c.first_set.result) c.requires.size c.first_set.ensures))

pub returns-then-bytes-eq4 : goal.returns-then-bytes-eq4
returns-then-bytes-eq4 c =
    let store : ℕ = c.in-Node.store in
    let key : ℕ = c.in-Node.key in
    let width : ℕ = c.in-Node.width in
    let four : get_or c.args.bytes.now 0 0 ≡ 4 = c.if-bytes-eq4.true in
    finds-wanted c.args.wanted (Node store key width) c.args.bytes.now c.inner_fault.result c.in-Node.is
    (finds-right (rows_header 3 store width) (inner_header store key) (AreRows key width) (AreChildren key) c.args.bytes.now c.inner_fault.result (omega (arith, c.requires.size)) (λ e. absurd (omega (arith, e, four))) c.inner_fault.ensures)

pub returns-else-bytes-eq4 : goal.returns-else-bytes-eq4
returns-else-bytes-eq4 c =
    let store : ℕ = c.in-Node.store in
    let key : ℕ = c.in-Node.key in
    let width : ℕ = c.in-Node.width in
    finds-wanted c.args.wanted (Node store key width) c.args.bytes.now c.data_fault-else-bytes-eq4.result c.in-Node.is
    (finds-left (rows_header 3 store width) (inner_header store key) (AreRows key width) (AreChildren key) c.args.bytes.now c.data_fault-else-bytes-eq4.result (omega (arith, c.requires.size)) c.if-bytes-eq4.false c.data_fault-else-bytes-eq4.ensures)
