use Rattle.std.proofs.Common.{ℕ, Bool, rules}
use Rattle.st_lattice.specs.Lattice.{isa}
use Rattle.st_lattice.proofs.Lattices.{kept_more, left_out_more}
use Rattle.st_lattice.proofs.schema.Schema.descendants.Goals.{then-isa+in_ok-push, else-isa}
use Rattle.st_lattice.proofs.schema.Schema.descendants.Goals as goal

pub loop-other-preserved : goal.loop-other-preserved
loop-other-preserved c =
    let i = c.loop-other.other in
    let p : ℕ → Bool = λ t. isa c.args.self.now t c.args.ty in
    elim c.if-isa.branch [
      | then-isa+in_ok-push w ↦ rw (w.numbers-is, w.in_ok-push.ensures.ok, c.loop-other.invariant) (kept_more p i (search rules))
      | else-isa w ↦ rw (w.numbers-is, c.loop-other.invariant) (left_out_more p i (search rules))
    ]
