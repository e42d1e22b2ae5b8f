use Rattle.std.proofs.Common.{rules}
use Rattle.st_lattice.specs.Lattice.{isa}
use Rattle.st_lattice.proofs.Lattices.{kept_more, left_out_more}
use Rattle.st_lattice.proofs.schema.Schema.ancestors.Goals.{then-isa+in_ok-push, else-isa}
use Rattle.st_lattice.proofs.schema.Schema.ancestors.Goals as goal

pub loop-ancestor-preserved : goal.loop-ancestor-preserved
loop-ancestor-preserved c =
    let i = c.loop-ancestor.ancestor in
    let p = isa c.args.self.now c.args.ty in
    elim c.if-isa.branch [
      | then-isa+in_ok-push w ↦ rw (w.numbers-is, w.in_ok-push.ensures.ok, c.loop-ancestor.invariant) (kept_more p i (search rules))
      | else-isa w ↦ rw (w.numbers-is, c.loop-ancestor.invariant) (left_out_more p i (search rules))
    ]
