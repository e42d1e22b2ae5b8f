use Rattle.std.proofs.Common.{◌≡◌, take, map}
use Rattle.std.specs.Prelude.{filter}
use Rattle.st_lattice.specs.Lattice.{isa}
use Rattle.st_makes.specs.Makes.{new_filling}
use Rattle.st_makes.proofs.filling.new_fillings.Given as goal

abbrev pub invariant-loop-attribute : goal.invariant-loop-attribute
invariant-loop-attribute l = l.fillings ≡ map (new_filling l.key l.givens) (filter (λ a. isa l.schema l.ty a.owner) (take l.attribute-index l.attribute-items))
