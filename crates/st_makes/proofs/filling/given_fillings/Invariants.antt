use Rattle.std.proofs.Common.{◌≡◌, take}
use Rattle.std.specs.Prelude.{filter, filter_map}
use Rattle.st_lattice.specs.Lattice.{isa}
use Rattle.st_makes.specs.Makes.{filling_by, given_to}
use Rattle.st_makes.proofs.filling.given_fillings.Given as goal

abbrev pub invariant-loop-attribute : goal.invariant-loop-attribute
invariant-loop-attribute l = l.fillings ≡ filter_map (λ a. filling_by a (given_to l.givens a.number)) (filter (λ a. isa l.schema l.ty a.owner) (take l.attribute-index l.attribute-items))
