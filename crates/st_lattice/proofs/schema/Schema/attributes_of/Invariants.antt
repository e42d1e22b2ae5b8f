use Rattle.std.proofs.Common.{◌≡◌, take, map}
use Rattle.std.specs.Prelude.{filter}
use Rattle.st_lattice.specs.Lattice.{isa}
use Rattle.st_lattice.proofs.schema.Schema.attributes_of.Given as goal

abbrev pub invariant-loop-attribute : goal.invariant-loop-attribute
invariant-loop-attribute l = l.numbers ≡ map (λ a. a.number) (filter (λ a. isa l.self l.ty a.owner) (take l.attribute-index l.attribute-items))
