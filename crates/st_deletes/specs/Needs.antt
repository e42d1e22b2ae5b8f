-- Which attributes may refer to entities of a type, and which refusals are by rule 6.
use Rattle.std.specs.Prelude.{ℕ, Bool, false, ⊤}
use Rattle.st_values.specs.declared.value.Kind.{Kind}
use Rattle.st_values.specs.declared.value.Kind.TheVariants as kind
use Rattle.st_lattice.specs.Outline.{Outline}
use Rattle.st_lattice.specs.Lattice.{isa}
use Rattle.st_state.specs.declared.refusal.Refusal.{Refusal}
use Rattle.st_state.specs.declared.refusal.Refusal.TheVariants.{StillNeeded}

-- whether values of a kind may be entities of a type
abbrev pub names_type : Outline → ℕ → Kind → Bool
names_type schema ty (kind.Entity of) = isa schema ty of
names_type schema ty _ = false

-- a refusal is by rule 6
abbrev pub IsNeeded : Refusal → Type 0
IsNeeded (StillNeeded entity attribute) = ⊤
IsNeeded _ = ⊥
