-- The rules that a base answers: each is said of a state, an attribute or a type, an entity and a value, with the names that
-- are printed.
use Rattle.std.specs.Prelude.{ℕ, Bool, true, not, nat_lt, if◌then◌else◌, map, find, slice_index, Option, Some, None}
use Rattle.st_values.specs.declared.value.EntityId.{EntityId}
use Rattle.st_values.specs.declared.value.Value.{Value}
use Rattle.st_values.specs.declared.value.Value.TheVariants.{Entity}
use Rattle.st_values.specs.Order.{same_entity}
use Rattle.st_lattice.specs.declared.attribute.Attribute.{Attribute}
use Rattle.st_lattice.specs.Outline.{Outline, type_name, attribute_name}
use Rattle.st_lattice.specs.Lattice.{by_number}
use Rattle.st_state.specs.declared.refusal.Refusal.{Refusal}
use Rattle.st_state.specs.declared.refusal.Refusal.TheVariants.{NotUnique, StillNeeded, NumbersSpent}
use Rattle.st_state.specs.Refusals.{first_of}
use Rattle.st_state.specs.State.{State, turned}

-- whether an entity is another one than the one that is meant, if one is
abbrev pub is_other : Option EntityId → EntityId → Bool
is_other None other = true
is_other (Some e) other = not (same_entity e other)

-- rule 4 where an entity has the value of a unique attribute
abbrev pub shared_with : Outline → Attribute → Option EntityId → Option Refusal
shared_with schema a None = None
shared_with schema a (Some holder) = Some (NotUnique (attribute_name schema a) holder)

-- rule 4: another entity than the one that is to have it has the value of a unique attribute; the least one. Null is
-- never held.
abbrev pub not_unique : State → Attribute → Option EntityId → Value → Option Refusal
not_unique state a e v = if a.unique then shared_with state.schema a (find (is_other e) (turned a.number v state.triples)) else None

-- rule 6 where an entity needs another one by an attribute
abbrev pub needed_by : Outline → Attribute → Option EntityId → Option Refusal
needed_by schema a None = None
needed_by schema a (Some other) = Some (StillNeeded other (attribute_name schema a))

-- the least other entity that refers to an entity by an attribute that admits no null
abbrev pub needed : State → EntityId → Attribute → Option Refusal
needed state e a = if a.no_nulls then needed_by state.schema a (find (is_other (Some e)) (turned a.number (Entity e) state.triples)) else None

-- rule 6: another entity refers to one by an attribute that admits no null; the one with the least number comes first
abbrev pub still_needed : State → EntityId → Option Refusal
still_needed state e = first_of (map (needed state e) (by_number state.schema))

-- the last serial that a type gives out
abbrev pub last_serial : ℕ
last_serial = 4294967295

-- rule 9: all serials of a type were given out
abbrev pub spent : State → ℕ → Option Refusal
spent state ty = if nat_lt (slice_index state.last ty) last_serial then None else Some (NumbersSpent (type_name state.schema ty))
