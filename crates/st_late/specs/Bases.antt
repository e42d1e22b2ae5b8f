-- What is run over any base.
use Rattle.std.specs.Prelude.{ℕ, if◌then◌else◌, Option, Some, None}
use Rattle.st_values.specs.declared.value.EntityId.{EntityId}
use Rattle.st_values.specs.declared.value.Value.{Value}
use Rattle.st_state.specs.State.{State, is_live, value_at, next_entity, entity_made, attribute_set}

-- the value of an attribute of an entity, where that one is live
abbrev pub value_if_live : State → EntityId → ℕ → Option Value
value_if_live state e number = if is_live state e then Some (value_at number e state.triples) else None

-- a new entity of a type, with a value
abbrev pub made_with : State → ℕ → ℕ → Value → State
made_with state ty number value = attribute_set (entity_made state ty) number (next_entity state ty) value
