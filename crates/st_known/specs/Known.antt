-- What is known of entities.
use Rattle.std.specs.Prelude.{◌≡◌, ◌==◌, ℕ, List, map, find, Option, All}
use Rattle.std.specs.Option.{option_map}
use Rattle.st_values.specs.declared.value.EntityId.{EntityId}
use Rattle.st_values.specs.declared.value.Value.{Value}
use Rattle.st_state.specs.State.{State, value_at}
use Rattle.st_known.specs.declared.known.Known.{Known}

-- in a state an entity has the values that are known of it
abbrev pub IsKnown : State → Known → Type 0
IsKnown state known = All (λ v. value_at v.number known.entity state.triples ≡ v.value) known.values

-- the same of entities, one after another
pub record AreKnown (state : State) (entities : List EntityId) (known : List Known) : Type 0 where
  pub same : map (λ k. k.entity) known ≡ entities
  pub hold : All (IsKnown state) known

-- the value that an attribute is known to have
abbrev pub known_value : Known → ℕ → Option Value
known_value known number = option_map (λ v. v.value) (find (λ v. v.number == number) known.values)
