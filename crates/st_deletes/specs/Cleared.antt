-- Which triples may be left of attributes that were cleared of an entity. Each is a test of triples, so that what holds of a state
-- holds of those with fewer triples.
use Rattle.std.specs.Prelude.{◌≡◌, ℕ, Bool, true, false, not, ◌&&◌, ◌||◌, ◌==◌, List, IsTrue}
use Rattle.std.specs.List.{All, list_all}
use Rattle.st_values.specs.declared.value.EntityId.{EntityId}
use Rattle.st_values.specs.declared.value.Value.{Value}
use Rattle.st_values.specs.declared.value.Value.TheVariants.{Entity}
use Rattle.st_values.specs.Order.{same_entity, same_value}
use Rattle.st_lattice.specs.declared.attribute.Attribute.{Attribute}
use Rattle.st_lattice.specs.Lattice.{isa}
use Rattle.st_state.specs.declared.triple.Triple.{Triple}
use Rattle.st_state.specs.State.{State, is_live, same_triple, speaks_of}

-- a live entity that may have an attribute
pub record IsHolder (s : State) (a : Attribute) (holder : EntityId) : Type 0 where
  pub live : is_live s holder ≡ true
  pub owner : isa s.schema holder.ty a.owner ≡ true

-- a triple doesn't say of a holder that it has an entity by the attribute with a number
abbrev pub is_unheld : ℕ → EntityId → EntityId → Triple → Bool
is_unheld number entity holder t = not ((t.attribute == number) && (same_value t.value (Entity entity) && same_entity t.entity holder))

-- of some holders none has an entity any more, the entity itself aside
abbrev pub AreUnheld : ℕ → EntityId → List EntityId → State → Type 0
AreUnheld number entity holders s = All (λ holder. same_entity holder entity ≡ false → IsTrue (list_all (is_unheld number entity holder) s.triples)) holders

-- a triple doesn't say of another entity that it has one by the attribute with a number
abbrev pub is_unreferred : ℕ → EntityId → Triple → Bool
is_unreferred number entity t = not (t.attribute == number) || (not (same_value t.value (Entity entity)) || same_entity t.entity entity)

-- a triple doesn't say that a value is in the set of an entity
abbrev pub is_without : ℕ → EntityId → Value → Triple → Bool
is_without number entity value t = not (same_triple (record { attribute = number; entity = entity; value = value }) t)

-- of some values none is in the set of an entity any more
abbrev pub AreWithout : ℕ → EntityId → List Value → State → Type 0
AreWithout number entity values s = All (λ value. IsTrue (list_all (is_without number entity value) s.triples)) values

-- a triple isn't of the set of an entity
abbrev pub is_memberless : Attribute → EntityId → Triple → Bool
is_memberless a entity t = not (t.attribute == a.number) || not (same_entity t.entity entity && a.many)

-- a triple of an attribute doesn't speak of an entity, or is a single value of it
abbrev pub is_cleared : Attribute → EntityId → Triple → Bool
is_cleared a entity t = not (t.attribute == a.number) || (not (speaks_of entity t) || (same_entity t.entity entity && not a.many))

-- so does none of some attributes
abbrev pub AreCleared : EntityId → List Attribute → State → Type 0
AreCleared entity attributes s = All (λ a. IsTrue (list_all (is_cleared a entity) s.triples)) attributes
