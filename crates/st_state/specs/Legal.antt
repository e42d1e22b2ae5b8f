-- Which states are legal.
use Rattle.std.specs.Prelude.{◌≡◌, Bool, true, false, not, ◌||◌, ◌&&◌, ◌==◌, nat_lt, nat_le, length, slice_index, IsTrue}
use Rattle.std.specs.List.{list_all, list_any}
use Rattle.st_values.specs.declared.value.EntityId.{EntityId}
use Rattle.st_values.specs.declared.value.Kind.{Kind}
use Rattle.st_values.specs.declared.value.Kind.TheVariants as kind
use Rattle.st_values.specs.declared.value.Value.{Value}
use Rattle.st_values.specs.declared.value.Value.TheVariants.{Int, Bool as Truth, Text, Entity}
use Rattle.st_values.specs.Order.{same_value, entity_before}
use Rattle.st_values.specs.Arranged.{each_pair, ascends}
use Rattle.st_lattice.specs.Outline.{Outline, IsOrderly, attribute}
use Rattle.st_lattice.specs.Lattice.{isa, attributes_in}
use Rattle.st_lattice.specs.Consistent.{IsConsistent}
use Rattle.st_lattice.specs.Stores.{passes}
use Rattle.st_state.specs.declared.triple.Triple.{Triple}
use Rattle.st_state.specs.State.{State, is_live, triple_before, is_at}

-- whether a value can be stored in an attribute of a kind: it is of the kind, a text is short enough, and an entity is
-- live and of the kind's type
abbrev pub can_hold : State → Kind → Value → Bool
can_hold state kind.Int (Int _) = true
can_hold state kind.Bool (Truth _) = true
can_hold state (kind.Text limit) (Text text) = nat_le (length text) limit
can_hold state (kind.Entity ty) (Entity e) = isa state.schema e.ty ty && is_live state e
can_hold state _ _ = false

-- an entity's type is there, and its serial was given out
abbrev pub is_counted : State → EntityId → Bool
is_counted state e = nat_lt e.ty (length state.schema.names) && (nat_lt 0 e.serial && nat_le e.serial (slice_index state.last e.ty))

-- a triple's entity is live and has the attribute, which can hold the value
abbrev pub is_sound : State → Triple → Bool
is_sound state t =
    is_live state t.entity
    && passes (λ a. isa state.schema t.entity.ty a.owner && can_hold state a.kind t.value) (attribute state.schema t.attribute)

-- two triples don't both give a value to one attribute of an entity, unless it has sets
abbrev pub apart_at_entity : Outline → Triple → Triple → Bool
apart_at_entity schema a b = passes (λ x. x.many) (attribute schema a.attribute) || not (is_at a.attribute a.entity b)

-- two triples don't give one value to a unique attribute
abbrev pub apart_in_value : Outline → Triple → Triple → Bool
apart_in_value schema a b =
    passes (λ x. not x.unique) (attribute schema a.attribute) || not ((b.attribute == a.attribute) && same_value b.value a.value)

-- each attribute of an entity that admits no null has a value
abbrev pub is_filled : State → EntityId → Bool
is_filled state e = list_all (λ a. not a.no_nulls || list_any (is_at a.number e) state.triples) (attributes_in state.schema e.ty)

-- a state that is legal, save that an attribute that admits no null may be null
pub record IsNearlyLegal (state : State) : Type 0 where
  pub orderly : IsOrderly state.schema
  pub consistent : IsConsistent state.schema
  pub counts : length state.last ≡ length state.schema.names
  pub live_ascends : IsTrue (ascends entity_before state.live)
  pub triples_ascend : IsTrue (ascends triple_before state.triples)
  pub counted : IsTrue (list_all (is_counted state) state.live)
  pub sound : IsTrue (list_all (is_sound state) state.triples)
  pub single : IsTrue (each_pair (apart_at_entity state.schema) state.triples)
  pub unique : IsTrue (each_pair (apart_in_value state.schema) state.triples)

-- a legal state
pub record IsLegal (state : State) : Type 0 where
  pub nearly : IsNearlyLegal state
  pub filled : IsTrue (list_all (is_filled state) state.live)
