-- What a database holds, as lists.
use Rattle.std.specs.Prelude.{ℕ, ◌+◌, Bool, not, ◌||◌, ◌&&◌, ◌==◌, nat_lt, if◌then◌else◌, List, [], map, filter, find, replicate, length, slice_index, slice_set, Option, Some, None}
use Rattle.std.specs.List.{list_any}
use Rattle.st_values.specs.declared.value.EntityId.{EntityId}
use Rattle.st_values.specs.declared.value.Value.{Value}
use Rattle.st_values.specs.declared.value.Value.TheVariants.{Null, Entity}
use Rattle.st_values.specs.Order.{value_before, same_value, entity_before, same_entity}
use Rattle.st_values.specs.Arranged.{placed, arranged}
use Rattle.st_lattice.specs.Outline.{Outline}
use Rattle.st_lattice.specs.Lattice.{isa}
use Rattle.st_state.specs.declared.triple.Triple.{Triple}

-- A state: the schema, the live entities and the triples, both ascending and without repeats, and the last serial of
-- each type. No triple has the value null.
pub record State : Type 0 where
  pub schema : Outline
  pub live : List EntityId
  pub triples : List Triple
  pub last : List ℕ

-- no entity is live, and no serial was given out
abbrev pub empty_state : Outline → State
empty_state schema = record { schema = schema; live = []; triples = []; last = replicate (length schema.names) 0 }

-- whether an entity is live
abbrev pub is_live : State → EntityId → Bool
is_live state entity = list_any (same_entity entity) state.live

-- the live entities of a type, descendants included
abbrev pub entities_of : State → ℕ → List EntityId
entities_of state ty = filter (λ e. isa state.schema e.ty ty) state.live

-- entities with one more, in its place
abbrev pub with_entity : EntityId → List EntityId → List EntityId
with_entity e entities = placed entity_before e entities

-- triples are ordered by attribute, then by entity, then by value
abbrev pub triple_before : Triple → Triple → Bool
triple_before a b =
    nat_lt a.attribute b.attribute || ((a.attribute == b.attribute)
    && (entity_before a.entity b.entity || (same_entity a.entity b.entity && value_before a.value b.value)))

abbrev pub same_triple : Triple → Triple → Bool
same_triple a b = (a.attribute == b.attribute) && (same_entity a.entity b.entity && same_value a.value b.value)

-- triples with one more, in its place
abbrev pub with_triple : Triple → List Triple → List Triple
with_triple t triples = placed triple_before t triples

-- a triple of this attribute of this entity
abbrev pub is_at : ℕ → EntityId → Triple → Bool
is_at attribute entity triple = (triple.attribute == attribute) && same_entity triple.entity entity

-- the values of an attribute of an entity, in order
abbrev pub values_at : ℕ → EntityId → List Triple → List Value
values_at attribute entity triples = map (λ t. t.value) (filter (is_at attribute entity) triples)

-- the value in a triple, null where there is none
abbrev pub value_in : Option Triple → Value
value_in None = Null
value_in (Some triple) = triple.value

-- the value of a single-valued attribute of an entity
abbrev pub value_at : ℕ → EntityId → List Triple → Value
value_at attribute entity triples = value_in (find (is_at attribute entity) triples)

-- the entities whose attribute has a value, or has it in its set, in order
abbrev pub turned : ℕ → Value → List Triple → List EntityId
turned attribute value triples = map (λ t. t.entity) (filter (λ t. (t.attribute == attribute) && same_value t.value value) triples)

-- a value and an entity that has it
pub record Pair : Type 0 where
  pub value : Value
  pub entity : EntityId

-- pairs are ordered by value and then by entity
abbrev pub pair_before : Pair → Pair → Bool
pair_before a b = value_before a.value b.value || (same_value a.value b.value && entity_before a.entity b.entity)

-- a triple turned round
abbrev pub pair_of : Triple → Pair
pair_of t = record { value = t.value; entity = t.entity }

-- the converse of an attribute: its triples turned round, in order
abbrev pub converse : ℕ → List Triple → List Pair
converse attribute triples = arranged pair_before (map pair_of (filter (λ t. t.attribute == attribute) triples))

-- a value in its triple; null has none
abbrev pub with_value : ℕ → EntityId → Value → List Triple → List Triple
with_value attribute entity Null triples = triples
with_value attribute entity value triples = with_triple (record { attribute = attribute; entity = entity; value = value }) triples

-- the triples where a single-valued attribute of an entity has this value and no other
abbrev pub value_set : ℕ → EntityId → Value → List Triple → List Triple
value_set attribute entity value triples = with_value attribute entity value (filter (λ triple. not (is_at attribute entity triple)) triples)

-- whether an attribute of an entity has a value, or has it in its set
abbrev pub has_value : State → ℕ → EntityId → Value → Bool
has_value state attribute entity value = list_any (same_triple (record { attribute = attribute; entity = entity; value = value })) state.triples

-- triples with one more, where it isn't there yet
abbrev pub triple_added : Triple → List Triple → List Triple
triple_added t triples = if list_any (same_triple t) triples then triples else with_triple t triples

-- triples without one
abbrev pub triple_taken : Triple → List Triple → List Triple
triple_taken t triples = filter (λ other. not (same_triple t other)) triples

-- the entity that the next make of a type makes
abbrev pub next_entity : State → ℕ → EntityId
next_entity state ty = record { ty = ty; serial = slice_index state.last ty + 1 }

-- a new entity, with no values yet
abbrev pub entity_made : State → ℕ → State
entity_made state ty =
    record state { live = with_entity (next_entity state ty) state.live; last = slice_set state.last ty (slice_index state.last ty + 1) }

-- a single-valued attribute of an entity set to a value
abbrev pub attribute_set : State → ℕ → EntityId → Value → State
attribute_set state attribute entity value = record state { triples = value_set attribute entity value state.triples }

-- a value put into a set; a member changes nothing
abbrev pub member_added : State → ℕ → EntityId → Value → State
member_added state attribute entity value =
    record state { triples = triple_added (record { attribute = attribute; entity = entity; value = value }) state.triples }

-- a value taken out of a set; a stranger changes nothing
abbrev pub member_taken : State → ℕ → EntityId → Value → State
member_taken state attribute entity value =
    record state { triples = triple_taken (record { attribute = attribute; entity = entity; value = value }) state.triples }

-- whether a triple is of an entity or refers to it
abbrev pub speaks_of : EntityId → Triple → Bool
speaks_of entity t = same_entity t.entity entity || same_value t.value (Entity entity)

-- an entity deleted: its triples go, and each reference to it; its serial stays used
abbrev pub entity_deleted : State → EntityId → State
entity_deleted state entity =
    record state {
      live = filter (λ other. not (same_entity other entity)) state.live;
      triples = filter (λ t. not (speaks_of entity t)) state.triples;
    }
