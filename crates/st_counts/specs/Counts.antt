-- How many rows a triple and a value have in the stores of an attribute, and how many speak of an entity.
use Rattle.std.specs.Prelude.{ℕ, ◌+◌, ◌*◌, Bool, not, ◌&&◌, ◌==◌, if◌then◌else◌, filter, length}
use Rattle.std.specs.List.{list_any, sum_by}
use Rattle.st_values.specs.declared.value.EntityId.{EntityId}
use Rattle.st_values.specs.declared.value.Value.{Value}
use Rattle.st_values.specs.declared.value.Value.TheVariants.{Null, Entity}
use Rattle.st_values.specs.Order.{same_entity, same_value}
use Rattle.st_lattice.specs.declared.attribute.Attribute.{Attribute}
use Rattle.st_lattice.specs.declared.stores.StoreKind.{StoreKind}
use Rattle.st_lattice.specs.declared.stores.StoreKind.TheVariants.{Set, Index, Inverse}
use Rattle.st_lattice.specs.Lattice.{attributes_in}
use Rattle.st_lattice.specs.Stores.{keeps}
use Rattle.st_state.specs.State.{State, speaks_of, value_at}

-- one for a store that an attribute keeps, and none for another
abbrev pub kept_count : StoreKind → Attribute → ℕ
kept_count kind a = if keeps kind a then 1 else 0

-- in how many stores an attribute keeps its triples turned round: an index and an inverse, where it has them
abbrev pub turned_count : Attribute → ℕ
turned_count a = kept_count Index a + kept_count Inverse a

-- how many triples a single value has: null has none
abbrev pub row_count : Value → ℕ
row_count Null = 0
row_count _ = 1

-- in how many stores an attribute keeps a triple by its entity and its value: a set, an index and an inverse
abbrev pub keyed_count : Attribute → ℕ
keyed_count a = kept_count Set a + turned_count a

-- how many triples of an attribute are of an entity or refer to it
abbrev pub spoken_count : State → EntityId → Attribute → ℕ
spoken_count state e a = length (filter (speaks_of e) (filter (λ t. t.attribute == a.number) state.triples))

-- how many rows those triples have in such stores, of all attributes
abbrev pub spoken_rows : State → EntityId → ℕ
spoken_rows state e = sum_by (λ a. keyed_count a * spoken_count state e a) state.schema.attributes

-- whether another entity has one as a single value in its row
abbrev pub refers_in_row : State → EntityId → EntityId → Bool
refers_in_row state e other =
    not (same_entity other e)
    && list_any (λ a. same_value (value_at a.number other state.triples) (Entity e)) (filter (λ a. not a.many && not a.column) (attributes_in state.schema other.ty))

-- how many live entities do
abbrev pub referring_rows : State → EntityId → ℕ
referring_rows state e = length (filter (refers_in_row state e) state.live)
