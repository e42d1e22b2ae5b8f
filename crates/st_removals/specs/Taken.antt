-- Triples that are taken out of a state, and which of them stand in the cells of a row.
use Rattle.std.specs.Prelude.{ℕ, Bool, not, ◌&&◌, ◌||◌, if◌then◌else◌, List, [], ◌∷◌, filter, flat_map, Option, Some, None}
use Rattle.std.specs.List.{sum_by}
use Rattle.st_values.specs.declared.value.EntityId.{EntityId}
use Rattle.st_values.specs.declared.value.Value.{Value}
use Rattle.st_values.specs.declared.value.Value.TheVariants.{Entity, Null}
use Rattle.st_values.specs.Order.{same_entity, same_value}
use Rattle.st_lattice.specs.declared.attribute.Attribute.{Attribute}
use Rattle.st_lattice.specs.declared.stores.StoreKind.TheVariants.{Index, Inverse}
use Rattle.st_lattice.specs.Lattice.{attributes_in}
use Rattle.st_lattice.specs.Outline.{Outline, attribute}
use Rattle.st_lattice.specs.Stores.{passes, store}
use Rattle.st_state.specs.declared.triple.Triple.{Triple}
use Rattle.st_state.specs.State.{State, member_taken, speaks_of}
use Rattle.st_counts.specs.Counts.{turned_count}
use Rattle.st_lookups.specs.Looks.{is_cell}

-- a state without some triples, which are taken out one after the other
abbrev pub taken_all : List Triple → State → State
taken_all [] s = s
taken_all (t ∷ ts) s = taken_all ts (member_taken s t.attribute t.entity t.value)

-- ---- the cells of a row

-- whether a cell goes: each that isn't null, or those that are an entity
abbrev pub goes : Option EntityId → Value → Bool
goes None v = not (same_value v Null)
goes (Some e) v = same_value v (Entity e)

-- what is left of a cell
abbrev pub left_of : Option EntityId → Value → Value
left_of which v = if goes which v then Null else v

-- the triples of an entity whose cells go, by the attributes of the cells
abbrev pub gone_among : EntityId → Option EntityId → List Attribute → List Value → List Triple
gone_among entity which (a ∷ rest) (v ∷ vs) =
    if goes which v then record { attribute = a.number; entity = entity; value = v } ∷ gone_among entity which rest vs else gone_among entity which rest vs
gone_among entity which _ _ = []

-- the same of an entity's row
abbrev pub gone_cells : Outline → EntityId → Option EntityId → List Value → List Triple
gone_cells schema entity which cells = gone_among entity which (filter is_cell (attributes_in schema entity.ty)) cells

-- the stores in which triples may stand turned round
abbrev pub gone_stores : List Triple → List ℕ
gone_stores gone = flat_map (λ t. store Index t.attribute ∷ store Inverse t.attribute ∷ []) gone

-- in how many stores an attribute keeps its triples turned round, where it is there
abbrev pub turned_by : Option Attribute → ℕ
turned_by None = 0
turned_by (Some a) = turned_count a

-- in how many stores triples stand turned round
abbrev pub gone_rows : Outline → List Triple → ℕ
gone_rows schema gone = sum_by (λ t. turned_by (attribute schema t.attribute)) gone

-- ---- what is left to be taken out

-- whether a triple's attribute has single values
abbrev pub is_single : Outline → Triple → Bool
is_single schema t = passes (λ a. not a.many) (attribute schema t.attribute)

-- a triple is not a single value of an entity that is another one
abbrev pub is_unreferring : Outline → EntityId → EntityId → Triple → Bool
is_unreferring schema other entity t = not (same_entity t.entity other && (same_value t.value (Entity entity) && is_single schema t))

-- a triple doesn't speak of an entity, or is a single value of it
abbrev pub is_own_or_strange : Outline → EntityId → Triple → Bool
is_own_or_strange schema entity t = not (speaks_of entity t) || (same_entity t.entity entity && is_single schema t)
