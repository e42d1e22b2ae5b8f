-- Which state the pages of a database stand for.
use Rattle.std.specs.Prelude.{ℕ, ◌<◌, ◌^◌, ◌==◌, ◌||◌, ◌/◌, ◌%◌, nat_lt, false, if◌then◌else◌, List, [], ◌∷◌, map, filter, pos, slice_index, Option, Some, None}
use Rattle.std.specs.List.{All}
use Rattle.std.specs.Option.{ForSome}
use Rattle.st_values.specs.declared.value.EntityId.{EntityId}
use Rattle.st_values.specs.declared.value.Kind.{Kind}
use Rattle.st_values.specs.declared.value.Value.{Value}
use Rattle.st_values.specs.declared.value.Value.TheVariants.{Int}
use Rattle.st_lattice.specs.declared.attribute.Attribute.{Attribute}
use Rattle.st_lattice.specs.Outline.{Outline, attribute}
use Rattle.st_keys.specs.Keys.{Fits, IsEntity}
use Rattle.st_rows.specs.Rows.{row, row_fields, pair_fields, pair_values}
use Rattle.st_pages.specs.declared.places.Place.{Place}
use Rattle.st_pages.specs.Attempt.{Array}
use Rattle.st_state.specs.declared.triple.Triple.{Triple}
use Rattle.st_state.specs.State.{State, Pair, converse}
use Rattle.st_state.specs.Legal.{IsNearlyLegal, IsLegal}
use Rattle.st_state.specs.Rows.{entity_row}
use Rattle.st_index.specs.Turned.{turned_row}
use Rattle.st_database.specs.Database.{View, IsDatabase}

-- the row of an entity in the extent of its type: its serial, and its single values that don't stand apart
abbrev pub entity_bytes : State → EntityId → List ℕ
entity_bytes state e = row (row_fields state.schema e.ty) (Int (pos e.serial) ∷ (entity_row state e).cells)

-- the rows of a type's extent: its live entities of exactly this type
abbrev pub extent_rows : State → ℕ → List (List ℕ)
extent_rows state ty = map (entity_bytes state) (filter (λ e. e.ty == ty) state.live)

-- the triples of an attribute
abbrev pub triples_of : ℕ → List Triple → List Triple
triples_of number triples = filter (λ t. t.attribute == number) triples

-- the row of an entity and a value of a kind
abbrev pub pair_bytes : Kind → Value → EntityId → List ℕ
pair_bytes kind value entity = row (pair_fields kind false) (pair_values false value entity)

-- the rows of a set or a column: an attribute's triples
abbrev pub value_rows : Kind → List Triple → List (List ℕ)
value_rows kind triples = map (λ t. pair_bytes kind t.value t.entity) triples

-- the rows of an index or an inverse: pairs of a value and an entity
abbrev pub turned_rows : Kind → List Pair → List (List ℕ)
turned_rows kind pairs = map (λ p. turned_row kind p.value p.entity) pairs

-- the rows of an attribute in its store of a kind, by the kind's number: 1 and 4 are sets and columns, 2 and 3 indexes and inverses
abbrev pub attribute_rows : State → ℕ → Option Attribute → List (List ℕ)
attribute_rows state kind None = []
attribute_rows state kind (Some a) =
    if (kind == 1) || (kind == 4) then value_rows a.kind (triples_of a.number state.triples) else turned_rows a.kind (converse a.number state.triples)

-- the rows of a state in a store, by the store's number: the extents are below 65,536
abbrev pub rows_at : State → ℕ → List (List ℕ)
rows_at state store = if nat_lt store 65536 then extent_rows state store else attribute_rows state (store / 65536) (attribute state.schema (store % 65536))

-- the stores of a state, and the last serials of its types
abbrev pub view_of : State → View
view_of state = record { rows = rows_at state; last = λ store. slice_index state.last store }

-- a value fits the kind of its attribute
abbrev pub FitsOne : Outline → Triple → Type 0
FitsOne schema t = ForSome (attribute schema t.attribute) (λ a. Fits a.kind t.value)

-- Entities, values and serials are such as the program has: serials and types lie in 32 and 16 bits, integers in 64, and texts are
-- UTF-8.
pub record IsOfProgram (state : State) : Type 0 where
  pub entities : All IsEntity state.live
  pub values : All (FitsOne state.schema) state.triples
  pub serials : All (λ serial. serial < 2 ^ 32) state.last

module _ (form : Place → Array → List ℕ → List (List ℕ) → Type 0) (array : Array) where
  -- Pages nearly stand for a state, by the places of its stores: it is nearly legal, and its schema, the rows of its stores and its
  -- last serials are those of the database in the pages.
  pub record NearlyStandsAt (places : List Place) (state : State) : Type 0 where
    pub legal : IsNearlyLegal state
    pub program : IsOfProgram state
    pub database : IsDatabase form array state.schema places (view_of state)

  -- pages nearly stand for a state
  abbrev pub NearlyStandsFor : State → Type 0
  NearlyStandsFor state = (places : List Place) × NearlyStandsAt places state

  -- Pages stand for a state: a legal one.
  pub record StandsFor (state : State) : Type 0 where
    pub legal : IsLegal state
    pub nearly : NearlyStandsFor state
