-- What it gives that the cells of a row which go are taken out of the indexes and the inverses of their attributes.
use Rattle.std.specs.Prelude.{◌≡◌, ℕ, ◌*◌, ◌&&◌, Bool, true, if◌then◌else◌, List, [], ◌∷◌, Option, Result, ⊤}
use Rattle.st_page.specs.declared.fault.PageFault.{PageFault}
use Rattle.st_values.specs.declared.value.EntityId.{EntityId}
use Rattle.st_values.specs.declared.value.Value.{Value}
use Rattle.st_lattice.specs.declared.attribute.Attribute.{Attribute}
use Rattle.st_lattice.specs.declared.stores.StoreKind.TheVariants.{Extent}
use Rattle.st_lattice.specs.Lattice.{isa}
use Rattle.st_lattice.specs.Outline.{Outline}
use Rattle.st_lattice.specs.Stores.{store}
use Rattle.st_pages.specs.declared.places.Place.{Place}
use Rattle.st_pages.specs.Attempt.{Array, Attempt, Agrees, over}
use Rattle.st_database.specs.Database.{IsDatabase, with_rows}
use Rattle.st_database.specs.Touches.{Leads}
use Rattle.st_rows.specs.Rows.{HoldsInCell}
use Rattle.st_state.specs.declared.triple.Triple.{Triple}
use Rattle.st_state.specs.State.{State, is_live}
use Rattle.st_state.specs.Legal.{IsNearlyLegal}
use Rattle.st_state.specs.Rows.{entity_row}
use Rattle.st_standing.specs.Standing.{IsOfProgram, view_of}
use Rattle.st_lookups.specs.Looks.{is_cell}
use Rattle.st_removals.specs.Taken.{goes, gone_cells, gone_rows, gone_stores, taken_all}

-- Of each state whose rows stand in a database but for the extent of an entity's type, where others may stand: behind the call the
-- rows of the state without the triples of the cells that go stand there, but for that extent.
abbrev pub Notes : {A : Type 0} → (Place → Array → List ℕ → List (List ℕ) → Type 0) → ((ℕ → Bool) → (ℕ → Bool) → ℕ → Type 0) → Attempt → Attempt → Outline → List Place → EntityId → Option EntityId → List Value → Result A PageFault → Type 0
Notes form asked a b schema places entity which cells result =
    (array : Array) (s : State) (at : ℕ) (rows : List (List ℕ)) → Agrees b array → s.schema ≡ schema → IsNearlyLegal s → IsOfProgram s → is_live s entity ≡ true → cells ≡ (entity_row s entity).cells → at ≡ store Extent entity.ty
    → IsDatabase form (over a array) schema places (with_rows at rows (view_of s))
    → Leads form asked a b array schema places (with_rows at rows (view_of (taken_all (gone_cells schema entity which cells) s))) (λ done. ⊤) (gone_stores (gone_cells schema entity which cells)) true 0
    (34 * gone_rows schema (gone_cells schema entity which cells)) result

-- ---- the cells of a row, one after the other

-- the same of some triples, by which the states differ
abbrev pub NotesThese : {A : Type 0} → (Place → Array → List ℕ → List (List ℕ) → Type 0) → ((ℕ → Bool) → (ℕ → Bool) → ℕ → Type 0) → Attempt → Attempt → Outline → List Place → EntityId → List Triple → Result A PageFault → Type 0
NotesThese form asked a b schema places entity gone result =
    (array : Array) (s : State) (at : ℕ) (rows : List (List ℕ)) → Agrees b array → s.schema ≡ schema → IsNearlyLegal s → IsOfProgram s → at ≡ store Extent entity.ty → IsDatabase form (over a array) schema places (with_rows at rows (view_of s))
    → Leads form asked a b array schema places (with_rows at rows (view_of (taken_all gone s))) (λ done. ⊤) (gone_stores gone) true 0 (34 * gone_rows schema gone) result

-- the triple of a cell, if it goes
abbrev pub gone_one : EntityId → Option EntityId → Attribute → Value → List Triple
gone_one entity which a v = if goes which v then record { attribute = a.number; entity = entity; value = v } ∷ [] else []

-- whether an attribute's value is a cell of a type's rows
abbrev pub is_cell_of : Outline → ℕ → Attribute → Bool
is_cell_of schema ty a = isa schema ty a.owner && is_cell a

-- Of the cells that are ahead the first one is an attribute's, where that has one in rows of a type: the triple of it, if it goes;
-- the cells behind it; and that it fits.
abbrev pub gone_first : Outline → EntityId → Option EntityId → Attribute → List Value → List Triple
gone_first schema entity which a [] = []
gone_first schema entity which a (v ∷ vs) = if is_cell_of schema entity.ty a then gone_one entity which a v else []

abbrev pub cells_behind : Outline → ℕ → Attribute → List Value → List Value
cells_behind schema ty a [] = []
cells_behind schema ty a (v ∷ vs) = if is_cell_of schema ty a then vs else v ∷ vs

abbrev pub IsFirstHeld : Outline → ℕ → Attribute → List Value → Type 0
IsFirstHeld schema ty a [] = ⊤
IsFirstHeld schema ty a (v ∷ vs) = is_cell_of schema ty a ≡ true → HoldsInCell a.kind v
