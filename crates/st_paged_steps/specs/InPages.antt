-- What a statement gives that is run over a database in pages, and what it asks of the pages.
use Rattle.std.specs.Prelude.{◌≡◌, ◌⊎◌, ℕ, ◌+◌, ◌*◌, ◌<◌, ◌≤◌, ◌&&◌, ◌||◌, Bool, false, nat_le, All, List, Option, Some, Result, Err, IfSome, OnOk}
use Rattle.std.specs.Int.{w32, to_be_bytes}
use Rattle.st_values.specs.declared.value.EntityId.{EntityId}
use Rattle.st_lattice.specs.declared.stores.StoreKind.TheVariants.{Extent}
use Rattle.st_image.specs.Fields.{kind_of, store_of}
use Rattle.st_lattice.specs.Outline.{Outline}
use Rattle.st_lattice.specs.Stores.{store}
use Rattle.st_pages.specs.declared.places.Place.{Place}
use Rattle.st_pages.specs.Attempt.{Array, Attempt, changed, over, taken}
use Rattle.st_pages.specs.Calls.{Room}
use Rattle.st_pages.specs.Places.{place_of}
use Rattle.st_query.specs.declared.statement.Statement.{Statement}
use Rattle.st_query.specs.declared.term.Variable.{Variable}
use Rattle.st_state.specs.declared.refusal.Refusal.TheVariants.{Full, TooManyPages}
use Rattle.st_state.specs.State.{State}
use Rattle.st_meaning.specs.Statements.{Present, does}
use Rattle.st_meaning.specs.Rules.{refusal}
use Rattle.st_plain.specs.declared.fault.BaseFault.{BaseFault}
use Rattle.st_plain.specs.declared.fault.BaseFault.TheVariants.{Refused}
use Rattle.st_index.specs.Noted.{differences}
use Rattle.st_plain.specs.Base.{Asked, Reaches, rows_drawn, rows_put}
use Rattle.st_standing.specs.Standing.{StandsFor}
use Rattle.st_terms.specs.Looks.{Concludes}
use Rattle.st_terms.specs.Checked.{places_of}
use Rattle.st_running.specs.Steps.{first_place, is_in_footprint, may_put}
use Rattle.st_paged.specs.Paged.{IsReached, Parts, PutsRow, StandsIn}

-- whether a page is one of a store of a statement's footprint, by its bytes
abbrev pub is_used : Outline → List Variable → Statement → List ℕ → Bool
is_used schema variables statement page = (nat_le 2 (kind_of page) && nat_le (kind_of page) 4) && is_in_footprint schema variables statement (store_of page)

-- whether it is, or was drawn
abbrev pub may_use : Outline → List Variable → Statement → Attempt → Array → ℕ → Bool
may_use schema variables statement b array page = is_used schema variables statement (array page) || b.drawn page

-- an answer is no refusal because too many pages are changed
abbrev pub IsNotMany : {A : Type 0} → Result A BaseFault → Type 0
IsNotMany result = (count : ℕ) → result ≡ Err (Refused (TooManyPages count)) → ⊥

-- and none because no page is left
abbrev pub IsNotFull : {A : Type 0} → Result A BaseFault → Type 0
IsNotFull result = (in_use : ℕ) → result ≡ Err (Refused (Full in_use)) → ⊥

-- How many pages calls in a row changed, and how many they took into use, at most; and where pages don't refuse: too many are never
-- changed where 34 for each row that was added, taken out or given another content since the attempt began, these calls' own
-- included, are below 4,001; and one is left where those that were in use then and 17 for each row that was added are below 65,536.
pub record Fits {A : Type 0} (room : Option Room) (a b : Attempt) (calls : List Asked) (result : Result A BaseFault) : Type 0 where
  pub changed_most : changed b ≤ changed a + 34 * rows_put calls
  pub taken_most : taken b ≤ taken a + 17 * rows_drawn calls
  pub many : (w : ℕ) → changed a ≤ 34 * w → 34 * (w + rows_put calls) < 4001 → IsNotMany result
  pub full : (r : ℕ) → taken a ≤ 17 * r → IfSome room (λ u. u.in_use + 17 * (r + rows_drawn calls) < 65536 → IsNotFull result)

module _ {P : Type 0} (attempt : P → Attempt) (asked : P → P → (ℕ → Bool) → (ℕ → Bool) → ℕ → Type 0) where
  -- Between two values calls of a base were asked in a row, and only pages of the stores of a statement's footprint, and drawn ones,
  -- were got, and put where any may be; at most 17 were drawn for each row that the calls add, and at most 34 have other bytes for
  -- each row that they add, take out or give another content. Where none may be put, there are no such rows, and what was
  -- written is what it was.
  pub record Uses (a b : Parts P) (array : Array) (p : Present) (statement : Statement) (puts : Bool) : Type 0 where
    pub calls : List Asked
    pub asks : asked a.pages b.pages (may_use p.state.schema p.variables statement (attempt b.pages) (over (attempt a.pages) array))
        (λ page. puts && may_use p.state.schema p.variables statement (attempt b.pages) (over (attempt a.pages) array) page) (17 * rows_drawn calls)
    pub few : differences (over (attempt a.pages) array) (over (attempt b.pages) array) ≤ 34 * rows_put calls
    pub idle : puts ≡ false → (rows_drawn calls ≡ 0) × (rows_put calls ≡ 0)
    pub still : puts ≡ false → (page : ℕ) → (attempt b.pages).written page ≡ (attempt a.pages).written page

  module _ (follows : P → P → Type 0) (form : Place → Array → List ℕ → List (List ℕ) → Type 0) (spot : Place → Array → List ℕ → ℕ → Type 0) where
    -- Between two values the page of an entity's row was put, on which it stood at some value between them, while a state was still
    -- stood for there.
    abbrev pub IsPut : Parts P → Parts P → Array → State → EntityId → Type 0
    IsPut a b array s e = (place : Place) → place_of (store Extent e.ty) a.places ≡ Some place → PutsRow attempt follows form spot asked a b array s place (to_be_bytes w32 e.serial)

    module _ (room : P → Option Room) where
      -- What a statement gives of an array that agrees with what was seen, and of a legal state that it stood for: what the definitions
      -- say, and then it stands for the state that is left, in full; or the refusal that is due. It uses the pages of its own stores
      -- alone, and puts none where it only looks; an answer tells that the pages were got of all places that it reads or sets, and that
      -- the page was put of each place that it sets, also where it has the value already; and before the page was got of a place that is
      -- set, nothing is put or drawn. It is refused by pages only where so many rows were added or changed that they may be full.
      pub record StepsInPages {A : Type 0} (a b : Parts P) (array : Array) (p : Present) (statement : Statement) (right : A → Type 0) (result : Result A BaseFault) : Type 0 where
        pub concludes : Concludes (refusal p statement) (StandsIn attempt form b array) p.state (does p statement).state right result
        pub full : OnOk result (StandsFor form (over (attempt b.pages) array) (does p statement).state)
        pub uses : Uses a b array p statement (may_put statement)
        pub reached : Reaches (All (λ place. IsReached attempt b array place.entity) (places_of p statement)) result
        pub first : All (λ place. IsReached attempt b array place.entity) (first_place p statement) ⊎ Uses a b array p statement false
        pub put : OnOk result (All (λ place. IsPut a b array p.state place.entity) (first_place p statement))
        pub fits : Fits (room a.pages) (attempt a.pages) (attempt b.pages) uses.calls result
