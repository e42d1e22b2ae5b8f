-- What the steps give of which the calls consist: their faults are those of pages.
use Rattle.std.specs.Prelude.{◌≡◌, ℕ, ◌+◌, ◌-◌, ◌*◌, ◌<◌, Bool, true, false, List, [], ◌∷◌, ◌++◌, replicate, Option, Some, None, Result, Ok, Err, IfOk, IfErr, IsTrue, ⊤}
use Rattle.std.specs.Int.{w32, to_be_bytes}
use Rattle.st_page.specs.declared.fault.PageFault.{PageFault}
use Rattle.st_values.specs.declared.value.EntityId.{EntityId}
use Rattle.st_values.specs.declared.value.Value.{Value}
use Rattle.st_lattice.specs.declared.attribute.Attribute.{Attribute}
use Rattle.st_lattice.specs.declared.stores.StoreKind.TheVariants.{Set}
use Rattle.st_lattice.specs.Outline.{Outline, type_name}
use Rattle.st_lattice.specs.Stores.{store}
use Rattle.st_rows.specs.Rows.{pair_width}
use Rattle.st_pages.specs.declared.places.Place.{Place}
use Rattle.st_pages.specs.Attempt.{Array, Attempt, over}
use Rattle.st_pages.specs.Calls.{is_of_looking}
use Rattle.st_pages.specs.Reading.{OfDamage}
use Rattle.st_store.specs.Rows.{with_row}
use Rattle.st_store.specs.Stores.{IsPlace}
use Rattle.st_database.specs.Database.{IsDatabase, View, with_last, with_rows}
use Rattle.st_database.specs.Touches.{Touches}
use Rattle.st_state.specs.declared.refusal.Refusal.{Refusal}
use Rattle.st_state.specs.declared.refusal.Refusal.TheVariants.{NotUnique, NumbersSpent}
use Rattle.st_state.specs.State.{State, entity_made, has_value, next_entity}
use Rattle.st_state.specs.Calls.{Call, Take, after, call_stores, changed_stores, due}
use Rattle.st_state.specs.Bases.{last_serial, spent}
use Rattle.st_state.specs.Rows.{rows_added, rows_changed}
use Rattle.st_standing.specs.Standing.{NearlyStandsAt}

-- a row of a serial and zeros
abbrev pub new_row : ℕ → ℕ → List ℕ
new_row width serial = to_be_bytes w32 serial ++ replicate (width - 4) 0

-- the view behind a new row in an extent
abbrev pub view_with : Place → ℕ → View → View
view_with place serial view = with_last place.store serial (with_rows place.store (with_row place.key (new_row place.width serial) (view.rows place.store)) view)

module _ (form : Place → Array → List ℕ → List (List ℕ) → Type 0) (asked : (ℕ → Bool) → (ℕ → Bool) → ℕ → Type 0) (a b : Attempt) (array : Array) where
  -- what stands in a database behind a new row in an extent, or where the last serial was given out
  abbrev pub MadeIn : Outline → List Place → Place → View → ℕ → Option EntityId → Type 0
  MadeIn schema places place view ty None = (view.last place.store ≡ last_serial) × IsDatabase form (over b array) schema places view
  MadeIn schema places place view ty (Some e) =
      (view.last place.store < last_serial) × (e ≡ record { ty = ty; serial = view.last place.store + 1 }) × IsDatabase form (over b array) schema places (view_with place (view.last place.store + 1) view)

  pub record MakesAt (schema : Outline) (places : List Place) (place : Place) (view : View) (ty : ℕ) (result : Result (Option EntityId) PageFault) : Type 0 where
    pub answers : IfOk result (MadeIn schema places place view ty)
    pub sound : IfErr result (OfDamage (λ page at. ⊥))
    pub early : IfErr result (λ fault. is_of_looking fault ≡ false → view.last place.store < last_serial)
    pub touches : Touches asked a b array (place.store ∷ []) true 17 34

-- the entity that was made, and the state that is left; or none where all serials were given out
abbrev pub Made : (Place → Array → List ℕ → List (List ℕ) → Type 0) → Attempt → Array → List Place → State → ℕ → Option EntityId → Type 0
Made form b array places s ty None = (spent s ty ≡ Some (NumbersSpent (type_name s.schema ty))) × NearlyStandsAt form (over b array) places s
Made form b array places s ty (Some e) = (spent s ty ≡ None) × (e ≡ next_entity s ty) × NearlyStandsAt form (over b array) places (entity_made s ty)

-- a set's value was put in or taken out, or nothing was to be done, and the state that is left
abbrev pub Left : (Place → Array → List ℕ → List (List ℕ) → Type 0) → Attempt → Array → List Place → State → Call → Bool → Bool → Type 0
Left form b array places s call wanted changed = (changed ≡ wanted) × NearlyStandsAt form (over b array) places (after s call)

-- What a call gives of a state, where faults are still those of pages: a right answer, and no page is bad; where pages refuse,
-- nothing else is due; and what it asks for.
pub record Turns {A : Type 0} (asked : (ℕ → Bool) → (ℕ → Bool) → ℕ → Type 0) (a b : Attempt) (array : Array) (s : State) (call : Call) (right : A → Type 0) (result : Result A PageFault) : Type 0 where
  pub answers : IfOk result right
  pub sound : IfErr result (OfDamage (λ page at. ⊥))
  pub early : IfErr result (λ fault. is_of_looking fault ≡ false → due s call ≡ None)
  pub touches : Touches asked a b array (call_stores s.schema call) true (17 * rows_added s (after s call)) (34 * rows_changed s (after s call))

-- What a value that is taken out of a set gives of a state, as a step of a greater change: whether it was there, and no page is bad;
-- and what it asks for, with no more pages changed than 34 for each of so many rows.
pub record Takes (form : Place → Array → List ℕ → List (List ℕ) → Type 0) (asked : (ℕ → Bool) → (ℕ → Bool) → ℕ → Type 0) (a b : Attempt) (array : Array) (places : List Place)
    (s : State) (e : EntityId) (number : ℕ) (v : Value) (most : ℕ) (result : Result Bool PageFault) : Type 0 where
  pub answers : IfOk result (Left form b array places s (Take e number v) (has_value s number e v))
  pub sound : IfErr result (OfDamage (λ page at. ⊥))
  pub touches : Touches asked a b array (changed_stores s.schema e number) true 0 (34 * most)

-- a value was set, or a rule refuses it, and the state that is left
abbrev pub IsSettled : (Place → Array → List ℕ → List (List ℕ) → Type 0) → Attempt → Array → List Place → State → Call → Option Refusal → Type 0
IsSettled form b array places s call None = (due s call ≡ None) × NearlyStandsAt form (over b array) places (after s call)
IsSettled form b array places s call (Some refusal) = (due s call ≡ Some refusal) × NearlyStandsAt form (over b array) places s

-- a call ended with a fault, and pages refused nothing
abbrev pub EndsInLook : {A : Type 0} → Result A PageFault → Type 0
EndsInLook (Ok x) = ⊥
EndsInLook (Err fault) = IsTrue (is_of_looking fault)

-- a refusal is by rule 4
abbrev pub IsShared : Refusal → Type 0
IsShared (NotUnique attribute holder) = ⊤
IsShared _ = ⊥

-- a place is that of an attribute's set, and laid out as such
pub record IsSet (number : ℕ) (a : Attribute) (place : Place) : Type 0 where
  pub is_place : IsPlace place
  pub store_is : place.store ≡ store Set number
  pub key : place.key ≡ pair_width a.kind
  pub width : place.width ≡ pair_width a.kind
