-- A setting of a single value, by the schema that is known.
use Rattle.std.proofs.Common.{◌≡◌, ℕ, ◌+◌, ◌*◌, Bool, true, false, List, [], ◌∷◌, Option, Some, Result, Err, sym, ap, subst, arith, true≢false, if◌then◌else◌}
use Rattle.std.specs.Prelude.{⊤, ◌==◌, not, IfSome}
use Rattle.std.specs.List.{All}
use Rattle.st_page.specs.declared.fault.PageFault.{PageFault}
use Rattle.st_page.specs.declared.fault.PageFault.TheVariants.{Memory}
use Rattle.st_values.specs.declared.value.EntityId.{EntityId}
use Rattle.st_values.specs.declared.value.Value.{Value}
use Rattle.st_values.specs.Order.{same_value}
use Rattle.st_values.proofs.Tests.{both}
use Rattle.st_lattice.specs.declared.attribute.Attribute.{Attribute}
use Rattle.st_lattice.specs.declared.stores.StoreKind.TheVariants.{Extent}
use Rattle.st_lattice.specs.Outline.{Outline, attribute}
use Rattle.st_lattice.specs.Stores.{store}
use Rattle.st_pages.specs.declared.places.Place.{Place}
use Rattle.st_pages.specs.Attempt.{Array, Attempt, over}
use Rattle.st_pages.specs.Places.{AscendByStore}
use Rattle.st_state.specs.State.{State}
use Rattle.st_state.specs.Calls.{Call, after, call_stores, Set as SetCall}
use Rattle.st_state.specs.Rows.{entity_row, rows_added, rows_changed}
use Rattle.st_index.specs.Turned.{turned_places}
use Rattle.st_index.proofs.Called.{PageLaws}
use Rattle.st_database.specs.Database.{noted_view}
use Rattle.st_database.specs.Touches.{Leads, added_by, changed_by, pairs_added, pairs_changed, stores_at}
use Rattle.st_database.proofs.Frames.{StoreLaws}
use Rattle.st_database.proofs.Touching.{touches-more, touches-nothing}
use Rattle.st_standing.specs.Standing.{NearlyStandsAt, view_of}
use Rattle.st_standing.proofs.Fitting.{found-holds}
use Rattle.st_standing.proofs.RowLaws.{RowLaws}
use Rattle.st_lookups.specs.Looks.{is_cell}
use Rattle.st_edits.specs.Edits.{Alters}
use Rattle.st_edits.specs.Values.{IsFreeFor, IsReplaced, IsToBeSet, its_row, put_view}
use Rattle.st_edits.proofs.Setting.{alters-set, can-hold}

-- an attribute that is to be set has a cell
pub has-cell : (s : State) (e : EntityId) (a : Attribute) (v : Value) → All (λ b. b.column ≡ false) s.schema.attributes → attribute s.schema a.number ≡ Some a → IsToBeSet s e a v → is_cell a ≡ true
has-cell s e a v in_rows f to_be = both (not a.many) (not a.column) (ap not to_be.one) (ap not (found-holds (λ b. b.column ≡ false) (λ b. b.number == a.number) s.schema.attributes a in_rows f))

module _ {Self : Type 0} (attempt : Self → Attempt) (follows : Self → Self → Type 0) (asked : Self → Self → (ℕ → Bool) → (ℕ → Bool) → ℕ → Type 0) (page_laws : PageLaws attempt follows asked)
    (form : Place → Array → List ℕ → List (List ℕ) → Type 0) (reach : Place → Array → ℕ → Bool) (store_laws : StoreLaws form reach) where
  pub change-alters : (x y : Self) (array : Array) (laws : RowLaws) (s : State) (places : List Place) → NearlyStandsAt form (over (attempt x) array) places s → AscendByStore places → All (λ b. b.column ≡ false) s.schema.attributes
      → (place : Place) (e : EntityId) → place.store ≡ store Extent e.ty → (a : Attribute) (v : Value) → IsToBeSet s e a v → (cells : List Value) → cells ≡ (entity_row s e).cells → IsFreeFor s e a v → (new : List Value) (old : Value) (result : Result Unit PageFault)
      → (schema : Outline) → s.schema ≡ schema → attribute schema a.number ≡ Some a → IsReplaced schema e.ty a cells v new old
      → IfSome (attribute schema a.number) (λ b. Leads form (asked x y) (attempt x) (attempt y) array schema places
      (if same_value old v then put_view schema place.store e new (view_of s) else noted_view a.number b.kind e old v (put_view schema place.store e new (view_of s))) (λ done. ⊤) (place.store ∷ stores_at (turned_places a.number places)) true
      (17 * (added_by 4 (its_row schema e new) ((view_of s).rows place.store) + pairs_added a.number places old v)) (34 * (changed_by 4 (its_row schema e new) ((view_of s).rows place.store) + pairs_changed a.number places old v)) result)
      → Alters form (asked x y) (attempt x) (attempt y) array places s (SetCall e a.number v) result
  change-alters x y array laws s places stands ascend in_rows place e is a v to_be cells cells_are free new old result schema same =
      let Led : Outline → Option Attribute → Type 0 =
      λ o found. IfSome found (λ b. Leads form (asked x y) (attempt x) (attempt y) array o places
      (if same_value old v then put_view o place.store e new (view_of s) else noted_view a.number b.kind e old v (put_view o place.store e new (view_of s))) (λ done. ⊤) (place.store ∷ stores_at (turned_places a.number places)) true
      (17 * (added_by 4 (its_row o e new) ((view_of s).rows place.store) + pairs_added a.number places old v)) (34 * (changed_by 4 (its_row o e new) ((view_of s).rows place.store) + pairs_changed a.number places old v)) result) in
      subst (λ (o : Outline). attribute o a.number ≡ Some a → IsReplaced o e.ty a cells v new old → Led o (attribute o a.number) → Alters form (asked x y) (attempt x) (attempt y) array places s (SetCall e a.number v) result) same
      (λ f r leads.
      alters-set laws s stands.legal stands.program stands.database.has.spells.readable e to_be.live a.number a f to_be.one (found-holds (λ b. b.column ≡ false) (λ b. b.number == a.number) s.schema.attributes a in_rows f) v place is cells cells_are new old r
      r.new_fits places stands.database.has.names.of ascend attempt follows asked page_laws form reach store_laws x y array to_be.owner (can-hold s a.number a f v to_be.fits) free result (subst (Led s.schema) f leads))

  -- for want of memory nothing is changed
  pub memory-alters : ((x : Self) (got put : ℕ → Bool) → asked x x got put 0) → (x : Self) (array : Array) (places : List Place) (s : State) (call : Call) → Alters {A = Unit {0}} form (asked x x) (attempt x) (attempt x) array places s call (Err Memory)
  memory-alters nothing x array places s call = record {
    answers = tt;
    sound = tt;
    touches = touches-more attempt follows asked page_laws x x array [] (call_stores s.schema call) false true 0 (17 * rows_added s (after s call)) 0 (34 * rows_changed s (after s call)) (λ t h. absurd (true≢false (sym h))) (λ h. absurd (true≢false (sym h)))
        (omega arith) (omega arith) (touches-nothing attempt follows asked nothing x array);
  }
