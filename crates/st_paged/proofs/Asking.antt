-- What a call asks of pages.
use Rattle.std.proofs.Common.{◌≡◌, ℕ, ◌+◌, ◌*◌, ◌≤◌, ◌==◌, ◌||◌, Bool, true, false, List, [], ◌∷◌, ◌++◌, Option, Some, None, IsTrue, refl, sym, subst, arith, true≢false}
use Rattle.std.specs.Prelude.{◌&&◌, not}
use Rattle.std.proofs.lemmas.List.Elements.{All-cons, All-nil}
use Rattle.st_values.specs.declared.value.EntityId.{EntityId}
use Rattle.st_values.proofs.Tests.{first-of, left}
use Rattle.st_lattice.specs.declared.attribute.Attribute.{Attribute}
use Rattle.st_lattice.specs.declared.stores.StoreKind.TheVariants.{Extent, Set, Column}
use Rattle.st_lattice.specs.Outline.{attribute}
use Rattle.st_lattice.specs.Lattice.{isa}
use Rattle.st_lattice.specs.Stores.{cell, extents, passes, store, values_of}
use Rattle.st_pages.specs.declared.places.Place.{Place}
use Rattle.st_pages.specs.Attempt.{Array, Attempt}
use Rattle.st_store.specs.Stores.{among}
use Rattle.st_index.proofs.Called.{PageLaws}
use Rattle.st_database.specs.Touches.{Touches}
use Rattle.st_database.proofs.Touching.{AreAmong, among-first, among-second, touches-more}
use Rattle.st_state.specs.State.{State}
use Rattle.st_state.specs.Calls.{Call, HasSet, HasSingle, after, call_stores, may_change, stores_by}
use Rattle.st_state.specs.Legal.{IsNearlyLegal}
use Rattle.st_state.specs.Rows.{rows_added, rows_changed}
use Rattle.st_state.proofs.Changed.{number-is}
use Rattle.st_state.proofs.Members.{find-passes}
use Rattle.st_lookups.proofs.Listed.{extent-among}
use Rattle.st_removals.proofs.Among.{live-known}
use Rattle.st_paged.specs.Paged.{AsksFor, Parts, PutsFor}

or-none : (b : Bool) → b ≡ true → (b || false) ≡ true
or-none b h = first-of b false h

module _ {P : Type 0} (attempt : P → Attempt) (follows : P → P → Type 0) (form : Place → Array → List ℕ → List (List ℕ) → Type 0) (spot : Place → Array → List ℕ → ℕ → Type 0) (asked : P → P → (ℕ → Bool) → (ℕ → Bool) → ℕ → Type 0) (laws : PageLaws attempt follows asked) where
  -- one call
  pub asks-one : (a b : Parts P) (array : Array) (s : State) (call : Call) (answered : Bool) (stores : List ℕ) (puts : Bool) (most more : ℕ) → AreAmong stores (call_stores s.schema call) → (puts ≡ true → may_change call ≡ true)
      → most ≤ 17 * rows_added s (after s call) → more ≤ 34 * rows_changed s (after s call) → Touches (asked a.pages b.pages) (attempt a.pages) (attempt b.pages) array stores puts most more → PutsFor attempt follows form spot asked a b array s call answered
      → AsksFor attempt follows form spot asked a b array (record { state = s; call = call; answered = answered } ∷ [])
  asks-one a b array s call answered stores puts most more among-all changes below less x set = record {
    touches = touches-more attempt follows asked laws a.pages b.pages array stores (call_stores s.schema call ++ []) puts (may_change call || false) most (17 * (0 + rows_added s (after s call))) more (34 * (0 + rows_changed s (after s call)))
        (λ n h. among-first (call_stores s.schema call) [] n (among-all n h)) (λ h. or-none (may_change call) (changes h)) (omega arith) (omega arith) x;
    sets = All-cons (λ q. PutsFor attempt follows form spot asked a b array q.state q.call q.answered) (record { state = s; call = call; answered = answered }) [] set
        (All-nil (λ q. PutsFor attempt follows form spot asked a b array q.state q.call q.answered));
  }

  -- one that only looked
  pub looks-one : (a b : Parts P) (array : Array) (s : State) (call : Call) (answered : Bool) (stores : List ℕ) → AreAmong stores (call_stores s.schema call) → Touches (asked a.pages b.pages) (attempt a.pages) (attempt b.pages) array stores false 0 0
      → PutsFor attempt follows form spot asked a b array s call answered → AsksFor attempt follows form spot asked a b array (record { state = s; call = call; answered = answered } ∷ [])
  looks-one a b array s call answered stores among-all x set =
      asks-one a b array s call answered stores false 0 0 among-all (λ h. absurd (true≢false (sym h))) (omega arith) (omega arith) x set

  -- one that may change something
  pub edits-one : (a b : Parts P) (array : Array) (s : State) (call : Call) (answered : Bool) → may_change call ≡ true
      → Touches (asked a.pages b.pages) (attempt a.pages) (attempt b.pages) array (call_stores s.schema call) true (17 * rows_added s (after s call)) (34 * rows_changed s (after s call))
      → PutsFor attempt follows form spot asked a b array s call answered → AsksFor attempt follows form spot asked a b array (record { state = s; call = call; answered = answered } ∷ [])
  edits-one a b array s call answered may x set =
      asks-one a b array s call answered (call_stores s.schema call) true (17 * rows_added s (after s call)) (34 * rows_changed s (after s call)) (λ n h. h) (λ h. may) (omega arith) (omega arith) x set

-- ---- where values are

-- the extent of an entity is one of those where a single value of it may be
pub single-among : (s : State) (e : EntityId) (number : ℕ) → IsNearlyLegal s → HasSingle s e number → AreAmong (store Extent e.ty ∷ []) (stores_by (cell s.schema) (attribute s.schema number))
single-among s e number legal has = by (attribute s.schema number) has.single
  where
    by : (o : Option Attribute) → passes (λ a. isa s.schema e.ty a.owner && not a.many) o ≡ true → AreAmong (store Extent e.ty ∷ []) (stores_by (cell s.schema) o)
    by None h = absurd (true≢false (sym h))
    by (Some a) h = λ n m.
        among-first (extents s.schema a.owner) (values_of a) n (extent-among s.schema a.owner e.ty (live-known s e legal has.live) (left (isa s.schema e.ty a.owner) (not a.many) h) n m)

-- the set of an attribute is one of its stores of values
pub set-among : (s : State) (e : EntityId) (number : ℕ) → HasSet s e number → AreAmong (store Set number ∷ []) (stores_by (cell s.schema) (attribute s.schema number))
set-among s e number has = by (attribute s.schema number) refl has.many
  where
    by : (o : Option Attribute) → attribute s.schema number ≡ o → passes (λ a. isa s.schema e.ty a.owner && a.many) o ≡ true → AreAmong (store Set number ∷ []) (stores_by (cell s.schema) o)
    by None f h = absurd (true≢false (sym h))
    by (Some a) f h = λ n m.
        let is : a.number ≡ number = number-is a.number number (find-passes (λ b. b.number == number) a s.schema.attributes f) in
        among-second (extents s.schema a.owner) (values_of a) n (among-first (store Set a.number ∷ []) (store Column a.number ∷ []) n (subst (λ (k : ℕ). IsTrue (among (store Set k ∷ []) n)) (sym is) m))
