-- Calls that take triples out of indexes and inverses, one after the other, in a database whose extent of one type has any rows.
use Rattle.std.proofs.Common.{◌≡◌, ℕ, ◌+◌, ◌*◌, ◌≤◌, Bool, true, false, List, [], ◌∷◌, ◌++◌, length, Option, Some, None, Result, Ok, Err, refl, sym, ap, ◌∙◌, subst, inl, inr, arith, true≢false, if◌then◌else◌}
use Rattle.std.specs.Prelude.{⊤, IfSome, ◌==◌, ◌||◌, slice_index_or}
use Rattle.std.proofs.lemmas.List.Concat.{flat_map-append}
use Rattle.std.proofs.lemmas.List.Sums.{sum_by-append, sum_by-cons}
use Rattle.st_values.specs.declared.value.EntityId.{EntityId}
use Rattle.st_values.specs.declared.value.Value.{Value}
use Rattle.st_values.specs.declared.value.Value.TheVariants.{Null, Int, Bool as Truth, Text, Entity}
use Rattle.st_values.specs.declared.value.Kind.{Kind}
use Rattle.st_values.specs.Order.{same_value}
use Rattle.st_values.proofs.Tests.{first-of, one-of}
use Rattle.st_page.specs.declared.fault.PageFault.{PageFault}
use Rattle.st_lattice.specs.declared.attribute.Attribute.{Attribute}
use Rattle.st_lattice.specs.declared.stores.StoreKind.TheVariants.{Index, Inverse}
use Rattle.st_lattice.specs.Outline.{IsOrderly, Outline, attribute}
use Rattle.st_lattice.specs.Stores.{store}
use Rattle.st_keys.specs.Keys.{Fits, IsEntity}
use Rattle.st_schema_bytes.specs.SchemaBytes.{IsReadable}
use Rattle.st_pages.specs.declared.places.Place.{Place}
use Rattle.st_pages.specs.Attempt.{Array, Attempt, over}
use Rattle.st_pages.specs.Places.{AscendByStore}
use Rattle.st_store.specs.Stores.{among}
use Rattle.st_catalog.specs.Catalog.{Has}
use Rattle.st_catalog.specs.Stores.{AreOf}
use Rattle.st_index.specs.Turned.{turned_places}
use Rattle.st_index.specs.Noted.{rows_for}
use Rattle.st_index.proofs.Called.{PageLaws, earlier}
use Rattle.st_index.proofs.Counted.{or-cases}
use Rattle.st_database.specs.Database.{noted_view, with_rows}
use Rattle.st_database.specs.Touches.{Leads, OfDatabase, pairs_added, pairs_changed, stores_at}
use Rattle.st_database.proofs.Frames.{StoreLaws, database-alike}
use Rattle.st_database.proofs.Touching.{AreAmong, among-first, leads-less, leads-more, leads-then, touches-more, touches-nothing}
use Rattle.st_rows.specs.Rows.{HoldsInCell}
use Rattle.st_state.specs.declared.triple.Triple.{Triple}
use Rattle.st_state.specs.State.{State, member_taken}
use Rattle.st_state.proofs.Changed.{number-is, number-itself}
use Rattle.st_counts.specs.Counts.{turned_count}
use Rattle.st_standing.specs.Standing.{view_of}
use Rattle.st_standing.proofs.RowLaws.{RowLaws}
use Rattle.st_edits.proofs.InSets.{has-row}
use Rattle.st_edits.proofs.Kept.{places-are, IsStoreOf}
use Rattle.st_edits.proofs.Setting.{turned-aside, turned-few}
use Rattle.st_removals.specs.Noting.{NotesThese}
use Rattle.st_removals.specs.Taken.{goes, gone_rows, gone_stores, taken_all, turned_by}
use Rattle.st_removals.proofs.Fewer.{all-nearly, all-program, all-schema}
use Rattle.st_removals.proofs.Noted.{view-taken}

-- ---- values

-- what a cell holds that goes fits
pub fits-going : (which : Option EntityId) (k : Kind) (v : Value) → HoldsInCell k v → goes which v ≡ true → Fits k v
fits-going None k Null h g = absurd (true≢false (sym g))
fits-going (Some e) k Null h g = absurd (true≢false (sym g))
fits-going which k (Int i) h g = h
fits-going which k (Truth b) h g = h
fits-going which k (Text t) h g = h
fits-going which k (Entity x) h g = h

-- ---- lists

pub taken-append : (g h : List Triple) (s : State) → taken_all h (taken_all g s) ≡ taken_all (g ++ h) s
taken-append [] h s = refl
taken-append (t ∷ ts) h s = taken-append ts h (member_taken s t.attribute t.entity t.value)

pub stores-append : (g h : List Triple) → gone_stores (g ++ h) ≡ gone_stores g ++ gone_stores h
stores-append g h = flat_map-append (λ t. store Index t.attribute ∷ store Inverse t.attribute ∷ []) g h

pub rows-append : (schema : Outline) (g h : List Triple) → gone_rows schema (g ++ h) ≡ gone_rows schema g + gone_rows schema h
rows-append schema g h = sum_by-append (λ t. turned_by (attribute schema t.attribute)) g h

turned-number : (m n : ℕ) → (m == n) ≡ true → (n == m) ≡ true
turned-number m n h = subst (λ z. (z == m) ≡ true) (number-is m n h) (number-itself m)

-- the index and the inverse of an attribute
one-among : (n : ℕ) (places : List Place) (t : Triple) → t.attribute ≡ n → AreAmong (stores_at (turned_places n places)) (gone_stores (t ∷ []))
one-among n places t is q h =
    subst (λ z. among (store Index z ∷ store Inverse z ∷ []) q ≡ true) (sym is)
    (elim (or-cases (q == store Index n) (q == store Inverse n) (turned-aside n places q h)) [
      | inl k ↦ first-of (store Index n == q) ((store Inverse n == q) || false) (turned-number q (store Index n) k)
      | inr k ↦ one-of (store Index n == q) ((store Inverse n == q) || false) (first-of (store Inverse n == q) false (turned-number q (store Inverse n) k))
    ])

one-row : (schema : Outline) (a : Attribute) (t : Triple) → attribute schema t.attribute ≡ Some a → gone_rows schema (t ∷ []) ≡ turned_count a + 0
one-row schema a t f = sum_by-cons (λ u. turned_by (attribute schema u.attribute)) t [] ∙ ap (λ o. turned_by o + 0) f

no-pairs : (n : ℕ) (places : List Place) (v : Value) → same_value v Null ≡ false → 17 * pairs_added n places v Null ≤ 0
no-pairs n places v h = subst (λ b. 17 * (if b then 0 else length (turned_places n places) * 0) ≤ 0) (sym h) (omega arith)

few-pairs : (n k : ℕ) (places : List Place) (v : Value) → same_value v Null ≡ false → rows_for v ≡ 1 → length (turned_places n places) ≤ k → pairs_changed n places v Null ≤ k + 0
few-pairs n k places v h e less =
    subst (λ b. (if b then 0 else length (turned_places n places) * (rows_for v + 0)) ≤ k + 0) (sym h) (subst (λ z. length (turned_places n places) * (z + 0) ≤ k + 0) (sym e) (omega (arith, less)))

module _ {Self : Type 0} (attempt : Self → Attempt) (follows : Self → Self → Type 0) (asked : Self → Self → (ℕ → Bool) → (ℕ → Bool) → ℕ → Type 0) (page_laws : PageLaws attempt follows asked)
    (form : Place → Array → List ℕ → List (List ℕ) → Type 0) (schema : Outline) (places : List Place) (e : EntityId) where
  -- ---- none

  pub notes-none : {X : Type 0} (nothing : (a : Self) (got put : ℕ → Bool) → asked a a got put 0) (x : Self) (answer : X) → NotesThese form (asked x x) (attempt x) (attempt x) schema places e [] (Ok answer)
  notes-none nothing x answer = λ array s at rows agrees same legal program is d. record {
    answers = (tt, d);
    sound = tt;
    touches = touches-more attempt follows asked page_laws x x array [] [] false true 0 0 0 (34 * gone_rows schema []) (λ q h. h) (λ h. refl) (omega arith) (omega arith) (touches-nothing attempt follows asked nothing x array);
  }

  -- by another answer
  pub notes-answer : {X Y : Type 0} (x y : Self) (gone : List Triple) (one : X) (other : Y) → NotesThese form (asked x y) (attempt x) (attempt y) schema places e gone (Ok one) → NotesThese form (asked x y) (attempt x) (attempt y) schema places e gone (Ok other)
  notes-answer x y gone one other notes = λ array s at rows agrees same legal program is d.
      let l = notes array s at rows agrees same legal program is d in
      record { answers = l.answers; sound = l.sound; touches = l.touches }

  pub notes-fault : {X Y : Type 0} (x y : Self) (gone : List Triple) (fault : PageFault) → NotesThese {A = X} form (asked x y) (attempt x) (attempt y) schema places e gone (Err fault)
      → NotesThese {A = Y} form (asked x y) (attempt x) (attempt y) schema places e gone (Err fault)
  notes-fault x y gone fault notes = λ array s at rows agrees same legal program is d.
      let l = notes array s at rows agrees same legal program is d in
      record { answers = l.answers; sound = l.sound; touches = l.touches }

  -- ---- one

  module _ (reach : Place → Array → ℕ → Bool) (store_laws : StoreLaws form reach) (laws : RowLaws) (of : AreOf schema places) (order : (array : Array) (o : Outline) (ps : List Place) → Has array o ps → AscendByStore ps)
      (entity : IsEntity e) (a : Attribute) (found : attribute schema a.number ≡ Some a) (one : a.many ≡ false) (in_row : a.column ≡ false) (v : Value) (fits : Fits a.kind v) (x y : Self) (result : Result Unit PageFault) where
    abbrev its : Triple
    its = record { attribute = a.number; entity = e; value = v }

    pub notes-one : OfDatabase form (attempt x) (attempt y) schema places (λ array view. IfSome (attribute schema a.number) (λ b.
        Leads form (asked x y) (attempt x) (attempt y) array schema places (if same_value v Null then view else noted_view a.number b.kind e v Null view) (λ done. ⊤)
        (stores_at (turned_places a.number places)) true (17 * pairs_added a.number places v Null) (34 * pairs_changed a.number places v Null) result))
        → NotesThese form (asked x y) (attempt x) (attempt y) schema places e (record { attribute = a.number; entity = e; value = v } ∷ []) result
    notes-one leads = λ array s at rows agrees same legal program is d.
        let n = a.number in
        let before = with_rows at rows (view_of s) in
        let after = with_rows at rows (view_of (member_taken s n e v)) in
        let behind = noted_view n a.kind e v Null before in
        let r = has-row a.kind v fits in
        let l = subst (λ (o : Option Attribute). IfSome o (λ b.
        Leads form (asked x y) (attempt x) (attempt y) array schema places (if same_value v Null then before else noted_view n b.kind e v Null before) (λ done. ⊤)
        (stores_at (turned_places n places)) true (17 * pairs_added n places v Null) (34 * pairs_changed n places v Null) result)) found (leads array before agrees d) in
        let m = subst (λ b. Leads form (asked x y) (attempt x) (attempt y) array schema places (if b then before else behind) (λ done. ⊤)
        (stores_at (turned_places n places)) true (17 * pairs_added n places v Null) (34 * pairs_changed n places v Null) result) r.to_null l in
        let orderly = subst IsOrderly same legal.orderly in
        let readable : IsReadable schema = d.has.spells.readable in
        let few = turned-few schema places of (order (over (attempt x) array) schema places d.has) readable orderly n a found in
        let rows-one = one-row schema a its found in
        let fewer = few-pairs n (turned_count a) places v r.to_null r.rows few in
        let kinds = places-are schema places of in
        leads-more attempt follows asked page_laws form array schema places x y after (λ done. ⊤) (stores_at (turned_places n places)) (gone_stores (its ∷ [])) true true (17 * pairs_added n places v Null) 0 (34 * pairs_changed n places v Null) (34 * gone_rows schema (its ∷ [])) result
        (one-among n places its refl) (λ h. h) (no-pairs n places v r.to_null) (omega (arith, fewer, rows-one))
        (leads-less attempt follows asked page_laws form array schema places x y behind after (λ done. ⊤) (λ done. ⊤) (stores_at (turned_places n places)) true (17 * pairs_added n places v Null) (34 * pairs_changed n places v Null) result
        (λ u h k. (
          tt,
          database-alike form reach store_laws (over (attempt y) array) schema places behind after
              (λ i p w. (view-taken laws s legal program (subst IsReadable (sym same) readable) e entity n a (ap (λ (o : Outline). attribute o n) same ∙ found) one in_row v fits at is rows _ (subst (λ o. IsStoreOf o (slice_index_or places i p).store) (sym same) (kinds i p w)), refl)) k,
        )) m)

  -- ---- some, and others

  pub notes-then : {X Y : Type 0} (x y z : Self) → follows x y → follows y z → (g h : List Triple) (answer : X) (result : Result Y PageFault) → NotesThese form (asked x y) (attempt x) (attempt y) schema places e g (Ok answer)
      → NotesThese form (asked y z) (attempt y) (attempt z) schema places e h result → NotesThese form (asked x z) (attempt x) (attempt z) schema places e (g ++ h) result
  notes-then x y z xy yz g h answer result first second = λ array s at rows agrees same legal program is d.
      let T = taken_all g s in
      let mid = with_rows at rows (view_of T) in
      let after = with_rows at rows (view_of (taken_all h T)) in
      let l = first array s at rows (earlier (attempt y) (attempt z) array (page_laws.seen_stays y z yz) agrees) same legal program is d in
      let m = leads-then attempt follows asked page_laws form array schema places x y z xy yz mid after (λ done. ⊤) (λ done. ⊤) (gone_stores g) (gone_stores h) true true 0 0 (34 * gone_rows schema g) (34 * gone_rows schema h) answer result l
      (λ done k. second array T at rows agrees (all-schema g s ∙ same) (all-nearly g s legal) (all-program g s program) is k) in
      let sum = rows-append schema g h in
      leads-more attempt follows asked page_laws form array schema places x z (with_rows at rows (view_of (taken_all (g ++ h) s))) (λ done. ⊤) (gone_stores g ++ gone_stores h) (gone_stores (g ++ h)) true true (0 + 0) 0 (34 * gone_rows schema g + 34 * gone_rows schema h) (34 * gone_rows schema (g ++ h)) result
      (λ q k. subst (λ (l : List ℕ). among l q ≡ true) (sym (stores-append g h)) k) (λ k. k) (omega arith) (omega (arith, sum))
      (subst (λ (t : State). Leads form (asked x z) (attempt x) (attempt z) array schema places (with_rows at rows (view_of t)) (λ done. ⊤) (gone_stores g ++ gone_stores h) true (0 + 0) (34 * gone_rows schema g + 34 * gone_rows schema h) result) (taken-append g h s) m)

  -- where a call is not answered no others follow
  pub notes-stopped : {X : Type 0} (x z : Self) (g h : List Triple) (fault : PageFault) → NotesThese {A = X} form (asked x z) (attempt x) (attempt z) schema places e g (Err fault) → NotesThese {A = X} form (asked x z) (attempt x) (attempt z) schema places e (g ++ h) (Err fault)
  notes-stopped x z g h fault notes = λ array s at rows agrees same legal program is d.
      let l = notes array s at rows agrees same legal program is d in
      let sum = rows-append schema g h in
      record {
        answers = tt;
        sound = l.sound;
        touches = touches-more attempt follows asked page_laws x z array (gone_stores g) (gone_stores (g ++ h)) true true 0 0 (34 * gone_rows schema g) (34 * gone_rows schema (g ++ h))
            (λ q k. subst (λ (m : List ℕ). among m q ≡ true) (sym (stores-append g h)) (among-first (gone_stores g) (gone_stores h) q k)) (λ k. k) (omega arith) (omega (arith, sum)) l.touches;
      }
