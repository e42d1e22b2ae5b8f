-- What a setting of a single value leaves in pages that nearly stand for a state, and what it asks for.
use Rattle.std.proofs.Common.{◌≡◌, ℕ, zero, suc, ◌+◌, ◌*◌, ◌<◌, ◌≤◌, Bool, true, false, cond, List, [], ◌∷◌, length, Option, Some, None, Result, Ok, Err, IsTrue, IfOk, refl, sym, ap, ◌∙◌, subst, inl, inr, arith, true≢false, if◌then◌else◌}
use Rattle.std.specs.Prelude.{◌==◌, ◌||◌, ⊤, not, nat_le, filter, find, map, take, slice_get, slice_index_or, slice_set, is_some}
use Rattle.std.specs.List.{All}
use Rattle.std.specs.Option.{ForSome}
use Rattle.std.proofs.lemmas.Bool.Decides.{nat_tests}
use Rattle.std.proofs.lemmas.List.Elements.{All-cons, All-filter, All-head, All-tail}
use Rattle.st_page.specs.declared.fault.PageFault.{PageFault}
use Rattle.st_values.specs.declared.value.EntityId.{EntityId}
use Rattle.st_values.specs.declared.value.Kind.{Kind}
use Rattle.st_values.specs.declared.value.Value.{Value}
use Rattle.st_values.specs.declared.value.Value.TheVariants.{Null, Int, Bool as Truth, Text, Entity}
use Rattle.st_values.specs.Order.{same_entity, same_value}
use Rattle.st_values.specs.Arranged.{placed}
use Rattle.st_values.proofs.Tests.{either, first-of, one-of, placed-behind, placed-here, right}
use Rattle.st_lattice.specs.declared.attribute.Attribute.{Attribute}
use Rattle.st_lattice.specs.declared.stores.StoreKind.{StoreKind}
use Rattle.st_lattice.specs.declared.stores.StoreKind.TheVariants.{Extent, Set, Index, Inverse, Column}
use Rattle.st_lattice.specs.Outline.{IsOrderly, Outline, attribute}
use Rattle.st_lattice.specs.Lattice.{attributes_in, isa}
use Rattle.st_lattice.specs.Stores.{aside, keeps, keeps_one, passes, store}
use Rattle.st_values.specs.declared.value.Kind.TheVariants as kind
use Rattle.st_index.specs.Turned.{IsLike}
use Rattle.st_edits.specs.Values.{IsLikeOrNull}
use Rattle.st_keys.specs.Keys.{Fits, IsEntity}
use Rattle.st_schema_bytes.specs.SchemaBytes.{IsReadable}
use Rattle.st_pages.specs.declared.places.Place.{Place}
use Rattle.st_pages.specs.Attempt.{Array, Attempt, over}
use Rattle.st_pages.specs.Places.{AscendByStore, place_of}
use Rattle.st_catalog.specs.Stores.{AreOf}
use Rattle.st_state.specs.State.{State, attribute_set, is_at, is_live, triple_before, turned, value_at, with_value}
use Rattle.st_state.specs.Calls.{CanBe, CanHold, call_stores, stores_by, Set as SetCall}
use Rattle.st_state.specs.Legal.{IsNearlyLegal, can_hold}
use Rattle.st_state.specs.Rows.{entity_row, rows_added, rows_changed}
use Rattle.st_state.proofs.Changed.{number-is}
use Rattle.st_state.proofs.Members.{find-passes}
use Rattle.st_state.proofs.Set.{null, set-nearly}
use Rattle.st_store.specs.Rows.{row_with, with_row}
use Rattle.st_store.specs.Stores.{among}
use Rattle.st_store.proofs.Ordering.{same-bytes}
use Rattle.st_index.specs.Turned.{IsOrNull, is_turned_store, turned_places}
use Rattle.st_index.specs.Noted.{rows_for}
use Rattle.st_index.specs.Change.{one_place, two_places}
use Rattle.st_index.proofs.Placed.{found-holds, two-turned}
use Rattle.st_counts.specs.Counts.{kept_count, row_count, turned_count}
use Rattle.st_database.specs.Database.{IsDatabase, View, noted_view, with_rows}
use Rattle.st_database.proofs.Frames.{StoreLaws, database-alike}
use Rattle.st_database.proofs.Touching.{AreAmong, touches-more}
use Rattle.st_index.proofs.Called.{PageLaws}
use Rattle.st_counts.proofs.Set.{set-added, set-changed}
use Rattle.st_edits.specs.Edits.{Alters}
use Rattle.st_database.specs.Touches.{Leads, added_by, changed_by, is_row, pairs_added, pairs_changed, stores_at}
use Rattle.st_standing.specs.Standing.{FitsOne, IsOfProgram, NearlyStandsAt, entity_bytes, extent_rows, rows_at, view_of}
use Rattle.st_standing.proofs.Columns.{with-new}
use Rattle.st_standing.proofs.Extents.{live-row, set-cells-at}
use Rattle.st_standing.proofs.OfKind.{live-entity}
use Rattle.st_standing.proofs.RowLaws.{RowLaws, take-serial}
use Rattle.st_standing.proofs.Sets.{triple}
use Rattle.st_standing.proofs.Fitting.{null-is}
use Rattle.st_lookups.specs.Looks.{is_cell}
use Rattle.st_lookups.proofs.Lived.{rows-extent}
use Rattle.st_edits.specs.Values.{IsReplaced, its_row, put_view}
use Rattle.st_edits.proofs.Kept.{IsStoreOf, all-numbers, attribute-number, kept-number, places-are}
use Rattle.st_edits.proofs.Valued.{nothing, row_view, view-noted, view-same}

-- ---- all of a list with one more in its place

all-with : {X : Type 0} (P : X → Type 0) (before : X → X → Bool) (x : X) (xs : List X) → P x → All P xs → All P (placed before x xs)
all-with P before x [] h all = All-cons P x [] h all
all-with P before x (y ∷ ys) h all =
    either (before y x) (λ _. All P (placed before x (y ∷ ys)))
    (λ k. subst (All P) (sym (placed-behind before x y ys k)) (All-cons P y (placed before x ys) (All-head P y ys all) (all-with P before x ys h (All-tail P y ys all))))
    (λ k. subst (All P) (sym (placed-here before x y ys k)) (All-cons P x (y ∷ ys) h all))

-- ---- stores

-- a store of the kind is kept where it is among those of the schema
index-kept : (schema : Outline) → IsReadable schema → IsOrderly schema → (n : ℕ) → n < 65536 → IsStoreOf schema (store Index n) → keeps_one Index (attribute schema n) ≡ true
index-kept schema readable orderly n small (inl h) = absurd (omega (arith, h, orderly.few_types))
index-kept schema readable orderly n small (inr (inl (m, is, kept))) = let k = kept-number schema Set m readable orderly kept in absurd (omega (arith, is, k))
index-kept schema readable orderly n small (inr (inr (inl (m, is, kept)))) = let same : m ≡ n = omega (arith, is) in subst (λ z. keeps_one Index (attribute schema z) ≡ true) same kept
index-kept schema readable orderly n small (inr (inr (inr (inl (m, is, kept))))) = absurd (omega (arith, is, small))
index-kept schema readable orderly n small (inr (inr (inr (inr (m, is, kept))))) = absurd (omega (arith, is, small))

inverse-kept : (schema : Outline) → IsReadable schema → IsOrderly schema → (n : ℕ) → n < 65536 → IsStoreOf schema (store Inverse n) → keeps_one Inverse (attribute schema n) ≡ true
inverse-kept schema readable orderly n small (inl h) = absurd (omega (arith, h, orderly.few_types))
inverse-kept schema readable orderly n small (inr (inl (m, is, kept))) = let k = kept-number schema Set m readable orderly kept in absurd (omega (arith, is, k))
inverse-kept schema readable orderly n small (inr (inr (inl (m, is, kept)))) = let k = kept-number schema Index m readable orderly kept in absurd (omega (arith, is, k))
inverse-kept schema readable orderly n small (inr (inr (inr (inl (m, is, kept))))) = let same : m ≡ n = omega (arith, is) in subst (λ z. keeps_one Inverse (attribute schema z) ≡ true) same kept
inverse-kept schema readable orderly n small (inr (inr (inr (inr (m, is, kept))))) = absurd (omega (arith, is, small))

one-less : (kind : StoreKind) (a : Attribute) (o : Option Place) → ((q : Place) → o ≡ Some q → keeps kind a ≡ true) → length (one_place o) ≤ kept_count kind a
one-less kind a None h = omega arith
one-less kind a (Some q) h = subst (λ (b : Bool). 1 ≤ (if b then 1 else 0)) (sym (h q refl)) (omega arith)

two-length : (o p : Option Place) → length (two_places o p) ≡ length (one_place o) + length (one_place p)
two-length None None = refl
two-length None (Some q) = refl
two-length (Some r) None = refl
two-length (Some r) (Some q) = refl

-- the stores that keep an attribute turned are as many as it keeps
pub turned-few : (schema : Outline) (places : List Place) → AreOf schema places → AscendByStore places → IsReadable schema → IsOrderly schema → (n : ℕ) (a : Attribute) → attribute schema n ≡ Some a → length (turned_places n places) ≤ turned_count a
turned-few schema places of ascend readable orderly n a f =
    let small = attribute-number schema n a readable orderly f in
    let kinds = places-are schema places of in
    let i = one-less Index a (place_of (store Index n) places) (λ q at.
    let found = found-holds (λ p. p.store == store Index n) (λ p. IsStoreOf schema p.store) places q at kinds in
    ap (keeps_one Index) (sym f) ∙ index-kept schema readable orderly n small (subst (IsStoreOf schema) (number-is q.store (store Index n) found.1) found.0)) in
    let j = one-less Inverse a (place_of (store Inverse n) places) (λ q at.
    let found = found-holds (λ p. p.store == store Inverse n) (λ p. IsStoreOf schema p.store) places q at kinds in
    ap (keeps_one Inverse) (sym f) ∙ inverse-kept schema readable orderly n small (subst (IsStoreOf schema) (number-is q.store (store Inverse n) found.1) found.0)) in
    let is = ap (λ (l : List Place). length l) (two-turned n places (store Index n) (store Inverse n) (place_of (store Index n) places) (place_of (store Inverse n) places) ascend refl refl refl refl) in
    let two = two-length (place_of (store Index n) places) (place_of (store Inverse n) places) in
    omega (arith, i, j, is, two)

-- and they are among those beside the extents
pub turned-aside : (n : ℕ) (places : List Place) (t : ℕ) → IsTrue (among (stores_at (turned_places n places)) t) → is_turned_store n t ≡ true
turned-aside n [] t h = absurd (true≢false (sym h))
turned-aside n (p ∷ ps) t h = by (is_turned_store n p.store) refl h (turned-aside n ps t)
  where
    by : (b : Bool) → is_turned_store n p.store ≡ b → IsTrue (among (stores_at (cond b (p ∷ turned_places n ps) (turned_places n ps))) t) → (IsTrue (among (stores_at (turned_places n ps)) t) → is_turned_store n t ≡ true) → is_turned_store n t ≡ true
    by false k h more = more h
    by true k h more =
        either (p.store == t) (λ b. (b || among (stores_at (turned_places n ps)) t) ≡ true → is_turned_store n t ≡ true)
        (λ e _. subst (λ z. is_turned_store n z ≡ true) (number-is p.store t e) k) (λ _ m. more m) h

pub aside-among : (n t : ℕ) (a : Attribute) → a.number ≡ n → is_turned_store n t ≡ true → IsTrue (among (aside a) t)
aside-among n t a is h =
    subst (λ z. among (store Set z ∷ store Column z ∷ store Index z ∷ store Inverse z ∷ []) t ≡ true) (sym is) (by (t == store Index n) (t == store Inverse n) refl refl h)
  where
    swap : (x y : ℕ) → (x == y) ≡ true → (y == x) ≡ true
    swap x y e = grind (arith, nat_tests, e)

    by : (b c : Bool) → (t == store Index n) ≡ b → (t == store Inverse n) ≡ c → (b || c) ≡ true → among (store Set n ∷ store Column n ∷ store Index n ∷ store Inverse n ∷ []) t ≡ true
    by true c e g k = one-of (store Set n == t) _ (one-of (store Column n == t) _ (first-of (store Index n == t) _ (swap t (store Index n) e)))
    by false true e g k = one-of (store Set n == t) _ (one-of (store Column n == t) _ (one-of (store Index n == t) _ (first-of (store Inverse n == t) false (swap t (store Inverse n) g))))
    by false false e g k = absurd (true≢false (sym k))

-- ---- cells

map-at : (f : Attribute → Value) (xs : List Attribute) (i : ℕ) (a : Attribute) → slice_get xs i ≡ Some a → slice_index_or (map f xs) i Null ≡ f a
map-at f [] i a h = absurd (nothing i a h)
  where
    nothing : (i : ℕ) (a : Attribute) → slice_get [] i ≡ Some a → ⊥
    nothing i a e = cc
map-at f (x ∷ xs) zero a h = ap f (is x a h)
  where
    is : (x y : Attribute) → Some x ≡ Some y → x ≡ y
    is x y e = cc
map-at f (x ∷ xs) (suc i) a h = map-at f xs i a h

added-none : (key : ℕ) (row other : List ℕ) (rows : List (List ℕ)) → row_with key row rows ≡ Some other → added_by key row rows ≡ 0
added-none key row other rows h = ap (λ (o : Option (List ℕ)). if is_some o then 0 else 1) h

changed-one : (key : ℕ) (row : List ℕ) (rows : List (List ℕ)) → changed_by key row rows ≤ 1
changed-one key row rows = by (is_row row (row_with key row rows))
  where
    by : (b : Bool) → (if b then 0 else 1) ≤ 1
    by true = omega arith
    by false = omega arith

changed-none : (key : ℕ) (row : List ℕ) (rows : List (List ℕ)) → row_with key row rows ≡ Some row → changed_by key row rows ≡ 0
changed-none key row rows h = ap (λ (o : Option (List ℕ)). if is_row row o then 0 else 1) h ∙ ap (λ (b : Bool). if b then 0 else 1) (same-bytes row row refl)

count-value : (v : Value) → rows_for v ≡ row_count v
count-value Null = refl
count-value (Int i) = refl
count-value (Truth b) = refl
count-value (Text t) = refl
count-value (Entity x) = refl

times-less : (a b c d : ℕ) → a ≤ b → c ≡ d → a * c ≤ b * d
times-less a b c d h e = subst (λ z. a * c ≤ b * z) e (more a b c h)
  where
    more : (a b c : ℕ) → a ≤ b → a * c ≤ b * c
    more a b zero h = grind (arith, h)
    more a b (suc c) h = let rest = more a b c h in grind (arith, h, rest)

fits-value : (k : Kind) (v : Value) → IsOrNull k v → null v ≡ false → Fits k v
fits-value k Null h n = absurd (true≢false n)
fits-value k (Int i) h n = h
fits-value k (Truth b) h n = h
fits-value k (Text t) h n = h
fits-value k (Entity x) h n = h

some-attribute : (x y : Attribute) → Some x ≡ Some y → x ≡ y
some-attribute x y e = cc

-- ---- a setting

module _ (laws : RowLaws) (s : State) (legal : IsNearlyLegal s) (program : IsOfProgram s) (readable : IsReadable s.schema) (e : EntityId) (live : is_live s e ≡ true)
    (n : ℕ) (a : Attribute) (f : attribute s.schema n ≡ Some a) (one : a.many ≡ false) (in_row : a.column ≡ false) (v : Value) where
  abbrev T : State
  T = attribute_set s n e v

  abbrev was : Value
  was = value_at n e s.triples

  entity : IsEntity e
  entity = live-entity s program.entities e live

  its-number : a.number ≡ n
  its-number = number-is a.number n (find-passes (λ b. b.number == n) a s.schema.attributes f)

  -- the state that it leaves is one of the program
  program-set : IsOrNull a.kind v → IsOfProgram T
  program-set fits = record {
    entities = program.entities;
    values = by (null v) refl;
    serials = program.serials;
  }
    where
      left-all : All (FitsOne s.schema) (filter (λ t. not (is_at n e t)) s.triples)
      left-all = All-filter (λ t. not (is_at n e t)) (FitsOne s.schema) s.triples program.values

      new-fits : null v ≡ false → FitsOne s.schema (triple n e v)
      new-fits k = subst (λ (o : Option Attribute). ForSome o (λ b. Fits b.kind v)) (sym f) (for-some k)
        where
          for-some : null v ≡ false → ForSome (Some a) (λ b. Fits b.kind v)
          for-some k = λ b is. subst (λ (c : Attribute). Fits c.kind v) (some-attribute a b is) (fits-value a.kind v fits k)

      by : (b : Bool) → null v ≡ b → All (FitsOne s.schema) (with_value n e v (filter (λ t. not (is_at n e t)) s.triples))
      by true k = subst (λ (w : Value). All (FitsOne s.schema) (with_value n e w (filter (λ t. not (is_at n e t)) s.triples))) (sym (null-is v k)) left-all
      by false k = subst (All (FitsOne s.schema)) (sym (with-new n e v (filter (λ t. not (is_at n e t)) s.triples) k))
          (all-with (FitsOne s.schema) triple_before (triple n e v) (filter (λ t. not (is_at n e t)) s.triples) (new-fits k) left-all)

  module _ (place : Place) (is : place.store ≡ store Extent e.ty) (cells : List Value) (cells_are : cells ≡ (entity_row s e).cells) (new : List Value) (old : Value) (r : IsReplaced s.schema e.ty a cells v new old) where
    old-is : old ≡ was
    old-is =
        r.old_is ∙ ap (λ (l : List Value). slice_index_or l r.index Null) cells_are
        ∙ map-at (λ b. value_at b.number e s.triples) (filter is_cell (attributes_in s.schema e.ty)) r.index a r.there ∙ ap (λ (k : ℕ). value_at k e s.triples) its-number

    new-is : new ≡ (entity_row T e).cells
    new-is = r.new_is ∙ ap (λ (l : List Value). slice_set l r.index v) cells_are ∙ sym (set-cells-at s n e v legal.consistent.numbers r.index a r.there its-number)

    row-is : its_row s.schema e new ≡ entity_bytes T e
    row-is = ap (its_row s.schema e) new-is

    rows-are : rows_at s place.store ≡ extent_rows s e.ty
    rows-are = rows-extent s e.ty place.store entity.2 is

    view-is : put_view s.schema place.store e new (view_of s) ≡ row_view laws s legal program readable e live n a f one in_row v
    view-is = λ i. with_rows (is i) (with_row 4 (row-is i) (rows-are i)) (view_of s)

    -- the row with its key, in front of the call
    found : row_with 4 (its_row s.schema e new) (rows_at s place.store) ≡ Some (entity_bytes s e)
    found =
        ap (row_with 4 (its_row s.schema e new)) rows-are
        ∙ live-row laws s legal program e entity (its_row s.schema e new) (ap (take 4) row-is ∙ take-serial T e)
        ∙ ap (λ (b : Bool). if b then Some (entity_bytes s e) else None) live

    same-row : same_value was v ≡ true → row_with 4 (its_row s.schema e new) (rows_at s place.store) ≡ Some (its_row s.schema e new)
    same-row same =
        found ∙ ap Some (ap (λ (t : State). entity_bytes t e) (sym (nothing laws s legal program readable e live n a f one in_row v same)) ∙ sym row-is)

    module _ (fits : IsOrNull a.kind v) (places : List Place) (of : AreOf s.schema places) (ascend : AscendByStore places) where
      abbrev P : View
      P = put_view s.schema place.store e new (view_of s)

      abbrev V : Value → View → View
      V w view = if same_value w v then view else noted_view n a.kind e w v view

      V-is : V old P ≡ V was (row_view laws s legal program readable e live n a f one in_row v)
      V-is = λ i. V (old-is i) (view-is i)

      all-views : All (λ q. (rows_at T q.store ≡ (V was (row_view laws s legal program readable e live n a f one in_row v)).rows q.store)
          × ((view_of T).last q.store ≡ (V was (row_view laws s legal program readable e live n a f one in_row v)).last q.store)) places
      all-views =
          let R = row_view laws s legal program readable e live n a f one in_row v in
          let kinds = places-are s.schema places of in
          either (same_value was v)
          (λ b. All (λ q. (rows_at T q.store ≡ (if b then R else noted_view n a.kind e was v R).rows q.store) × ((view_of T).last q.store ≡ (if b then R else noted_view n a.kind e was v R).last q.store)) places)
          (λ k i d w. (view-same laws s legal program readable e live n a f one in_row v k _ (kinds i d w), refl))
          (λ k i d w. (view-noted laws s legal program readable e live n a f one in_row v fits _ (kinds i d w), refl))

      low : All (λ b. b.number < 65536) s.schema.attributes
      low = all-numbers s.schema readable legal.orderly

      turned-length : length (turned_places n places) ≤ turned_count a
      turned-length = turned-few s.schema places of ascend readable legal.orderly n a f

      few-added : added_by 4 (its_row s.schema e new) (rows_at s place.store) + pairs_added n places old v ≤ rows_added s T
      few-added =
          let none = added-none 4 (its_row s.schema e new) (entity_bytes s e) (rows_at s place.store) found in
          let pairs : pairs_added n places was v ≤ rows_added s T =
          either (same_value was v) (λ b. (if b then 0 else length (turned_places n places) * rows_for v) ≤ rows_added s T) (λ k. omega arith)
          (λ k.
          let most = times-less (length (turned_places n places)) (turned_count a) (rows_for v) (row_count v) turned-length (count-value v) in
          let law = set-added s n e v legal low a f one k in
          omega (arith, most, law)) in
          let is = ap (λ (w : Value). pairs_added n places w v) old-is in
          omega (arith, none, pairs, is)

      few-changed : isa s.schema e.ty a.owner ≡ true → changed_by 4 (its_row s.schema e new) (rows_at s place.store) + pairs_changed n places old v ≤ rows_changed s T
      few-changed owner =
          let is = ap (λ (w : Value). pairs_changed n places w v) old-is in
          let both : changed_by 4 (its_row s.schema e new) (rows_at s place.store) + pairs_changed n places was v ≤ rows_changed s T =
          either (same_value was v) (λ b. same_value was v ≡ b → changed_by 4 (its_row s.schema e new) (rows_at s place.store) + (if b then 0 else length (turned_places n places) * (rows_for was + rows_for v)) ≤ rows_changed s T)
          (λ k _. let none = changed-none 4 (its_row s.schema e new) (rows_at s place.store) (same-row k) in omega (arith, none))
          (λ k _.
          let least = changed-one 4 (its_row s.schema e new) (rows_at s place.store) in
          let most = times-less (length (turned_places n places)) (turned_count a) (rows_for was + rows_for v) (row_count was + row_count v) turned-length (λ i. count-value was i + count-value v i) in
          let law = set-changed s n e v legal low a f one k in_row live owner in
          omega (arith, least, most, law)) refl in
          omega (arith, both, is)

      stores-among : AreAmong (place.store ∷ stores_at (turned_places n places)) (call_stores s.schema (SetCall e n v))
      stores-among t h =
          subst (λ (o : Option Attribute). among (store Extent e.ty ∷ stores_by aside o) t ≡ true) (sym f)
          (either (place.store == t) (λ b. (b || among (stores_at (turned_places n places)) t) ≡ true → among (store Extent e.ty ∷ aside a) t ≡ true)
          (λ k _. first-of (store Extent e.ty == t) (among (aside a) t) (ap (λ (m : ℕ). m == t) (sym is) ∙ k))
          (λ k m. one-of (store Extent e.ty == t) (among (aside a) t) (aside-among n t a its-number (turned-aside n places t m))) h)

      module _ {Self : Type 0} (attempt : Self → Attempt) (follows : Self → Self → Type 0) (asked : Self → Self → (ℕ → Bool) → (ℕ → Bool) → ℕ → Type 0) (page_laws : PageLaws attempt follows asked)
          (form : Place → Array → List ℕ → List (List ℕ) → Type 0) (reach : Place → Array → ℕ → Bool) (store_laws : StoreLaws form reach) (x y : Self) (array : Array) where
        pub alters-set : isa s.schema e.ty a.owner ≡ true → (null v ≡ false → can_hold s a.kind v ≡ true) → (a.unique ≡ true → find (λ o. not (same_entity e o)) (turned n v s.triples) ≡ None) → (result : Result Unit PageFault)
            → Leads form (asked x y) (attempt x) (attempt y) array s.schema places (if same_value old v then put_view s.schema place.store e new (view_of s) else noted_view n a.kind e old v (put_view s.schema place.store e new (view_of s))) (λ done. ⊤)
            (place.store ∷ stores_at (turned_places n places)) true (17 * (added_by 4 (its_row s.schema e new) (rows_at s place.store) + pairs_added n places old v)) (34 * (changed_by 4 (its_row s.schema e new) (rows_at s place.store) + pairs_changed n places old v)) result
            → Alters form (asked x y) (attempt x) (attempt y) array places s (SetCall e n v) result
        alters-set owner holds alone result leads = record {
          answers = answered result leads.answers;
          sound = leads.sound;
          touches = touches-more attempt follows asked page_laws x y array (place.store ∷ stores_at (turned_places n places)) (call_stores s.schema (SetCall e n v)) true true
              (17 * (added_by 4 (its_row s.schema e new) (rows_at s place.store) + pairs_added n places old v)) (17 * rows_added s T)
              (34 * (changed_by 4 (its_row s.schema e new) (rows_at s place.store) + pairs_changed n places old v)) (34 * rows_changed s T)
              stores-among (λ h. h) (let less = few-added in omega (arith, less)) (let less = few-changed owner in omega (arith, less)) leads.touches;
        }
          where
            answered : (o : Result Unit PageFault) → IfOk o (λ done. ⊤ × IsDatabase form (over (attempt y) array) s.schema places (V old P)) → IfOk o (λ done. NearlyStandsAt form (over (attempt y) array) places T)
            answered (Err fault) h = tt
            answered (Ok u) h = record {
              legal = set-nearly s n e v a f legal live owner holds alone;
              program = program-set fits;
              database = database-alike form reach store_laws (over (attempt y) array) s.schema places (V was (row_view laws s legal program readable e live n a f one in_row v)) (view_of T) all-views
                  (subst (IsDatabase form (over (attempt y) array) s.schema places) V-is h.1);
            }

-- ---- what can be set

-- a value that can be held fits, but for what the program's types say
pub like-held : (s : State) → All IsEntity s.live → (k : Kind) (w : Value) → can_hold s k w ≡ true → IsLike k w
like-held s all kind.Int (Int i) m = tt
like-held s all kind.Bool (Truth b) m = tt
like-held s all (kind.Text limit) (Text t) m = within (length t) limit m
  where
    within : (x y : ℕ) → nat_le x y ≡ true → x ≤ y
    within x y e = grind (arith, nat_tests, e)
like-held s all (kind.Entity ty) (Entity x) m = live-entity s all x (right (isa s.schema x.ty ty) (is_live s x) m)
like-held s all kind.Int Null m = absurd (true≢false (sym m))
like-held s all kind.Int (Truth b) m = absurd (true≢false (sym m))
like-held s all kind.Int (Text t) m = absurd (true≢false (sym m))
like-held s all kind.Int (Entity x) m = absurd (true≢false (sym m))
like-held s all kind.Bool Null m = absurd (true≢false (sym m))
like-held s all kind.Bool (Int i) m = absurd (true≢false (sym m))
like-held s all kind.Bool (Text t) m = absurd (true≢false (sym m))
like-held s all kind.Bool (Entity x) m = absurd (true≢false (sym m))
like-held s all (kind.Text limit) Null m = absurd (true≢false (sym m))
like-held s all (kind.Text limit) (Int i) m = absurd (true≢false (sym m))
like-held s all (kind.Text limit) (Truth b) m = absurd (true≢false (sym m))
like-held s all (kind.Text limit) (Entity x) m = absurd (true≢false (sym m))
like-held s all (kind.Entity ty) Null m = absurd (true≢false (sym m))
like-held s all (kind.Entity ty) (Int i) m = absurd (true≢false (sym m))
like-held s all (kind.Entity ty) (Truth b) m = absurd (true≢false (sym m))
like-held s all (kind.Entity ty) (Text t) m = absurd (true≢false (sym m))

-- a value that can be set fits, but for what the program's types say
pub like-or-null : (s : State) → IsOfProgram s → (n : ℕ) (a : Attribute) → attribute s.schema n ≡ Some a → (v : Value) → CanBe s n v → IsLikeOrNull a.kind v
like-or-null s program n a f v h = by v h
  where
    hold : (w : Value) → CanHold s n w → can_hold s a.kind w ≡ true
    hold w k = ap (passes (λ b. can_hold s b.kind w)) (sym f) ∙ k

    by : (w : Value) → CanBe s n w → IsLikeOrNull a.kind w
    by Null k = tt
    by (Int i) k = like-held s program.entities a.kind (Int i) (hold (Int i) k)
    by (Truth b) k = like-held s program.entities a.kind (Truth b) (hold (Truth b) k)
    by (Text t) k = like-held s program.entities a.kind (Text t) (hold (Text t) k)
    by (Entity x) k = like-held s program.entities a.kind (Entity x) (hold (Entity x) k)

pub can-hold : (s : State) (n : ℕ) (a : Attribute) → attribute s.schema n ≡ Some a → (v : Value) → CanBe s n v → null v ≡ false → can_hold s a.kind v ≡ true
can-hold s n a f v h k = by v h k
  where
    hold : (w : Value) → CanHold s n w → can_hold s a.kind w ≡ true
    hold w m = ap (passes (λ b. can_hold s b.kind w)) (sym f) ∙ m

    by : (w : Value) → CanBe s n w → null w ≡ false → can_hold s a.kind w ≡ true
    by Null m z = absurd (true≢false z)
    by (Int i) m z = hold (Int i) m
    by (Truth b) m z = hold (Truth b) m
    by (Text t) m z = hold (Text t) m
    by (Entity x) m z = hold (Entity x) m
