-- In how many fewer rows a state speaks of an entity where another one no longer refers to it.
use Rattle.std.proofs.Common.{◌≡◌, ℕ, zero, suc, ◌+◌, ◌*◌, ◌≤◌, Bool, true, false, cond, List, [], ◌∷◌, length, Option, Some, None, refl, sym, ap, ◌∙◌, subst, arith, true≢false, if◌then◌else◌}
use Rattle.std.specs.Prelude.{◌==◌, ◌&&◌, not, filter, find, map, slice_index_or}
use Rattle.std.specs.List.{All, list_any, sum_by}
use Rattle.std.proofs.lemmas.List.Elements.{All-head, All-tail}
use Rattle.std.proofs.lemmas.List.Folds.{list_any_none}
use Rattle.std.proofs.lemmas.List.Sums.{sum_by-cons}
use Rattle.st_values.specs.declared.value.EntityId.{EntityId}
use Rattle.st_values.specs.declared.value.Value.{Value}
use Rattle.st_values.specs.declared.value.Value.TheVariants.{Entity, Null}
use Rattle.st_values.specs.Order.{same_entity, same_value}
use Rattle.st_values.proofs.Entities.{same_entity-is}
use Rattle.st_values.proofs.Tests.{both, either, left, not-true, one-of, right}
use Rattle.st_lattice.specs.declared.attribute.Attribute.{Attribute}
use Rattle.st_lattice.specs.declared.stores.StoreKind.TheVariants.{Set}
use Rattle.st_lattice.specs.Lattice.{attributes_in, isa}
use Rattle.st_lattice.specs.Outline.{attribute}
use Rattle.st_lattice.specs.Stores.{passes}
use Rattle.st_state.specs.declared.triple.Triple.{Triple}
use Rattle.st_state.specs.State.{State, is_at, is_live, speaks_of, value_at, value_in}
use Rattle.st_state.specs.Legal.{IsNearlyLegal}
use Rattle.st_state.specs.Rows.{entity_row}
use Rattle.st_state.proofs.Changed.{number-is}
use Rattle.st_state.proofs.Members.{Member, filter-member, find-member, find-passes}
use Rattle.st_counts.specs.Counts.{keyed_count, kept_count, refers_in_row, referring_rows, spoken_count, spoken_rows, turned_count}
use Rattle.st_counts.proofs.Entities.{live-member}
use Rattle.st_counts.proofs.Tallies.{tally-member}
use Rattle.st_standing.proofs.Filtered.{filter-swap}
use Rattle.st_standing.proofs.Fitting.{each-found}
use Rattle.st_lookups.specs.Looks.{is_cell}
use Rattle.st_removals.specs.Clears.{tally}
use Rattle.st_removals.specs.Taken.{gone_cells, gone_rows, goes, is_single, is_unreferring, left_of, turned_by}
use Rattle.st_removals.proofs.Gone.{all-stay, any-images, cell_triple}
use Rattle.st_removals.proofs.Cleared.{all-columns, gone-cells, value-elsewhere, value-left}

-- ---- how many pass

module _ {X : Type 0} where
  split : (p q : X → Bool) → ((x : X) → p x ≡ true → q x ≡ true) → (xs : List X) → length (filter p xs) + length (filter (λ x. q x && not (p x)) xs) ≤ length (filter q xs)
  split p q h [] = omega arith
  split p q h (x ∷ xs) =
      let rest = split p q h xs in
      let others = filter (λ y. q y && not (p y)) xs in
      either (p x) (λ b. p x ≡ b → length (cond b (x ∷ filter p xs) (filter p xs)) + length (cond (q x && not b) (x ∷ others) others) ≤ length (cond (q x) (x ∷ filter q xs) (filter q xs)))
      (λ _ k. subst (λ c. length (x ∷ filter p xs) + length (cond (c && not true) (x ∷ others) others) ≤ length (cond c (x ∷ filter q xs) (filter q xs))) (sym (h x k)) (omega (arith, rest)))
      (λ _ _. either (q x) (λ c. length (filter p xs) + length (cond (c && true) (x ∷ others) others) ≤ length (cond c (x ∷ filter q xs) (filter q xs))) (λ _. omega (arith, rest)) (λ _. rest)) refl

  -- a test that follows from another one's, and fails at an element that passes that
  pub fewer-pass : (p q : X → Bool) → ((x : X) → p x ≡ true → q x ≡ true) → (x : X) (xs : List X) → Member x xs → p x ≡ false → q x ≡ true → 1 + length (filter p xs) ≤ length (filter q xs)
  fewer-pass p q h x xs m fails passes =
      let all = split p q h xs in
      let one = tally-member (λ y. q y && not (p y)) x xs m (both (q x) (not (p x)) passes (ap not fails)) in
      omega (arith, all, one)

  pub no-more-pass : (p : X → Bool) (xs : List X) → length (filter p xs) ≤ length xs
  no-more-pass p xs =
      let all = split p (λ x. true) (λ x h. refl) xs in
      let same = ap (λ (l : List X). length l) (all-stay xs) in
      omega (arith, all, same)

  pub one-fails : (p : X → Bool) (x : X) (xs : List X) → Member x xs → p x ≡ false → 1 + length (filter p xs) ≤ length xs
  one-fails p x xs m fails =
      let less = fewer-pass p (λ y. true) (λ y h. refl) x xs m fails refl in
      let same = ap (λ (l : List X). length l) (all-stay xs) in
      omega (arith, less, same)

  -- ---- sums

  pub sum-images : {Y : Type 0} (f : Y → ℕ) (g : X → Y) (xs : List X) → sum_by f (map g xs) ≡ sum_by (λ x. f (g x)) xs
  sum-images f g [] = refl
  sum-images f g (x ∷ xs) =
      let rest = sum-images f g xs in
      sum_by-cons f (g x) (map g xs) ∙ ap (λ (n : ℕ). f (g x) + n) rest ∙ sym (sum_by-cons (λ y. f (g y)) x xs)

  pub sum-kept : (f : X → ℕ) (p : X → Bool) (xs : List X) → sum_by f (filter p xs) ≡ sum_by (λ x. if p x then f x else 0) xs
  sum-kept f p [] = refl
  sum-kept f p (x ∷ xs) =
      let rest = sum-kept f p xs in
      either (p x) (λ b. sum_by f (cond b (x ∷ filter p xs) (filter p xs)) ≡ (if b then f x else 0) + sum_by (λ y. if p y then f y else 0) xs)
      (λ _. sum_by-cons f x (filter p xs) ∙ ap (λ (n : ℕ). f x + n) rest) (λ _. rest ∙ none (sum_by (λ y. if p y then f y else 0) xs))
      ∙ sym (sum_by-cons (λ y. if p y then f y else 0) x xs)
    where
      none : (n : ℕ) → n ≡ 0 + n
      none n = omega arith

  pub sum-less : (f g h : X → ℕ) (xs : List X) → All (λ x. f x + g x ≤ h x) xs → sum_by f xs + sum_by g xs ≤ sum_by h xs
  sum-less f g h [] all = omega arith
  sum-less f g h (x ∷ xs) all =
      let here = All-head (λ y. f y + g y ≤ h y) x xs all in
      let rest = sum-less f g h xs (All-tail (λ y. f y + g y ≤ h y) x xs all) in
      sums (f x) (g x) (h x) (sum_by f xs) (sum_by g xs) (sum_by h xs) (sum_by f (x ∷ xs)) (sum_by g (x ∷ xs)) (sum_by h (x ∷ xs)) here rest (sum_by-cons f x xs) (sum_by-cons g x xs) (sum_by-cons h x xs)
    where
      sums : (a b c d e k x y z : ℕ) → a + b ≤ c → d + e ≤ k → x ≡ a + d → y ≡ b + e → z ≡ c + k → x + y ≤ z
      sums a b c d e k x y z h i u v w = omega (arith, h, i, u, v, w)

times-less : (a b c : ℕ) → a ≤ b → c * a ≤ c * b
times-less a b zero h = omega arith
times-less a b (suc c) h = let rest = times-less a b c h in grind (arith, h, rest)

-- one triple less, in each of some stores
one-less : (k t x y : ℕ) → 1 + x ≤ y → t + (k + t) * x ≤ (k + t) * y
one-less k t x y h = let more = times-less (1 + x) y (k + t) h in spread k t x ((k + t) * y) more
  where
    spread : (k t x z : ℕ) → (k + t) * (1 + x) ≤ z → t + (k + t) * x ≤ z
    spread k t x z h = grind (arith, h)

module _ (s : State) (legal : IsNearlyLegal s) (in_rows : All (λ b. b.column ≡ false) s.schema.attributes) (other entity : EntityId) where
  abbrev T : State
  T = record s { triples = filter (is_unreferring s.schema other entity) s.triples }

  abbrev is_reference : Attribute → Bool
  is_reference a = same_value (value_at a.number other s.triples) (Entity entity)

  -- ---- rows of entities

  left-never : (v : Value) → same_value (left_of (Some entity) v) (Entity entity) ≡ false
  left-never v = either (same_value v (Entity entity)) (λ b. same_value v (Entity entity) ≡ b → same_value (if b then Null else v) (Entity entity) ≡ false) (λ _ _. refl) (λ _ k. k) refl

  -- the one's row doesn't refer to the other one
  none-left : refers_in_row T entity other ≡ false
  none-left =
      let columns = filter is_cell (attributes_in s.schema other.ty) in
      let none : list_any (λ a. same_value (value_at a.number other T.triples) (Entity entity)) columns ≡ false =
      list_any_none (λ a. same_value (value_at a.number other T.triples) (Entity entity)) columns
      (λ k d l.
      let column = all-columns s legal in_rows other entity k d l in
      let a = slice_index_or columns k d in
      ap (λ (v : Value). same_value v (Entity entity)) (value-left s legal in_rows other entity a.number a column.found column.single) ∙ left-never (value_at a.number other s.triples)) in
      nothing (not (same_entity other entity)) (list_any (λ a. same_value (value_at a.number other T.triples) (Entity entity)) columns) none
    where
      nothing : (a b : Bool) → b ≡ false → (a && b) ≡ false
      nothing true b h = h
      nothing false b h = refl

  -- each other row refers to it where it did
  rows-elsewhere : (x : EntityId) → same_entity x other ≡ false → refers_in_row T entity x ≡ refers_in_row s entity x
  rows-elsewhere x apart =
      ap (λ (f : ℕ → Value). not (same_entity x entity) && list_any (λ a. same_value (f a.number) (Entity entity)) (filter (λ a. not a.many && not a.column) (attributes_in s.schema x.ty)))
      (λ i number. value-elsewhere s legal in_rows other entity x apart number i)

  no-others : (x : EntityId) → refers_in_row T entity x ≡ true → refers_in_row s entity x ≡ true
  no-others x h =
      either (same_entity x other) (λ _. refers_in_row s entity x ≡ true)
      (λ k. absurd (true≢false (sym (subst (λ y. refers_in_row T entity y ≡ true) (same_entity-is x other k) h) ∙ none-left)))
      (λ k. sym (rows-elsewhere x k) ∙ h)

  module _ (live : is_live s other ≡ true) (apart : same_entity other entity ≡ false) (has : list_any (goes (Some entity)) (entity_row s other).cells ≡ true) where
    referred : refers_in_row s entity other ≡ true
    referred =
        both (not (same_entity other entity)) (list_any is_reference (filter is_cell (attributes_in s.schema other.ty))) (ap not apart)
        (sym (any-images (goes (Some entity)) (λ a. value_at a.number other s.triples) (filter is_cell (attributes_in s.schema other.ty))) ∙ has)

    rows-fewer : 1 + referring_rows T entity ≤ referring_rows s entity
    rows-fewer = fewer-pass (refers_in_row T entity) (refers_in_row s entity) no-others other s.live (live-member other s.live live) none-left referred

  -- ---- rows of triples

  abbrev spoken : Attribute → List Triple
  spoken a = filter (speaks_of entity) (filter (λ t. t.attribute == a.number) s.triples)

  -- those that speak of it are those that did, but for its references
  spoken-left : (a : Attribute) → filter (speaks_of entity) (filter (λ t. t.attribute == a.number) T.triples) ≡ filter (is_unreferring s.schema other entity) (spoken a)
  spoken-left a =
      ap (filter (speaks_of entity)) (filter-swap (is_unreferring s.schema other entity) (λ t. t.attribute == a.number) s.triples)
      ∙ filter-swap (is_unreferring s.schema other entity) (speaks_of entity) (filter (λ t. t.attribute == a.number) s.triples)

  count-left : (a : Attribute) → spoken_count T entity a ≡ length (filter (is_unreferring s.schema other entity) (spoken a))
  count-left a = ap (λ (l : List Triple). length l) (spoken-left a)

  no-more-spoken : (a : Attribute) → spoken_count T entity a ≤ spoken_count s entity a
  no-more-spoken a = let is = count-left a in let less = no-more-pass (is_unreferring s.schema other entity) (spoken a) in omega (arith, is, less)

  one-less-spoken : (a : Attribute) → attribute s.schema a.number ≡ Some a → a.many ≡ false → is_reference a ≡ true → 1 + spoken_count T entity a ≤ spoken_count s entity a
  one-less-spoken a f one h = by (find (is_at a.number other) s.triples) refl h
    where
      by : (o : Option Triple) → find (is_at a.number other) s.triples ≡ o → same_value (value_in o) (Entity entity) ≡ true → 1 + spoken_count T entity a ≤ spoken_count s entity a
      by None g k = absurd (true≢false (sym k))
      by (Some u) g k =
          let at_u = find-passes (is_at a.number other) u s.triples g in
          let its = left (u.attribute == a.number) (same_entity u.entity other) at_u in
          let of = right (u.attribute == a.number) (same_entity u.entity other) at_u in
          let number : attribute s.schema u.attribute ≡ Some a = ap (attribute s.schema) (number-is u.attribute a.number its) ∙ f in
          let there : Member u (spoken a) =
          filter-member (speaks_of entity) u (filter (λ t. t.attribute == a.number) s.triples)
          (filter-member (λ t. t.attribute == a.number) u s.triples (find-member (is_at a.number other) u s.triples g) its)
          (one-of (same_entity u.entity entity) (same_value u.value (Entity entity)) k) in
          let gone : is_unreferring s.schema other entity u ≡ false =
          ap not (both (same_entity u.entity other) (same_value u.value (Entity entity) && is_single s.schema u) of
          (both (same_value u.value (Entity entity)) (is_single s.schema u) k (ap (passes (λ b. not b.many)) number ∙ ap not one))) in
          let is = count-left a in
          let less = one-fails (is_unreferring s.schema other entity) u (spoken a) there gone in
          omega (arith, is, less)

  -- how many rows go of an attribute's index and inverse
  abbrev turned : Attribute → ℕ
  turned a = if isa s.schema other.ty a.owner then (if is_cell a then (if is_reference a then turned_by (attribute s.schema a.number) else 0) else 0) else 0

  gone-sum : gone_rows s.schema (gone_cells s.schema other (Some entity) (entity_row s other).cells) ≡ sum_by turned s.schema.attributes
  gone-sum =
      let columns = filter is_cell (attributes_in s.schema other.ty) in
      let rows : Triple → ℕ = λ t. turned_by (attribute s.schema t.attribute) in
      let of : Attribute → ℕ = λ a. turned_by (attribute s.schema a.number) in
      ap (sum_by rows) (gone-cells s legal in_rows other entity)
      ∙ sum-images rows (cell_triple other (λ a. value_at a.number other s.triples)) (filter is_reference columns)
      ∙ sum-kept of is_reference columns
      ∙ sum-kept (λ a. if is_reference a then of a else 0) is_cell (attributes_in s.schema other.ty)
      ∙ sum-kept (λ a. if is_cell a then (if is_reference a then of a else 0) else 0) (λ a. isa s.schema other.ty a.owner) s.schema.attributes

  attribute-fewer : (a : Attribute) → attribute s.schema a.number ≡ Some a → turned a + keyed_count a * spoken_count T entity a ≤ keyed_count a * spoken_count s entity a
  attribute-fewer a f =
      let keyed = keyed_count a in
      let before = spoken_count s entity a in
      let behind = spoken_count T entity a in
      let same : 0 + keyed * behind ≤ keyed * before = let less = times-less behind before keyed (no-more-spoken a) in omega (arith, less) in
      either (isa s.schema other.ty a.owner)
      (λ b. (if b then (if is_cell a then (if is_reference a then turned_by (attribute s.schema a.number) else 0) else 0) else 0) + keyed * behind ≤ keyed * before)
      (λ _. either (is_cell a) (λ b. is_cell a ≡ b → (if b then (if is_reference a then turned_by (attribute s.schema a.number) else 0) else 0) + keyed * behind ≤ keyed * before)
      (λ _ cell. either (is_reference a) (λ b. (if b then turned_by (attribute s.schema a.number) else 0) + keyed * behind ≤ keyed * before)
      (λ h.
      subst (λ o. turned_by o + keyed * behind ≤ keyed * before) (sym f)
      (one-less (kept_count Set a) (turned_count a) behind before (one-less-spoken a f (not-true a.many (left (not a.many) (not a.column) cell)) h)))
      (λ _. same)) (λ _ _. same) refl) (λ _. same)

  spoken-fewer : gone_rows s.schema (gone_cells s.schema other (Some entity) (entity_row s other).cells) + spoken_rows T entity ≤ spoken_rows s entity
  spoken-fewer =
      let less =
      sum-less turned (λ a. keyed_count a * spoken_count T entity a) (λ a. keyed_count a * spoken_count s entity a) s.schema.attributes
      (λ k d l. attribute-fewer (slice_index_or s.schema.attributes k d) (each-found s.schema.attributes legal.consistent.numbers k d l)) in
      let is = gone-sum in
      omega (arith, is, less)

  -- its own row, those of its references in indexes and inverses, and those that are left
  pub all-counted : is_live s other ≡ true → same_entity other entity ≡ false → list_any (goes (Some entity)) (entity_row s other).cells ≡ true
      → 1 + gone_rows s.schema (gone_cells s.schema other (Some entity) (entity_row s other).cells) + tally (record s { triples = filter (is_unreferring s.schema other entity) s.triples }) entity ≤ tally s entity
  all-counted live apart has = let rows = rows-fewer live apart has in let triples = spoken-fewer in omega (arith, rows, triples)
