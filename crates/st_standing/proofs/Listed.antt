-- Which stores a schema has, and which rows of a state stand in them.
use Rattle.std.proofs.Common.{◌≡◌, ℕ, zero, suc, ◌+◌, ◌*◌, ◌<◌, ◌≤◌, Bool, true, false, List, [], ◌∷◌, ◌++◌, length, Some, refl, sym, ap, subst, ◌∙◌, arith, true≢false}
use Rattle.std.specs.Prelude.{◌==◌, ◌/◌, ◌%◌, ◌||◌, if◌then◌else◌, map, filter, nat_lt, not}
use Rattle.std.specs.List.{All, list_any, range_with_len}
use Rattle.std.proofs.lemmas.Bool.Decides.{nat_tests}
use Rattle.std.proofs.lemmas.List.Elements.{All-head, All-tail}
use Rattle.std.proofs.lemmas.List.Folds.{list_any-append}
use Rattle.st_values.proofs.Tests.{all-each, any-kept, either, first-of, one-of}
use Rattle.st_lattice.specs.declared.attribute.Attribute.{Attribute}
use Rattle.st_lattice.specs.declared.stores.StoreKind.{StoreKind}
use Rattle.st_lattice.specs.declared.stores.StoreKind.TheVariants.{Extent, Set, Index, Inverse, Column}
use Rattle.st_lattice.specs.Lattice.{below}
use Rattle.st_lattice.specs.Outline.{Outline, attribute}
use Rattle.st_lattice.specs.Stores.{keeps_one, store, stores_below, stores_of}
use Rattle.st_state.specs.State.{State}
use Rattle.st_state.proofs.Changed.{number-is, number-itself}
use Rattle.st_standing.specs.Standing.{attribute_rows, extent_rows, rows_at, triples_of, value_rows}

-- ---- numbers in lists

-- whether a number is among some
abbrev pub is_in : ℕ → List ℕ → Bool
is_in x xs = list_any (λ y. y == x) xs

pub in-holds : (P : ℕ → Type 0) (x : ℕ) (xs : List ℕ) → All P xs → is_in x xs ≡ true → P x
in-holds P x [] all h = absurd (true≢false (sym h))
in-holds P x (y ∷ ys) all h =
    either (y == x) (λ b. (b || is_in x ys) ≡ true → P x) (λ k _. subst P (number-is y x k) (All-head P y ys all)) (λ _ m. in-holds P x ys (All-tail P y ys all) m) h

in-left : (x : ℕ) (xs ys : List ℕ) → is_in x xs ≡ true → is_in x (xs ++ ys) ≡ true
in-left x xs ys h = list_any-append (λ y. y == x) xs ys ∙ first-of (is_in x xs) (is_in x ys) h

in-right : (x : ℕ) (xs ys : List ℕ) → is_in x ys ≡ true → is_in x (xs ++ ys) ≡ true
in-right x xs ys h = list_any-append (λ y. y == x) xs ys ∙ one-of (is_in x xs) (is_in x ys) h

in-map : (f : ℕ → ℕ) (x : ℕ) (xs : List ℕ) → is_in x xs ≡ true → is_in (f x) (map f xs) ≡ true
in-map f x [] h = h
in-map f x (y ∷ ys) h =
    either (y == x) (λ b. (b || is_in x ys) ≡ true → ((f y == f x) || is_in (f x) (map f ys)) ≡ true)
    (λ k _. first-of (f y == f x) (is_in (f x) (map f ys)) (subst (λ z. (f y == f z) ≡ true) (number-is y x k) (number-itself (f y))))
    (λ _ m. one-of (f y == f x) (is_in (f x) (map f ys)) (in-map f x ys m)) h

in-filter : (p : ℕ → Bool) (x : ℕ) (xs : List ℕ) → p x ≡ true → is_in x xs ≡ true → is_in x (filter p xs) ≡ true
in-filter p x xs h k =
    any-kept (λ y. y == x) p xs k
    (all-each (λ y. not (y == x) || p y) xs
    (λ y. either (y == x) (λ b. (not b || p y) ≡ true) (λ m. subst (λ z. p z ≡ true) (sym (number-is y x m)) h) (λ m. refl)))

differ-less : (a x : ℕ) → (a == x) ≡ false → a ≤ x → a + 1 ≤ x
differ-less a x h k = grind (arith, nat_tests, h, k)

in-range : (x a n : ℕ) → a ≤ x → x < a + n → is_in x (range_with_len a n) ≡ true
in-range x a zero h k = absurd (omega (arith, h, k))
in-range x a (suc n) h k =
    either (a == x) (λ b. (a == x) ≡ b → (b || is_in x (range_with_len (a + 1) n)) ≡ true) (λ _ _. refl)
    (λ _ m. in-range x (a + 1) n (differ-less a x m h) (omega (arith, k))) refl

in-below : (x n : ℕ) → x < n → is_in x (below n) ≡ true
in-below x n h = in-range x 0 n (omega arith) (omega (arith, h))

-- ---- the stores of a schema

in-kind : (schema : Outline) (kind : StoreKind) (n : ℕ) → n < schema.next → keeps_one kind (attribute schema n) ≡ true → is_in (store kind n) (stores_below schema kind schema.next) ≡ true
in-kind schema kind n h k =
    in-map (store kind) n (filter (λ number. keeps_one kind (attribute schema number)) (below schema.next))
    (in-filter (λ number. keeps_one kind (attribute schema number)) n (below schema.next) k (in-below n schema.next h))

module _ (schema : Outline) where
  abbrev extents_first : List ℕ
  extents_first = map (store Extent) (below (length schema.names))

  abbrev kind_stores : StoreKind → List ℕ
  kind_stores kind = stores_below schema kind schema.next

  -- each type has an extent, and each attribute the stores that it keeps
  pub has-extent : (ty : ℕ) → ty < length schema.names → is_in (store Extent ty) (stores_of schema) ≡ true
  has-extent ty h =
      let one = in-map (store Extent) ty (below (length schema.names)) (in-below ty (length schema.names) h) in
      in-left (store Extent ty) (((extents_first ++ kind_stores Set) ++ kind_stores Index) ++ kind_stores Inverse) (kind_stores Column)
      (in-left (store Extent ty) ((extents_first ++ kind_stores Set) ++ kind_stores Index) (kind_stores Inverse)
      (in-left (store Extent ty) (extents_first ++ kind_stores Set) (kind_stores Index) (in-left (store Extent ty) extents_first (kind_stores Set) one)))

  pub has-set : (n : ℕ) → n < schema.next → keeps_one Set (attribute schema n) ≡ true → is_in (store Set n) (stores_of schema) ≡ true
  has-set n h k =
      in-left (store Set n) (((extents_first ++ kind_stores Set) ++ kind_stores Index) ++ kind_stores Inverse) (kind_stores Column)
      (in-left (store Set n) ((extents_first ++ kind_stores Set) ++ kind_stores Index) (kind_stores Inverse)
      (in-left (store Set n) (extents_first ++ kind_stores Set) (kind_stores Index) (in-right (store Set n) extents_first (kind_stores Set) (in-kind schema Set n h k))))

  pub has-index : (n : ℕ) → n < schema.next → keeps_one Index (attribute schema n) ≡ true → is_in (store Index n) (stores_of schema) ≡ true
  has-index n h k =
      in-left (store Index n) (((extents_first ++ kind_stores Set) ++ kind_stores Index) ++ kind_stores Inverse) (kind_stores Column)
      (in-left (store Index n) ((extents_first ++ kind_stores Set) ++ kind_stores Index) (kind_stores Inverse) (in-right (store Index n) (extents_first ++ kind_stores Set) (kind_stores Index) (in-kind schema Index n h k)))

  pub has-column : (n : ℕ) → n < schema.next → keeps_one Column (attribute schema n) ≡ true → is_in (store Column n) (stores_of schema) ≡ true
  has-column n h k =
      in-right (store Column n) (((extents_first ++ kind_stores Set) ++ kind_stores Index) ++ kind_stores Inverse) (kind_stores Column) (in-kind schema Column n h k)

-- ---- the rows of a state in them

less : (m n : ℕ) → m < n → nat_lt m n ≡ true
less m n h = grind (arith, nat_tests, h)

not-less : (m n : ℕ) → n ≤ m → nat_lt m n ≡ false
not-less m n h = grind (arith, nat_tests, h)

number-of-kind : (k n : ℕ) → n < 65536 → (k * 65536 + n) / 65536 ≡ k
number-of-kind k n h = omega (arith, h)

number-in-kind : (k n : ℕ) → n < 65536 → (k * 65536 + n) % 65536 ≡ n
number-in-kind k n h = omega (arith, h)

pub extent-number : (ty : ℕ) → store Extent ty ≡ ty
extent-number ty = omega arith

pub rows-extent : (s : State) (ty : ℕ) → ty < 65536 → rows_at s (store Extent ty) ≡ extent_rows s ty
rows-extent s ty h =
    ap (rows_at s) (extent-number ty) ∙ ap (λ b. if b then extent_rows s ty else attribute_rows s (ty / 65536) (attribute s.schema (ty % 65536))) (less ty 65536 h)

rows-attribute : (s : State) (k n : ℕ) → 0 < k → n < 65536 → rows_at s (k * 65536 + n) ≡ attribute_rows s k (attribute s.schema n)
rows-attribute s k n p h =
    λ i. if not-less (k * 65536 + n) 65536 (omega (arith, p)) i then extent_rows s (k * 65536 + n)
    else attribute_rows s (number-of-kind k n h i) (attribute s.schema (number-in-kind k n h i))

module _ (s : State) (a : Attribute) (f : attribute s.schema a.number ≡ Some a) (h : a.number < 65536) where
  pub rows-set : rows_at s (store Set a.number) ≡ value_rows a.kind (triples_of a.number s.triples)
  rows-set = rows-attribute s 1 a.number (omega arith) h ∙ ap (attribute_rows s 1) f

  pub rows-column : rows_at s (store Column a.number) ≡ value_rows a.kind (triples_of a.number s.triples)
  rows-column = rows-attribute s 4 a.number (omega arith) h ∙ ap (attribute_rows s 4) f
