-- Which stores a schema has: the extents of its types, and of its attributes the stores of the kinds that they keep.
use Rattle.std.proofs.Common.{◌≡◌, ℕ, zero, suc, ◌+◌, ◌<◌, ◌≤◌, ◌==◌, true, cond, List, [], ◌∷◌, ◌++◌, get_or, length, Option, Some, None, refl, sym, subst, inl, inr, arith, true≢false}
use Rattle.std.specs.Prelude.{◌⊎◌, nat_lt, filter, map}
use Rattle.std.specs.List.{All, range_with_len}
use Rattle.std.proofs.lemmas.Bool.Decides.{nat_tests}
use Rattle.std.proofs.lemmas.List.Elements.{All-append, All-cons, All-head, All-nil, All-tail}
use Rattle.st_values.proofs.Tests.{either}
use Rattle.st_lattice.specs.declared.attribute.Attribute.{Attribute}
use Rattle.st_lattice.specs.declared.stores.StoreKind.{StoreKind}
use Rattle.st_lattice.specs.declared.stores.StoreKind.TheVariants.{Extent, Set, Index, Inverse, Column}
use Rattle.st_lattice.specs.Outline.{IsOrderly, Outline, attribute}
use Rattle.st_lattice.specs.Lattice.{below}
use Rattle.st_lattice.specs.Stores.{keeps_one, store, stores_below, stores_of}
use Rattle.st_pages.specs.declared.places.Place.{Place}
use Rattle.st_catalog.specs.Stores.{AreOf}
use Rattle.st_schema_bytes.specs.SchemaBytes.{IsReadable}
use Rattle.st_state.proofs.Changed.{number-is}
use Rattle.st_state.proofs.Members.{find-passes}
use Rattle.st_standing.proofs.Fitting.{found-holds, all-passed}
use Rattle.st_standing.proofs.Numbered.{numbers-below}

-- a store is one of a kind that an attribute keeps
abbrev pub IsKept : Outline → StoreKind → ℕ → Type 0
IsKept schema kind t = (number : ℕ) × (t ≡ store kind number) × (keeps_one kind (attribute schema number) ≡ true)

-- a store is an extent of a type, or one of an attribute
abbrev pub IsStoreOf : Outline → ℕ → Type 0
IsStoreOf schema t = (t < length schema.names) ⊎ (IsKept schema Set t ⊎ (IsKept schema Index t ⊎ (IsKept schema Inverse t ⊎ IsKept schema Column t)))

extents-are : (schema : Outline) (from many : ℕ) → from + many ≤ length schema.names → All (IsStoreOf schema) (map (store Extent) (range_with_len from many))
extents-are schema from zero h = All-nil (IsStoreOf schema)
extents-are schema from (suc many) h =
    All-cons (IsStoreOf schema) (store Extent from) (map (store Extent) (range_with_len (from + 1) many)) (inl (omega (arith, h))) (extents-are schema (from + 1) many (omega (arith, h)))

kept-are : (schema : Outline) (kind : StoreKind) → ((t : ℕ) → IsKept schema kind t → IsStoreOf schema t) → (ns : List ℕ) → All (IsStoreOf schema) (map (store kind) (filter (λ number. keeps_one kind (attribute schema number)) ns))
kept-are schema kind is [] = All-nil (IsStoreOf schema)
kept-are schema kind is (n ∷ ns) =
    let rest = kept-are schema kind is ns in
    either (keeps_one kind (attribute schema n)) (λ b. All (IsStoreOf schema) (map (store kind) (cond b (n ∷ filter (λ number. keeps_one kind (attribute schema number)) ns) (filter (λ number. keeps_one kind (attribute schema number)) ns))))
    (λ k. All-cons (IsStoreOf schema) (store kind n) (map (store kind) (filter (λ number. keeps_one kind (attribute schema number)) ns)) (is (store kind n) (n, refl, k)) rest)
    (λ _. rest)

stores-are : (schema : Outline) → All (IsStoreOf schema) (stores_of schema)
stores-are schema =
    let P = IsStoreOf schema in
    let ns = below schema.next in
    let extents = map (store Extent) (below (length schema.names)) in
    let sets = stores_below schema Set schema.next in
    let indexes = stores_below schema Index schema.next in
    let inverses = stores_below schema Inverse schema.next in
    let columns = stores_below schema Column schema.next in
    All-append P (((extents ++ sets) ++ indexes) ++ inverses) columns
    (All-append P ((extents ++ sets) ++ indexes) inverses
    (All-append P (extents ++ sets) indexes
    (All-append P extents sets (extents-are schema 0 (length schema.names) (omega arith)) (kept-are schema Set (λ t k. inr (inl k)) ns))
    (kept-are schema Index (λ t k. inr (inr (inl k))) ns))
    (kept-are schema Inverse (λ t k. inr (inr (inr (inl k)))) ns))
    (kept-are schema Column (λ t k. inr (inr (inr (inr k)))) ns)

by-store : (P : ℕ → Type 0) (places : List Place) → All P (map (λ p. p.store) places) → All (λ p. P p.store) places
by-store P [] all = All-nil (λ p. P p.store)
by-store P (p ∷ ps) all = All-cons (λ q. P q.store) p ps (All-head P p.store (map (λ q. q.store) ps) all) (by-store P ps (All-tail P p.store (map (λ q. q.store) ps) all))

-- so is each store of places that are of a schema
pub places-are : (schema : Outline) (places : List Place) → AreOf schema places → All (λ p. IsStoreOf schema p.store) places
places-are schema places of = by-store (IsStoreOf schema) places (subst (All (IsStoreOf schema)) (sym of.stores) (stores-are schema))

-- an attribute that is there has a number below 65,536
pub attribute-number : (schema : Outline) (number : ℕ) (a : Attribute) → IsReadable schema → IsOrderly schema → attribute schema number ≡ Some a → number < 65536
attribute-number schema number a readable orderly f =
    let below = found-holds (λ b. nat_lt b.number schema.next ≡ true) (λ b. b.number == number) schema.attributes a (all-passed (λ b. nat_lt b.number schema.next) schema.attributes (numbers-below schema readable)) f in
    let is = number-is a.number number (find-passes (λ b. b.number == number) a schema.attributes f) in
    less a.number number schema.next below is orderly.next
  where
    less : (m n top : ℕ) → nat_lt m top ≡ true → m ≡ n → top < 65536 → n < 65536
    less m n top h e t = let k : m < top = grind (arith, nat_tests, h) in omega (arith, k, e, t)

-- so has each
pub all-numbers : (schema : Outline) → IsReadable schema → IsOrderly schema → All (λ a. a.number < 65536) schema.attributes
all-numbers schema readable orderly k d w =
    less (get_or schema.attributes k d).number schema.next (all-passed (λ b. nat_lt b.number schema.next) schema.attributes (numbers-below schema readable) k d w) orderly.next
  where
    less : (m top : ℕ) → nat_lt m top ≡ true → top < 65536 → m < 65536
    less m top h t = let k : m < top = grind (arith, nat_tests, h) in omega (arith, k, t)

-- so has one that keeps a store
pub kept-number : (schema : Outline) (kind : StoreKind) (number : ℕ) → IsReadable schema → IsOrderly schema → keeps_one kind (attribute schema number) ≡ true → number < 65536
kept-number schema kind number readable orderly kept = by (attribute schema number) refl kept
  where
    by : (o : Option Attribute) → attribute schema number ≡ o → keeps_one kind o ≡ true → number < 65536
    by None f h = absurd (true≢false (sym h))
    by (Some a) f h = attribute-number schema number a readable orderly f
