-- Pages that are those of both chains have the schema, and the places of its stores.
use Rattle.std.proofs.Common.{◌≡◌, ℕ, zero, suc, ◌+◌, ◌^◌, ◌<◌, ◌≤◌, true, List, [], ◌∷◌, ◌++◌, length, take, drop, Some, refl, sym, ap, subst, ◌∙◌, arith}
use Rattle.std.proofs.lemmas.Bool.{and_parts}
use Rattle.std.proofs.lemmas.List.{length-append, length-take, take-append-drop}
use Rattle.std.proofs.lemmas.List.Elements.{All-append, All-cons, All-filter, All-head, All-map, All-nil, All-tail, All-weaker}
use borrow.Author.Tests.{ltb-true}
use Rattle.std.specs.Prelude.{map, filter, nat_lt, slice_get}
use Rattle.std.specs.List.{All, list_all, range_with_len, zip}
use Rattle.std.specs.Str.{IsUtf8}
use Rattle.st_values.specs.Arranged.{ascends, each_pair}
use Rattle.st_lattice.specs.declared.stores.StoreKind.{StoreKind}
use Rattle.st_lattice.specs.declared.stores.StoreKind.TheVariants.{Extent, Set, Index, Inverse, Column}
use Rattle.st_lattice.specs.Outline.{Outline, IsOrderly, attribute}
use Rattle.st_lattice.specs.Stores.{kind_number, store, keeps_one, stores_below, stores_of}
use Rattle.st_pages.specs.Attempt.{Array}
use Rattle.st_pages.specs.declared.places.Place.{Place}
use Rattle.st_schema.specs.Canonical.{canonical}
use Rattle.st_schema_bytes.specs.SchemaBytes.{schema_bytes, schema_text, IsReadable}
use Rattle.st_schema_bytes.proofs.ByteLaws.{short-bytes}
use Rattle.st_catalog.specs.Stores.{IsPlaced, placed}
use Rattle.st_catalog.specs.declared.root.Root.{Root}
use Rattle.st_catalog.specs.Catalog.{root_at, Has}
use Rattle.st_new_database.specs.New.{roots_of, pages_for, chain_of, database_pages, root, places_of}
use Rattle.st_new_database.proofs.Chained.{chain-length, within-pages}
use Rattle.st_new_database.proofs.Sizes.{few-stores}
use Rattle.st_new_database.proofs.Texts.{utf8-sound, schema-sound, schema-some}
use Rattle.st_new_database.proofs.Linked.{Stands, stands-from, stands-front, stands-behind}
use Rattle.st_new_database.proofs.Pieces.{spelled-schema}
use Rattle.st_new_database.proofs.Rooted.{Rises, AreSmall, bytes_of, rooted, size-of}

-- ---- the numbers of stores

range-below : (a n b : ℕ) → a + n ≤ b → All (λ (k : ℕ). k < b) (range_with_len a n)
range-below a zero b h = All-nil (λ (k : ℕ). k < b)
range-below a (suc n) b h = All-cons (λ (k : ℕ). k < b) a (range_with_len (a + 1) n) (omega arith) (range-below (a + 1) n b (omega arith))

five-kinds : (kind : StoreKind) → kind_number kind < 5
five-kinds Extent = omega arith
five-kinds Set = omega arith
five-kinds Index = omega arith
five-kinds Inverse = omega arith
five-kinds Column = omega arith

small-numbers : (kind : StoreKind) (ks : List ℕ) → All (λ (k : ℕ). k < 65536) ks → All (λ (s : ℕ). s < 2 ^ 32) (map (store kind) ks)
small-numbers kind ks h =
    All-map (λ (s : ℕ). s < 2 ^ 32) (store kind) ks
    (All-weaker (λ (k : ℕ). k < 65536) (λ (k : ℕ). store kind k < 2 ^ 32) (λ k low. omega (arith, low, five-kinds kind)) ks h)

small-below : (schema : Outline) (kind : StoreKind) → schema.next < 65536 → All (λ (s : ℕ). s < 2 ^ 32) (stores_below schema kind schema.next)
small-below schema kind h =
    small-numbers kind (filter (λ number. keeps_one kind (attribute schema number)) (range_with_len 0 schema.next))
    (All-filter (λ number. keeps_one kind (attribute schema number)) (λ (k : ℕ). k < 65536) (range_with_len 0 schema.next) (range-below 0 schema.next 65536 (omega arith)))

small-stores : (schema : Outline) → IsOrderly schema → All (λ (s : ℕ). s < 2 ^ 32) (stores_of schema)
small-stores schema orderly =
    let few : length schema.names ≤ 64 = orderly.few_types in
    let low : schema.next < 65536 = orderly.next in
    let P : ℕ → Type 0 = λ s. s < 2 ^ 32 in
    let types : List ℕ = map (store Extent) (range_with_len 0 (length schema.names)) in
    let sets : List ℕ = stores_below schema Set schema.next in
    let indexes : List ℕ = stores_below schema Index schema.next in
    let inverses : List ℕ = stores_below schema Inverse schema.next in
    All-append P (types ++ sets ++ indexes ++ inverses) (stores_below schema Column schema.next)
    (All-append P (types ++ sets ++ indexes) inverses
    (All-append P (types ++ sets) indexes
    (All-append P types sets (small-numbers Extent (range_with_len 0 (length schema.names)) (range-below 0 (length schema.names) 65536 (omega arith))) (small-below schema Set low))
    (small-below schema Index low)) (small-below schema Inverse low)) (small-below schema Column low)

small-roots : (ss fs : List ℕ) → All (λ (s : ℕ). s < 2 ^ 32) ss → All (λ (f : ℕ). f < 65536) fs → AreSmall (roots_of ss fs)
small-roots [] fs h k = tt
small-roots (s ∷ ss) [] h k = tt
small-roots (s ∷ ss) (f ∷ fs) h k =
    (All-head (λ (s : ℕ). s < 2 ^ 32) s ss h, All-head (λ (f : ℕ). f < 65536) f fs k, small-roots ss fs (All-tail (λ (s : ℕ). s < 2 ^ 32) s ss h) (All-tail (λ (f : ℕ). f < 65536) f fs k))

-- the first of some numbers, if there is one, isn't below another
FromFirst : ℕ → List ℕ → Type 0
FromFirst low [] = Unit {0}
FromFirst low (s ∷ ss) = low ≤ s

first-above : (s : ℕ) (ss : List ℕ) → list_all (nat_lt s) ss ≡ true → FromFirst (s + 1) ss
unfolding FromFirst
first-above s [] h = tt
first-above s (t ∷ ss) h = let less : s < t = ltb-true s t (and_parts (nat_lt s t) (list_all (nat_lt s) ss) h).0 in omega (arith, less)

rising-roots : (low : ℕ) (ss fs : List ℕ) → each_pair nat_lt ss ≡ true → FromFirst low ss → Rises low (roots_of ss fs)
unfolding FromFirst
rising-roots low [] fs h k = tt
rising-roots low (s ∷ ss) [] h k = tt
rising-roots low (s ∷ ss) (f ∷ fs) h k =
    let p = and_parts (list_all (nat_lt s) ss) (each_pair nat_lt ss) h in
    (k, rising-roots (s + 1) ss fs p.1 (first-above s ss p.0))

from-zero : (ss : List ℕ) → FromFirst 0 ss
unfolding FromFirst
from-zero [] = tt
from-zero (s ∷ ss) = omega arith

few-roots : (ss fs : List ℕ) → length (roots_of ss fs) ≤ length ss
few-roots [] fs = omega arith
few-roots (s ∷ ss) [] = omega arith
few-roots (s ∷ ss) (f ∷ fs) = omega (arith, few-roots ss fs)

-- ---- the places

places : Outline → List ℕ → List ℕ → List Place
places schema ss fs = map (λ pair. placed schema (root pair.0 pair.1)) (zip ss fs)

places-roots : (schema : Outline) (ss fs : List ℕ) → map root_at (places schema ss fs) ≡ roots_of ss fs
unfolding places
places-roots schema [] fs = refl
places-roots schema (s ∷ ss) [] = refl
places-roots schema (s ∷ ss) (f ∷ fs) = ap (λ (rest : List Root). record { store = s; first = f } ∷ rest) (places-roots schema ss fs)

places-stores : (schema : Outline) (ss fs : List ℕ) → length fs ≡ length ss → map (λ (p : Place). p.store) (places schema ss fs) ≡ ss
unfolding places
places-stores schema [] fs h = refl
places-stores schema (s ∷ ss) [] h = absurd (omega arith)
places-stores schema (s ∷ ss) (f ∷ fs) h = ap (λ (rest : List ℕ). s ∷ rest) (places-stores schema ss fs (omega arith))

places-placed : (schema : Outline) (ss fs : List ℕ) → All (λ (f : ℕ). f < 65536) fs → All (IsPlaced schema) (places schema ss fs)
unfolding places
places-placed schema [] fs h = All-nil (IsPlaced schema)
places-placed schema (s ∷ ss) [] h = All-nil (IsPlaced schema)
places-placed schema (s ∷ ss) (f ∷ fs) h =
    All-cons (IsPlaced schema) (placed schema (root s f)) (places schema ss fs) (record { key = refl; width = refl; first = All-head (λ (f : ℕ). f < 65536) f fs h })
    (places-placed schema ss fs (All-tail (λ (f : ℕ). f < 65536) f fs h))

-- ---- all of it

one-taken : (kind unit second : ℕ) (bytes : List ℕ) → length (take 1 (chain_of kind unit second bytes)) ≡ 1
one-taken kind unit second bytes = omega (arith, length-take 1 (chain_of kind unit second bytes), chain-length kind unit second bytes)

stands-at : (pages : Array) (images : List (List ℕ)) (n m : ℕ) → n ≡ m → Stands pages n images → Stands pages m images
stands-at pages images n m e h = subst (λ (k : ℕ). Stands pages k images) e h

pub new-has : (schema : Outline) (firsts : List ℕ) (pages : Array) → IsReadable schema → IsOrderly schema → IsUtf8 (canonical schema) → length (canonical schema) ≤ 1048576
    → ascends nat_lt (stores_of schema) ≡ true → length firsts ≡ length (stores_of schema) → All (λ (f : ℕ). f < 65536) firsts
    → ((n : ℕ) (image : List ℕ) → slice_get (database_pages schema firsts) n ≡ Some image → pages n ≡ image) → Has pages schema (places_of schema firsts)
unfolding schema_text places
new-has schema firsts pages readable orderly utf8 short ascend same low has =
    let bytes : List ℕ = schema_bytes schema in
    let roots : List Root = roots_of (stores_of schema) firsts in
    let second : ℕ = pages_for (length bytes) + 1 in
    let rest : List (List ℕ) = chain_of 5 8 second (bytes_of roots) in
    let chain : List (List ℕ) = chain_of 1 1 2 bytes in
    let few : length bytes ≤ 1049350 = short-bytes schema short orderly.few_attributes in
    let size : length (take 1 rest) ≡ 1 = one-taken 5 8 second (bytes_of roots) in
    let count : length chain ≡ pages_for (length bytes) = chain-length 1 1 2 bytes in
    let all : Stands pages 0 (take 1 rest ++ chain ++ drop 1 rest) =
    stands-from pages 0 (take 1 rest ++ chain ++ drop 1 rest) (λ n image e. let f : 0 + n ≡ n = omega arith in ap pages f ∙ has n image e) in
    let front : Stands pages 0 (take 1 rest ++ chain) = stands-front pages 0 (take 1 rest ++ chain) (drop 1 rest) all in
    let at-two : 0 + length (take 1 rest ++ chain) ≡ second = omega (arith, length-append (take 1 rest) chain, size, count) in
    let others : Stands pages second (drop 1 rest) = stands-at pages (drop 1 rest) (0 + length (take 1 rest ++ chain)) second at-two (stands-behind pages 0 (take 1 rest ++ chain) (drop 1 rest) all) in
    let first : Stands pages 0 (take 1 rest) = stands-front pages 0 (take 1 rest) chain front in
    let from-one : Stands pages 1 chain = stands-at pages chain (0 + length (take 1 rest)) 1 (omega (arith, size)) (stands-behind pages 0 (take 1 rest) chain front) in
    let cut : Stands pages 1 (take 1 chain ++ drop 1 chain) = subst (Stands pages 1) (sym (take-append-drop 1 chain)) from-one in
    let from-two : Stands pages 2 (drop 1 chain) = stands-at pages (drop 1 chain) (1 + length (take 1 chain)) 2 (omega (arith, one-taken 1 1 2 bytes)) (stands-behind pages 1 (take 1 chain) (drop 1 chain) cut) in
    let stores : length (stores_of schema) ≤ 1088 = omega (arith, few-stores schema, orderly.few_types, orderly.few_attributes) in
    let named = rooted pages second roots (omega arith) (omega arith) (omega (arith, few-roots (stores_of schema) firsts, stores))
    (rising-roots 0 (stores_of schema) firsts ascend (from-zero (stores_of schema))) (small-roots (stores_of schema) firsts (small-stores schema orderly) low) first others in
    record {
      spells = spelled-schema pages schema readable (schema-sound schema (utf8-sound (canonical schema) utf8)) (schema-some schema) few (stands-front pages 1 (take 1 chain) (drop 1 chain) cut) from-two;
      names = record {
        images = rest;
        few = within-pages (length rest) (omega (arith, chain-length 5 8 second (bytes_of roots), size-of roots, few-roots (stores_of schema) firsts, stores));
        chain = named.chain;
        roots = named.roots_are ∙ sym (places-roots schema (stores_of schema) firsts);
        of = record { stores = places-stores schema (stores_of schema) firsts same; placed = places-placed schema (stores_of schema) firsts low };
      };
    }
