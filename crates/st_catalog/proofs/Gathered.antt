-- What was gathered of a chain that ends, and of one that doesn't.
use Rattle.std.proofs.Common.{◌≡◌, ◌≢◌, ℕ, zero, suc, ◌<◌, ◌≤◌, Bool, true, false, if◌then◌else◌, List, [], ◌∷◌, ◌++◌, length, map, filter, drop, refl, sym, ap, ◌∙◌, subst, inl, inr, arith}
use Rattle.std.specs.List.{All}
use Rattle.std.proofs.lemmas.List.{length-append, length-map}
use Rattle.std.proofs.lemmas.List.FromFn.{length-range_with_len, length-map-range_with_len}
use Rattle.st_lattice.specs.Outline.{Outline, IsOrderly, attribute}
use Rattle.st_lattice.specs.Lattice.{below}
use Rattle.st_lattice.specs.declared.stores.StoreKind.{StoreKind}
use Rattle.st_lattice.specs.declared.stores.StoreKind.TheVariants as store
use Rattle.st_lattice.specs.Stores.{stores_of, stores_below, keeps_one, store as store_number}
use Rattle.st_image.specs.Bytes.{number}
use Rattle.st_image.specs.Fields.{rows_of, next_of}
use Rattle.st_image.specs.Grammar.{IsPage}
use Rattle.st_image.specs.declared.wanted.Wanted.TheVariants.{Schema, Roots}
use Rattle.st_pages.specs.Attempt.{Array}
use Rattle.st_pages.specs.declared.places.Place.{Place}
use Rattle.st_schema_bytes.specs.SchemaBytes.{schema_bytes, IsReadable, AreOfNone}
use Rattle.st_catalog.specs.declared.root.Root.{Root}
use Rattle.st_pages.specs.Chains.{IsChain}
use Rattle.st_catalog.specs.Catalog.{bytes_in, root_of, roots_in, root_at, stores_in, SpellsSchema, NamesPlaces, SpellsNone, NamesOthers}
use Rattle.st_catalog.specs.Stores.{placed, IsPlaced}
use Rattle.st_catalog.specs.Reading.{Walked, IsUpTo}

-- ---- the schema

abbrev pub ShortBytes : Type 0
ShortBytes = (schema : Outline) → IsReadable schema → length (schema_bytes schema) ≤ 1049350

pub spelled : ShortBytes → (pages : Array) (bytes : List ℕ) (schema : Outline) → Walked true Schema pages 1 (λ images. IsUpTo 1049350 bytes (bytes_in images)) → bytes ≡ schema_bytes schema → IsReadable schema → SpellsSchema pages schema
spelled short pages bytes schema walked is readable =
    elim walked.3 [
      | inl whole ↦ record { images = walked.0; few = walked.1; chain = walked.2; bytes = sym whole ∙ is; readable = readable }
      | inr long ↦
          let size = short schema readable in
          let same = ap length is in
          absurd (omega (arith, size, same, long.0))
    ]

pub unspelled : ShortBytes → (pages : Array) (bytes : List ℕ) → Walked true Schema pages 1 (λ images. IsUpTo 1049350 bytes (bytes_in images)) → AreOfNone bytes → SpellsNone pages
unspelled short pages bytes walked none =
    inr (
      walked.0,
      walked.2,
      λ schema readable is.
          elim walked.3 [
            | inl whole ↦ none schema readable (whole ∙ is)
            | inr long ↦
                let size = short schema readable in
                let same = ap length is in
                omega (arith, size, same, long.1)
          ],
    )

-- ---- the stores

fewer : (test : ℕ → Bool) (xs : List ℕ) → length (filter test xs) ≤ length xs
fewer test [] = omega arith
fewer test (x ∷ xs) = one (test x) (fewer test xs)
  where
    one : (b : Bool) → length (filter test xs) ≤ length xs → length (if b then x ∷ filter test xs else filter test xs) ≤ suc (length xs)
    one true h = omega (arith, h)
    one false h = omega (arith, h)

few-below : (schema : Outline) (kind : StoreKind) → length (stores_below schema kind schema.next) ≤ schema.next
few-below schema kind =
    let kept = filter (λ n. keeps_one kind (attribute schema n)) (below schema.next) in
    let mapped = length-map kept (store_number kind) in
    let less = fewer (λ n. keeps_one kind (attribute schema n)) (below schema.next) in
    let all = length-range_with_len 0 schema.next in
    omega (arith, mapped, less, all)

pub few-stores : (schema : Outline) → IsOrderly schema → length (stores_of schema) ≤ 262204
few-stores schema orderly =
    let extents = map (store_number store.Extent) (below (length schema.names)) in
    let sets = stores_below schema store.Set schema.next in
    let indexes = stores_below schema store.Index schema.next in
    let inverses = stores_below schema store.Inverse schema.next in
    let columns = stores_below schema store.Column schema.next in
    let a = length-map-range_with_len (store_number store.Extent) 0 (length schema.names) in
    let b = few-below schema store.Set in
    let c = few-below schema store.Index in
    let d = few-below schema store.Inverse in
    let e = few-below schema store.Column in
    let p = length-append extents sets in
    let q = length-append (extents ++ sets) indexes in
    let r = length-append (extents ++ sets ++ indexes) inverses in
    let s = length-append (extents ++ sets ++ indexes ++ inverses) columns in
    let types = orderly.few_types in
    let next = orderly.next in
    omega (arith, a, b, c, d, e, p, q, r, s, types, next)

-- ---- the roots

-- first pages are pages
abbrev pub AreFirsts : List Root → Type 0
AreFirsts [] = Unit {0}
AreFirsts (r ∷ roots) = (r.first < 65536) × AreFirsts roots

firsts-append : (xs ys : List Root) → AreFirsts xs → AreFirsts ys → AreFirsts (xs ++ ys)
firsts-append [] ys first second = second
firsts-append (x ∷ xs) ys first second = (first.0, firsts-append xs ys first.1 second)

firsts-of : (rows : List (List ℕ)) → All (λ row. number (drop 4 row) < 65536) rows → AreFirsts (map root_of rows)
firsts-of [] all = tt
firsts-of (row ∷ rows) all = (all 0 [] (omega arith), firsts-of rows (λ k d within. all (suc k) d (omega (arith, within))))

firsts-of-page : (page : List ℕ) → IsPage Roots page → AreFirsts (map root_of (rows_of 8 page))
firsts-of-page page is = firsts-of (rows_of 8 page) is.body.pages

pub firsts-of-chain : (pages : Array) (first : ℕ) (images : List (List ℕ)) → IsChain Roots pages first images → AreFirsts (roots_in images)
firsts-of-chain pages first [] chain = absurd chain
firsts-of-chain pages first (image ∷ []) chain = firsts-append (map root_of (rows_of 8 image)) [] (firsts-of-page image chain.1) tt
firsts-of-chain pages first (image ∷ other ∷ images) chain =
    firsts-append (map root_of (rows_of 8 image)) (roots_in (other ∷ images)) (firsts-of-page image chain.1) (firsts-of-chain pages (next_of image) (other ∷ images) chain.3)

all-placed : (schema : Outline) (roots : List Root) → AreFirsts roots → All (IsPlaced schema) (map (placed schema) roots)
all-placed schema [] firsts k d within = absurd (omega (arith, within))
all-placed schema (r ∷ roots) firsts zero d within = record { key = refl; width = refl; first = firsts.0 }
all-placed schema (r ∷ roots) firsts (suc k) d within = all-placed schema roots firsts.1 k d (omega (arith, within))

roots-back : (schema : Outline) (roots : List Root) → map root_at (map (placed schema) roots) ≡ roots
roots-back schema [] = refl
roots-back schema (r ∷ roots) = ap (λ (rs : List Root). r ∷ rs) (roots-back schema roots)

stores-back : (schema : Outline) (roots : List Root) → map (λ (p : Place). p.store) (map (placed schema) roots) ≡ stores_in roots
stores-back schema [] = refl
stores-back schema (r ∷ roots) = ap (λ (rs : List ℕ). r.store ∷ rs) (stores-back schema roots)

pub named : (pages : Array) (schema : Outline) (roots : List Root) (places : List Place) → IsOrderly schema → Walked true Roots pages 0 (λ images. IsUpTo 262204 roots (roots_in images)) → stores_in roots ≡ stores_of schema → places ≡ map (placed schema) roots → NamesPlaces pages schema places
named pages schema roots places orderly walked are is =
    elim walked.3 [
      | inl whole ↦ subst (NamesPlaces pages schema) (sym is) (record {
        images = walked.0;
        few = walked.1;
        chain = walked.2;
        roots = sym whole ∙ sym (roots-back schema roots);
        of = record { stores = stores-back schema roots ∙ are; placed = all-placed schema roots (subst AreFirsts (sym whole) (firsts-of-chain pages 0 walked.0 walked.2)) };
      })
      | inr long ↦
          let few = few-stores schema orderly in
          let same = ap length are in
          let size = length-map roots (λ (r : Root). r.store) in
          absurd (omega (arith, few, same, size, long.0))
    ]

pub unnamed : (pages : Array) (schema : Outline) (roots : List Root) → IsOrderly schema → Walked true Roots pages 0 (λ images. IsUpTo 262204 roots (roots_in images)) → stores_in roots ≢ stores_of schema → NamesOthers pages schema
unnamed pages schema roots orderly walked other =
    inr (
      walked.0,
      walked.2,
      λ same.
          elim walked.3 [
            | inl whole ↦ other (ap stores_in whole ∙ same)
            | inr long ↦
                let few = few-stores schema orderly in
                let sizes = ap length same in
                let size = length-map (roots_in walked.0) (λ (r : Root). r.store) in
                omega (arith, few, sizes, size, long.1)
          ],
    )

pub not-true : (b : Bool) → b ≡ false → b ≡ true → ⊥
not-true b e h = cc
