-- The first two pages are those of a database with the schema.
use Rattle.std.proofs.Common.{◌≡◌, ℕ, zero, suc, List, [], ◌∷◌, ◌++◌, take, drop, flat_map, Some, refl, sym, ap, subst, ◌∙◌, arith}
use Rattle.std.specs.Prelude.{slice_get}
use Rattle.std.specs.Fmt.{digits}
use Rattle.st_lattice.specs.Stores.{stores_of}
use Rattle.st_schema_bytes.specs.SchemaBytes.{schema_bytes, schema_text, numbers}
use Rattle.st_new_database.specs.New.{chain_of, database_pages, both_chains, root_bytes, roots_of}
use Rattle.st_new_database.proofs.Chained.{chain-short}
use Rattle.st_standing_example.specs.Ada.{ada_pages, roots_page, schema_page, tiny_root, tiny, tiny_bytes}
use Rattle.st_standing_example.proofs.Filled.{filled-page}

some-is : (x image : List ℕ) → Some x ≡ Some image → x ≡ image
some-is x image h = cc

bytes-are : schema_bytes tiny ≡ tiny_bytes
unfolding schema_bytes schema_text numbers digits
bytes-are = refl

roots-are : flat_map root_bytes (roots_of (stores_of tiny) (2 ∷ [])) ≡ tiny_root
roots-are = refl

schema-chain : chain_of 1 1 2 tiny_bytes ≡ schema_page ∷ []
unfolding schema_page
schema-chain = chain-short 1 1 2 tiny_bytes (omega arith) ∙ ap (λ (page : List ℕ). page ∷ []) (filled-page 1 99 tiny_bytes (omega arith))

roots-chain : (second : ℕ) → chain_of 5 8 second tiny_root ≡ roots_page ∷ []
unfolding roots_page
roots-chain second = chain-short 5 8 second tiny_root (omega arith) ∙ ap (λ (page : List ℕ). page ∷ []) (filled-page 5 1 tiny_root (omega arith))

chains-are : (schema roots : List (List ℕ)) → schema ≡ schema_page ∷ [] → roots ≡ roots_page ∷ [] → take 1 roots ++ schema ++ drop 1 roots ≡ roots_page ∷ schema_page ∷ []
chains-are schema roots e f = rw (e, f)

pub pages-are : database_pages tiny (2 ∷ []) ≡ roots_page ∷ schema_page ∷ []
pages-are = subst (λ (bytes : List ℕ). both_chains bytes tiny_root ≡ roots_page ∷ schema_page ∷ []) (sym bytes-are)
    (chains-are (chain_of 1 1 2 tiny_bytes) (chain_of 5 8 2 tiny_root) schema-chain (roots-chain 2))

-- these stand at their numbers
stand : (images : List (List ℕ)) → images ≡ roots_page ∷ schema_page ∷ [] → (number : ℕ) (image : List ℕ) → slice_get images number ≡ Some image → ada_pages number ≡ image
stand images e zero image h = some-is roots_page image (subst (λ (xs : List (List ℕ)). slice_get xs 0 ≡ Some image) e h)
stand images e (suc zero) image h = some-is schema_page image (subst (λ (xs : List (List ℕ)). slice_get xs 1 ≡ Some image) e h)
stand images e (suc (suc n)) image h =
    let k : slice_get (roots_page ∷ schema_page ∷ []) (suc (suc n)) ≡ Some image = subst (λ (xs : List (List ℕ)). slice_get xs (suc (suc n)) ≡ Some image) e h in
    absurd (cc)

pub pages-stand : (number : ℕ) (image : List ℕ) → slice_get (database_pages tiny (2 ∷ [])) number ≡ Some image → ada_pages number ≡ image
pages-stand = stand (database_pages tiny (2 ∷ [])) pages-are
