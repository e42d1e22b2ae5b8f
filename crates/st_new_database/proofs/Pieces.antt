-- The chain of a schema's pages, and the bytes in them.
use Rattle.std.proofs.Common.{◌≡◌, ℕ, zero, suc, ◌+◌, ◌-◌, ◌*◌, ◌/◌, ◌<◌, ◌≤◌, List, [], ◌∷◌, ◌++◌, length, take, drop, flat_map, replicate, refl, sym, ap, subst, ◌∙◌, arith}
use Rattle.std.proofs.Math.Seq.{drop-append_seam, take-append_seam}
use Rattle.std.proofs.lemmas.List.{length-drop, length-take, take-append-drop}
use Rattle.st_lattice.specs.Outline.{Outline}
use Rattle.st_image.specs.declared.wanted.Wanted.TheVariants.{Schema}
use Rattle.st_image.specs.Bytes.{AreBlank, IsBytes}
use Rattle.st_image.specs.Fields.{pieces, body_of}
use Rattle.st_image.specs.Grammar.{IsPage, IsPiece, schema_header}
use Rattle.st_image.proofs.Laid.{length-pieces}
use Rattle.st_image.proofs.Numbers.{bytes-drop, bytes-take}
use Rattle.st_pages.specs.Attempt.{Array}
use Rattle.st_schema_bytes.specs.SchemaBytes.{schema_bytes, IsReadable}
use Rattle.st_new_database.proofs.Chained.{chain-length, within-pages}
use Rattle.st_catalog.specs.Catalog.{SpellsSchema, bytes_in, piece_of}
use Rattle.st_new_database.specs.New.{page_bytes, pages_for, page_behind, chain_pages, chain_of}
use Rattle.st_new_database.proofs.Fields.{filled, page-form, page-count, page-body, blank-filling}
use Rattle.st_new_database.proofs.Linked.{Stands, AllGood, linked}

-- a piece of a schema's bytes
pub record GoodPiece (piece : List ℕ) : Type 0 where
  pub some : 1 ≤ length piece
  pub short : length piece ≤ 4080
  pub sound : IsBytes piece

by-one : (n : ℕ) → n / 1 ≡ n
by-one n = omega arith

piece-body : (piece : List ℕ) → IsPiece (length piece) (filled piece)
piece-body piece = subst AreBlank (sym (drop-append_seam piece (replicate (4080 - length piece) 0))) (blank-filling (4080 - length piece))

schema-page : (piece : List ℕ) (next : ℕ) → GoodPiece piece → next < 65536 → IsPage Schema (page_bytes 1 (length piece / 1) next piece)
schema-page piece next good low =
    subst (λ (n : ℕ). IsPage Schema (page_bytes 1 n next piece)) (sym (by-one (length piece)))
    (page-form schema_header IsPiece 1 (length piece) next piece refl refl refl (omega arith) good.some good.short (omega (arith, good.short)) low good.short good.sound (piece-body piece))

pieces-good : (n : ℕ) (bytes : List ℕ) → n * 4080 < length bytes → IsBytes bytes → AllGood GoodPiece (pieces (suc n) 4080 bytes)
pieces-good zero bytes h k =
    (record { some = omega (arith, length-take 4080 bytes); short = omega (arith, length-take 4080 bytes); sound = bytes-take 4080 bytes k }, tt)
pieces-good (suc n) bytes h k = (
  record { some = omega (arith, length-take 4080 bytes); short = omega (arith, length-take 4080 bytes); sound = bytes-take 4080 bytes k },
  pieces-good n (drop 4080 bytes) (omega (arith, length-drop 4080 bytes)) (bytes-drop 4080 bytes k),
)

none-left : (bytes : List ℕ) → length bytes ≤ 0 → [] ≡ bytes
none-left [] h = refl
none-left (b ∷ bytes) h = absurd (omega arith)

joined-pieces : (n : ℕ) (bytes : List ℕ) → length bytes ≤ n * 4080 → flat_map (λ (piece : List ℕ). piece) (pieces n 4080 bytes) ≡ bytes
joined-pieces zero bytes h = none-left bytes (omega arith)
joined-pieces (suc n) bytes h =
    ap (λ (rest : List ℕ). take 4080 bytes ++ rest) (joined-pieces n (drop 4080 bytes) (omega (arith, length-drop 4080 bytes))) ∙ take-append-drop 4080 bytes

piece-in : (next : ℕ) (piece : List ℕ) → GoodPiece piece → piece_of (page_bytes 1 (length piece / 1) next piece) ≡ piece
piece-in next piece good =
    ap (λ (n : ℕ). piece_of (page_bytes 1 n next piece)) (by-one (length piece))
    ∙ ap (λ (n : ℕ). take n (body_of (page_bytes 1 (length piece) next piece))) (page-count 1 (length piece) next piece (omega (arith, good.short)))
    ∙ ap (take (length piece)) (page-body 1 (length piece) next piece)
    ∙ take-append_seam piece (replicate (4080 - length piece) 0)

bytes-in : (second : ℕ) (ps : List (List ℕ)) → AllGood GoodPiece ps → bytes_in (chain_pages 1 1 second ps) ≡ flat_map (λ (piece : List ℕ). piece) ps
bytes-in second [] good = refl
bytes-in second (piece ∷ ps) good =
    ap (λ (xs : List ℕ). xs ++ bytes_in (chain_pages 1 1 (second + 1) ps)) (piece-in (page_behind second ps) piece good.0)
    ∙ ap (λ (xs : List ℕ). piece ++ xs) (bytes-in (second + 1) ps good.1)

pub spelled-schema : (pages : Array) (schema : Outline) → IsReadable schema → IsBytes (schema_bytes schema) → 1 ≤ length (schema_bytes schema) → length (schema_bytes schema) ≤ 1049350
    → Stands pages 1 (take 1 (chain_of 1 1 2 (schema_bytes schema))) → Stands pages 2 (drop 1 (chain_of 1 1 2 (schema_bytes schema))) → SpellsSchema pages schema
unfolding chain_of
spelled-schema pages schema readable sound some few first rest =
    let bytes : List ℕ = schema_bytes schema in
    let n : ℕ = (length bytes - 1) / 4080 in
    let count : pages_for (length bytes) ≡ suc n = omega arith in
    let e : chain_of 1 1 2 bytes ≡ chain_pages 1 1 2 (pieces (suc n) 4080 bytes) = ap (λ (k : ℕ). chain_pages 1 1 2 (pieces k 4080 bytes)) count in
    let good : AllGood GoodPiece (pieces (suc n) 4080 bytes) = pieces-good n bytes (omega arith) sound in
    record {
      images = chain_of 1 1 2 bytes;
      few = within-pages (length (chain_of 1 1 2 bytes)) (omega (arith, chain-length 1 1 2 bytes, few));
      chain = linked Schema GoodPiece 1 1 schema-page pages 1 2 (take 4080 bytes) (pieces n 4080 (drop 4080 bytes)) (omega arith) (omega (arith, length-pieces n 4080 (drop 4080 bytes))) good.0 good.1
          (chain_of 1 1 2 bytes) e first rest;
      bytes = ap bytes_in e ∙ bytes-in 2 (pieces (suc n) 4080 bytes) good ∙ joined-pieces (suc n) bytes (omega arith);
      readable = readable;
    }
