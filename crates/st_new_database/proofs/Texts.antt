-- The bytes of a schema are bytes.
use Rattle.std.proofs.Common.{◌≡◌, ℕ, ◌+◌, ◌/◌, ◌%◌, ◌<◌, ◌≤◌, Bool, true, false, cond, ltb, if◌then◌else◌, List, [], ◌∷◌, ◌++◌, length, flat_map, refl, subst, inl, inr, arith}
use Rattle.std.proofs.Math.Nat.{mod-lt}
use Rattle.std.proofs.lemmas.Bool.{and_parts}
use borrow.Author.Tests.{ltb-true}
use lib.Utf8.{encode, encodes, scalars, scalar_cases, next}
use Rattle.std.specs.Char.{IsScalar}
use Rattle.std.specs.Int.{w16, w32, to_be_bytes}
use Rattle.std.specs.Str.{IsUtf8}
use Rattle.st_lattice.specs.declared.attribute.Attribute.{Attribute}
use Rattle.st_lattice.specs.Outline.{Outline}
use Rattle.st_image.specs.Bytes.{IsBytes}
use Rattle.st_image.proofs.Numbers.{bytes-append, bytes-cons, bytes-none}
use Rattle.st_image.proofs.RowParts.{spelled-bytes}
use Rattle.st_schema_bytes.specs.SchemaBytes.{schema_bytes, schema_text, numbers, attribute_bytes}

next-small : (c : ℕ) → next c < 256
next-small c = let low : c % 64 < 64 = mod-lt c (omega arith) in omega (arith, low)

under : (c : ℕ) → IsScalar c → c < 1114112
under c h = elim (scalar_cases c h) [ inl low ↦ omega arith | inr high ↦ omega (arith, high.1) ]

lower : (a b : ℕ) (xs ys : List ℕ) → (a < b → IsBytes xs) → (b ≤ a → IsBytes ys) → IsBytes (cond (ltb a b) xs ys)
lower a b xs ys f g = split (ltb a b) refl
  where
    split : (t : Bool) → ltb a b ≡ t → IsBytes (cond t xs ys)
    split true e = f (ltb-true a b e)
    split false e = g (grind (arith, e))

one-sound : (c : ℕ) → c < 1114112 → IsBytes (encode c)
unfolding encode
one-sound c h =
    lower c 128 _ _ (λ low. bytes-cons c [] (omega arith) bytes-none)
    (λ _. lower c 2048 _ _ (λ low. bytes-cons (192 + c / 64) (next c ∷ []) (omega arith) (last c))
    (λ _. lower c 65536 _ _ (λ low. bytes-cons (224 + c / 4096) (next (c / 64) ∷ next c ∷ []) (omega arith) (two c))
    (λ _. bytes-cons (240 + c / 262144) (next (c / 4096) ∷ next (c / 64) ∷ next c ∷ []) (omega arith) (bytes-cons (next (c / 4096)) (next (c / 64) ∷ next c ∷ []) (next-small (c / 4096)) (two c)))))
  where
    last : (c : ℕ) → IsBytes (next c ∷ [])
    last c = bytes-cons (next c) [] (next-small c) bytes-none

    two : (c : ℕ) → IsBytes (next (c / 64) ∷ next c ∷ [])
    two c = bytes-cons (next (c / 64)) (next c ∷ []) (next-small (c / 64)) (last c)

all-sound : (cs : List ℕ) → scalars cs ≡ true → IsBytes (encodes cs)
all-sound [] h = bytes-none
all-sound (c ∷ cs) h =
    let p = and_parts _ (scalars cs) h in
    bytes-append (encode c) (encodes cs) (one-sound c (under c p.0)) (all-sound cs p.1)

pub utf8-sound : (text : List ℕ) → IsUtf8 text → IsBytes text
utf8-sound text h = subst IsBytes (h.1).1 (all-sound h.0 (h.1).0)

attributes-sound : (attributes : List Attribute) → IsBytes (flat_map attribute_bytes attributes)
attributes-sound [] = bytes-none
attributes-sound (a ∷ attributes) =
    bytes-append (attribute_bytes a) (flat_map attribute_bytes attributes)
    (bytes-append (to_be_bytes w16 a.number) ((if a.column then 1 else 0) ∷ []) (spelled-bytes 2 a.number) (bytes-cons (if a.column then 1 else 0) [] (bit a.column) bytes-none))
    (attributes-sound attributes)
  where
    bit : (b : Bool) → (if b then 1 else 0) < 256
    bit true = omega arith
    bit false = omega arith

pub schema-sound : (schema : Outline) → IsBytes (schema_text schema) → IsBytes (schema_bytes schema)
unfolding schema_bytes numbers
schema-sound schema h =
    bytes-append (to_be_bytes w32 (length (schema_text schema)) ++ schema_text schema) (numbers schema)
    (bytes-append (to_be_bytes w32 (length (schema_text schema))) (schema_text schema) (spelled-bytes 4 (length (schema_text schema))) h)
    (bytes-append (flat_map attribute_bytes schema.attributes) (to_be_bytes w16 schema.next) (attributes-sound schema.attributes) (spelled-bytes 2 schema.next))

pub schema-some : (schema : Outline) → 1 ≤ length (schema_bytes schema)
unfolding schema_bytes
schema-some schema = omega arith
