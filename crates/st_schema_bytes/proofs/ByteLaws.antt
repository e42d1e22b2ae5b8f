-- Laws of the bytes of schemas.
use Rattle.std.proofs.Common.{◌≡◌, ◌≤◌, ◌*◌, List, [], ◌∷◌, length, flat_map, refl, sym, ◌∙◌, arith}
use Rattle.std.proofs.lemmas.List.{length-append}
use Rattle.std.specs.Int.{w16, to_be_bytes}
use Rattle.byteorder.specs.Endian.{big_number}
use Rattle.st_lattice.specs.declared.attribute.Attribute.{Attribute}
use Rattle.st_lattice.specs.Outline.{Outline}
use Rattle.st_schema_bytes.specs.SchemaBytes.{schema_bytes, schema_text, numbers, attribute_bytes, IsReadable}
use Rattle.st_schema_bytes.proofs.Front.{text-read}
use Rattle.st_schema_bytes.proofs.Same.{Same, NoOther, Short, one-text}

pub one-schema : Same → NoOther → Short → (a b : Outline) → IsReadable a → IsReadable b → schema_bytes a ≡ schema_bytes b → a ≡ b
unfolding schema_text
one-schema same no_other short a b first second e =
    let n = big_number 4 (schema_bytes a) in
    let one = text-read (schema_bytes a) n a refl (short first.0 a first.1) refl in
    let two = text-read (schema_bytes a) n b e (short second.0 b second.1) refl in
    one-text same no_other a b first second (sym one ∙ two)

three : (attributes : List Attribute) → length (flat_map attribute_bytes attributes) ≡ 3 * length attributes
three [] = refl
three (a ∷ attributes) =
    let rest = three attributes in
    omega (arith, rest)

pub short-bytes : (schema : Outline) → length (schema_text schema) ≤ 1048576 → length schema.attributes ≤ 256 → length (schema_bytes schema) ≤ 1049350
unfolding schema_bytes numbers
short-bytes schema short few =
    let tail = length-append (flat_map attribute_bytes schema.attributes) (to_be_bytes w16 schema.next) in
    let whole = length-append (schema_text schema) (numbers schema) in
    let each = three schema.attributes in
    omega (arith, short, few, tail, whole, each)
