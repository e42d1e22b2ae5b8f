-- A schema as bytes: how it is stored.
use Rattle.std.specs.Prelude.{◌≡◌, ◌≢◌, ◌≤◌, ℕ, if◌then◌else◌, List, [], ◌∷◌, ◌++◌, length, flat_map, Ok}
use Rattle.std.specs.Int.{w16, w32, to_be_bytes}
use Rattle.st_sexp.specs.declared.form.Form.{Form}
use Rattle.st_lattice.specs.declared.attribute.Attribute.{Attribute}
use Rattle.st_lattice.specs.Outline.{Outline}
use Rattle.st_schema.specs.Meaning.{schema_of}
use Rattle.st_schema.specs.Canonical.{canonical}

-- an attribute's number, and whether its values stand in a column
abbrev pub attribute_bytes : Attribute → List ℕ
attribute_bytes a = to_be_bytes w16 a.number ++ (if a.column then 1 else 0) ∷ []

-- what stands behind the text: for each attribute, in text order, its number and where its values are; and the number that
-- the next new attribute gets
unfoldable pub numbers : Outline → List ℕ
numbers schema = flat_map attribute_bytes schema.attributes ++ to_be_bytes w16 schema.next

-- a schema's canonical text
unfoldable pub schema_text : Outline → List ℕ
schema_text schema = canonical schema

-- a schema's bytes: the length of its canonical text, the text, and the numbers of its attributes
unfoldable pub schema_bytes : Outline → List ℕ
schema_bytes schema = to_be_bytes w32 (length (schema_text schema)) ++ schema_text schema ++ numbers schema

-- the canonical text is no longer than a text may be
abbrev pub IsShort : Outline → Type 0
IsShort schema = length (schema_text schema) ≤ 1048576

-- some forms are read as the schema
abbrev pub IsReadable : Outline → Type 0
IsReadable schema = (forms : List Form) × (schema_of forms ≡ Ok schema)

-- bytes are those of no schema that forms are read as
abbrev pub AreOfNone : List ℕ → Type 0
AreOfNone bytes = (schema : Outline) → IsReadable schema → bytes ≢ schema_bytes schema
