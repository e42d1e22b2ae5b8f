-- A state, and the pages that stand for it, byte by byte.
use Rattle.std.specs.Prelude.{ℕ, ◌-◌, pos, false, ◌==◌, if◌then◌else◌, List, [], ◌∷◌, ◌++◌, length, replicate, codes, None}
use Rattle.st_values.specs.declared.value.EntityId.{EntityId}
use Rattle.st_values.specs.declared.value.Kind.TheVariants as kind
use Rattle.st_values.specs.declared.value.Value.TheVariants.{Int, Text}
use Rattle.st_lattice.specs.declared.attribute.Attribute.{Attribute}
use Rattle.st_lattice.specs.Outline.{Outline}
use Rattle.st_image.specs.Fields.{blank}
use Rattle.st_pages.specs.Attempt.{Array}
use Rattle.st_state.specs.declared.triple.Triple.{Triple}
use Rattle.st_state.specs.State.{State}

-- ---- the state

-- the attributes of the one type: a text of at most 80 bytes, and an integer
abbrev pub name_attribute : Attribute
name_attribute = record {
  number = 0;
  owner = 0;
  name = codes "name";
  kind = kind.Text 80;
  many = false;
  inverse = None;
  unique = false;
  no_nulls = false;
  index = false;
  column = false;
}

abbrev pub age_attribute : Attribute
age_attribute = record {
  number = 1;
  owner = 0;
  name = codes "age";
  kind = kind.Int;
  many = false;
  inverse = None;
  unique = false;
  no_nulls = false;
  index = false;
  column = false;
}

-- The schema
--     (define-schema tiny)
--     (define-entity-type person () ((name string) (age integer)))
-- where `string` means at most 80 bytes.
abbrev pub tiny : Outline
tiny = record {
  name = codes "tiny";
  names = codes "person" ∷ [];
  parents = [] ∷ [];
  attributes = name_attribute ∷ age_attribute ∷ [];
  next = 2;
}

-- the first entity of the type
abbrev pub ada : EntityId
ada = record { ty = 0; serial = 1 }

-- its name is "Ada", and its age is 36
abbrev pub name_of_ada : Triple
name_of_ada = record { attribute = 0; entity = ada; value = Text (codes "Ada") }

abbrev pub age_of_ada : Triple
age_of_ada = record { attribute = 1; entity = ada; value = Int (pos 36) }

-- it is the only one
abbrev pub ada_state : State
ada_state = record {
  schema = tiny;
  live = ada ∷ [];
  triples = name_of_ada ∷ age_of_ada ∷ [];
  last = 1 ∷ [];
}

-- ---- the pages

-- a page that begins with some bytes, and has zeros behind them
unfoldable pub filled : List ℕ → List ℕ
filled bytes = bytes ++ replicate (4096 - length bytes) 0

-- what stands in front of a page's body: its kind and a spare byte, what it counts, no store but 0, no next page, the last serial
abbrev pub head : ℕ → ℕ → ℕ → List ℕ
head kind count last = kind ∷ 0 ∷ 0 ∷ count ∷ 0 ∷ 0 ∷ 0 ∷ 0 ∷ 0 ∷ 0 ∷ 0 ∷ 0 ∷ 0 ∷ 0 ∷ 0 ∷ last ∷ []

-- the one store, number 0, begins at page 2
abbrev pub tiny_root : List ℕ
tiny_root = 0 ∷ 0 ∷ 0 ∷ 0 ∷ 0 ∷ 0 ∷ 0 ∷ 2 ∷ []

-- the length of the schema's canonical text, and the text; attributes 0 and 1, whose values are in rows; and the next one's
-- number
abbrev pub tiny_bytes : List ℕ
tiny_bytes =
    0 ∷ 0 ∷ 0 ∷ 87 ∷ codes "(define-schema tiny)" ++ 10 ∷ codes "(define-entity-type person () ((name (string 80)) (age integer)))" ++ 10
    ∷ 0 ∷ 0 ∷ 0 ∷ 0 ∷ 1 ∷ 0 ∷ 0 ∷ 2 ∷ []

-- The one row, of 95 bytes: the serial; a byte 1, the name, zeros up to 80 bytes and its length; a byte 1, and the age moved up
-- by 2 ^ 63.
abbrev pub ada_row : List ℕ
ada_row =
    0 ∷ 0 ∷ 0 ∷ 1 ∷ 1 ∷ codes "Ada" ++ replicate 77 0 ++ 3
    ∷ 1 ∷ 128 ∷ 0 ∷ 0 ∷ 0 ∷ 0 ∷ 0 ∷ 0 ∷ 36 ∷ []

-- the roots, the schema, and the extent of its type
unfoldable pub roots_page : List ℕ
roots_page = filled (head 5 1 0 ++ tiny_root)

unfoldable pub schema_page : List ℕ
schema_page = filled (head 1 99 0 ++ tiny_bytes)

unfoldable pub extent_page : List ℕ
extent_page = filled (head 2 1 1 ++ ada_row)

-- all other pages are blank
abbrev pub ada_pages : Array
ada_pages page = if page == 0 then roots_page else if page == 1 then schema_page else if page == 2 then extent_page else blank
