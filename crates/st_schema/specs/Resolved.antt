-- The schema that a written one is, with types and attributes by number.
use Rattle.std.specs.Prelude.{ℕ, ◌+◌, Bool, true, false, ◌||◌, List, [], ◌∷◌, ◌++◌, length, map, Option, Some, None}
use Rattle.std.specs.List.{list_any, position_or_len}
use Rattle.std.specs.Option.{option_or}
use Rattle.std.specs.Str.{bytes_eq}
use Rattle.st_values.specs.declared.value.Kind.{Kind}
use Rattle.st_values.specs.declared.value.Kind.TheVariants as kind
use Rattle.st_lattice.specs.declared.attribute.Attribute.{Attribute}
use Rattle.st_lattice.specs.Outline.{Outline}
use Rattle.st_schema.specs.declared.written.Setting.{Setting}
use Rattle.st_schema.specs.declared.written.Setting.TheVariants as setting
use Rattle.st_schema.specs.declared.written.Choice.{Choice}
use Rattle.st_schema.specs.declared.written.Worded.{Worded}
use Rattle.st_schema.specs.declared.written.Worded.TheVariants as worded
use Rattle.st_schema.specs.declared.written.AttributeForm.{AttributeForm}
use Rattle.st_schema.specs.declared.written.TypeForm.{TypeForm}
use Rattle.st_schema.specs.declared.written.Written.{Written}
use Rattle.st_schema.specs.Checks.{attribute_count}

-- the position of a name
abbrev pub place_of : List (List ℕ) → List ℕ → ℕ
place_of names name = position_or_len (λ other. bytes_eq other name) names

abbrev pub kind_of : List (List ℕ) → Worded → Kind
kind_of names worded.Int = kind.Int
kind_of names worded.Bool = kind.Bool
kind_of names (worded.Text size) = kind.Text size
kind_of names (worded.Entity name) = kind.Entity (place_of names name)

-- the name of an inverse
abbrev pub inverse_of : Setting → Option (List ℕ)
inverse_of (setting.Inverse name) = Some name
inverse_of _ = None

-- the name of the inverse, where one is given
abbrev pub inverse_in : List Choice → Option (List ℕ)
inverse_in [] = None
inverse_in (c ∷ choices) = option_or (inverse_of c.setting) (inverse_in choices)

abbrev pub is_unique : Setting → Bool
is_unique (setting.Unique true) = true
is_unique _ = false

abbrev pub is_no_nulls : Setting → Bool
is_no_nulls (setting.NoNulls true) = true
is_no_nulls _ = false

abbrev pub is_index : Setting → Bool
is_index (setting.Index true) = true
is_index _ = false

-- whether an option is on
abbrev pub is_on : (Setting → Bool) → List Choice → Bool
is_on test choices = list_any (λ c. test c.setting) choices

-- an attribute by its number and its owner; a unique one keeps an index
abbrev pub attribute_of_form : List (List ℕ) → ℕ → ℕ → AttributeForm → Attribute
attribute_of_form names number owner a =
    record {
      number = number;
      owner = owner;
      name = a.name;
      kind = kind_of names a.worded;
      many = a.many;
      inverse = inverse_in a.choices;
      unique = is_on is_unique a.choices;
      no_nulls = is_on is_no_nulls a.choices;
      index = is_on is_unique a.choices || is_on is_index a.choices;
      column = false;
    }

-- the attributes of one type, numbered in text order
abbrev pub attributes_from : List (List ℕ) → ℕ → ℕ → List AttributeForm → List Attribute
attributes_from names number owner [] = []
attributes_from names number owner (a ∷ attributes) = attribute_of_form names number owner a ∷ attributes_from names (number + 1) owner attributes

-- the attributes of all types, numbered in text order
abbrev pub all_attributes : List (List ℕ) → ℕ → ℕ → List TypeForm → List Attribute
all_attributes names number owner [] = []
all_attributes names number owner (t ∷ types) =
    attributes_from names number owner t.attributes ++ all_attributes names (number + length t.attributes) (owner + 1) types

-- the schema: types by their position in the text
abbrev pub resolved : Written → Outline
resolved w =
    let names = map (λ t. t.name) w.types in
    record {
      name = w.name;
      names = names;
      parents = map (λ t. map (place_of names) t.parents) w.types;
      attributes = all_attributes names 0 0 w.types;
      next = attribute_count w.types;
    }
