-- The features of types: their own attributes, and the inverses of attributes whose values are of them.
use Rattle.std.specs.Prelude.{ℕ, Bool, ◌==◌, List, [], ◌∷◌, find, filter, flat_map, Option, Some}
use Rattle.std.specs.Option.{option_map}
use Rattle.std.specs.Str.{bytes_eq}
use Rattle.st_values.specs.declared.value.Kind.{Kind}
use Rattle.st_values.specs.declared.value.Kind.TheVariants as kind
use Rattle.st_lattice.specs.declared.attribute.Attribute.{Attribute}
use Rattle.st_lattice.specs.declared.feature.Feature.{Feature}
use Rattle.st_lattice.specs.declared.feature.Named.{Named}
use Rattle.st_lattice.specs.declared.feature.Feature.TheVariants as feature
use Rattle.st_lattice.specs.Outline.{Outline, qualified_by}

-- an attribute, as its owner has it
abbrev pub own : Attribute → Named
own a = record { ty = a.owner; name = a.name; feature = feature.Attribute a.number }

-- the inverse of an attribute, as the type of its values has it
abbrev pub inverse_by : Option (List ℕ) → Kind → ℕ → List Named
inverse_by (Some name) (kind.Entity ty) number = record { ty = ty; name = name; feature = feature.Inverse number } ∷ []
inverse_by _ _ number = []

abbrev pub inverse : Attribute → List Named
inverse a = inverse_by a.inverse a.kind a.number

-- an attribute and its inverse
abbrev pub named : Attribute → List Named
named a = own a ∷ inverse a

-- all features of a schema, in text order
abbrev pub features : Outline → List Named
features schema = flat_map named schema.attributes

-- the features of a type
abbrev pub features_of : Outline → ℕ → List Named
features_of schema ty = filter (λ f. f.ty == ty) (features schema)

-- whether a feature has a qualified name, `type.name`
abbrev pub is_called : List (List ℕ) → List ℕ → Named → Bool
is_called names name f = bytes_eq name (qualified_by names f.ty f.name)

-- the first of some features with a qualified name
abbrev pub first_called : List (List ℕ) → List ℕ → List Named → Option Feature
first_called names name fs = option_map (λ f. f.feature) (find (is_called names name) fs)

-- the feature with a qualified name
abbrev pub lookup : Outline → List ℕ → Option Feature
lookup schema name = first_called schema.names name (features schema)
