-- The parts of a footprint, term by term, as they are noted.
use Rattle.std.specs.Prelude.{ℕ, Bool, false, ◌==◌, if◌then◌else◌, List, [], flat_map, filter, Option, Some, None}
use Rattle.std.specs.List.{list_any}
use Rattle.std.specs.Str.{bytes_eq}
use Rattle.st_lattice.specs.Outline.{Outline}
use Rattle.st_lattice.specs.Called.{called}
use Rattle.st_lattice.specs.Stores.{stores_of}
use Rattle.st_query.specs.declared.statement.Statement.{Statement}
use Rattle.st_query.specs.declared.statement.Statement.TheVariants.{ForEach}
use Rattle.st_query.specs.declared.term.Variable.{Variable}
use Rattle.st_query.specs.Ways.{Start, Written, Named, way}
use Rattle.st_query.specs.Written.{terms_of}
use Rattle.st_footprint.specs.Noted.{noted}
use Rattle.st_query.specs.Footprint.{start_stores, feature_stores, whole_called, path_stores, effect_stores}

-- the variable of a query, which is none of the transaction's
abbrev pub hidden_by : Statement → Option (List ℕ)
hidden_by (ForEach query) = Some query.var
hidden_by _ = None

-- whether it has a name
abbrev pub is_named : Option (List ℕ) → List ℕ → Bool
is_named None name = false
is_named (Some var) name = bytes_eq name var

-- whether a term begins with it
abbrev pub is_hidden : Option (List ℕ) → Start → Bool
is_hidden hidden (Written written) = false
is_hidden hidden (Named name) = is_named hidden name

-- what a term begins with, where that is not the variable of a query
abbrev pub seen_stores : Outline → List Variable → Option (List ℕ) → Start → List ℕ
seen_stores schema variables hidden start = if is_hidden hidden start then [] else start_stores schema variables start

-- the features of a path
abbrev pub features_stores : Outline → List (List ℕ) → List ℕ
features_stores schema features = flat_map (λ name. feature_stores schema (called schema name)) features

-- all that changes with the features that a query names
abbrev pub wholes_called : Outline → List (List ℕ) → List ℕ
wholes_called schema features = flat_map (λ name. whole_called schema (called schema name)) features

-- the stores of a schema that are among some numbers
abbrev pub kept_of : Outline → List ℕ → List ℕ
kept_of schema numbers = filter (λ number. list_any (λ other. other == number) numbers) (stores_of schema)

-- all that a statement touches, ascending
abbrev pub touched : Outline → List Variable → Statement → List ℕ
touched schema variables statement =
    noted (effect_stores schema variables statement)
    (noted (path_stores schema (terms_of statement))
    (noted (flat_map (λ term. seen_stores schema variables (hidden_by statement) (way term).start) (terms_of statement)) []))
