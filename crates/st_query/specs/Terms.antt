-- What literals and variables stand for. A name that isn't known stands for null.
use Rattle.std.specs.Prelude.{ℕ, ◌+◌, List, ◌∷◌, ◌++◌, find, take, drop, Option, Some, None}
use Rattle.std.specs.List.{position_or_len}
use Rattle.std.specs.Str.{bytes_eq}
use Rattle.st_values.specs.declared.value.Value.{Value}
use Rattle.st_values.specs.declared.value.Value.TheVariants as value
use Rattle.st_lattice.specs.Outline.{Outline, type_named}
use Rattle.st_query.specs.declared.term.Literal.{Literal}
use Rattle.st_query.specs.declared.term.Literal.TheVariants as literal
use Rattle.st_query.specs.declared.term.Variable.{Variable}

-- an entity that is written out, where its type is known
abbrev pub entity_value : Option ℕ → ℕ → Value
entity_value None serial = value.Null
entity_value (Some ty) serial = value.Entity (record { ty = ty; serial = serial })

-- a literal stands for itself
abbrev pub literal_value : Outline → Literal → Value
literal_value schema literal.Null = value.Null
literal_value schema (literal.Int number) = value.Int number
literal_value schema (literal.Bool truth) = value.Bool truth
literal_value schema (literal.Text text) = value.Text text
literal_value schema (literal.Entity ty serial) = entity_value (type_named schema ty) serial

-- the variable with a name
abbrev pub variable_named : List Variable → List ℕ → Option Variable
variable_named variables name = find (λ variable. bytes_eq variable.name name) variables

-- what a variable is bound to
abbrev pub bound_to : Option Variable → Value
bound_to None = value.Null
bound_to (Some variable) = variable.value

abbrev pub variable_value : List Variable → List ℕ → Value
variable_value variables name = bound_to (variable_named variables name)

-- a name bound to a value, anew where it was bound
abbrev pub bind : List ℕ → Value → List Variable → List Variable
bind name v variables =
    let place = position_or_len (λ variable. bytes_eq variable.name name) variables in
    take place variables ++ record { name = name; value = v } ∷ drop (place + 1) variables
