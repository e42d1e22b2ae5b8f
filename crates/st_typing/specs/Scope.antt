-- The names that terms may use, as the code holds them.
use Rattle.std.specs.Prelude.{ℕ, List, ◌∷◌, find, Option}
use Rattle.std.specs.Str.{bytes_eq}
use Rattle.st_query.specs.declared.kind.Sort.TheVariants as sort
use Rattle.st_query.specs.declared.kind.Typing.{Typing}
use Rattle.st_query.specs.Kinds.{Known, known, variable_typing}
use Rattle.st_typing.specs.declared.scope.Scope.{Scope}
use Rattle.st_typing.specs.declared.scope.Scope.TheVariants.{Outside, Inside}

-- the variables, and inside a query its own one before them
abbrev pub names_of : Scope → List Known
names_of (Outside variables) = known variables.now
names_of (Inside var ty variables) = record { name = var.now; sort = sort.Entity ty } ∷ known variables.now

-- what a name stands for, none where it isn't there
unfoldable pub named_typing : List Known → List ℕ → Option Typing
named_typing names name = variable_typing (find (λ k. bytes_eq k.name name) names)
