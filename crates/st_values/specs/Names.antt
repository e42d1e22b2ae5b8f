-- Lists of names.
use Rattle.std.specs.Prelude.{ℕ, Bool, not, if◌then◌else◌, List, [], ◌∷◌, ◌++◌, Option, Some, None}
use Rattle.std.specs.List.{list_any}
use Rattle.std.specs.Str.{bytes_eq}
use Rattle.st_values.specs.Arranged.{each_pair}

-- whether a name is among some
abbrev pub has : List (List ℕ) → List ℕ → Bool
has names name = list_any (λ other. bytes_eq other name) names

-- the first name that stands among those before it
abbrev pub first_repeated : List (List ℕ) → List (List ℕ) → Option (List ℕ)
first_repeated before [] = None
first_repeated before (name ∷ names) = if has before name then Some name else first_repeated (before ++ name ∷ []) names

-- whether no name stands twice
abbrev pub all_differ : List (List ℕ) → Bool
all_differ names = each_pair (λ a b. not (bytes_eq b a)) names
