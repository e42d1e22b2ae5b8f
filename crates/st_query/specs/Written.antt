-- Statements as they are written: which ones can be, and the terms in them.
use Rattle.std.specs.Prelude.{ℕ, Bool, true, false, not, List, [], ◌∷◌, ◌++◌, map, filter, flat_map}
use Rattle.std.specs.Str.{bytes_eq}
use Rattle.st_values.specs.Names.{all_differ}
use Rattle.st_query.specs.declared.query.Condition.{Condition}
use Rattle.st_query.specs.declared.query.Condition.TheVariants as condition
use Rattle.st_query.specs.declared.query.Query.{Query}
use Rattle.st_query.specs.declared.statement.Cell.{Cell}
use Rattle.st_query.specs.declared.statement.Statement.{Statement}
use Rattle.st_query.specs.declared.statement.Statement.TheVariants.{Make, Set, Add, Take, Delete, Find, Ensure, Let, Print, ForEach, Abort}
use Rattle.st_query.specs.declared.term.Term.{Term}
use Rattle.st_query.specs.Ways.{Start, Written, Named, way}

-- whether the names of cells differ
abbrev pub have_own_names : List Cell → Bool
have_own_names cells = all_differ (map (λ cell. cell.name) cells)

-- whether a statement is one that can be written: the names of its cells differ, and an ensure has a key
abbrev pub is_written : Statement → Bool
is_written (Make var ty cells) = have_own_names cells
is_written (Ensure var ty []) = false
is_written (Ensure var ty (key ∷ cells)) = have_own_names (key ∷ cells)
is_written _ = true

-- the terms of a condition, in text order
abbrev pub condition_terms : Condition → List Term
condition_terms (condition.Compare sign left right) = left ∷ right ∷ []
condition_terms (condition.Null term) = term ∷ []
condition_terms (condition.NotNull term) = term ∷ []
condition_terms (condition.Member v set) = v ∷ set ∷ []

abbrev pub query_terms : Query → List Term
query_terms query = flat_map condition_terms query.conditions ++ map (λ key. key.term) query.keys ++ query.shown

-- the terms of a statement, in text order
abbrev pub terms_of : Statement → List Term
terms_of (Make var ty cells) = map (λ cell. cell.value) cells
terms_of (Set feature target written) = target ∷ written ∷ []
terms_of (Add feature target written) = target ∷ written ∷ []
terms_of (Take feature target written) = target ∷ written ∷ []
terms_of (Delete target) = target ∷ []
terms_of (Find var ty key written) = written ∷ []
terms_of (Ensure var ty cells) = map (λ cell. cell.value) cells
terms_of (Let var written) = written ∷ []
terms_of (Print terms) = terms
terms_of (ForEach query) = query_terms query
terms_of Abort = []

-- whether a term begins with a variable of this name
abbrev pub begins_with : List ℕ → Start → Bool
begins_with name (Written _) = false
begins_with name (Named other) = bytes_eq other name

-- what the terms begin with: the literals and variables of a statement, without the variable of a query
abbrev pub starts_of : Statement → List Start
starts_of (ForEach query) = filter (λ start. not (begins_with query.var start)) (map (λ term. (way term).start) (query_terms query))
starts_of statement = map (λ term. (way term).start) (terms_of statement)
