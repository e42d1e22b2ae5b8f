-- The entities that are named by the literals and variables of a statement.
use Rattle.std.specs.Prelude.{ℕ, Bool, true, false, if◌then◌else◌, List, [], ◌∷◌, flat_map, Option, Some, None}
use Rattle.st_values.specs.declared.value.EntityId.{EntityId}
use Rattle.st_lattice.specs.declared.stores.StoreKind.TheVariants.{Extent}
use Rattle.st_lattice.specs.Outline.{Outline}
use Rattle.st_lattice.specs.Stores.{store}
use Rattle.st_query.specs.declared.statement.Statement.{Statement}
use Rattle.st_query.specs.declared.statement.Statement.TheVariants.{ForEach, Abort}
use Rattle.st_query.specs.declared.term.Term.{Term}
use Rattle.st_query.specs.declared.term.Variable.{Variable}
use Rattle.st_query.specs.Terms.{literal_value, variable_value}
use Rattle.st_query.specs.Ways.{Start, Written, Named, way}
use Rattle.st_query.specs.Written.{terms_of, query_terms, begins_with}
use Rattle.st_state.specs.declared.refusal.Refusal.{Refusal}
use Rattle.st_state.specs.declared.refusal.Refusal.TheVariants.{NoSuchEntity, Aborted}
use Rattle.st_state.specs.Refusals.{first_of}
use Rattle.st_query.specs.Kinds.{known}
use Rattle.st_meaning.specs.Statements.{Present}
use Rattle.st_meaning.specs.Checks.{text_refused}
use Rattle.st_meaning.specs.Rules.{entity_in, rule_10, rules_1_2_7, rule_5}

-- the entity that a term begins with, if it begins with one
abbrev pub start_entity : Outline → List Variable → Start → Option EntityId
start_entity schema variables (Written written) = entity_in (literal_value schema written)
start_entity schema variables (Named name) = entity_in (variable_value variables name)

abbrev pub listed : Option EntityId → List EntityId
listed None = []
listed (Some e) = e ∷ []

-- whether a term begins with the variable of a query, if there is one
abbrev pub is_hidden : Option (List ℕ) → Start → Bool
is_hidden None start = false
is_hidden (Some name) start = begins_with name start

-- the entity that a term names, in a query but for that of its own variable
abbrev pub term_names : Outline → List Variable → Option (List ℕ) → Term → List EntityId
term_names schema variables subject term =
    if is_hidden subject (way term).start then [] else listed (start_entity schema variables (way term).start)

abbrev pub terms_name : Outline → List Variable → Option (List ℕ) → List Term → List EntityId
terms_name schema variables subject terms = flat_map (term_names schema variables subject) terms

-- the entities that a statement names, in text order
abbrev pub statement_names : Outline → List Variable → Statement → List EntityId
statement_names schema variables (ForEach query) = terms_name schema variables (Some query.var) (query_terms query)
statement_names schema variables statement = terms_name schema variables None (terms_of statement)

-- the extents where they are looked for
abbrev pub extents_of : List EntityId → List ℕ
extents_of entities = flat_map (λ e. store Extent e.ty ∷ []) entities

-- the refusal where an entity isn't live
abbrev pub dead_refusal : Option EntityId → Option Refusal
dead_refusal None = None
dead_refusal (Some e) = Some (NoSuchEntity e)

-- whether a statement gives its transaction up
abbrev pub is_abort : Statement → Bool
is_abort Abort = true
is_abort _ = false

-- rule 10, and then rules 1, 2 and 7
abbrev pub text_refusal : Outline → List Variable → Statement → Option Refusal
text_refusal schema variables statement =
    first_of ((if is_abort statement then Some Aborted else None) ∷ text_refused schema (known variables) statement ∷ [])

-- the rules that come before anything is evaluated
abbrev pub checks : Present → Statement → Option Refusal
checks p statement = first_of (rule_10 p statement ∷ rules_1_2_7 p statement ∷ rule_5 p statement ∷ [])
