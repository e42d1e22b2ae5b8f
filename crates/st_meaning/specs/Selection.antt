-- Which entities a query selects, and in which order they are written.
use Rattle.std.specs.Prelude.{ℕ, Bool, true, false, not, List, [], ◌∷◌, filter, Option, Some, None}
use Rattle.std.specs.List.{list_any, list_all}
use Rattle.std.specs.declared.cmp.Ordering.{Ordering}
use Rattle.std.specs.declared.cmp.Ordering.TheVariants.{Less, Equal, Greater}
use Rattle.std.specs.Ordering.{is_eq, is_ne, is_lt, is_le, is_gt, is_ge, ordering_reverse, ordering_then}
use Rattle.st_values.specs.declared.value.EntityId.{EntityId}
use Rattle.st_values.specs.declared.value.Value.{Value}
use Rattle.st_values.specs.declared.value.Value.TheVariants.{Null, Entity}
use Rattle.st_values.specs.Order.{entity_order, value_order, same_value}
use Rattle.st_values.specs.Arranged.{arranged}
use Rattle.st_lattice.specs.Outline.{type_named}
use Rattle.st_query.specs.declared.query.Condition.{Condition}
use Rattle.st_query.specs.declared.query.Condition.TheVariants as condition
use Rattle.st_query.specs.declared.query.Key.{Key}
use Rattle.st_query.specs.declared.query.Query.{Query}
use Rattle.st_query.specs.declared.query.Sign.{Sign}
use Rattle.st_query.specs.declared.query.Sign.TheVariants as sign
use Rattle.st_query.specs.declared.term.Variable.{Variable}
use Rattle.st_query.specs.Terms.{bind}
use Rattle.st_state.specs.State.{State, entities_of}
use Rattle.st_meaning.specs.Terms.{Meaning, Single, Set, term_meaning, term_value}

-- whether two values stand so in the order of values
abbrev pub meets : Sign → Ordering → Bool
meets sign.Equal o = is_eq o
meets sign.Differs o = is_ne o
meets sign.Below o = is_lt o
meets sign.AtMost o = is_le o
meets sign.Above o = is_gt o
meets sign.AtLeast o = is_ge o

abbrev pub is_null : Value → Bool
is_null Null = true
is_null _ = false

-- a comparison; with null it is false, whatever the sign
abbrev pub compares : Sign → Value → Value → Bool
compares s Null b = false
compares s a Null = false
compares s a b = meets s (value_order a b)

-- whether a value is in a set; null is in none
abbrev pub is_member : Value → Meaning → Bool
is_member Null set = false
is_member v (Single _) = false
is_member v (Set vs) = list_any (same_value v) vs

-- whether a condition is true
abbrev pub holds : State → List Variable → Condition → Bool
holds state variables (condition.Compare s left right) = compares s (term_value state variables left) (term_value state variables right)
holds state variables (condition.Null term) = is_null (term_value state variables term)
holds state variables (condition.NotNull term) = not (is_null (term_value state variables term))
holds state variables (condition.Member v set) = is_member (term_value state variables v) (term_meaning state variables set)

-- the variables while a query looks at an entity: its own hides an outer one of its name
abbrev pub variables_at : List Variable → Query → EntityId → List Variable
variables_at variables query e = bind query.var (Entity e) variables

-- all live entities of a type that is known
abbrev pub entities_in : State → Option ℕ → List EntityId
entities_in state None = []
entities_in state (Some ty) = entities_of state ty

-- the selection: all live entities of the type, descendants included, for which each condition is true
abbrev pub selects : State → List Variable → Query → List EntityId
selects state variables query =
    filter (λ e. list_all (holds state (variables_at variables query e)) query.conditions) (entities_in state (type_named state.schema query.ty))

-- two values under a key: null first in both directions, a descending key reversing the others
abbrev pub directed : Bool → Value → Value → Ordering
directed descending Null Null = Equal
directed descending Null b = Less
directed descending a Null = Greater
directed false a b = value_order a b
directed true a b = ordering_reverse (value_order a b)

abbrev pub key_order : State → List Variable → Query → Key → EntityId → EntityId → Ordering
key_order state variables query key a b =
    directed key.descending (term_value state (variables_at variables query a) key.term) (term_value state (variables_at variables query b) key.term)

-- the written order: the first key at which two entities differ decides, and where there is none the entities themselves
abbrev pub keys_order : State → List Variable → Query → List Key → EntityId → EntityId → Ordering
keys_order state variables query [] a b = entity_order a b
keys_order state variables query (key ∷ keys) a b =
    ordering_then (key_order state variables query key a b) (keys_order state variables query keys a b)

abbrev pub written_order : State → List Variable → Query → EntityId → EntityId → Ordering
written_order state variables query = keys_order state variables query query.keys

abbrev pub written_before : State → List Variable → Query → EntityId → EntityId → Bool
written_before state variables query a b = is_lt (written_order state variables query a b)

-- the selection in the written order
abbrev pub selected : State → List Variable → Query → List EntityId
selected state variables query = arranged (written_before state variables query) (selects state variables query)
