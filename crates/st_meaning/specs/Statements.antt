-- What each statement leaves and answers. A statement is run once no rule refused it.
use Rattle.std.specs.Prelude.{ℕ, List, [], ◌∷◌, ◌++◌, map, find, drop, length, flat_map, codes, Option, Some, None}
use Rattle.std.specs.Fmt.{decimal}
use Rattle.std.specs.List.{join_with_byte}
use Rattle.st_values.specs.declared.value.EntityId.{EntityId}
use Rattle.st_values.specs.declared.value.Value.{Value}
use Rattle.st_values.specs.declared.value.Value.TheVariants as value
use Rattle.st_values.specs.Print.{printed}
use Rattle.st_lattice.specs.declared.attribute.Attribute.{Attribute}
use Rattle.st_lattice.specs.declared.called.Called.{Called}
use Rattle.st_lattice.specs.declared.called.Called.TheVariants.{Own}
use Rattle.st_lattice.specs.Called.{called}
use Rattle.st_lattice.specs.Outline.{type_named}
use Rattle.st_lattice.specs.Lattice.{isa, attribute_of}
use Rattle.st_query.specs.declared.statement.Cell.{Cell}
use Rattle.st_query.specs.declared.query.Query.{Query}
use Rattle.st_query.specs.declared.statement.Statement.{Statement}
use Rattle.st_query.specs.declared.statement.Statement.TheVariants.{Make, Set as SetTo, Add, Take, Delete, Find, Ensure, Let, Print, ForEach, Abort}
use Rattle.st_query.specs.declared.term.Term.{Term}
use Rattle.st_query.specs.declared.term.Variable.{Variable}
use Rattle.st_query.specs.Terms.{bind}
use Rattle.st_state.specs.State.{State, turned, next_entity, entity_made, attribute_set, member_added, member_taken, entity_deleted}
use Rattle.st_meaning.specs.Terms.{Meaning, Single, Set, term_meaning, term_value}
use Rattle.st_meaning.specs.Selection.{variables_at, selected}

-- a state and the variables of the transaction that runs in it
pub record Present : Type 0 where
  pub state : State
  pub variables : List Variable

-- the value of a term at present
abbrev pub value_now : Present → Term → Value
value_now p term = term_value p.state p.variables term

-- a variable bound to a value
abbrev pub binds : Present → List ℕ → Value → Present
binds p var v = record p { variables = bind var v p.variables }

-- the values of cells
abbrev pub cell_values : Present → List Cell → List Value
cell_values p cells = map (λ cell. value_now p cell.value) cells

-- one cell of an entity set to a value that was found
abbrev pub cell_set : Option Attribute → EntityId → Value → State → State
cell_set None entity v state = state
cell_set (Some attribute) entity v state = attribute_set state attribute.number entity v

-- the cells of an entity set, one after another, to values that were found before
abbrev pub cells_set : ℕ → EntityId → List Cell → List Value → State → State
cells_set ty entity (cell ∷ cells) (v ∷ vs) state = cells_set ty entity cells vs (cell_set (attribute_of state.schema ty cell.name) entity v state)
cells_set ty entity _ _ state = state

-- make: a live entity of the type with the next serial and the cells that are given, to which the variable is bound
abbrev pub makes_of : Present → List ℕ → List Cell → ℕ → Present
makes_of p var cells ty =
    record {
      state = cells_set ty (next_entity p.state ty) cells (cell_values p cells) (entity_made p.state ty);
      variables = bind var (value.Entity (next_entity p.state ty)) p.variables;
    }

abbrev pub makes : Present → List ℕ → List Cell → Option ℕ → Present
makes p var cells None = p
makes p var cells (Some ty) = makes_of p var cells ty

-- set: the attribute's value
abbrev pub sets : State → Called Attribute → Value → Value → State
sets state (Own attribute) (value.Entity entity) v = attribute_set state attribute.number entity v
sets state _ _ v = state

-- add-to-set: a value put into the attribute's set
abbrev pub adds : State → Called Attribute → Value → Value → State
adds state (Own attribute) (value.Entity entity) v = member_added state attribute.number entity v
adds state _ _ v = state

-- delete-from-set: a value taken out of the attribute's set
abbrev pub takes : State → Called Attribute → Value → Value → State
takes state (Own attribute) (value.Entity entity) v = member_taken state attribute.number entity v
takes state _ _ v = state

-- delete-entity
abbrev pub deletes : State → Value → State
deletes state (value.Entity entity) = entity_deleted state entity
deletes state _ = state

-- The live entity of a type, descendants included, whose attribute has a value. Null and a text that is too long are
-- the value of no attribute.
abbrev pub holder : State → ℕ → Option Attribute → Value → Option EntityId
holder state ty None v = None
holder state ty (Some attribute) v = find (λ e. isa state.schema e.ty ty) (turned attribute.number v state.triples)

-- an entity, or null where there is none
abbrev pub found_value : Option EntityId → Value
found_value None = value.Null
found_value (Some entity) = value.Entity entity

-- find: the variable is bound to the entity that has the value, or to null
abbrev pub finds : State → List ℕ → Value → Option ℕ → Value
finds state key v None = value.Null
finds state key v (Some ty) = found_value (holder state ty (attribute_of state.schema ty key) v)

-- ensure: where an entity has the first cell's value, its other cells are set, and else one is made with all cells
abbrev pub ensures_at : Present → List ℕ → List Cell → ℕ → Option EntityId → Present
ensures_at p var cells ty None = makes_of p var cells ty
ensures_at p var cells ty (Some entity) =
    record {
      state = cells_set ty entity (drop 1 cells) (cell_values p (drop 1 cells)) p.state;
      variables = bind var (value.Entity entity) p.variables;
    }

-- the entity that has the first cell's value
abbrev pub key_holder : Present → ℕ → List Cell → Option EntityId
key_holder p ty [] = None
key_holder p ty (key ∷ cells) = holder p.state ty (attribute_of p.state.schema ty key.name) (value_now p key.value)

abbrev pub ensures : Present → List ℕ → List Cell → Option ℕ → Present
ensures p var cells None = p
ensures p var cells (Some ty) = ensures_at p var cells ty (key_holder p ty cells)

-- what a statement leaves
abbrev pub does : Present → Statement → Present
does p (Make var ty cells) = makes p var cells (type_named p.state.schema ty)
does p (SetTo feature target written) = record p { state = sets p.state (called p.state.schema feature) (value_now p target) (value_now p written) }
does p (Add feature target written) = record p { state = adds p.state (called p.state.schema feature) (value_now p target) (value_now p written) }
does p (Take feature target written) = record p { state = takes p.state (called p.state.schema feature) (value_now p target) (value_now p written) }
does p (Delete target) = record p { state = deletes p.state (value_now p target) }
does p (Find var ty key written) = binds p var (finds p.state key (value_now p written) (type_named p.state.schema ty))
does p (Ensure var ty cells) = ensures p var cells (type_named p.state.schema ty)
does p (Let var written) = binds p var (value_now p written)
does p (Print terms) = p
does p (ForEach query) = p
does p Abort = p

-- a value as it is printed; a set stands in braces, its values in order
abbrev pub printed_meaning : List (List ℕ) → Meaning → List ℕ
printed_meaning names (Single v) = printed names v
printed_meaning names (Set vs) = 123 ∷ join_with_byte 32 (map (printed names) vs) ++ 125 ∷ []

-- what a line says: a sign, and the values, each behind a space
abbrev pub tail : List (List ℕ) → ℕ → List Meaning → List ℕ
tail names mark meanings = mark ∷ flat_map (λ m. 32 ∷ printed_meaning names m) meanings

-- a print: an equals sign and the values
abbrev pub print_tail : Present → List Term → List ℕ
print_tail p terms = tail p.state.schema.names 61 (map (term_meaning p.state p.variables) terms)

-- an entity of a for-each: a star, the entity, and what is shown of it
abbrev pub entity_tail : Present → Query → EntityId → List ℕ
entity_tail p query e =
    tail p.state.schema.names 42 (Single (value.Entity e) ∷ map (term_meaning p.state (variables_at p.variables query e)) query.shown)

-- the end of a for-each: a dot, and how many entities there were
abbrev pub count_tail : ℕ → List ℕ
count_tail count = codes ". " ++ decimal count

-- a for-each: a line for each entity in the written order, and their number
abbrev pub query_tails : Present → Query → List EntityId → List (List ℕ)
query_tails p query entities = map (entity_tail p query) entities ++ count_tail (length entities) ∷ []

-- what a statement answers: what its lines say behind the turn and the client
abbrev pub answers : Present → Statement → List (List ℕ)
answers p (Print terms) = print_tail p terms ∷ []
answers p (ForEach query) = query_tails p query (selected p.state p.variables query)
answers p _ = []
