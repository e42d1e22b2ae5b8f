-- The rules by which a statement is refused, each by itself, and their order. What a base answers of a state is in
-- `Bases` of `st_state`.
use Rattle.std.specs.Prelude.{ℕ, Bool, true, false, ◌||◌, ◌&&◌, nat_le, if◌then◌else◌, List, [], ◌∷◌, map, find, filter_map, length, Option, Some, None}
use Rattle.std.specs.Str.{bytes_eq}
use Rattle.st_values.specs.declared.value.EntityId.{EntityId}
use Rattle.st_values.specs.declared.value.Kind.{Kind}
use Rattle.st_values.specs.declared.value.Kind.TheVariants as kind
use Rattle.st_values.specs.declared.value.Value.{Value}
use Rattle.st_values.specs.declared.value.Value.TheVariants as value
use Rattle.st_lattice.specs.declared.attribute.Attribute.{Attribute}
use Rattle.st_lattice.specs.declared.called.Called.{Called}
use Rattle.st_lattice.specs.declared.called.Called.TheVariants.{Own}
use Rattle.st_lattice.specs.Called.{called}
use Rattle.st_lattice.specs.Outline.{Outline, type_named, attribute_name}
use Rattle.st_lattice.specs.Lattice.{attributes_in}
use Rattle.st_query.specs.declared.statement.Cell.{Cell}
use Rattle.st_query.specs.declared.statement.Statement.{Statement}
use Rattle.st_query.specs.declared.statement.Statement.TheVariants.{Make, Set, Add, Take, Delete, Ensure, Abort}
use Rattle.st_query.specs.Kinds.{known}
use Rattle.st_query.specs.Written.{starts_of}
use Rattle.st_state.specs.declared.refusal.Refusal.{Refusal}
use Rattle.st_state.specs.declared.refusal.Refusal.TheVariants.{NullNotAllowed, NoSuchEntity, TextTooLong, Aborted, NullEntity}
use Rattle.st_state.specs.Refusals.{first_of}
use Rattle.st_state.specs.State.{State, is_live}
use Rattle.st_state.specs.Bases.{not_unique, still_needed, spent}
use Rattle.st_meaning.specs.Terms.{start_value}
use Rattle.st_meaning.specs.Selection.{is_null}
use Rattle.st_meaning.specs.Statements.{Present, value_now, key_holder}
use Rattle.st_meaning.specs.Checks.{text_refused}

-- rule 10: the transaction gives itself up
abbrev pub rule_10 : Present → Statement → Option Refusal
rule_10 p Abort = Some Aborted
rule_10 p _ = None

-- rules 1, 2 and 7: names that aren't there, kinds that don't fit, sets that are none
abbrev pub rules_1_2_7 : Present → Statement → Option Refusal
rules_1_2_7 p statement = text_refused p.state.schema (known p.variables) statement

-- an entity that isn't live
abbrev pub dead : State → Value → Option Refusal
dead state (value.Entity e) = if is_live state e then None else Some (NoSuchEntity e)
dead state _ = None

-- rule 5: a literal or variable is an entity that isn't live; the first in text order
abbrev pub rule_5 : Present → Statement → Option Refusal
rule_5 p statement = first_of (map (λ start. dead p.state (start_value p.state p.variables start)) (starts_of statement))

abbrev pub null_target : Value → Option Refusal
null_target v = if is_null v then Some NullEntity else None

-- rule 11: what is to be changed or deleted is null
abbrev pub rule_11 : Present → Statement → Option Refusal
rule_11 p (Set feature target written) = null_target (value_now p target)
rule_11 p (Add feature target written) = null_target (value_now p target)
rule_11 p (Take feature target written) = null_target (value_now p target)
rule_11 p (Delete target) = null_target (value_now p target)
rule_11 p _ = None

-- what an attribute is to get: a value, and whether it has to be one
pub record Filling : Type 0 where
  pub attribute : Attribute
  pub value : Value
  pub wanted : Bool

-- the cell of an attribute
abbrev pub cell_of : List Cell → Attribute → Option Cell
cell_of cells a = find (λ cell. bytes_eq cell.name a.name) cells

-- what a cell gives; no cell gives null
abbrev pub given : Present → Option Cell → Value
given p None = value.Null
given p (Some cell) = value_now p cell.value

-- all attributes of a new entity; a key has to be given too
abbrev pub new_fillings : Present → ℕ → List Cell → (Attribute → Bool) → List Filling
new_fillings p ty cells is_key =
    map (λ a. record { attribute = a; value = given p (cell_of cells a); wanted = a.no_nulls || is_key a }) (attributes_in p.state.schema ty)

-- the attribute of a cell, if the cell is there
abbrev pub cell_filling : Present → Attribute → Option Cell → Option Filling
cell_filling p a None = None
cell_filling p a (Some cell) = Some (record { attribute = a; value = value_now p cell.value; wanted = a.no_nulls })

-- the attributes of an entity that have a cell
abbrev pub cell_fillings : Present → ℕ → List Cell → List Filling
cell_fillings p ty cells = filter_map (λ a. cell_filling p a (cell_of cells a)) (attributes_in p.state.schema ty)

-- an ensure sets the other cells of the entity that it found, and else gives a new entity all of them
abbrev pub ensure_fillings : Present → ℕ → List Cell → Option EntityId → List Filling
ensure_fillings p ty [] found = []
ensure_fillings p ty (key ∷ cells) (Some e) = cell_fillings p ty cells
ensure_fillings p ty (key ∷ cells) None = new_fillings p ty (key ∷ cells) (λ a. bytes_eq a.name key.name)

-- the attribute of a set
abbrev pub set_fillings : Value → Called Attribute → List Filling
set_fillings v (Own a) = record { attribute = a; value = v; wanted = a.no_nulls } ∷ []
set_fillings v _ = []

-- a set takes and gives no null
abbrev pub member_fillings : Value → Called Attribute → List Filling
member_fillings v (Own a) = record { attribute = a; value = v; wanted = true } ∷ []
member_fillings v _ = []

-- what depends on a type that is known
abbrev pub of_type : (ℕ → List Filling) → Option ℕ → List Filling
of_type fillings None = []
of_type fillings (Some ty) = fillings ty

-- which attributes a statement fills, in the order of the type's attributes
abbrev pub fillings : Present → Statement → List Filling
fillings p (Make var ty cells) = of_type (λ t. new_fillings p t cells (λ a. false)) (type_named p.state.schema ty)
fillings p (Set feature target written) = set_fillings (value_now p written) (called p.state.schema feature)
fillings p (Add feature target written) = member_fillings (value_now p written) (called p.state.schema feature)
fillings p (Take feature target written) = member_fillings (value_now p written) (called p.state.schema feature)
fillings p (Ensure var ty cells) = of_type (λ t. ensure_fillings p t cells (key_holder p t cells)) (type_named p.state.schema ty)
fillings p _ = []

abbrev pub too_long : Kind → Value → Option Refusal
too_long (kind.Text limit) (value.Text text) = if nat_le (length text) limit then None else Some (TextTooLong (length text) limit)
too_long _ _ = None

-- rule 8: a text that is to be stored is longer than its attribute allows; one that is taken out of a set is not stored
abbrev pub rule_8 : Present → Statement → Option Refusal
rule_8 p (Take feature target written) = None
rule_8 p statement = first_of (map (λ f. too_long f.attribute.kind f.value) (fillings p statement))

abbrev pub missing : Outline → Filling → Option Refusal
missing schema f = if f.wanted && is_null f.value then Some (NullNotAllowed (attribute_name schema f.attribute)) else None

-- rule 3: null for an attribute that admits none, into or out of a set, or as the key of an ensure
abbrev pub rule_3 : Present → Statement → Option Refusal
rule_3 p statement = first_of (map (missing p.state.schema) (fillings p statement))

-- the entity that a value is, if it is one
abbrev pub entity_in : Value → Option EntityId
entity_in (value.Entity e) = Some e
entity_in _ = None

-- the entity that an ensure finds
abbrev pub found_by : Present → List Cell → Option ℕ → Option EntityId
found_by p cells None = None
found_by p cells (Some ty) = key_holder p ty cells

-- the entity that a statement fills, where it is there already
abbrev pub filled_by : Present → Statement → Option EntityId
filled_by p (Set feature target written) = entity_in (value_now p target)
filled_by p (Ensure var ty cells) = found_by p cells (type_named p.state.schema ty)
filled_by p _ = None

-- what a base says of a filling, where an entity is filled that is there already, or none
abbrev pub shared : State → Option EntityId → Filling → Option Refusal
shared state filled f = not_unique state f.attribute filled f.value

-- rule 4: another entity has the value of a unique attribute; null is never held
abbrev pub rule_4 : Present → Statement → Option Refusal
rule_4 p statement = first_of (map (shared p.state (filled_by p statement)) (fillings p statement))

-- what a base says of a value that is to be deleted, if it is an entity
abbrev pub needed_value : State → Value → Option Refusal
needed_value state (value.Entity e) = still_needed state e
needed_value state _ = None

-- rule 6: another entity refers to one that is to be deleted by an attribute that admits no null; the least attribute number
abbrev pub rule_6 : Present → Statement → Option Refusal
rule_6 p (Delete target) = needed_value p.state (value_now p target)
rule_6 p _ = None

-- what a base says of a type that is known
abbrev pub spent_type : State → Option ℕ → Option Refusal
spent_type state None = None
spent_type state (Some ty) = spent state ty

abbrev pub spent_unless_found : State → Option EntityId → Option ℕ → Option Refusal
spent_unless_found state (Some _) ty = None
spent_unless_found state None ty = spent_type state ty

-- rule 9: an entity is to be made, and all serials of its type were given out
abbrev pub rule_9 : Present → Statement → Option Refusal
rule_9 p (Make var ty cells) = spent_type p.state (type_named p.state.schema ty)
rule_9 p (Ensure var ty cells) = spent_unless_found p.state (filled_by p (Ensure var ty cells)) (type_named p.state.schema ty)
rule_9 p _ = None

-- what each rule says of a statement, in the order of the rules
abbrev pub rules : Present → Statement → List (Option Refusal)
rules p statement =
    rule_10 p statement ∷ rules_1_2_7 p statement ∷ rule_5 p statement ∷ rule_11 p statement ∷ rule_8 p statement ∷ rule_3 p statement
    ∷ rule_4 p statement ∷ rule_6 p statement ∷ rule_9 p statement ∷ []

-- the refusal of a statement: that of the first rule that refuses it
unfoldable pub refusal : Present → Statement → Option Refusal
refusal p statement = first_of (rules p statement)
