-- What cells give, what an entity is to get, and how it gets it.
use Rattle.std.specs.Prelude.{◌≡◌, ℕ, Bool, true, false, ◌||◌, ◌==◌, ◌++◌, nat_le, List, [], ◌∷◌, length, map, find, filter_map, flat_map, Option, Some, None, All, ⊤}
use Rattle.st_values.specs.declared.value.EntityId.{EntityId}
use Rattle.st_values.specs.declared.value.Kind.{Kind}
use Rattle.st_values.specs.declared.value.Kind.TheVariants as kind
use Rattle.st_values.specs.declared.value.Value.{Value}
use Rattle.st_values.specs.declared.value.Value.TheVariants as value
use Rattle.st_lattice.specs.declared.attribute.Attribute.{Attribute}
use Rattle.st_lattice.specs.Outline.{Outline, attribute}
use Rattle.st_lattice.specs.Lattice.{attributes_in, attribute_of}
use Rattle.st_lattice.specs.declared.stores.StoreKind.TheVariants.{Extent}
use Rattle.st_lattice.specs.Stores.{store, aside}
use Rattle.st_query.specs.declared.statement.Cell.{Cell}
use Rattle.st_query.specs.declared.term.Variable.{Variable}
use Rattle.st_query.specs.Kinds.{kind_sort, value_sort, store_well}
use Rattle.st_state.specs.declared.refusal.Refusal.{Refusal}
use Rattle.st_state.specs.State.{State, is_live, next_entity, entity_made, attribute_set, member_added}
use Rattle.st_state.specs.Legal.{IsNearlyLegal}
use Rattle.st_state.specs.Bases.{spent}
use Rattle.st_state.specs.Refusals.{first_of}
use Rattle.st_state.specs.Calls.{Set, Add, Admits, due, stores_by, found_in, changed_stores}
use Rattle.st_meaning.specs.Terms.{term_value}
use Rattle.st_meaning.specs.Rules.{Filling as Rule, too_long, missing, shared}
use Rattle.st_plain.specs.Base.{behind}
use Rattle.st_makes.specs.declared.given.Given.{Given}
use Rattle.st_makes.specs.declared.filling.Filling.{Filling}

-- ---- what cells give

-- what a cell gives to its attribute, where it has one
abbrev pub given_by : Option Attribute → Value → List Given
given_by None v = []
given_by (Some a) v = record { number = a.number; many = a.many; value = v } ∷ []

abbrev pub givens_of : State → List Variable → ℕ → List Cell → List Given
givens_of state variables ty cells = flat_map (λ c. given_by (attribute_of state.schema ty c.name) (term_value state variables c.value)) cells

-- what is given to an attribute
abbrev pub given_to : List Given → ℕ → Option Given
given_to givens number = find (λ g. g.number == number) givens

-- the value in it, and null where there is none
abbrev pub value_in : Option Given → Value
value_in None = value.Null
value_in (Some g) = g.value

-- ---- what an entity is to get

-- whether an attribute is one that a key names
abbrev pub is_key : Option ℕ → ℕ → Bool
is_key None number = false
is_key (Some key) number = key == number

-- an attribute of a new entity
abbrev pub new_filling : Option ℕ → List Given → Attribute → Filling
new_filling key givens a = record { attribute = a; value = value_in (given_to givens a.number); wanted = a.no_nulls || is_key key a.number }

abbrev pub new_fillings : Outline → ℕ → Option ℕ → List Given → List Filling
new_fillings schema ty key givens = map (new_filling key givens) (attributes_in schema ty)

-- an attribute of an entity that is there already, if something is given to it
abbrev pub filling_by : Attribute → Option Given → Option Filling
filling_by a None = None
filling_by a (Some g) = Some (record { attribute = a; value = g.value; wanted = a.no_nulls })

abbrev pub given_fillings : Outline → ℕ → List Given → List Filling
given_fillings schema ty givens = filter_map (λ a. filling_by a (given_to givens a.number)) (attributes_in schema ty)

-- ---- the rules on it

-- what the rules see
abbrev pub rule_of : Filling → Rule
rule_of f = record { attribute = f.attribute; value = f.value; wanted = f.wanted }

-- rules 8, 3 and 4, each for all, where an entity is filled that is there already, or none
abbrev pub refused_by : State → Option EntityId → List Rule → Option Refusal
refused_by state filled fillings =
    first_of (first_of (map (λ f. too_long f.attribute.kind f.value) fillings) ∷ first_of (map (missing state.schema) fillings)
    ∷ first_of (map (shared state filled) fillings) ∷ [])

-- a refusal, if there is one, is none by pages
abbrev pub IsOfState : Option Refusal → Type 0
IsOfState None = ⊤
IsOfState (Some refusal) = behind refusal ≡ None

-- whether an attribute of a kind can have a value of its sort: no null, and no text that is too long
abbrev pub may_have : Kind → Value → Bool
may_have k value.Null = false
may_have (kind.Text limit) (value.Text text) = nat_le (length text) limit
may_have k v = true

-- a value that was checked for an attribute of the schema: it is of its sort, and is live
pub record IsMeant (state : State) (a : Attribute) (v : Value) : Type 0 where
  pub there : attribute state.schema a.number ≡ Some a
  pub sorted : store_well state.schema (kind_sort a.kind) (value_sort v) ≡ true
  pub live : (e : EntityId) → v ≡ value.Entity e → is_live state e ≡ true

-- where the entities are found whose attribute has a value
abbrev pub found_stores : Outline → ℕ → List ℕ
found_stores schema number = stores_by (found_in schema) (attribute schema number)

-- ---- how it gets it

-- what is given, put into an entity
abbrev pub givens_set : EntityId → List Given → State → State
givens_set entity [] state = state
givens_set entity (g ∷ gs) state = givens_set entity gs (attribute_set state g.number entity g.value)

-- A value can be set, and that has not to be refused. An attribute with sets gets one more value, which has to leave the same.
abbrev pub AdmitsValue : Bool → State → EntityId → ℕ → Value → Type 0
AdmitsValue false state entity number v = Admits state (Set entity number v) × (due state (Set entity number v) ≡ None)
AdmitsValue true state entity number v = Admits state (Add entity number v) × (member_added state number entity v ≡ attribute_set state number entity v)

-- each value that is given, on the way
abbrev pub AdmitsGivens : EntityId → List Given → State → Type 0
AdmitsGivens entity [] state = ⊤
AdmitsGivens entity (g ∷ gs) state = AdmitsValue g.many state entity g.number g.value × AdmitsGivens entity gs (attribute_set state g.number entity g.value)

abbrev pub givens_stores : Outline → EntityId → List Given → List ℕ
givens_stores schema entity givens = flat_map (λ g. changed_stores schema entity g.number) givens

-- ---- a new entity

-- the rules on it: 8, 3, 4 and then 9
abbrev pub makes_refused : State → ℕ → Option ℕ → List Given → Option Refusal
makes_refused state ty key givens = first_of (refused_by state None (map rule_of (new_fillings state.schema ty key givens)) ∷ spent state ty ∷ [])

abbrev pub makes_stores : State → ℕ → Option ℕ → List Given → List ℕ
makes_stores state ty key givens =
    flat_map (λ f. aside f.attribute) (new_fillings state.schema ty key givens)
    ++ (store Extent ty ∷ [] ++ givens_stores state.schema (next_entity state ty) givens)

-- what is given was checked, and where the rules on it don't refuse it the new entity can get it
pub record CanMake (state : State) (ty : ℕ) (key : Option ℕ) (givens : List Given) : Type 0 where
  pub nearly : IsNearlyLegal state
  pub meant : All (λ f. IsMeant state f.attribute f.value) (new_fillings state.schema ty key givens)
  pub admits : refused_by state None (map rule_of (new_fillings state.schema ty key givens)) ≡ None → AdmitsGivens (next_entity state ty) givens (entity_made state ty)

-- ---- an entity that is there already

abbrev pub fills_refused : State → ℕ → EntityId → List Given → Option Refusal
fills_refused state ty entity givens = refused_by state (Some entity) (map rule_of (given_fillings state.schema ty givens))

abbrev pub fills_stores : State → ℕ → EntityId → List Given → List ℕ
fills_stores state ty entity givens = flat_map (λ f. aside f.attribute) (given_fillings state.schema ty givens) ++ givens_stores state.schema entity givens

pub record CanFill (state : State) (ty : ℕ) (entity : EntityId) (givens : List Given) : Type 0 where
  pub nearly : IsNearlyLegal state
  pub meant : All (λ f. IsMeant state f.attribute f.value) (given_fillings state.schema ty givens)
  pub admits : fills_refused state ty entity givens ≡ None → AdmitsGivens entity givens state

-- ---- the one or the other, by whether an entity was found; what is given to the key comes first, and the others follow

abbrev pub ensures_refused : State → ℕ → ℕ → List Given → List Given → Option EntityId → Option Refusal
ensures_refused state ty key others givens None = makes_refused state ty (Some key) givens
ensures_refused state ty key others givens (Some entity) = fills_refused state ty entity others

abbrev pub ensured : State → ℕ → List Given → List Given → Option EntityId → State
ensured state ty others givens None = givens_set (next_entity state ty) givens (entity_made state ty)
ensured state ty others givens (Some entity) = givens_set entity others state

abbrev pub ensured_entity : State → ℕ → Option EntityId → EntityId
ensured_entity state ty None = next_entity state ty
ensured_entity state ty (Some entity) = entity

abbrev pub ensures_stores : State → ℕ → ℕ → List Given → List Given → Option EntityId → List ℕ
ensures_stores state ty key others givens None = makes_stores state ty (Some key) givens
ensures_stores state ty key others givens (Some entity) = fills_stores state ty entity others

abbrev pub CanEnsure : State → ℕ → ℕ → List Given → List Given → Option EntityId → Type 0
CanEnsure state ty key others givens None = CanMake state ty (Some key) givens
CanEnsure state ty key others givens (Some entity) = CanFill state ty entity others
