-- What a base is asked: the calls on a state, what a state has to admit, by which rule a call has to be refused, and what it leaves.
use Rattle.std.specs.Prelude.{ℕ, Bool, true, false, not, ◌&&◌, ◌||◌, if◌then◌else◌, List, [], ◌∷◌, Option, Some, None, is_some, IsTrue}
use Rattle.st_values.specs.declared.value.EntityId.{EntityId}
use Rattle.st_values.specs.declared.value.Value.{Value}
use Rattle.st_values.specs.declared.value.Value.TheVariants.{Null}
use Rattle.st_lattice.specs.declared.attribute.Attribute.{Attribute}
use Rattle.st_lattice.specs.declared.stores.StoreKind.TheVariants.{Extent}
use Rattle.st_lattice.specs.Outline.{Outline, attribute}
use Rattle.st_lattice.specs.Lattice.{isa}
use Rattle.st_lattice.specs.Stores.{store, extents, index_of, inverse_of, cell, aside, deleted, passes}
use Rattle.st_state.specs.declared.refusal.Refusal.{Refusal}
use Rattle.st_state.specs.State.{State, is_live, entity_made, attribute_set, member_added, member_taken, entity_deleted}
use Rattle.st_state.specs.Legal.{can_hold}
use Rattle.st_state.specs.Bases.{not_unique, still_needed, spent}

-- A call, with what it is given; attributes and types by number.
pub data Call : Type 0 where
  -- whether an entity is live
  Live : EntityId → Call
  -- a new entity of a type
  Make : ℕ → Call
  -- the value of an attribute of an entity
  Get : EntityId → ℕ → Call
  -- a value for an attribute of an entity
  Set : EntityId → ℕ → Value → Call
  -- the set of an attribute of an entity
  Members : EntityId → ℕ → Call
  -- a value into such a set
  Add : EntityId → ℕ → Value → Call
  -- a value out of such a set
  Take : EntityId → ℕ → Value → Call
  -- the entities whose attribute has a value, or has it in its set
  Turned : ℕ → Value → Call
  -- an entity away
  Delete : EntityId → Call
  -- the live entities of a type, descendants included
  Listed : ℕ → Call

-- a schema has an attribute with a number
abbrev pub HasAttribute : Outline → ℕ → Type 0
HasAttribute schema number = IsTrue (is_some (attribute schema number))

-- an entity is live and has an attribute with single values
pub record HasSingle (state : State) (e : EntityId) (number : ℕ) : Type 0 where
  pub live : IsTrue (is_live state e)
  pub single : IsTrue (passes (λ a. isa state.schema e.ty a.owner && not a.many) (attribute state.schema number))

-- an entity is live and has an attribute with sets
pub record HasSet (state : State) (e : EntityId) (number : ℕ) : Type 0 where
  pub live : IsTrue (is_live state e)
  pub many : IsTrue (passes (λ a. isa state.schema e.ty a.owner && a.many) (attribute state.schema number))

-- an attribute can hold a value, or have it in its set
abbrev pub CanHold : State → ℕ → Value → Type 0
CanHold state number value = IsTrue (passes (λ a. can_hold state a.kind value) (attribute state.schema number))

-- an attribute can be set to a value: to null too
abbrev pub CanBe : State → ℕ → Value → Type 0
CanBe state number Null = Unit {0}
CanBe state number value = CanHold state number value

-- rule 4 for the attribute with a number, where there is one
abbrev pub shared_at : State → Option Attribute → EntityId → Value → Option Refusal
shared_at state None e value = None
shared_at state (Some a) e value = not_unique state a (Some e) value

-- a state admits a call: what the call is given is there, and fits
abbrev pub Admits : State → Call → Type 0
Admits state (Get e number) = HasSingle state e number
Admits state (Set e number value) = HasSingle state e number × CanBe state number value
Admits state (Members e number) = HasSet state e number
Admits state (Add e number value) = HasSet state e number × CanHold state number value
Admits state (Take e number value) = HasSet state e number × CanHold state number value
Admits state (Turned number value) = CanHold state number value
Admits state (Delete e) = IsTrue (is_live state e)
Admits state _ = Unit {0}

-- the rule by which a call has to be refused, if one has to
abbrev pub due : State → Call → Option Refusal
due state (Make ty) = spent state ty
due state (Set e number value) = shared_at state (attribute state.schema number) e value
due state (Delete e) = still_needed state e
due state _ = None

-- what a call leaves that is not refused
abbrev pub after : State → Call → State
after state (Make ty) = entity_made state ty
after state (Set e number value) = attribute_set state number e value
after state (Add e number value) = member_added state number e value
after state (Take e number value) = member_taken state number e value
after state (Delete e) = entity_deleted state e
after state _ = state

-- The numbers of the rules by which a call may be refused. Two of them are not the state's: where pages hold it, a
-- transaction can change too many of them (12), and none may be free (13).
abbrev pub rules_of : Call → List ℕ
rules_of (Make ty) = 9 ∷ 12 ∷ 13 ∷ []
rules_of (Set e number value) = 4 ∷ 12 ∷ 13 ∷ []
rules_of (Add e number value) = 12 ∷ 13 ∷ []
rules_of (Take e number value) = 12 ∷ 13 ∷ []
rules_of (Delete e) = 6 ∷ 12 ∷ 13 ∷ []
rules_of _ = []

-- whether a call may change what is stored; the others only look
abbrev pub may_change : Call → Bool
may_change (Live e) = false
may_change (Get e number) = false
may_change (Members e number) = false
may_change (Turned number value) = false
may_change (Listed ty) = false
may_change _ = true

-- some stores of an attribute, where there is one
abbrev pub stores_by : (Attribute → List ℕ) → Option Attribute → List ℕ
stores_by stores None = []
stores_by stores (Some a) = stores a

-- Where the entities are found whose attribute has a value: its inverse, where it has one, else its index, which each unique
-- attribute keeps, else its values.
abbrev pub found_in : Outline → Attribute → List ℕ
found_in schema a = if is_some a.inverse then inverse_of a else if a.index || a.unique then index_of a else cell schema a

-- where an attribute of an entity is, with all that changes with it: the extent of the entity's type, and what the attribute has
-- beside the extents
abbrev pub changed_stores : Outline → EntityId → ℕ → List ℕ
changed_stores schema e number = store Extent e.ty ∷ stores_by aside (attribute schema number)

-- the stores that a call looks at or changes
abbrev pub call_stores : Outline → Call → List ℕ
call_stores schema (Live e) = store Extent e.ty ∷ []
call_stores schema (Make ty) = store Extent ty ∷ []
call_stores schema (Get e number) = stores_by (cell schema) (attribute schema number)
call_stores schema (Set e number value) = changed_stores schema e number
call_stores schema (Members e number) = stores_by (cell schema) (attribute schema number)
call_stores schema (Add e number value) = changed_stores schema e number
call_stores schema (Take e number value) = changed_stores schema e number
call_stores schema (Turned number value) = stores_by (found_in schema) (attribute schema number)
call_stores schema (Delete e) = deleted schema e.ty
call_stores schema (Listed ty) = extents schema ty
