-- What is checked of a written schema once its forms fit: each check names the first fault in text order.
use Rattle.std.specs.Prelude.{ℕ, ◌+◌, min, Bool, true, false, not, nat_lt, if◌then◌else◌, List, [], ◌∷◌, ◌++◌, length, map, Option, Some, None, Ok, Err}
use Rattle.std.specs.Option.{option_or, option_map}
use Rattle.st_values.specs.Names.{has, first_repeated}
use Rattle.st_schema.specs.declared.fault.Counted.TheVariants.{Types, Attributes}
use Rattle.st_schema.specs.declared.fault.SchemaFault.{SchemaFault}
use Rattle.st_schema.specs.declared.fault.SchemaFault.TheVariants.{Repeated, UnknownParent, UnknownType, TooMany, BadOption}
use Rattle.st_schema.specs.declared.written.Setting.{Setting}
use Rattle.st_schema.specs.declared.written.Setting.TheVariants as setting
use Rattle.st_schema.specs.declared.written.Choice.{Choice}
use Rattle.st_schema.specs.declared.written.Worded.{Worded}
use Rattle.st_schema.specs.declared.written.Worded.TheVariants as worded
use Rattle.st_schema.specs.declared.written.AttributeForm.{AttributeForm}
use Rattle.st_schema.specs.declared.written.TypeForm.{TypeForm}
use Rattle.st_schema.specs.Written.{Reading}

-- a value where there is no fault
abbrev pub unless : {A : Type 0} → Option SchemaFault → A → Reading A
unless None x = Ok x
unless (Some fault) x = Err fault

-- how many attributes are written
abbrev pub attribute_count : List TypeForm → ℕ
attribute_count [] = 0
attribute_count (t ∷ types) = length t.attributes + attribute_count types

-- a count of 32 bits, which stands still at its greatest value
abbrev pub counted : ℕ → ℕ
counted n = min n 4294967295

-- at most 64 types, and then at most 256 attributes
abbrev pub too_many : List TypeForm → Option SchemaFault
too_many types =
    if nat_lt 64 (length types) then Some (TooMany Types (counted (length types)))
    else (if nat_lt 256 (attribute_count types) then Some (TooMany Attributes (counted (attribute_count types))) else None)

-- the names of types differ
abbrev pub repeated_type : List TypeForm → Option SchemaFault
repeated_type types = option_map Repeated (first_repeated [] (map (λ t. t.name) types))

-- each parent of a type is an earlier type, and stands once
abbrev pub parent_fault : List (List ℕ) → List (List ℕ) → List (List ℕ) → Option SchemaFault
parent_fault earlier before [] = None
parent_fault earlier before (parent ∷ parents) =
    if not (has earlier parent) then Some (UnknownParent parent)
    else (if has before parent then Some (Repeated parent) else parent_fault earlier (before ++ parent ∷ []) parents)

abbrev pub parents_fault : List (List ℕ) → List TypeForm → Option SchemaFault
parents_fault earlier [] = None
parents_fault earlier (t ∷ types) = option_or (parent_fault earlier [] t.parents) (parents_fault (earlier ++ t.name ∷ []) types)

-- the type of an attribute's values, where no type has its name
abbrev pub unknown_of : List (List ℕ) → Worded → Option SchemaFault
unknown_of names (worded.Entity name) = if has names name then None else Some (UnknownType name)
unknown_of names _ = None

abbrev pub unknown_in : List (List ℕ) → List AttributeForm → Option SchemaFault
unknown_in names [] = None
unknown_in names (a ∷ attributes) = option_or (unknown_of names a.worded) (unknown_in names attributes)

-- the types of attributes' values are types of the text, also later ones
abbrev pub unknown_type : List (List ℕ) → List TypeForm → Option SchemaFault
unknown_type names [] = None
unknown_type names (t ∷ types) = option_or (unknown_in names t.attributes) (unknown_type names types)

abbrev pub is_entity : Worded → Bool
is_entity (worded.Entity name) = true
is_entity _ = false

-- only an attribute whose values are entities has an inverse, and no set is unique or without nulls
abbrev pub goes_with : Worded → Bool → Setting → Bool
goes_with w many (setting.Inverse name) = is_entity w
goes_with w many (setting.Unique true) = not many
goes_with w many (setting.NoNulls true) = not many
goes_with w many _ = true

abbrev pub choice_fault : Worded → Bool → List Choice → Option SchemaFault
choice_fault w many [] = None
choice_fault w many (c ∷ choices) = if goes_with w many c.setting then choice_fault w many choices else Some (BadOption c.place)

abbrev pub choices_in : List AttributeForm → Option SchemaFault
choices_in [] = None
choices_in (a ∷ attributes) = option_or (choice_fault a.worded a.many a.choices) (choices_in attributes)

-- each option goes with the type of its attribute
abbrev pub bad_option : List TypeForm → Option SchemaFault
bad_option [] = None
bad_option (t ∷ types) = option_or (choices_in t.attributes) (bad_option types)

-- the first fault of the checks that come before names are looked up, check by check
abbrev pub written_fault : List TypeForm → Option SchemaFault
written_fault types =
    let names = map (λ t. t.name) types in
    option_or (too_many types) (option_or (repeated_type types) (option_or (parents_fault [] types) (option_or (unknown_type names types) (bad_option types))))
