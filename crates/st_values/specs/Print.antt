use Rattle.std.specs.Prelude.{◌==◌, ◌++◌, ℕ, List, [], ◌∷◌, slice_index_or, flat_map, codes, true, false, if◌then◌else◌}
use Rattle.std.specs.Fmt.{decimal, signed_decimal}
use Rattle.st_values.specs.declared.value.EntityId.{EntityId}
use Rattle.st_values.specs.declared.value.Value.{Value}
use Rattle.st_values.specs.declared.value.Value.TheVariants.{Null, Int, Bool, Text, Entity}

-- a byte of a text between quotes: a quote, a backslash and a line feed have a backslash form
abbrev pub escaped : ℕ → List ℕ
escaped byte =
    if byte == 34 then 92 ∷ 34 ∷ []
    else if byte == 92 then 92 ∷ 92 ∷ []
    else if byte == 10 then 92 ∷ 110 ∷ []
    else byte ∷ []

-- a text between quotes
abbrev pub quoted : List ℕ → List ℕ
quoted text = 34 ∷ flat_map escaped text ++ 34 ∷ []

-- an entity: the name of its type, a `#`, and its serial number; a type that isn't there has no name
abbrev pub printed_entity : List (List ℕ) → EntityId → List ℕ
printed_entity names entity = slice_index_or names entity.ty [] ++ 35 ∷ decimal entity.serial

-- a value as it is printed, with the names of the types
abbrev pub printed : List (List ℕ) → Value → List ℕ
printed names Null = codes "null"
printed names (Int number) = signed_decimal number
printed names (Bool true) = codes "true"
printed names (Bool false) = codes "false"
printed names (Text text) = quoted text
printed names (Entity entity) = printed_entity names entity
