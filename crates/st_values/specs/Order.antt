-- The order of values: null, integers by number, false before true, texts by their bytes, entities by type and serial.
use Rattle.std.specs.Prelude.{ℕ, Bool}
use Rattle.std.specs.declared.cmp.Ordering.{Ordering}
use Rattle.std.specs.Ordering.{ordering_then, nat_cmp, int_cmp, bool_cmp, is_lt, is_eq}
use Rattle.std.specs.Cmp.Lexicographic.{slice_cmp}
use Rattle.st_values.specs.declared.value.EntityId.{EntityId}
use Rattle.st_values.specs.declared.value.Value.{Value}
use Rattle.st_values.specs.declared.value.Value.TheVariants.{Null, Int, Bool as Truth, Text, Entity}

-- entities are ordered by type and then by serial
abbrev pub entity_order : EntityId → EntityId → Ordering
entity_order a b = ordering_then (nat_cmp a.ty b.ty) (nat_cmp a.serial b.serial)

-- whether an entity stands before another one
abbrev pub entity_before : EntityId → EntityId → Bool
entity_before a b = is_lt (entity_order a b)

-- whether two entities are the same
abbrev pub same_entity : EntityId → EntityId → Bool
same_entity a b = is_eq (entity_order a b)

-- the place of a value's kind among the kinds
abbrev pub kind_place : Value → ℕ
kind_place Null = 0
kind_place (Int _) = 1
kind_place (Truth _) = 2
kind_place (Text _) = 3
kind_place (Entity _) = 4

-- two values of one kind, and else the two kinds
abbrev pub value_order : Value → Value → Ordering
value_order (Int a) (Int b) = int_cmp a b
value_order (Truth a) (Truth b) = bool_cmp a b
value_order (Text a) (Text b) = slice_cmp nat_cmp a b
value_order (Entity a) (Entity b) = entity_order a b
value_order a b = nat_cmp (kind_place a) (kind_place b)

-- whether a value stands before another one
abbrev pub value_before : Value → Value → Bool
value_before a b = is_lt (value_order a b)

-- whether two values are the same
abbrev pub same_value : Value → Value → Bool
same_value a b = is_eq (value_order a b)
