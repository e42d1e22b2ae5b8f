-- The order of values is total: it is that of their parts, one after another.
use Rattle.std.proofs.Common.{◌≡◌, ℕ, ℤ, pos, Bool, false, List, [], refl, sym, subst}
use Rattle.std.specs.declared.cmp.Ordering.{Ordering}
use Rattle.std.specs.declared.cmp.Ordering.TheVariants.{Less, Equal, Greater}
use Rattle.std.specs.Ordering.{ordering_then, nat_cmp, int_cmp, bool_cmp, on, then_cmp}
use Rattle.std.specs.Cmp.{IsTotalOrder, nat_cmp_total, int_cmp_total, bool_cmp_total, then_total, on_total}
use Rattle.std.specs.Cmp.Lexicographic.{slice_cmp, nat_list_cmp_total}
use Rattle.st_values.specs.declared.value.EntityId.{EntityId}
use Rattle.st_values.specs.declared.value.Value.{Value}
use Rattle.st_values.specs.declared.value.Value.TheVariants.{Null, Int, Bool as Truth, Text, Entity}
use Rattle.st_values.specs.Order.{entity_order, kind_place, value_order}

pub entity_order_total : IsTotalOrder entity_order
entity_order_total = then_total (on_total (λ (e : EntityId). e.ty) nat_cmp_total) (on_total (λ (e : EntityId). e.serial) nat_cmp_total)

-- what a value has of each kind, and something fixed where it is of another one
abbrev integer : Value → ℤ
integer (Int a) = a
integer _ = pos 0

abbrev truth : Value → Bool
truth (Truth a) = a
truth _ = false

abbrev text : Value → List ℕ
text (Text a) = a
text _ = []

abbrev entity : Value → EntityId
entity (Entity a) = a
entity _ = record { ty = 0; serial = 0 }

abbrev by_entity : Value → Value → Ordering
by_entity = on entity entity_order

abbrev by_text : Value → Value → Ordering
by_text = then_cmp (on text (slice_cmp nat_cmp)) by_entity

abbrev by_truth : Value → Value → Ordering
by_truth = then_cmp (on truth bool_cmp) by_text

abbrev by_integer : Value → Value → Ordering
by_integer = then_cmp (on integer int_cmp) by_truth

abbrev by_parts : Value → Value → Ordering
by_parts = then_cmp (on kind_place nat_cmp) by_integer

by_parts_total : IsTotalOrder by_parts
by_parts_total = then_total (on_total kind_place nat_cmp_total) (then_total (on_total integer int_cmp_total)
    (then_total (on_total truth bool_cmp_total) (then_total (on_total text nat_list_cmp_total) (on_total entity entity_order_total))))

ends : (o : Ordering) → o ≡ ordering_then o Equal
ends Less = refl
ends Equal = refl
ends Greater = refl

each : (a b : Value) → value_order a b ≡ by_parts a b
each Null Null = refl
each Null (Int b) = refl
each Null (Truth b) = refl
each Null (Text b) = refl
each Null (Entity b) = refl
each (Int a) Null = refl
each (Int a) (Int b) = ends (int_cmp a b)
each (Int a) (Truth b) = refl
each (Int a) (Text b) = refl
each (Int a) (Entity b) = refl
each (Truth a) Null = refl
each (Truth a) (Int b) = refl
each (Truth a) (Truth b) = ends (bool_cmp a b)
each (Truth a) (Text b) = refl
each (Truth a) (Entity b) = refl
each (Text a) Null = refl
each (Text a) (Int b) = refl
each (Text a) (Truth b) = refl
each (Text a) (Text b) = ends (slice_cmp nat_cmp a b)
each (Text a) (Entity b) = refl
each (Entity a) Null = refl
each (Entity a) (Int b) = refl
each (Entity a) (Truth b) = refl
each (Entity a) (Text b) = refl
each (Entity a) (Entity b) = refl

pub value_order_total : IsTotalOrder value_order
value_order_total = subst IsTotalOrder (λ i a b. sym (each a b) i) by_parts_total
