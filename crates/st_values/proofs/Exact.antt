-- Values that the order does not tell apart are equal.
use Rattle.std.proofs.Common.{◌≡◌, Bool, true, false, refl, ap}
use Rattle.std.specs.declared.cmp.Ordering.{Ordering}
use Rattle.std.specs.declared.cmp.Ordering.TheVariants.{Less, Equal, Greater}
use Rattle.std.specs.Ordering.{ordering_then, nat_cmp, bool_cmp}
use Rattle.std.proofs.lemmas.Map.Lookups.{exact_unsigned, exact_signed, exact_bytes}
use Rattle.st_values.specs.declared.value.EntityId.{EntityId}
use Rattle.st_values.specs.declared.value.Value.{Value}
use Rattle.st_values.specs.declared.value.Value.TheVariants.{Null, Int, Bool as Truth, Text, Entity}
use Rattle.st_values.specs.Order.{entity_order, value_order}

pub both_equal : (a b : Ordering) → ordering_then a b ≡ Equal → (a ≡ Equal) × (b ≡ Equal)
both_equal Less b e = cc
both_equal Equal b e = (refl, e)
both_equal Greater b e = cc

pub exact_entities : (a b : EntityId) → entity_order a b ≡ Equal → a ≡ b
exact_entities a b e =
    let k = both_equal (nat_cmp a.ty b.ty) (nat_cmp a.serial b.serial) e in
    λ i. record { ty = exact_unsigned a.ty b.ty k.0 i; serial = exact_unsigned a.serial b.serial k.1 i }

exact_truth : (a b : Bool) → bool_cmp a b ≡ Equal → a ≡ b
exact_truth true true e = refl
exact_truth true false e = cc
exact_truth false true e = cc
exact_truth false false e = refl

pub exact_values : (a b : Value) → value_order a b ≡ Equal → a ≡ b
exact_values Null Null e = refl
exact_values Null (Int b) e = cc
exact_values Null (Truth b) e = cc
exact_values Null (Text b) e = cc
exact_values Null (Entity b) e = cc
exact_values (Int a) Null e = cc
exact_values (Int a) (Int b) e = ap Int (exact_signed a b e)
exact_values (Int a) (Truth b) e = cc
exact_values (Int a) (Text b) e = cc
exact_values (Int a) (Entity b) e = cc
exact_values (Truth a) Null e = cc
exact_values (Truth a) (Int b) e = cc
exact_values (Truth a) (Truth b) e = ap Truth (exact_truth a b e)
exact_values (Truth a) (Text b) e = cc
exact_values (Truth a) (Entity b) e = cc
exact_values (Text a) Null e = cc
exact_values (Text a) (Int b) e = cc
exact_values (Text a) (Truth b) e = cc
exact_values (Text a) (Text b) e = ap Text (exact_bytes a b e)
exact_values (Text a) (Entity b) e = cc
exact_values (Entity a) Null e = cc
exact_values (Entity a) (Int b) e = cc
exact_values (Entity a) (Truth b) e = cc
exact_values (Entity a) (Text b) e = cc
exact_values (Entity a) (Entity b) e = ap Entity (exact_entities a b e)
