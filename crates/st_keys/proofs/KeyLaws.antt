-- The laws of keys: their width, their order, and that they tell apart what differs.
use Rattle.std.proofs.Common.{◌≡◌, ℕ, ◌+◌, ◌-◌, ◌≤◌, ℤ, Bool, true, false, List, [], ◌∷◌, ◌++◌, length, replicate, refl, sym, ap, ◌∙◌, length-append, FitsSigned, true≢false, arith}
use Rattle.std.proofs.lemmas.List.{length-replicate}
use Rattle.std.proofs.lemmas.Cmp.{tied_itself}
use Rattle.std.specs.Ordering.{bool_cmp, int_cmp, ordering_then}
use Rattle.std.specs.Cmp.Lexicographic.{nat_list_cmp_total}
use Rattle.std.specs.Int.{w16, w32, w64, to_be_bytes}
use Rattle.st_values.specs.declared.value.EntityId.{EntityId}
use Rattle.st_values.specs.declared.value.Kind.{Kind}
use Rattle.st_values.specs.declared.value.Kind.TheVariants as kind
use Rattle.st_values.specs.declared.value.Value.{Value}
use Rattle.st_values.specs.declared.value.Value.TheVariants.{Int, Bool as Truth, Text, Entity}
use Rattle.st_values.specs.Order.{value_order, entity_order}
use Rattle.st_values.proofs.Exact.{exact_values}
use Rattle.st_keys.specs.Keys.{Fits, IsEntity, raised, entity_key, text_key, key, width}
use Rattle.st_keys.specs.Causes.{IsNoKey}
use Rattle.st_keys.proofs.Texts.{parts}
use Rattle.st_keys.proofs.Ordered.{by_bytes, by-number, by-parts, by-integer, by-text, raised-fits}

-- ---- the width

text-width : (limit : ℕ) (text : List ℕ) → length text ≤ limit → length (text_key limit text) ≡ limit + 1
text-width limit text h =
    let zeros : List ℕ = replicate (limit - length text) 0 in
    omega (arith, length-append (text ++ zeros) (length text ∷ []), length-append text zeros, length-replicate {A = ℕ} (limit - length text) 0)

pub key-width : (k : Kind) (a : Value) → Fits k a → length (key k a) ≡ width k
key-width kind.Int (Int a) f = refl
key-width kind.Bool (Truth a) f = refl
key-width (kind.Text limit) (Text a) f = text-width limit a f.0
key-width (kind.Entity ty) (Entity a) f = refl
key-width _ _ f = absurd f

-- ---- the order

integers : (a b : ℤ) → FitsSigned w64 a → FitsSigned w64 b → by_bytes (to_be_bytes w64 (raised a)) (to_be_bytes w64 (raised b)) ≡ int_cmp a b
integers a b f g = by-number 8 (raised a) (raised b) (raised-fits a f) (raised-fits b g) ∙ by-integer a b f g

truths : (a b : Bool) → by_bytes (key kind.Bool (Truth a)) (key kind.Bool (Truth b)) ≡ bool_cmp a b
truths true true = refl
truths true false = refl
truths false true = refl
truths false false = refl

entities : (a b : EntityId) → IsEntity a → IsEntity b → by_bytes (entity_key a) (entity_key b) ≡ entity_order a b
entities a b f g =
    by-parts (to_be_bytes w16 a.ty) (to_be_bytes w16 b.ty) (to_be_bytes w32 a.serial) (to_be_bytes w32 b.serial) refl
    ∙ (λ i. ordering_then (by-number 2 a.ty b.ty f.2 g.2 i) (by-number 4 a.serial b.serial f.1 g.1 i))

of-integer : (a : ℤ) (b : Value) → FitsSigned w64 a → Fits kind.Int b → by_bytes (key kind.Int (Int a)) (key kind.Int b) ≡ value_order (Int a) b
of-integer a (Int b) f g = integers a b f g
of-integer a _ f g = absurd g

of-truth : (a : Bool) (b : Value) → Fits kind.Bool b → by_bytes (key kind.Bool (Truth a)) (key kind.Bool b) ≡ value_order (Truth a) b
of-truth a (Truth b) g = truths a b
of-truth a _ g = absurd g

of-text : (limit : ℕ) (a : List ℕ) (b : Value) → length a ≤ limit → Fits (kind.Text limit) b → by_bytes (text_key limit a) (key (kind.Text limit) b) ≡ value_order (Text a) b
of-text limit a (Text b) f g = by-text limit a b f g.0
of-text limit a _ f g = absurd g

of-entity : (ty : ℕ) (a : EntityId) (b : Value) → IsEntity a → Fits (kind.Entity ty) b → by_bytes (entity_key a) (key (kind.Entity ty) b) ≡ value_order (Entity a) b
of-entity ty a (Entity b) f g = entities a b f g
of-entity ty a _ f g = absurd g

pub key-order : (k : Kind) (a b : Value) → Fits k a → Fits k b → by_bytes (key k a) (key k b) ≡ value_order a b
key-order kind.Int (Int a) b f g = of-integer a b f g
key-order kind.Bool (Truth a) b f g = of-truth a b g
key-order (kind.Text limit) (Text a) b f g = of-text limit a b f.0 g
key-order (kind.Entity ty) (Entity a) b f g = of-entity ty a b f g
key-order _ _ b f g = absurd f

-- ---- no two values have one key

pub key-round_trip : (k : Kind) (a b : Value) → Fits k a → Fits k b → key k a ≡ key k b → a ≡ b
key-round_trip k a b f g e =
    exact_values a b (sym (key-order k a b f g) ∙ ap (by_bytes (key k a)) (sym e) ∙ tied_itself nat_list_cmp_total (key k a))

-- ---- a row

-- zeros have to stand behind a text, up to its length
pub no-text-of : IsNoKey (kind.Text 4) (0x61 ∷ 0x62 ∷ 0 ∷ 1 ∷ 2 ∷ [])
no-text-of (Text text) f e = true≢false (sym (parts 4 text (0x61 ∷ 0x62 ∷ 0 ∷ 1 ∷ 2 ∷ []) f.0 e).2)
no-text-of _ f e = f
