-- No type is of a later one, and a number that no type has is of itself alone.
use Rattle.std.proofs.Common.{◌≡◌, ℕ, zero, suc, ◌<◌, ◌≤◌, Bool, true, false, ◌||◌, ◌==◌, List, [], ◌∷◌, length, get_or, refl, sym, ◌∙◌, arith, All}
use Rattle.std.specs.List.{list_any}
use Rattle.std.proofs.lemmas.List.{get_or_past}
use Rattle.std.proofs.lemmas.List.Elements.{All-head, All-tail}
use Rattle.st_lattice.specs.Outline.{Outline, IsOrderly, AreEarlier}
use Rattle.st_lattice.specs.Lattice.{isa_within, isa}

differ : (a b : ℕ) → a < b → (a == b) ≡ false
differ a b h = grind (arith, h)

or_false : (a b : Bool) → a ≡ false → b ≡ false → (a || b) ≡ false
or_false a b p q = rw (p, q) refl

none_any : (f : ℕ → Bool) (n : ℕ) (xs : List ℕ) → All (λ p. p < n) xs → ((p : ℕ) → p < n → f p ≡ false) → list_any f xs ≡ false
none_any f n [] h none = refl
none_any f n (x ∷ xs) h none = or_false (f x) (list_any f xs) (none x (All-head (λ p. p < n) x xs h)) (none_any f n xs (All-tail (λ p. p < n) x xs h) none)

none_later : (parents : List (List ℕ)) → AreEarlier parents → (n ty ancestor : ℕ) → ty < ancestor → isa_within n parents ty ancestor ≡ false
none_later parents earlier zero ty ancestor h = differ ty ancestor h
none_later parents earlier (suc n) ty ancestor h =
    or_false (ty == ancestor) _ (differ ty ancestor h)
    (none_any (λ p. isa_within n parents p ancestor) ty (get_or parents ty []) (earlier ty) (λ p below. none_later parents earlier n p ancestor (omega (arith, below, h))))

itself : (a b : Bool) → b ≡ false → (a || b) ≡ a
itself true b e = refl
itself false b e = e

alone : (parents : List (List ℕ)) (n ty ancestor : ℕ) → length parents ≤ ty → isa_within n parents ty ancestor ≡ (ty == ancestor)
alone parents zero ty ancestor h = refl
alone parents (suc n) ty ancestor h = itself (ty == ancestor) _ (rw (get_or_past parents ty [] h) refl)

pub no_type : (schema : Outline) → IsOrderly schema → (ty ancestor : ℕ) → length schema.names ≤ ty → isa schema ty ancestor ≡ (ty == ancestor)
no_type schema orderly ty ancestor h = alone schema.parents ty ty ancestor (rw orderly.parents h)

pub no_ancestor : (schema : Outline) → IsOrderly schema → (ty ancestor : ℕ) → ty < length schema.names → length schema.names ≤ ancestor → isa schema ty ancestor ≡ (ty == ancestor)
no_ancestor schema orderly ty ancestor p q =
    let later : ty < ancestor = omega (arith, p, q) in none_later schema.parents orderly.earlier ty ty ancestor later ∙ sym (differ ty ancestor later)
