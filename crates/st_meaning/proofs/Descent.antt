-- What descends from a type descends from all that the type descends from.
use Rattle.std.proofs.Common.{◌≡◌, ℕ, zero, suc, ◌<◌, ◌≤◌, Bool, true, List, [], ◌∷◌, get_or, refl, sym, subst, arith, true≢false, All}
use Rattle.std.specs.Prelude.{◌==◌, slice_index_or}
use Rattle.std.specs.List.{list_any}
use Rattle.std.proofs.lemmas.List.Elements.{All-head, All-tail}
use Rattle.st_values.proofs.Tests.{one-of, first-of, other-of, either}
use Rattle.st_lattice.specs.Outline.{Outline, IsOrderly}
use Rattle.st_lattice.specs.Lattice.{isa_within, isa}
use Rattle.st_state.proofs.Changed.{number-is}

any-weaken : (f g : ℕ → Bool) → ((p : ℕ) → f p ≡ true → g p ≡ true) → (xs : List ℕ) → list_any f xs ≡ true → list_any g xs ≡ true
any-weaken f g h [] a = a
any-weaken f g h (x ∷ xs) a =
    either (f x) (λ _. list_any g (x ∷ xs) ≡ true) (λ k. first-of (g x) (list_any g xs) (h x k)) (λ k. one-of (g x) (list_any g xs) (any-weaken f g h xs (other-of (f x) (list_any f xs) a k)))

module _ (parents : List (List ℕ)) where
  -- one step more does no harm
  within-more : (n t u : ℕ) → isa_within n parents t u ≡ true → isa_within (suc n) parents t u ≡ true
  within-more zero t u h = first-of (t == u) (list_any (λ p. isa_within zero parents p u) (slice_index_or parents t [])) h
  within-more (suc n) t u h =
      either (t == u) (λ _. isa_within (suc (suc n)) parents t u ≡ true)
      (λ k. first-of (t == u) (list_any (λ p. isa_within (suc n) parents p u) (slice_index_or parents t [])) k)
      (λ k. one-of (t == u) (list_any (λ p. isa_within (suc n) parents p u) (slice_index_or parents t []))
      (any-weaken (λ p. isa_within n parents p u) (λ p. isa_within (suc n) parents p u) (λ p m. within-more n p u m) (slice_index_or parents t [])
      (other-of (t == u) (list_any (λ p. isa_within n parents p u) (slice_index_or parents t [])) h k)))

  -- enough steps for both ways
  within-chain : (n m t u w : ℕ) → isa_within n parents t u ≡ true → isa_within m parents u w ≡ true → (k : ℕ) × (isa_within k parents t w ≡ true)
  within-chain zero m t u w h g = (m, subst (λ z. isa_within m parents z w ≡ true) (sym (number-is t u h)) g)
  within-chain (suc n) m t u w h g =
      either (t == u) (λ _. (k : ℕ) × (isa_within k parents t w ≡ true))
      (λ e. (m, subst (λ z. isa_within m parents z w ≡ true) (sym (number-is t u e)) g))
      (λ e.
      let far = along (slice_index_or parents t []) (other-of (t == u) (list_any (λ p. isa_within n parents p u) (slice_index_or parents t [])) h e) (λ p b. within-chain n m p u w b g) in
      (suc far.0, one-of (t == w) (list_any (λ p. isa_within far.0 parents p w) (slice_index_or parents t [])) far.1))
    where
      along : (ps : List ℕ) → list_any (λ p. isa_within n parents p u) ps ≡ true → ((p : ℕ) → isa_within n parents p u ≡ true → (k : ℕ) × (isa_within k parents p w ≡ true)) → (k : ℕ) × (list_any (λ p. isa_within k parents p w) ps ≡ true)
      along [] a f = absurd (true≢false (sym a))
      along (p ∷ ps) a f =
          either (isa_within n parents p u) (λ _. (k : ℕ) × (list_any (λ q. isa_within k parents q w) (p ∷ ps) ≡ true))
          (λ b. let one = f p b in (one.0, first-of (isa_within one.0 parents p w) (list_any (λ q. isa_within one.0 parents q w) ps) one.1))
          (λ b. let rest = along ps (other-of (isa_within n parents p u) (list_any (λ q. isa_within n parents q u) ps) a b) f in
          (rest.0, one-of (isa_within rest.0 parents p w) (list_any (λ q. isa_within rest.0 parents q w) ps) rest.1))

  module _ (earlier : (ty : ℕ) → All (λ p. p < ty) (get_or parents ty [])) where
    none : (n : ℕ) (f : ℕ → Bool) (ps : List ℕ) → n ≡ 0 → All (λ p. p < n) ps → list_any f ps ≡ true → ⊥
    none n f [] e a h = true≢false (sym h)
    none n f (p ∷ ps) e a h = let first : p < n = All-head (λ q. q < n) p ps a in omega (arith, first, e)

    low-weaken : (n : ℕ) (f g : ℕ → Bool) (ps : List ℕ) → All (λ p. p < n) ps → ((p : ℕ) → p < n → f p ≡ true → g p ≡ true) → list_any f ps ≡ true → list_any g ps ≡ true
    low-weaken n f g [] a h e = e
    low-weaken n f g (p ∷ ps) a h e =
        either (f p) (λ _. list_any g (p ∷ ps) ≡ true) (λ k. first-of (g p) (list_any g ps) (h p (All-head (λ q. q < n) p ps a) k))
        (λ k. one-of (g p) (list_any g ps) (low-weaken n f g ps (All-tail (λ q. q < n) p ps a) h (other-of (f p) (list_any f ps) e k)))

    -- as many steps as the type's position are enough
    within-less : (b n t w : ℕ) → t ≤ b → isa_within n parents t w ≡ true → isa_within b parents t w ≡ true
    within-less zero zero t w l h = h
    within-less zero (suc n) t w l h =
        either (t == w) (λ c. c ≡ true) (λ e. refl)
        (λ e. absurd (none t (λ p. isa_within n parents p w) (get_or parents t []) (omega (arith, l)) (earlier t) (other-of (t == w) (list_any (λ p. isa_within n parents p w) (get_or parents t [])) h e)))
    within-less (suc b) zero t w l h = first-of (t == w) (list_any (λ p. isa_within b parents p w) (get_or parents t [])) h
    within-less (suc b) (suc n) t w l h =
        either (t == w) (λ _. isa_within (suc b) parents t w ≡ true)
        (λ e. first-of (t == w) (list_any (λ p. isa_within b parents p w) (get_or parents t [])) e)
        (λ e. one-of (t == w) (list_any (λ p. isa_within b parents p w) (get_or parents t []))
        (low-weaken t (λ p. isa_within n parents p w) (λ p. isa_within b parents p w) (get_or parents t []) (earlier t)
        (λ p k g. within-less b n p w (omega (arith, k, l)) g) (other-of (t == w) (list_any (λ p. isa_within n parents p w) (get_or parents t [])) h e)))

pub isa-chain : (schema : Outline) → IsOrderly schema → (t u w : ℕ) → isa schema t u ≡ true → isa schema u w ≡ true → isa schema t w ≡ true
isa-chain schema o t u w h g =
    let far = within-chain schema.parents t u t u w h g in within-less schema.parents o.earlier t far.0 t w (omega arith) far.1
