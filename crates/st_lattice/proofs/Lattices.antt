-- A type is of another one where it is that type, or a parent of it is of that one.
use Rattle.std.proofs.Common.{◌≡◌, ◌∙◌, ℕ, zero, suc, ◌+◌, ◌<◌, ◌≤◌, Bool, true, false, ◌||◌, ◌==◌, List, [], ◌∷◌, get_or, refl, sym, ap, arith, All, append-nil, append_assoc}
use Rattle.std.specs.Prelude.{map, filter, cond, ◌++◌}
use Rattle.std.specs.List.{list_any, range_with_len}
use Rattle.std.proofs.Math.Numerals.{add-one}
use Rattle.std.proofs.lemmas.List.{map-append}
use Rattle.std.proofs.lemmas.List.Elements.{All-head, All-tail}
use Rattle.std.proofs.lemmas.List.FromFn.{get_or-map-range_with_len}
use Rattle.st_lattice.specs.Outline.{Outline, IsOrderly, AreEarlier, parents_of}
use Rattle.st_lattice.specs.Lattice.{isa_within, isa_by, isa, below, descent_rows, said, says, next_row}

-- all numbers of a list are below one
abbrev AreBelow : ℕ → List ℕ → Type 0
AreBelow n numbers = All (λ p. p < n) numbers

tail_below : (n x : ℕ) (xs : List ℕ) → AreBelow n (x ∷ xs) → AreBelow n xs
tail_below n x xs h = All-tail (λ p. p < n) x xs h

none_below : (n x : ℕ) (xs : List ℕ) → n ≡ 0 → AreBelow n (x ∷ xs) → ⊥
none_below n x xs e h = let first : x < n = All-head (λ p. p < n) x xs h in absurd (omega (arith, first, e))

none_any : (f : ℕ → Bool) (n : ℕ) (xs : List ℕ) → n ≡ 0 → AreBelow n xs → list_any f xs ≡ false
none_any f n [] e h = refl
none_any f n (x ∷ xs) e h = elim (none_below n x xs e h) [ ]

same_any : (f g : ℕ → Bool) (n : ℕ) (xs : List ℕ) → AreBelow n xs → ((p : ℕ) → p < n → f p ≡ g p) → list_any f xs ≡ list_any g xs
same_any f g n [] h same = refl
same_any f g n (x ∷ xs) h same = rw (same x (All-head (λ p. p < n) x xs h), same_any f g n xs (tail_below n x xs h) same) refl

or_none : (a b : Bool) → b ≡ false → a ≡ (a || b)
or_none true b e = refl
or_none false b e = sym e

pub stable : (parents : List (List ℕ)) → ((ty : ℕ) → AreBelow ty (get_or parents ty [])) → (n m ty ancestor : ℕ) → ty ≤ n → ty ≤ m →
    isa_within n parents ty ancestor ≡ isa_within m parents ty ancestor
stable parents earlier zero zero ty ancestor p q = refl
stable parents earlier zero (suc m) ty ancestor p q =
    or_none (ty == ancestor) _ (none_any (λ p. isa_within m parents p ancestor) ty (get_or parents ty []) (omega (arith, p)) (earlier ty))
stable parents earlier (suc n) zero ty ancestor p q =
    sym (or_none (ty == ancestor) _ (none_any (λ p. isa_within n parents p ancestor) ty (get_or parents ty []) (omega (arith, q)) (earlier ty)))
stable parents earlier (suc n) (suc m) ty ancestor p q =
    ap (λ b. (ty == ancestor) || b)
    (same_any (λ p. isa_within n parents p ancestor) (λ p. isa_within m parents p ancestor) ty (get_or parents ty []) (earlier ty)
    (λ parent below. stable parents earlier n m parent ancestor (omega (arith, below, p)) (omega (arith, below, q))))

pub isa_steps : (schema : Outline) → IsOrderly schema → (ty ancestor : ℕ) →
    isa schema ty ancestor ≡ ((ty == ancestor) || list_any (λ p. isa schema p ancestor) (parents_of schema ty))
isa_steps schema orderly ty ancestor =
    rw (stable schema.parents orderly.earlier ty (suc ty) ty ancestor (omega arith) (omega arith))
    (ap (λ b. (ty == ancestor) || b)
    (same_any (λ p. isa_within ty schema.parents p ancestor) (λ p. isa schema p ancestor) ty (parents_of schema ty) (orderly.earlier ty)
    (λ parent below. stable schema.parents orderly.earlier ty parent parent ancestor (omega (arith, below)) (omega arith))))

pub said_is : (parents : List (List ℕ)) (count types ty ancestor : ℕ) → ty < types → ancestor < count → said (descent_rows parents count types) ty ancestor ≡ isa_by parents ty ancestor
said_is parents count types ty ancestor p q =
    rw (
      get_or-map-range_with_len (λ t. map (isa_by parents t) (below count)) 0 types ty ty [] p (omega arith),
      get_or-map-range_with_len (isa_by parents ty) 0 count ancestor ancestor false q (omega arith),
    ) refl

says_is : (parents : List (List ℕ)) → AreEarlier parents → (count ty ancestor : ℕ) → ancestor < count →
    says (descent_rows parents count ty) (get_or parents ty []) ty ancestor ≡ isa_by parents ty ancestor
says_is parents earlier count ty ancestor q =
    rw (stable parents earlier ty (suc ty) ty ancestor (omega arith) (omega arith))
    (ap (λ b. (ty == ancestor) || b)
    (same_any (λ p. said (descent_rows parents count ty) p ancestor) (λ p. isa_within ty parents p ancestor) ty (get_or parents ty []) (earlier ty)
    (λ parent below. said_is parents count ty parent ancestor below q ∙ stable parents earlier parent ty parent ancestor (omega arith) (omega (arith, below)))))

same_map : (f g : ℕ → Bool) (a n : ℕ) → ((k : ℕ) → k < a + n → f k ≡ g k) → map f (range_with_len a n) ≡ map g (range_with_len a n)
same_map f g a zero same = refl
same_map f g a (suc n) same = rw (same a (omega arith), same_map f g (a + 1) n (λ k h. same k (omega (arith, h)))) refl

pub row_is : (parents : List (List ℕ)) → AreEarlier parents → (count ty : ℕ) → next_row (descent_rows parents count ty) (get_or parents ty []) count ty ≡ map (isa_by parents ty) (below count)
row_is parents earlier count ty = same_map (says (descent_rows parents count ty) (get_or parents ty []) ty) (isa_by parents ty) 0 count (λ k h. says_is parents earlier count ty k (omega (arith, h)))

append_or : {A : Type 0} (b : Bool) (x : A) (xs ys : List A) → cond b (x ∷ xs ++ ys) (xs ++ ys) ≡ cond b (x ∷ xs) xs ++ ys
append_or true x xs ys = refl
append_or false x xs ys = refl

filter_from : (p : ℕ → Bool) (a n : ℕ) → filter p (range_with_len a (suc n)) ≡ filter p (range_with_len a n) ++ cond (p (a + n)) ((a + n) ∷ []) []
filter_from p a zero = let e : a + 0 ≡ a = omega arith in rw e refl
filter_from p a (suc n) =
    let e : a + suc n ≡ (a + 1) + n = omega arith in
    rw (e, filter_from p (a + 1) n) (append_or (p a) a (filter p (range_with_len (a + 1) n)) (cond (p ((a + 1) + n)) (((a + 1) + n) ∷ []) []))

pub kept_more : (p : ℕ → Bool) (n : ℕ) → p n ≡ true → filter p (range_with_len 0 n) ++ n ∷ [] ≡ filter p (range_with_len 0 (n + 1))
kept_more p n h = let e : 0 + n ≡ n = omega arith in rw (add-one, filter_from p 0 n, e, h) refl

pub left_out_more : (p : ℕ → Bool) (n : ℕ) → p n ≡ false → filter p (range_with_len 0 n) ≡ filter p (range_with_len 0 (n + 1))
left_out_more p n h = let e : 0 + n ≡ n = omega arith in rw (add-one, filter_from p 0 n, e, h) (sym (append-nil (filter p (range_with_len 0 n))))

pub stores_more : (f : ℕ → ℕ) (p : ℕ → Bool) (before : List ℕ) (n : ℕ) → p n ≡ true →
    (before ++ map f (filter p (range_with_len 0 n))) ++ f n ∷ [] ≡ before ++ map f (filter p (range_with_len 0 (n + 1)))
stores_more f p before n h =
    append_assoc before (map f (filter p (range_with_len 0 n))) (f n ∷ [])
    ∙ ap (λ xs. before ++ xs) (sym (map-append f (filter p (range_with_len 0 n)) (n ∷ [])) ∙ ap (map f) (kept_more p n h))

pub stores_same : (f : ℕ → ℕ) (p : ℕ → Bool) (before : List ℕ) (n : ℕ) → p n ≡ false →
    before ++ map f (filter p (range_with_len 0 n)) ≡ before ++ map f (filter p (range_with_len 0 (n + 1)))
stores_same f p before n h = ap (λ xs. before ++ map f xs) (left_out_more p n h)
