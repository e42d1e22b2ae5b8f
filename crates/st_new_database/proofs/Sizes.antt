-- How many stores a schema has, and how many bytes it takes.
use Rattle.std.proofs.Common.{◌≡◌, ℕ, zero, suc, ◌+◌, ◌*◌, ◌<◌, ◌≤◌, Bool, true, false, eqb, cond, ◌||◌, List, [], ◌∷◌, ◌++◌, length, refl, ◌∙◌, arith}
use Rattle.std.specs.Prelude.{map, filter, find, Option, Some}
use Rattle.std.specs.List.{range_with_len}
use Rattle.std.proofs.lemmas.List.{length-append, length-map}
use Rattle.std.proofs.lemmas.List.FromFn.{length-range_with_len}
use Rattle.st_lattice.specs.declared.attribute.Attribute.{Attribute}
use Rattle.st_lattice.specs.declared.stores.StoreKind.{StoreKind}
use Rattle.st_lattice.specs.declared.stores.StoreKind.TheVariants.{Extent, Set, Index, Inverse, Column}
use Rattle.st_lattice.specs.Outline.{Outline, attribute}
use Rattle.st_lattice.specs.Stores.{store, keeps_one, stores_below, stores_of}

-- what is kept by a test is kept by one of two, where each that passes it passes one of these
kept-by : (p q r : ℕ → Bool) → ((k : ℕ) → p k ≡ true → (q k || r k) ≡ true) → (ks : List ℕ) → length (filter p ks) ≤ length (filter q ks) + length (filter r ks)
kept-by p q r h [] = omega arith
kept-by p q r h (k ∷ ks) = step (p k) (q k) (r k) (h k) (kept-by p q r h ks)
  where
    step : (a b c : Bool) → (a ≡ true → (b || c) ≡ true) → length (filter p ks) ≤ length (filter q ks) + length (filter r ks)
        → length (cond a (k ∷ filter p ks) (filter p ks)) ≤ length (cond b (k ∷ filter q ks) (filter q ks)) + length (cond c (k ∷ filter r ks) (filter r ks))
    step false b c e rest = more b c rest
      where
        more : (b c : Bool) → length (filter p ks) ≤ length (filter q ks) + length (filter r ks)
            → length (filter p ks) ≤ length (cond b (k ∷ filter q ks) (filter q ks)) + length (cond c (k ∷ filter r ks) (filter r ks))
        more true true rest = omega arith
        more true false rest = omega arith
        more false true rest = omega arith
        more false false rest = rest
    step true true c e rest = one c rest
      where
        one : (c : Bool) → length (filter p ks) ≤ length (filter q ks) + length (filter r ks)
            → suc (length (filter p ks)) ≤ suc (length (filter q ks)) + length (cond c (k ∷ filter r ks) (filter r ks))
        one true rest = omega arith
        one false rest = omega arith
    step true false true e rest = omega arith
    step true false false e rest = absurd (off (e refl))
      where
        off : false ≡ true → ⊥
        off e = cc

differ : (n a : ℕ) → n < a → eqb n a ≡ false
differ n a h = grind (arith, h)

-- a number is at most once among ascending ones
none-behind : (n a m : ℕ) → n < a → length (filter (λ k. eqb n k) (range_with_len a m)) ≡ 0
none-behind n a zero h = refl
none-behind n a (suc m) h = rw (differ n a h) (none-behind n (a + 1) m (omega arith))

cases : (b : Bool) (P : Type 0) → (b ≡ true → P) → (b ≡ false → P) → P
cases true P f g = f refl
cases false P f g = g refl

same : (n a : ℕ) → eqb n a ≡ true → n ≡ a
same n a h = grind (arith, h)

once : (n a m : ℕ) → length (filter (λ k. eqb n k) (range_with_len a m)) ≤ 1
once n a zero = omega arith
once n a (suc m) =
    cases (eqb n a) (length (filter (λ k. eqb n k) (range_with_len a (suc m))) ≤ 1)
    (λ e. rw e (omega (arith, none-behind n (a + 1) m (omega (arith, same n a e)))))
    (λ e. rw e (once n (a + 1) m))

-- of the numbers of a range, no more have an attribute with a store of a kind than there are attributes
few-kept : (kind : StoreKind) (attributes : List Attribute) (a m : ℕ)
    → length (filter (λ number. keeps_one kind (find (λ x. eqb x.number number) attributes)) (range_with_len a m)) ≤ length attributes
few-kept kind [] a m = none (range_with_len a m)
  where
    none : (ks : List ℕ) → length (filter (λ number. false) ks) ≤ 0
    none [] = omega arith
    none (k ∷ ks) = none ks
few-kept kind (x ∷ attributes) a m =
    let p : ℕ → Bool = λ number. keeps_one kind (find (λ x. eqb x.number number) (x ∷ attributes)) in
    let q : ℕ → Bool = λ number. eqb x.number number in
    let r : ℕ → Bool = λ number. keeps_one kind (find (λ x. eqb x.number number) attributes) in
    let all = kept-by p q r (λ k. first (eqb x.number k) (find (λ x. eqb x.number k) attributes)) (range_with_len a m) in
    omega (arith, all, once x.number a m, few-kept kind attributes a m)
  where
    first : (b : Bool) (found : Option Attribute) → keeps_one kind (cond b (Some x) found) ≡ true → (b || keeps_one kind found) ≡ true
    first true found h = refl
    first false found h = h

few-below : (schema : Outline) (kind : StoreKind) → length (stores_below schema kind schema.next) ≤ length schema.attributes
few-below schema kind =
    let e = length-map (filter (λ number. keeps_one kind (attribute schema number)) (range_with_len 0 schema.next)) (store kind) in
    omega (arith, e, few-kept kind schema.attributes 0 schema.next)

-- one store for each type, and at most four for each attribute
pub few-stores : (schema : Outline) → length (stores_of schema) ≤ length schema.names + 4 * length schema.attributes
few-stores schema =
    let types : length (map (store Extent) (range_with_len 0 (length schema.names))) ≡ length schema.names =
    length-map (range_with_len 0 (length schema.names)) (store Extent) ∙ length-range_with_len 0 (length schema.names) in
    four (map (store Extent) (range_with_len 0 (length schema.names))) (stores_below schema Set schema.next) (stores_below schema Index schema.next) (stores_below schema Inverse schema.next) (stores_below schema Column schema.next)
    (length schema.names) (length schema.attributes) types (few-below schema Set) (few-below schema Index) (few-below schema Inverse) (few-below schema Column)
  where
    four : (xs es bs cs ds : List ℕ) (n m : ℕ) → length xs ≡ n → length es ≤ m → length bs ≤ m → length cs ≤ m → length ds ≤ m → length (xs ++ es ++ bs ++ cs ++ ds) ≤ n + 4 * m
    four xs es bs cs ds n m h i j k l =
        omega (arith, length-append (xs ++ es ++ bs ++ cs) ds, length-append (xs ++ es ++ bs) cs, length-append (xs ++ es) bs, length-append xs es)
