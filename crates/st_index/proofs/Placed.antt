-- The places of an attribute's index and inverse, among all places.
use Rattle.std.proofs.Common.{◌≡◌, ℕ, ◌+◌, ◌*◌, ◌/◌, ◌%◌, ◌<◌, ◌≤◌, ◌==◌, ◌||◌, Bool, true, false, cond, List, [], ◌∷◌, ◌++◌, Option, Some, None, refl, sym, ap, ◌∙◌, subst, arith, true≢false}
use Rattle.std.specs.Prelude.{nat_lt, filter, find}
use Rattle.std.specs.List.{All, list_all}
use Rattle.std.proofs.lemmas.Bool.Decides.{nat_tests}
use Rattle.std.proofs.lemmas.List.Elements.{All-cons, All-head, All-nil, All-tail}
use Rattle.st_values.specs.declared.value.Kind.{Kind}
use Rattle.st_values.specs.declared.value.Kind.TheVariants as kind
use Rattle.st_values.specs.Arranged.{ascends}
use Rattle.st_values.proofs.Tests.{either, left, right}
use Rattle.st_lattice.specs.declared.attribute.Attribute.{Attribute}
use Rattle.st_lattice.specs.declared.stores.StoreKind.TheVariants.{Index, Inverse}
use Rattle.st_lattice.specs.Outline.{Outline, attribute}
use Rattle.st_lattice.specs.Stores.{store, key_width}
use Rattle.st_keys.specs.Keys.{width}
use Rattle.st_rows.specs.Rows.{pair_width}
use Rattle.st_catalog.specs.Stores.{AreOf, IsPlaced, Layout, layout_of, pair_layout}
use Rattle.st_pages.specs.declared.places.Place.{Place}
use Rattle.st_pages.specs.Places.{AscendByStore, place_of}
use Rattle.st_store.specs.Stores.{IsPlace}
use Rattle.st_store.proofs.Ordering.{filter-none, find-none-of}
use Rattle.std.specs.Option.{option_or}
use Rattle.st_index.specs.Turned.{found_place, turned_places}
use Rattle.st_index.specs.Change.{AreApart, IsTurned, one_place, two_places}

-- ---- what is found

module _ {X : Type 0} where
  pub found-holds : (t : X → Bool) (P : X → Type 0) (xs : List X) (x : X) → find t xs ≡ Some x → All P xs → P x × (t x ≡ true)
  found-holds t P [] x e all = absurd (cc)
  found-holds t P (y ∷ ys) x e all =
      let Goal : Bool → Type 0 = λ b. cond b (Some y) (find t ys) ≡ Some x → P x × (t x ≡ true) in
      either (t y) Goal
      (λ h f. let same : y ≡ x = some-is y x f in (subst P same (All-head P y ys all), subst (λ z. t z ≡ true) same h))
      (λ h f. found-holds t P ys x f (All-tail P y ys all))
      e
    where
      some-is : (a b : X) → Some a ≡ Some b → a ≡ b
      some-is a b e = cc

  filter-agree : (p q r : X → Bool) → ((x : X) → r x ≡ true → p x ≡ q x) → (xs : List X) → list_all r xs ≡ true → filter p xs ≡ filter q xs
  filter-agree p q r w [] h = refl
  filter-agree p q r w (x ∷ xs) h =
      ap (λ (b : Bool). cond b (x ∷ filter p xs) (filter p xs)) (w x (left (r x) (list_all r xs) h))
      ∙ ap (λ (l : List X). cond (q x) (x ∷ l) l) (filter-agree p q r w xs (right (r x) (list_all r xs) h))

-- ---- numbers

is-number : (m n : ℕ) → (m == n) ≡ true → m ≡ n
is-number m n h = grind (arith, nat_tests)

above-not : (s t m : ℕ) → t ≤ s → nat_lt s m ≡ true → (m == t) ≡ false
above-not s t m h k = grind (arith, nat_tests)

-- ---- places in the order of their stores

single : (s : ℕ) (xs : List Place) → ascends (λ a b. nat_lt a.store b.store) xs ≡ true → filter (λ p. p.store == s) xs ≡ one_place (find (λ p. p.store == s) xs)
single s [] h = refl
single s (x ∷ xs) h =
    let above = left (list_all (λ b. nat_lt x.store b.store) xs) (ascends (λ a b. nat_lt a.store b.store) xs) h in
    let rest = single s xs (right (list_all (λ b. nat_lt x.store b.store) xs) (ascends (λ a b. nat_lt a.store b.store) xs) h) in
    let Goal : Bool → Type 0 = λ b. cond b (x ∷ filter (λ p. p.store == s) xs) (filter (λ p. p.store == s) xs) ≡ one_place (cond b (Some x) (find (λ p. p.store == s) xs)) in
    either (x.store == s) Goal
    (λ e. ap (λ (l : List Place). x ∷ l)
    (filter-none (λ p. p.store == s) (λ b. nat_lt x.store b.store) (λ y k. let same = is-number x.store s e in above-not x.store s y.store (omega (arith, same)) k) xs above))
    (λ e. rest)

-- behind a place, those of its store or of an earlier one are none
beyond-one : (i m : ℕ) (xs : List Place) → i ≤ m → list_all (λ b. nat_lt m b.store) xs ≡ true → find (λ p. p.store == i) xs ≡ None
beyond-one i m xs h above = find-none-of (λ p. p.store == i) (λ b. nat_lt m b.store) (λ y k. above-not m i y.store h k) xs above

neither : (a b : Bool) → a ≡ false → b ≡ false → (a || b) ≡ false
neither a b e f = ap (λ (c : Bool). c || b) e ∙ f

beyond-both : (i j m : ℕ) (xs : List Place) → i ≤ m → j ≤ m → list_all (λ b. nat_lt m b.store) xs ≡ true → filter (λ p. (p.store == i) || (p.store == j)) xs ≡ []
beyond-both i j m xs h k above =
    filter-none (λ p. (p.store == i) || (p.store == j)) (λ b. nat_lt m b.store) (λ y l. neither (y.store == i) (y.store == j) (above-not m i y.store h l) (above-not m j y.store k l)) xs above

beyond-first : (i j m : ℕ) (xs : List Place) → i ≤ m → list_all (λ b. nat_lt m b.store) xs ≡ true → filter (λ p. (p.store == i) || (p.store == j)) xs ≡ filter (λ p. p.store == j) xs
beyond-first i j m xs h above =
    filter-agree (λ p. (p.store == i) || (p.store == j)) (λ p. p.store == j) (λ b. nat_lt m b.store) (λ y k. ap (λ (b : Bool). b || (y.store == j)) (above-not m i y.store h k)) xs above

-- what is found and what is kept, where the next place is that of the first store, of the second, or of neither
joined : (a b : Bool) (x : Place) (one two : Option Place) (kept : List Place) → (a ≡ true → (b ≡ false) × (kept ≡ one_place two)) → (b ≡ true → (one ≡ None) × (kept ≡ [])) → one_place one ++ one_place two ≡ kept
    → one_place (cond a (Some x) one) ++ one_place (cond b (Some x) two) ≡ cond (a || b) (x ∷ kept) kept
joined true true x one two kept f g rest = absurd (true≢false (f refl).0)
joined true false x one two kept f g rest = ap (λ (l : List Place). x ∷ l) (sym (f refl).1)
joined false true x one two kept f g rest =
    ap (λ (o : Option Place). one_place o ++ (x ∷ [])) (g refl).0 ∙ ap (λ (l : List Place). x ∷ l) (sym (g refl).1)
joined false false x one two kept f g rest = rest

not-both : (m i j : ℕ) → m ≡ i → i < j → (m == j) ≡ false
not-both m i j e h = grind (arith, nat_tests)

both-places : (i j : ℕ) → i < j → (xs : List Place) → ascends (λ a b. nat_lt a.store b.store) xs ≡ true
    → one_place (find (λ p. p.store == i) xs) ++ one_place (find (λ p. p.store == j) xs) ≡ filter (λ p. (p.store == i) || (p.store == j)) xs
both-places i j below [] h = refl
both-places i j below (x ∷ xs) h =
    let above = left (list_all (λ b. nat_lt x.store b.store) xs) (ascends (λ a b. nat_lt a.store b.store) xs) h in
    let on = right (list_all (λ b. nat_lt x.store b.store) xs) (ascends (λ a b. nat_lt a.store b.store) xs) h in
    joined (x.store == i) (x.store == j) x (find (λ p. p.store == i) xs) (find (λ p. p.store == j) xs) (filter (λ p. (p.store == i) || (p.store == j)) xs)
    (λ e. let same = is-number x.store i e in (not-both x.store i j same below, beyond-first i j x.store xs (omega (arith, same)) above ∙ single j xs on))
    (λ e. let same = is-number x.store j e in (beyond-one i x.store xs (omega (arith, same, below)) above, beyond-both i j x.store xs (omega (arith, same, below)) (omega (arith, same)) above))
    (both-places i j below xs on)

turned-two : (number : ℕ) (places : List Place) (index inverse : Option Place) → AscendByStore places → index ≡ place_of (store Index number) places → inverse ≡ place_of (store Inverse number) places
    → two_places index inverse ≡ turned_places number places
turned-two number places index inverse ascend e f =
    ap (λ (o : Option Place). one_place o ++ one_place inverse) e ∙ ap (λ (o : Option Place). one_place (place_of (store Index number) places) ++ one_place o) f
    ∙ both-places (store Index number) (store Inverse number) (omega arith) places ascend

-- the places that are found for the two stores of an attribute are its turned places
pub two-turned : (number : ℕ) (places : List Place) (s t : ℕ) (index inverse : Option Place) → AscendByStore places → s ≡ store Index number → t ≡ store Inverse number → index ≡ place_of s places → inverse ≡ place_of t places
    → two_places index inverse ≡ turned_places number places
two-turned number places s t index inverse ascend is-s is-t e f =
    turned-two number places index inverse ascend (e ∙ ap (λ (n : ℕ). place_of n places) is-s) (f ∙ ap (λ (n : ℕ). place_of n places) is-t)

-- ---- how a place of an attribute is laid out

same-width : (k : Kind) → key_width k ≡ width k
same-width kind.Int = refl
same-width kind.Bool = refl
same-width (kind.Text limit) = refl
same-width (kind.Entity ty) = refl

layout-far : (schema : Outline) (k n s : ℕ) → s ≡ k * 65536 + n → n < 65536 → 0 < k → layout_of schema s ≡ pair_layout k (attribute schema n)
layout-far schema k n s e h more =
    let far : nat_lt s 65536 ≡ false = grind (arith, nat_tests) in
    let up : s / 65536 ≡ k = omega (arith, e, h) in
    let down : s % 65536 ≡ n = omega (arith, e, h) in
    rw (far, up, down) refl

pair-key : (k : ℕ) (a : Attribute) → k < 4 → (pair_layout k (Some a)).key ≡ pair_width a.kind
pair-key k a h =
    let other : (k == 4) ≡ false = grind (arith, nat_tests) in
    let same = same-width a.kind in
    rw other (omega (arith, same))

pair-wide : (k : ℕ) (a : Attribute) → (pair_layout k (Some a)).width ≡ pair_width a.kind
pair-wide k a = let same = same-width a.kind in omega (arith, same)

pub placed-turned : (schema : Outline) (places : List Place) (number k s : ℕ) (a : Attribute) (place : Option Place) → AreOf schema places → All IsPlace places → number < 65536 → 0 < k → k < 4
    → s ≡ k * 65536 + number → Some a ≡ attribute schema number → place ≡ place_of s places → All (IsTurned a.kind) (one_place place)
placed-turned schema places number k s a None of fair h more less e is at = All-nil (IsTurned a.kind)
placed-turned schema places number k s a (Some p) of fair h more less e is at =
    let found = found-holds (λ q. q.store == s) (λ q. IsPlaced schema q × IsPlace q) places p (sym at) (λ i d w. (of.placed i d w, fair i d w)) in
    let here : layout_of schema p.store ≡ pair_layout k (Some a) = ap (layout_of schema) (is-number p.store s found.1) ∙ layout-far schema k number s e h more ∙ ap (pair_layout k) (sym is) in
    All-cons (IsTurned a.kind) p [] (record {
      is_place = found.0.1;
      key = found.0.0.key ∙ ap (λ (l : Layout). l.key) here ∙ pair-key k a less;
      width = found.0.0.width ∙ ap (λ (l : Layout). l.width) here ∙ pair-wide k a;
    }) (All-nil (IsTurned a.kind))

pub one-store : (places : List Place) (s : ℕ) (place : Option Place) → place ≡ place_of s places → All (λ p. p.store ≡ s) (one_place place)
one-store places s None at = All-nil (λ p. p.store ≡ s)
one-store places s (Some p) at =
    let found = found-holds (λ q. q.store == s) (λ q. Unit {0}) places p (sym at) (λ i d w. tt) in
    All-cons (λ q. q.store ≡ s) p [] (is-number p.store s found.1) (All-nil (λ q. q.store ≡ s))

pub apart-places : (s t : ℕ) (ps qs : List Place) → s < t → All (λ p. p.store ≡ s) ps → All (λ q. q.store ≡ t) qs → AreApart ps qs
apart-places s t ps qs less at-s at-t = λ k d v j e w same.
    let a = at-s k d v in
    let b = at-t j e w in
    absurd (omega (arith, a, b, same, less))

-- the place where an attribute's values are looked up
pub found-turned : (schema : Outline) (places : List Place) (number : ℕ) (a : Attribute) (p : Place) → AreOf schema places → All IsPlace places → number < 65536
    → Some a ≡ attribute schema number → Some p ≡ found_place number places → IsTurned a.kind p
found-turned schema places number a p of fair h is at = go (place_of (store Inverse number) places) (place_of (store Index number) places) refl refl (sym at)
  where
    some-is : (x y : Place) → Some x ≡ Some y → x ≡ y
    some-is x y e = cc

    go : (o i : Option Place) → o ≡ place_of (store Inverse number) places → i ≡ place_of (store Index number) places → option_or o i ≡ Some p → IsTurned a.kind p
    go (Some q) i e f g = subst (IsTurned a.kind) (some-is q p g) (All-head (IsTurned a.kind) q [] (placed-turned schema places number 3 (store Inverse number) a (Some q) of fair h (omega arith) (omega arith) refl is e))
    go None i e f g = All-head (IsTurned a.kind) p [] (placed-turned schema places number 2 (store Index number) a (Some p) of fair h (omega arith) (omega arith) refl is (sym g ∙ f))
