-- The cells of rows, as the attributes of a schema are gone through.
use Rattle.std.proofs.Common.{◌≡◌, ℕ, suc, ◌+◌, ◌<◌, ◌≤◌, Bool, true, false, cond, List, [], ◌∷◌, Some, None, length, get_or, drop, refl, sym, ap, ◌∙◌, subst, arith, true≢false, drop-cons, add-one}
use Rattle.std.specs.Prelude.{◌&&◌, ◌==◌, not, filter, nat_lt, position}
use Rattle.std.specs.List.{position_or_len}
use Rattle.std.proofs.lemmas.Bool.Decides.{nat_tests}
use Rattle.std.proofs.lemmas.List.{drop_all}
use Rattle.st_values.specs.declared.value.Value.{Value}
use Rattle.st_values.proofs.Tests.{either}
use Rattle.st_lattice.specs.declared.attribute.Attribute.{Attribute}
use Rattle.st_lattice.specs.Outline.{Outline}
use Rattle.st_lattice.specs.Lattice.{attributes_in, isa}
use Rattle.st_index.specs.Bad.{is_of_kind}
use Rattle.st_lookups.specs.Looks.{are_named, is_cell}

-- the attributes among some whose values are cells of a type's rows
abbrev pub cells_among : Outline → ℕ → List Attribute → List Attribute
cells_among schema ty attributes = filter (λ a. isa schema ty a.owner && is_cell a) attributes

two-tests : (p q : Attribute → Bool) (xs : List Attribute) → filter q (filter p xs) ≡ filter (λ a. p a && q a) xs
two-tests p q [] = refl
two-tests p q (x ∷ xs) =
    either (p x) (λ b. filter q (cond b (x ∷ filter p xs) (filter p xs)) ≡ cond (b && q x) (x ∷ filter (λ a. p a && q a) xs) (filter (λ a. p a && q a) xs))
    (λ _. ap (λ (l : List Attribute). cond (q x) (x ∷ l) l) (two-tests p q xs)) (λ _. two-tests p q xs)

pub all-cells : (schema : Outline) (ty : ℕ) → filter is_cell (attributes_in schema ty) ≡ cells_among schema ty schema.attributes
all-cells schema ty = two-tests (λ a. isa schema ty a.owner) is_cell schema.attributes

-- from one position to the next
at-position : (schema : Outline) (ty k : ℕ) (xs : List Attribute) (a : Attribute) → k < length xs → a ≡ get_or xs k a
    → cells_among schema ty (drop k xs) ≡ cond (isa schema ty a.owner && is_cell a) (a ∷ cells_among schema ty (drop (suc k) xs)) (cells_among schema ty (drop (suc k) xs))
at-position schema ty k xs a h e =
    let here : drop k xs ≡ a ∷ drop (suc k) xs = drop-cons xs k a h ∙ (λ i. sym e i ∷ drop (suc k) xs) in
    ap (cells_among schema ty) here

pub has-cell : (schema : Outline) (ty k : ℕ) (xs : List Attribute) (a : Attribute) (b : Bool) → k < length xs → a ≡ get_or xs k a → b ≡ (isa schema ty a.owner && is_cell a) → b ≡ true
    → cells_among schema ty (drop k xs) ≡ a ∷ cells_among schema ty (drop (k + 1) xs)
has-cell schema ty k xs a b h e is t =
    rw add-one (at-position schema ty k xs a h e ∙ ap (λ (c : Bool). cond c (a ∷ cells_among schema ty (drop (suc k) xs)) (cells_among schema ty (drop (suc k) xs))) (sym is ∙ t))

pub no-cell : (schema : Outline) (ty k : ℕ) (xs : List Attribute) (a : Attribute) (b : Bool) → k < length xs → a ≡ get_or xs k a → b ≡ (isa schema ty a.owner && is_cell a) → b ≡ false
    → cells_among schema ty (drop k xs) ≡ cells_among schema ty (drop (k + 1) xs)
no-cell schema ty k xs a b h e is t =
    rw add-one (at-position schema ty k xs a h e ∙ ap (λ (c : Bool). cond c (a ∷ cells_among schema ty (drop (suc k) xs)) (cells_among schema ty (drop (suc k) xs))) (sym is ∙ t))

pub end-cells : (schema : Outline) (ty k : ℕ) (xs : List Attribute) → length xs ≤ k → cells_among schema ty (drop k xs) ≡ []
end-cells schema ty k xs h = ap (cells_among schema ty) (drop_all k xs h)

-- Of attributes so many were passed, and none of them passes a test.
pub record Passed (test : Attribute → Bool) (all rest : List Attribute) (index : ℕ) : Type 0 where
  pub place : position_or_len test all ≡ index + position_or_len test rest
  pub count : length all ≡ index + length rest

pub passed-none : (test : Attribute → Bool) (all : List Attribute) → Passed test all all 0
passed-none test all = record { place = omega arith; count = omega arith }

pub passed-more : (test : Attribute → Bool) (all rest others : List Attribute) (a : Attribute) (index : ℕ) → rest ≡ a ∷ others → test a ≡ false → Passed test all rest index → Passed test all others (index + 1)
passed-more test all rest others a index e t x =
    let here : position_or_len test rest ≡ 1 + position_or_len test others = ap (position_or_len test) e ∙ ap (λ (b : Bool). cond (not b) (1 + position_or_len test others) 0) t in
    let many : length rest ≡ suc (length others) = ap length e in
    let place = x.place in
    let count = x.count in
    record { place = omega (arith, here, place); count = omega (arith, many, count) }

pub passed-same : (test : Attribute → Bool) (all rest others : List Attribute) (index : ℕ) → rest ≡ others → Passed test all rest index → Passed test all others index
passed-same test all rest others index e x = subst (λ (l : List Attribute). Passed test all l index) e x

below : (m n : ℕ) → m < n → nat_lt m n ≡ true
below m n h = grind (arith, nat_tests)

not-below : (m n : ℕ) → n ≤ m → nat_lt m n ≡ false
not-below m n h = grind (arith, nat_tests)

pub passed-here : (test : Attribute → Bool) (all rest others : List Attribute) (a : Attribute) (index : ℕ) → rest ≡ a ∷ others → test a ≡ true → Passed test all rest index → Some index ≡ position test all
passed-here test all rest others a index e t x =
    let here : position_or_len test rest ≡ 0 = ap (position_or_len test) e ∙ ap (λ (b : Bool). cond (not b) (1 + position_or_len test others) 0) t in
    let many : length rest ≡ suc (length others) = ap length e in
    let place = x.place in
    let count = x.count in
    let is : position_or_len test all ≡ index = omega (arith, here, place) in
    let less : nat_lt (position_or_len test all) (length all) ≡ true = below (position_or_len test all) (length all) (omega (arith, here, place, many, count)) in
    sym (ap (λ (b : Bool). cond b (Some (position_or_len test all)) None) less ∙ ap (λ (n : ℕ). Some n) is)

pub passed-all : (test : Attribute → Bool) (all rest : List Attribute) (index : ℕ) → rest ≡ [] → Passed test all rest index → None ≡ position test all
passed-all test all rest index e x =
    let here : position_or_len test rest ≡ 0 = ap (position_or_len test) e in
    let many : length rest ≡ 0 = ap length e in
    let place = x.place in
    let count = x.count in
    sym (ap (λ (b : Bool). cond b (Some (position_or_len test all)) None) (not-below (position_or_len test all) (length all) (omega (arith, here, place, many, count))))

-- ---- values

pub named-on : (schema : Outline) (a : Attribute) (attributes : List Attribute) (v : Value) (values : List Value) → is_of_kind schema a.kind v ≡ true → are_named schema (a ∷ attributes) (v ∷ values) ≡ are_named schema attributes values
named-on schema a attributes v values h = ap (λ (b : Bool). b && are_named schema attributes values) h

pub misnamed-here : (schema : Outline) (a : Attribute) (attributes : List Attribute) (v : Value) (values : List Value) → is_of_kind schema a.kind v ≡ false → are_named schema (a ∷ attributes) (v ∷ values) ≡ true → ⊥
misnamed-here schema a attributes v values h k = true≢false (sym k ∙ ap (λ (b : Bool). b && are_named schema attributes values) h)

pub same-number : (m n : ℕ) → m ≡ n → (m == n) ≡ true
same-number m n e = grind (arith, nat_tests)

pub first-is : (xs : List Value) (x : Value) → 1 ≤ length xs → x ≡ get_or xs 0 x → xs ≡ x ∷ drop 1 xs
first-is [] x h e = absurd (omega (arith, h))
first-is (y ∷ ys) x h e = λ i. sym e i ∷ ys

-- a cell of another type is none of sound cells
pub misnamed-at : (schema : Outline) (ty k : ℕ) (xs : List Attribute) (cells rest : List Value) (a : Attribute) (v : Value) (b : Bool) → k < length xs → a ≡ get_or xs k a → b ≡ (isa schema ty a.owner && is_cell a) → b ≡ true → xs ≡ schema.attributes
    → are_named schema (cells_among schema ty xs) cells ≡ are_named schema (cells_among schema ty (drop k xs)) rest → 1 ≤ length rest → v ≡ get_or rest 0 v → is_of_kind schema a.kind v ≡ false
    → are_named schema (filter is_cell (attributes_in schema ty)) cells ≡ true → ⊥
misnamed-at schema ty k xs cells rest a v b h e is t same left some at wrong named =
    misnamed-here schema a (cells_among schema ty (drop (k + 1) xs)) v (drop 1 rest) wrong
    (sym (ap (λ (l : List Value). are_named schema (a ∷ cells_among schema ty (drop (k + 1) xs)) l) (first-is rest v some at))
    ∙ sym (ap (λ (l : List Attribute). are_named schema l rest) (has-cell schema ty k xs a b h e is t)) ∙ sym left
    ∙ ap (λ (l : List Attribute). are_named schema (cells_among schema ty l) cells) same ∙ sym (ap (λ (l : List Attribute). are_named schema l cells) (all-cells schema ty)) ∙ named)
