-- Keys in order, as bytes and as numbers.
use Rattle.std.proofs.Common.{◌≡◌, ℕ, suc, ◌+◌, ◌*◌, ◌^◌, ◌<◌, ◌≤◌, true, false, List, [], ◌∷◌, length, take, refl, sym, ap, subst, ◌∙◌, inl, inr, arith}
use Rattle.std.proofs.Math.Nat.{add-mul, mul-le-mul_right}
use Rattle.std.proofs.lemmas.Bool.{and_from, and_parts, cases_order}
use Rattle.std.proofs.lemmas.Cmp.{ranked}
use Rattle.std.specs.Cmp.{nat_cmp_is}
use Rattle.std.specs.Cmp.Lexicographic.{slice_cmp}
use Rattle.std.specs.List.{list_all}
use Rattle.std.specs.Ordering.{MatchOrdering, is_lt, nat_cmp, ordering_then}
use Rattle.std.specs.declared.cmp.Ordering.{Ordering}
use Rattle.std.specs.declared.cmp.Ordering.TheVariants.{Equal, Greater, Less}
use Rattle.st_values.specs.Arranged.{each_pair}
use Rattle.st_image.specs.Bytes.{IsBytes, number}
use Rattle.st_image.specs.Grammar.{row_before}
use Rattle.st_image.proofs.Numbers.{number-lt}

is-less' : (a b : ℕ) → a < b → nat_cmp a b ≡ Less
is-less' a b h = sym (nat_cmp_is a b Less h)

is-equal : (a b : ℕ) → a ≡ b → nat_cmp a b ≡ Equal
is-equal a b h = sym (nat_cmp_is a b Equal h)

is-greater : (a b : ℕ) → b < a → nat_cmp a b ≡ Greater
is-greater a b h = sym (nat_cmp_is a b Greater h)

above : (a b r s m : ℕ) → r < m → a < b → a * m + r < b * m + s
above a b r s m low h =
    let step : (a + 1) * m ≤ b * m = mul-le-mul_right m (omega arith) in
    let expand : (a + 1) * m ≡ a * m + 1 * m = add-mul a 1 m in
    omega arith

nested : (r s base : ℕ) (o : Ordering) → MatchOrdering o (r < s) (r ≡ s) (s < r) → MatchOrdering o (base + r < base + s) (base + r ≡ base + s) (base + s < base + r)
nested r s base Less h = omega arith
nested r s base Equal h = omega arith
nested r s base Greater h = omega arith

-- the high digit decides, and then the low one
digits : (a b r s m : ℕ) → r < m → s < m → ordering_then (nat_cmp a b) (nat_cmp r s) ≡ nat_cmp (a * m + r) (b * m + s)
digits a b r s m low other =
    elim (cases_order a b) [
      | inl same ↦ rw (is-equal a b same, same) (nat_cmp_is (b * m + r) (b * m + s) (nat_cmp r s) (nested r s (b * m) (nat_cmp r s) (ranked r s (nat_cmp r s) refl)))
      | inr (inl h) ↦ rw (is-less' a b h) (sym (is-less' (a * m + r) (b * m + s) (above a b r s m low h)))
      | inr (inr h) ↦ rw (is-greater a b h) (sym (is-greater (a * m + r) (b * m + s) (above b a s r m other h)))
    ]

-- bytes of one length stand in the order of their numbers
by-number : (xs ys : List ℕ) → length xs ≡ length ys → IsBytes xs → IsBytes ys → slice_cmp nat_cmp xs ys ≡ nat_cmp (number xs) (number ys)
by-number [] [] h k l = sym (is-equal 0 0 refl)
by-number [] (b ∷ ys) h k l = absurd (omega arith)
by-number (a ∷ xs) [] h k l = absurd (omega arith)
by-number (a ∷ xs) (b ∷ ys) h k l =
    let same : length xs ≡ length ys = omega arith in
    let low : number xs < 256 ^ length ys = subst (λ (n : ℕ). number xs < 256 ^ n) same (number-lt xs (λ i. k (suc i))) in
    ap (λ (o : Ordering). ordering_then (nat_cmp a b) o) (by-number xs ys same (λ i. k (suc i)) (λ i. l (suc i)))
    ∙ digits a b (number xs) (number ys) (256 ^ length ys) low (number-lt ys (λ i. l (suc i)))
    ∙ ap (λ (n : ℕ). nat_cmp (a * 256 ^ n + number xs) (b * 256 ^ length ys + number ys)) (sym same)

less-from : (a b : ℕ) → is_lt (nat_cmp a b) ≡ true → a < b
less-from a b h =
    elim (cases_order a b) [
      | inl same ↦ absurd (off (sym (ap is_lt (is-equal a b same)) ∙ h))
      | inr (inl less) ↦ less
      | inr (inr more) ↦ absurd (off (sym (ap is_lt (is-greater a b more)) ∙ h))
    ]
  where
    off : false ≡ true → ⊥
    off e = cc

-- a row whose key is whole
pub record HasKey (key : ℕ) (row : List ℕ) : Type 0 where
  pub wide : length (take key row) ≡ key
  pub sound : IsBytes (take key row)

before-number : (key : ℕ) (a b : List ℕ) → HasKey key a → HasKey key b → row_before key a b ≡ is_lt (nat_cmp (number (take key a)) (number (take key b)))
before-number key a b h k = ap is_lt (by-number (take key a) (take key b) (h.wide ∙ sym k.wide) h.sound k.sound)

below-from : (key : ℕ) (a b : List ℕ) → HasKey key a → HasKey key b → row_before key a b ≡ true → number (take key a) < number (take key b)
below-from key a b h k e = less-from (number (take key a)) (number (take key b)) (sym (before-number key a b h k) ∙ e)

before-from : (key : ℕ) (a b : List ℕ) → HasKey key a → HasKey key b → number (take key a) < number (take key b) → row_before key a b ≡ true
before-from key a b h k e = before-number key a b h k ∙ ap is_lt (is-less' (number (take key a)) (number (take key b)) e)

-- ---- rows

abbrev pub AllKeys : ℕ → List (List ℕ) → Type 0
AllKeys key [] = Unit {0}
AllKeys key (row ∷ rows) = HasKey key row × AllKeys key rows

-- no key is below a number
abbrev pub From : ℕ → ℕ → List (List ℕ) → Type 0
From key low [] = Unit {0}
From key low (row ∷ rows) = (low ≤ number (take key row)) × From key low rows

-- no key is below a number, and each is above those in front of it
abbrev pub Ordered : ℕ → ℕ → List (List ℕ) → Type 0
Ordered key low [] = Unit {0}
Ordered key low (row ∷ rows) = (low ≤ number (take key row)) × Ordered key (number (take key row) + 1) rows

from-zero : (key : ℕ) (rows : List (List ℕ)) → From key 0 rows
from-zero key [] = tt
from-zero key (row ∷ rows) = (omega arith, from-zero key rows)

from-less : (key low high : ℕ) (rows : List (List ℕ)) → low ≤ high → From key high rows → From key low rows
from-less key low high [] h k = tt
from-less key low high (row ∷ rows) h k = (omega (arith, k.0), from-less key low high rows h k.1)

from-all : (key : ℕ) (a : List ℕ) (rows : List (List ℕ)) → HasKey key a → AllKeys key rows → list_all (row_before key a) rows ≡ true → From key (number (take key a) + 1) rows
from-all key a [] h keys k = tt
from-all key a (row ∷ rows) h keys k =
    let p = and_parts (row_before key a row) (list_all (row_before key a) rows) k in
    (omega (arith, below-from key a row h keys.0 p.0), from-all key a rows h keys.1 p.1)

all-from : (key : ℕ) (a : List ℕ) (rows : List (List ℕ)) → HasKey key a → AllKeys key rows → From key (number (take key a) + 1) rows → list_all (row_before key a) rows ≡ true
all-from key a [] h keys k = refl
all-from key a (row ∷ rows) h keys k =
    and_from (row_before key a row) (list_all (row_before key a) rows) (before-from key a row h keys.0 (omega (arith, k.0))) (all-from key a rows h keys.1 k.1)

ordered-pairs : (key low : ℕ) (rows : List (List ℕ)) → AllKeys key rows → each_pair (row_before key) rows ≡ true → From key low rows → Ordered key low rows
ordered-pairs key low [] keys h k = tt
ordered-pairs key low (row ∷ rows) keys h k =
    let p = and_parts (list_all (row_before key row) rows) (each_pair (row_before key) rows) h in
    (k.0, ordered-pairs key (number (take key row) + 1) rows keys.1 p.1 (from-all key row rows keys.0 keys.1 p.0))

pub pairs-order : (key : ℕ) (rows : List (List ℕ)) → AllKeys key rows → each_pair (row_before key) rows ≡ true → Ordered key 0 rows
pairs-order key rows keys h = ordered-pairs key 0 rows keys h (from-zero key rows)

pub order-pairs : (key low : ℕ) (rows : List (List ℕ)) → AllKeys key rows → Ordered key low rows → (each_pair (row_before key) rows ≡ true) × From key low rows
order-pairs key low [] keys h = (refl, tt)
order-pairs key low (row ∷ rows) keys h =
    let rest = order-pairs key (number (take key row) + 1) rows keys.1 h.1 in
    (and_from (list_all (row_before key row) rows) (each_pair (row_before key) rows) (all-from key row rows keys.0 keys.1 rest.1) rest.0, (h.0, from-less key low (number (take key row) + 1) rows (omega (arith, h.0)) rest.1))

-- ascending keys leave room for themselves
pub ordered-room : (key low : ℕ) (rows : List (List ℕ)) → AllKeys key rows → low ≤ 256 ^ key → Ordered key low rows → low + length rows ≤ 256 ^ key
ordered-room key low [] keys h k = omega arith
ordered-room key low (row ∷ rows) keys h k =
    let small : number (take key row) < 256 ^ key = subst (λ (n : ℕ). number (take key row) < 256 ^ n) (keys.0).wide (number-lt (take key row) (keys.0).sound) in
    omega (arith, k.0, ordered-room key (number (take key row) + 1) rows keys.1 (omega (arith, small)) k.1)
