-- The order of bytes is that of what they are the key of.
use Rattle.std.proofs.Common.{◌≡◌, ℕ, zero, suc, ◌+◌, ◌-◌, ◌*◌, ◌/◌, ◌%◌, ◌^◌, ◌<◌, ◌≤◌, ℤ, pos, negsuc, List, [], ◌∷◌, ◌++◌, length, replicate, refl, sym, ap, ◌∙◌, arith, inl, inr, FitsSigned, ◌<ℤ◌}
use Rattle.std.proofs.Math.Nat.{add-mul, add_assoc, div-add-mod', div-one, mod-eq_of_lt, mod-lt, mul-add-mod_self_right, mul-le-mul_right, mul_assoc, one-le-pow, pow-succ'}
use Rattle.std.proofs.lemmas.Bool.{cases_order}
use Rattle.std.proofs.lemmas.Cmp.{ranked, int_ranked, tied_itself}
use Rattle.std.proofs.lemmas.Int.{ints}
use Rattle.std.specs.declared.cmp.Ordering.{Ordering}
use Rattle.std.specs.declared.cmp.Ordering.TheVariants.{Less, Equal, Greater}
use Rattle.std.specs.Ordering.{nat_cmp, int_cmp, ordering_then, ordering_reverse, MatchOrdering}
use Rattle.std.specs.Cmp.{nat_cmp_is}
use Rattle.std.specs.Cmp.Lexicographic.{slice_cmp, nat_list_cmp_total}
use Rattle.std.specs.Int.{w64, byte_at, bytes_high_first}
use Rattle.st_keys.specs.Keys.{raised, text_key}

abbrev pub by_bytes : List ℕ → List ℕ → Ordering
by_bytes = slice_cmp nat_cmp

-- ---- numbers

is-less : (a b : ℕ) → a < b → nat_cmp a b ≡ Less
is-less a b h = sym (nat_cmp_is a b Less h)

is-equal : (a b : ℕ) → a ≡ b → nat_cmp a b ≡ Equal
is-equal a b h = sym (nat_cmp_is a b Equal h)

is-greater : (a b : ℕ) → b < a → nat_cmp a b ≡ Greater
is-greater a b h = sym (nat_cmp_is a b Greater h)

above : (a b r s m : ℕ) → r < m → a < b → a * m + r < b * m + s
above a b r s m low h =
    let step : (a + 1) * m ≤ b * m = mul-le-mul_right m (omega arith) in
    let expand : (a + 1) * m ≡ a * m + 1 * m = add-mul a 1 m in
    omega arith

nested : (r s base : ℕ) (o : Ordering) → MatchOrdering o (r < s) (r ≡ s) (s < r) → MatchOrdering o (base + r < base + s) (base + r ≡ base + s) (base + s < base + r)
nested r s base Less h = omega arith
nested r s base Equal h = omega arith
nested r s base Greater h = omega arith

-- the high digit decides, and then the low one
digits : (a b r s m : ℕ) → r < m → s < m → ordering_then (nat_cmp a b) (nat_cmp r s) ≡ nat_cmp (a * m + r) (b * m + s)
digits a b r s m low other =
    elim (cases_order a b) [
      | inl same ↦ rw (is-equal a b same, same) (nat_cmp_is (b * m + r) (b * m + s) (nat_cmp r s) (nested r s (b * m) (nat_cmp r s) (ranked r s (nat_cmp r s) refl)))
      | inr (inl h) ↦ rw (is-less a b h) (sym (is-less (a * m + r) (b * m + s) (above a b r s m low h)))
      | inr (inr h) ↦ rw (is-greater a b h) (sym (is-greater (a * m + r) (b * m + s) (above b a s r m other h)))
    ]

-- the two low digits of n, to the bases c and then m
low-digits : (n m c : ℕ) → 0 < m → 0 < c → n % (m * c) ≡ n / c % m * c + n % c
low-digits n m c h k =
    let a = mod-lt (n / c) h in
    let b = mod-lt n k in
    let top : (n / c % m + 1) * c ≤ m * c = mul-le-mul_right c (omega arith) in
    let expand : (n / c % m + 1) * c ≡ n / c % m * c + 1 * c = add-mul (n / c % m) 1 c in
    let split : n ≡ n / c / m * (m * c) + (n / c % m * c + n % c) =
    sym (div-add-mod' n c)
    ∙ ap (λ (x : ℕ). x * c + n % c) (sym (div-add-mod' (n / c) m))
    ∙ ap (λ (x : ℕ). x + n % c) (add-mul (n / c / m * m) (n / c % m) c ∙ ap (λ (x : ℕ). x + n / c % m * c) (mul_assoc (n / c / m) m c))
    ∙ add_assoc (n / c / m * (m * c)) (n / c % m * c) (n % c) in
    ap (λ (x : ℕ). x % (m * c)) split ∙ mul-add-mod_self_right (n / c / m) (m * c) (n / c % m * c + n % c) ∙ mod-eq_of_lt (omega arith)

byte_at-is : (k x : ℕ) → byte_at k x ≡ x / 256 ^ k % 256
byte_at-is zero x = ap (λ (y : ℕ). y % 256) (sym (div-one x))
byte_at-is (suc k) x = refl

-- the bytes of two numbers stand in the order of what the bytes show of them
by-place : (n x y : ℕ) → by_bytes (bytes_high_first n x) (bytes_high_first n y) ≡ nat_cmp (x % 256 ^ n) (y % 256 ^ n)
by-place zero x y =
    let a : x % 256 ^ 0 ≡ 0 = omega arith in
    let b : y % 256 ^ 0 ≡ 0 = omega arith in
    rw (a, b) refl
by-place (suc n) x y =
    let some : 1 ≤ 256 ^ n = one-le-pow n 256 (omega arith) in
    let a : x % 256 ^ suc n ≡ x / 256 ^ n % 256 * 256 ^ n + x % 256 ^ n = ap (λ (m : ℕ). x % m) (pow-succ' 256 n) ∙ low-digits x 256 (256 ^ n) (omega arith) (omega arith) in
    let b : y % 256 ^ suc n ≡ y / 256 ^ n % 256 * 256 ^ n + y % 256 ^ n = ap (λ (m : ℕ). y % m) (pow-succ' 256 n) ∙ low-digits y 256 (256 ^ n) (omega arith) (omega arith) in
    ap (λ (o : Ordering). ordering_then (nat_cmp (byte_at n x) (byte_at n y)) o) (by-place n x y)
    ∙ rw (byte_at-is n x, byte_at-is n y, a, b) (digits (x / 256 ^ n % 256) (y / 256 ^ n % 256) (x % 256 ^ n) (y % 256 ^ n) (256 ^ n) (mod-lt x (omega arith)) (mod-lt y (omega arith)))

-- the bytes of two numbers stand in the order of the numbers
pub by-number : (n x y : ℕ) → x < 256 ^ n → y < 256 ^ n → by_bytes (bytes_high_first n x) (bytes_high_first n y) ≡ nat_cmp x y
by-number n x y h k = by-place n x y ∙ rw (mod-eq_of_lt h, mod-eq_of_lt k) refl

-- of two lists with fronts of one length the fronts decide, and then the rest
pub by-parts : (xs ys us vs : List ℕ) → length xs ≡ length ys → by_bytes (xs ++ us) (ys ++ vs) ≡ ordering_then (by_bytes xs ys) (by_bytes us vs)
by-parts [] [] us vs h = refl
by-parts [] (y ∷ ys) us vs h = absurd (omega arith)
by-parts (x ∷ xs) [] us vs h = absurd (omega arith)
by-parts (x ∷ xs) (y ∷ ys) us vs h =
    ap (λ (o : Ordering). ordering_then (nat_cmp x y) o) (by-parts xs ys us vs (omega arith)) ∙ regroup (nat_cmp x y) (by_bytes xs ys) (by_bytes us vs)
  where
    regroup : (a b c : Ordering) → ordering_then a (ordering_then b c) ≡ ordering_then (ordering_then a b) c
    regroup Less b c = refl
    regroup Equal b c = refl
    regroup Greater b c = refl

-- integers moved up keep their order
pub raised-fits : (a : ℤ) → FitsSigned w64 a → raised a < 256 ^ 8
raised-fits (pos n) f = omega (arith, f.sfits)
raised-fits (negsuc n) f = omega arith

place : (a b : ℤ) → FitsSigned w64 a → FitsSigned w64 b → (o : Ordering) → MatchOrdering o (a <ℤ b) (a ≡ b) (b <ℤ a) → MatchOrdering o (raised a < raised b) (raised a ≡ raised b) (raised b < raised a)
place (pos a) (pos b) f g Less h = omega (arith, ints)
place (pos a) (negsuc b) f g Less h = omega (arith, ints)
place (negsuc a) (pos b) f g Less h = omega (arith, ints)
place (negsuc a) (negsuc b) f g Less h = omega (arith, ints, f.sfits, g.sfits)
place a b f g Equal h = ap raised h
place (pos a) (pos b) f g Greater h = omega (arith, ints)
place (pos a) (negsuc b) f g Greater h = omega (arith, ints)
place (negsuc a) (pos b) f g Greater h = omega (arith, ints)
place (negsuc a) (negsuc b) f g Greater h = omega (arith, ints, f.sfits, g.sfits)

pub by-integer : (a b : ℤ) → FitsSigned w64 a → FitsSigned w64 b → nat_cmp (raised a) (raised b) ≡ int_cmp a b
by-integer a b f g = sym (nat_cmp_is (raised a) (raised b) (int_cmp a b) (place a b f g (int_cmp a b) (int_ranked a b (int_cmp a b) refl)))

-- ---- texts

-- a text with zeros behind it, n bytes in all, and then k
pad : ℕ → ℕ → List ℕ → List ℕ
pad zero k xs = k ∷ []
pad (suc n) k [] = 0 ∷ pad n k []
pad (suc n) k (x ∷ xs) = x ∷ pad n k xs

pad-is : (n k : ℕ) (xs : List ℕ) → length xs ≤ n → xs ++ replicate (n - length xs) 0 ++ k ∷ [] ≡ pad n k xs
unfolding pad
pad-is zero k [] h = refl
pad-is zero k (x ∷ xs) h = absurd (omega arith)
pad-is (suc n) k [] h =
    let here : suc n - 0 ≡ suc n = omega arith in
    let there : n - 0 ≡ n = omega arith in
    rw here (ap (λ (rest : List ℕ). 0 ∷ rest) (rw there at (pad-is n k [] (omega arith))))
pad-is (suc n) k (x ∷ xs) h =
    let e : suc n - suc (length xs) ≡ n - length xs = omega arith in
    rw e (ap (λ (rest : List ℕ). x ∷ rest) (pad-is n k xs (omega arith)))

-- the empty text stands in front of a longer one, of zeros alone too
shorter : (n j k : ℕ) (ys : List ℕ) → length ys ≤ n → j < k → by_bytes (pad n j []) (pad n k ys) ≡ Less
unfolding pad
shorter zero j k ys h less = rw (is-less j k less) refl
shorter (suc n) j k [] h less = shorter n j k [] (omega arith) less
shorter (suc n) j k (zero ∷ ys) h less = shorter n j k ys (omega arith) less
shorter (suc n) j k (suc y ∷ ys) h less = rw (is-less 0 (suc y) (omega arith)) refl

turned : (xs ys : List ℕ) → by_bytes ys xs ≡ Less → by_bytes xs ys ≡ Greater
turned xs ys e = nat_list_cmp_total.antisymm xs ys ∙ ap ordering_reverse e

by-pad : (n j p q : ℕ) (xs ys : List ℕ) → length xs ≤ n → length ys ≤ n → p ≡ j + length xs → q ≡ j + length ys → by_bytes (pad n p xs) (pad n q ys) ≡ by_bytes xs ys
unfolding pad
by-pad n j p q [] [] h k e f =
    let same : p ≡ q = omega arith in
    rw same (tied_itself nat_list_cmp_total (pad n q []))
by-pad n j p q [] (y ∷ ys) h k e f = shorter n p q (y ∷ ys) k (omega arith)
by-pad n j p q (x ∷ xs) [] h k e f = turned (pad n p (x ∷ xs)) (pad n q []) (shorter n q p (x ∷ xs) h (omega arith))
by-pad zero j p q (x ∷ xs) (y ∷ ys) h k e f = absurd (omega arith)
by-pad (suc n) j p q (x ∷ xs) (y ∷ ys) h k e f =
    ap (λ (o : Ordering). ordering_then (nat_cmp x y) o) (by-pad n (suc j) p q xs ys (omega arith) (omega arith) (omega arith) (omega arith))

-- the keys of two texts stand in the order of the texts
pub by-text : (limit : ℕ) (xs ys : List ℕ) → length xs ≤ limit → length ys ≤ limit → by_bytes (text_key limit xs) (text_key limit ys) ≡ by_bytes xs ys
by-text limit xs ys h k =
    rw (pad-is limit (length xs) xs h, pad-is limit (length ys) ys k)
    (by-pad limit 0 (length xs) (length ys) xs ys h k (omega arith) (omega arith))
