-- Where bytes leave a grammar that is made of parts.
use Rattle.std.proofs.Common.{◌≡◌, ℕ, zero, suc, ◌+◌, ◌-◌, ◌<◌, ◌≤◌, List, [], ◌∷◌, ◌++◌, length, take, drop, refl, sym, ap, subst, ◌∙◌, arith}
use Rattle.std.proofs.lemmas.List.{append_assoc, length-append, length-take-le, length-drop, take_at, drop_at, take-take, take-append-drop, drop-drop, length-take, take_all}
use Rattle.std.proofs.Math.Nat.{add_assoc}
use Rattle.std.proofs.Math.Seq.{take-add}
use Rattle.st_image.specs.Prefixes.{Begins, IsFirstWrong}
use Rattle.st_image.specs.Parts.{Seq}

-- a grammar that has bytes in it
pub record Some (Is : List ℕ → Type 0) : Type 0 where
  pub bytes : List ℕ
  pub has : Is bytes

-- two grammars with the same bytes are left at the same places
pub wrong-same : (Is Other : List ℕ → Type 0) (bytes : List ℕ) (place : ℕ) → ((xs : List ℕ) → Is xs → Other xs) → ((xs : List ℕ) → Other xs → Is xs)
    → IsFirstWrong Is bytes place → IsFirstWrong Other bytes place
wrong-same Is Other bytes place to from h = record {
  begins = (h.begins.0, to (take place bytes ++ h.begins.0) h.begins.1);
  ends = λ b. h.ends (b.0, from (take (place + 1) bytes ++ b.0) b.1);
}

pub join : (width : ℕ) (Is : List ℕ → Type 0) (Then : List ℕ → List ℕ → Type 0) (a b : List ℕ) → length a ≡ width → Is a → Then a b → Seq width Is Then (a ++ b)
join width Is Then a b wide h k =
    let front : take width (a ++ b) ≡ a = take_at a b width wide in
    let rest : drop width (a ++ b) ≡ b = drop_at a b width wide in
    record { front = subst Is (sym front) h; rest = subst (λ (r : List ℕ). Then (take width (a ++ b)) r) (sym rest) (subst (λ (f : List ℕ). Then f b) (sym front) k) }

pub seq-some : (width : ℕ) (Is : List ℕ → Type 0) (Then : List ℕ → List ℕ → Type 0) → ((a : List ℕ) → Is a → length a ≡ width) → Some Is → ((a : List ℕ) → Is a → Some (Then a)) → Some (Seq width Is Then)
seq-some width Is Then wide one more = record {
  bytes = one.bytes ++ (more one.bytes one.has).bytes;
  has = join width Is Then one.bytes (more one.bytes one.has).bytes (wide one.bytes one.has) one.has (more one.bytes one.has).has;
}

pub seq-wide : (n m : ℕ) (bytes : List ℕ) → length (take n bytes) ≡ n → length (drop n bytes) ≡ m → length bytes ≡ n + m
seq-wide n m bytes h k =
    let e : length (take n bytes ++ drop n bytes) ≡ length (take n bytes) + length (drop n bytes) = length-append (take n bytes) (drop n bytes) in
    sym (ap length (take-append-drop n bytes)) ∙ e ∙ omega arith

take-append : (n : ℕ) (xs ys : List ℕ) → take n (xs ++ ys) ≡ take n xs ++ take (n - length xs) ys
take-append zero xs ys = rw (none (length xs)) refl
  where
    none : (m : ℕ) → 0 - m ≡ 0
    none m = omega arith
take-append (suc n) [] ys = rw (all n) refl
  where
    all : (m : ℕ) → suc m - 0 ≡ suc m
    all m = omega arith
take-append (suc n) (x ∷ xs) ys = rw (less n (length xs)) (ap (λ (r : List ℕ). x ∷ r) (take-append n xs ys))
  where
    less : (m k : ℕ) → suc m - suc k ≡ m - k
    less m k = omega arith

-- the first part is left, and what it may go on to has a rest
pub wrong-front : (width : ℕ) (Is : List ℕ → Type 0) (Then : List ℕ → List ℕ → Type 0) (bytes : List ℕ) (place : ℕ) → ((a : List ℕ) → Is a → length a ≡ width)
    → ((a : List ℕ) → Is a → Some (Then a)) → place < width → IsFirstWrong Is (take width bytes) place → IsFirstWrong (Seq width Is Then) bytes place
wrong-front width Is Then bytes place wide more low h =
    let same : take place (take width bytes) ≡ take place bytes = take-take place width bytes (omega arith) in
    let next : take (place + 1) (take width bytes) ≡ take (place + 1) bytes = take-take (place + 1) width bytes (omega arith) in
    let again : take width (take (place + 1) bytes) ≡ take (place + 1) bytes = cut width (take (place + 1) bytes) (short (place + 1) bytes (omega arith)) in
    record { begins = start same h.begins; ends = λ b. h.ends (stop next again b) }
  where
    short : (n : ℕ) (xs : List ℕ) → n ≤ width → length (take n xs) ≤ width
    short n xs h = omega (arith, length-take n xs)

    cut : (n : ℕ) (xs : List ℕ) → length xs ≤ n → take n xs ≡ xs
    cut n xs h = take_all n xs h

    start : take place (take width bytes) ≡ take place bytes → Begins Is (take place (take width bytes)) → Begins (Seq width Is Then) (take place bytes)
    start same b =
        let a : List ℕ = take place bytes ++ b.0 in
        let holds : Is a = subst (λ (f : List ℕ). Is (f ++ b.0)) same b.1 in
        let rest : Some (Then a) = more a holds in
        (b.0 ++ rest.bytes, subst (Seq width Is Then) (append_assoc (take place bytes) b.0 rest.bytes) (join width Is Then a rest.bytes (wide a holds) holds rest.has))

    stop : take (place + 1) (take width bytes) ≡ take (place + 1) bytes → take width (take (place + 1) bytes) ≡ take (place + 1) bytes → Begins (Seq width Is Then) (take (place + 1) bytes) → Begins Is (take (place + 1) (take width bytes))
    stop next again b =
        let f : List ℕ = take (place + 1) bytes in
        let x : List ℕ = take (width - length f) b.0 in
        (x, subst Is (take-append width f b.0 ∙ ap (λ (r : List ℕ). r ++ x) (again ∙ sym next)) (b.1).front)

-- the first part holds, and the rest is left
pub wrong-rest : (width : ℕ) (Is : List ℕ → Type 0) (Then : List ℕ → List ℕ → Type 0) (bytes : List ℕ) (place : ℕ) → width ≤ length bytes → Is (take width bytes)
    → IsFirstWrong (Then (take width bytes)) (drop width bytes) place → IsFirstWrong (Seq width Is Then) bytes (width + place)
wrong-rest width Is Then bytes place within holds h =
    record { begins = start h.begins; ends = λ b. h.ends (stop b) }
  where
    wide : length (take width bytes) ≡ width
    wide = length-take-le width bytes within

    split : (n : ℕ) (x : List ℕ) → take (width + n) bytes ++ x ≡ take width bytes ++ (take n (drop width bytes) ++ x)
    split n x = ap (λ (f : List ℕ). f ++ x) (take-add width n bytes) ∙ append_assoc (take width bytes) (take n (drop width bytes)) x

    start : Begins (Then (take width bytes)) (take place (drop width bytes)) → Begins (Seq width Is Then) (take (width + place) bytes)
    start b = (b.0, subst (Seq width Is Then) (sym (split place b.0)) (join width Is Then (take width bytes) (take place (drop width bytes) ++ b.0) wide holds b.1))

    stop : Begins (Seq width Is Then) (take (width + place + 1) bytes) → Begins (Then (take width bytes)) (take (place + 1) (drop width bytes))
    stop b =
        let e : take (width + place + 1) bytes ≡ take (width + (place + 1)) bytes = ap (λ (n : ℕ). take n bytes) (add_assoc width place 1) in
        let whole : Seq width Is Then (take width bytes ++ (take (place + 1) (drop width bytes) ++ b.0)) =
        subst (Seq width Is Then) (ap (λ (f : List ℕ). f ++ b.0) e ∙ split (place + 1) b.0) b.1 in
        let front = take_at (take width bytes) (take (place + 1) (drop width bytes) ++ b.0) width wide in
        let rest = drop_at (take width bytes) (take (place + 1) (drop width bytes) ++ b.0) width wide in (
          b.0,
          subst (λ (f : List ℕ). Then f (take (place + 1) (drop width bytes) ++ b.0)) front
              (subst (λ (r : List ℕ). Then (take width (take width bytes ++ (take (place + 1) (drop width bytes) ++ b.0))) r) rest whole.rest),
        )

-- what is known of all bytes from what is left of them at a place
pub record Carries (Is : List ℕ → Type 0) (bytes : List ℕ) (at : ℕ) (Left : List ℕ → Type 0) : Type 0 where
  pub wrong : (place : ℕ) → IsFirstWrong Left (drop at bytes) place → IsFirstWrong Is bytes (at + place)
  pub right : Left (drop at bytes) → Is bytes

pub carries-all : (Is : List ℕ → Type 0) (bytes : List ℕ) → Carries Is bytes 0 Is
carries-all Is bytes = record { wrong = λ place h. subst (IsFirstWrong Is bytes) (zero-add' place) h; right = λ h. h }
  where
    zero-add' : (n : ℕ) → n ≡ 0 + n
    zero-add' n = omega arith

pub carries-on : (Whole : List ℕ → Type 0) (bytes : List ℕ) (at width : ℕ) (Is : List ℕ → Type 0) (Then : List ℕ → List ℕ → Type 0) → at + width ≤ length bytes
    → Carries Whole bytes at (Seq width Is Then) → Is (take width (drop at bytes)) → Carries Whole bytes (at + width) (Then (take width (drop at bytes)))
carries-on Whole bytes at width Is Then within known h = record {
  wrong = λ place k. subst (IsFirstWrong Whole bytes) (sym (add_assoc at width place)) (known.wrong (width + place) (wrong-rest width Is Then (drop at bytes) place room h (subst (λ (r : List ℕ). IsFirstWrong (Then (take width (drop at bytes))) r place) (sym (drop-drop width at bytes)) k)));
  right = λ k. known.right (record { front = h; rest = subst (Then (take width (drop at bytes))) (sym (drop-drop width at bytes)) k });
}
  where
    room : width ≤ length (drop at bytes)
    room = omega (arith, length-drop at bytes)
