-- The number that a word writes is what std reads from it.
use Rattle.std.proofs.Common.{◌≡◌, ℕ, ◌<◌, ◌≤◌, ◌^◌, ◌&&◌, ◌==◌, true, List, [], ◌∷◌, length, Some, None, Result, Ok, Err, ltb, leb, ℤ, pos, neg_ℤ, w64, refl, sym, ap, ◌∙◌, inl, inr, arith}
use Rattle.std.specs.Char.{is_ascii_digit}
use Rattle.std.specs.Result.{OkIff, result_ok}
use Rattle.std.specs.Str.{IsAscii, IsUtf8, all_ascii_digits}
use Rattle.std.specs.Str.Parse.{digits_value, ParsesSigned}
use Rattle.std.proofs.lemmas.Bool.{cases_eq, and_parts, ltb-true, leb-true, lt-ltb, le-leb, eq-eqb, ne_eqb, and_from, cond-true, cond-false, false_from_ne_true}
use Rattle.std.proofs.lemmas.Bool.Decides.{nat_tests}
use Rattle.std.proofs.lemmas.Str.{IsUtf8-from_ascii}
use Rattle.std.proofs.lemmas.Str.Ascii.{IsAscii-nil, IsAscii-cons}
use Rattle.std.proofs.lemmas.Str.Parse.{IsNumeralModel, numerals_by_value, tells_all_ascii_digits, parse_signed_minus, parse_signed_plain}
use Rattle.st_token.specs.Scan.{begins_number, number_of}

abbrev pub IsDigits : List ℕ → Type 0
IsDigits bs = all_ascii_digits bs ≡ true

digits : IsNumeralModel IsDigits (digits_value 10)
digits = numerals_by_value IsDigits tells_all_ascii_digits

digit_ascii : (b : ℕ) → is_ascii_digit b ≡ true → b < 128
digit_ascii b h = grind (arith, nat_tests)

digits_ascii : (bs : List ℕ) → IsDigits bs → IsAscii bs
digits_ascii [] h = IsAscii-nil
digits_ascii (b ∷ bs) h = let both = and_parts _ _ h in IsAscii-cons b bs (digit_ascii b both.0) (digits_ascii bs both.1)

-- a minus and digits
minus_some : (b : ℕ) (bs : List ℕ) → b ≡ 45 → IsDigits bs → digits_value 10 bs ≤ 2 ^ 63 → number_of (b ∷ bs) ≡ Some (neg_ℤ (pos (digits_value 10 bs)))
minus_some b bs e h l =
    rw (cond-true (b == 45) _ _ (eq-eqb b 45 e)) (cond-true (all_ascii_digits bs && leb (digits_value 10 bs) (2 ^ 63)) _ _ (and_from _ _ h (le-leb _ _ l)))

minus_none : (b : ℕ) (bs : List ℕ) → b ≡ 45 → (IsDigits bs → digits_value 10 bs ≤ 2 ^ 63 → ⊥) → number_of (b ∷ bs) ≡ None
minus_none b bs e misfit =
    rw (cond-true (b == 45) _ _ (eq-eqb b 45 e)) (cond-false (all_ascii_digits bs && leb (digits_value 10 bs) (2 ^ 63)) _ _ (false_from_ne_true _ (λ t. let both = and_parts _ _ t in misfit both.0 (leb-true _ _ both.1))))

-- digits alone
pub plain_some : (b : ℕ) (bs : List ℕ) → (b ≡ 45 → ⊥) → IsDigits (b ∷ bs) → digits_value 10 (b ∷ bs) < 2 ^ 63 → number_of (b ∷ bs) ≡ Some (pos (digits_value 10 (b ∷ bs)))
plain_some b bs e h l =
    rw (cond-false (b == 45) _ _ (ne_eqb b 45 e)) (cond-true (all_ascii_digits (b ∷ bs) && ltb (digits_value 10 (b ∷ bs)) (2 ^ 63)) _ _ (and_from _ _ h (lt-ltb _ _ l)))

plain_none : (b : ℕ) (bs : List ℕ) → (b ≡ 45 → ⊥) → (IsDigits (b ∷ bs) → digits_value 10 (b ∷ bs) < 2 ^ 63 → ⊥) → number_of (b ∷ bs) ≡ None
plain_none b bs e misfit =
    rw (cond-false (b == 45) _ _ (ne_eqb b 45 e)) (cond-false (all_ascii_digits (b ∷ bs) && ltb (digits_value 10 (b ∷ bs)) (2 ^ 63)) _ _ (false_from_ne_true _ (λ t. let both = and_parts _ _ t in misfit both.0 (ltb-true _ _ both.1))))

-- a number has a digit
begins_minus : (b : ℕ) (bs : List ℕ) → b ≡ 45 → begins_number (b ∷ bs) ≡ true → 0 < length bs
begins_minus b [] e h = absurd (grind (arith, nat_tests))
begins_minus b (d ∷ bs) e h = omega arith

begins_plain : (b : ℕ) (bs : List ℕ) → (b ≡ 45 → ⊥) → begins_number (b ∷ bs) ≡ true → is_ascii_digit b ≡ true
begins_plain b [] e h = h
begins_plain b (d ∷ bs) e h = grind (arith, nat_tests)

from_minus : {E : Type 0} (b : ℕ) (bs : List ℕ) (r : Result ℤ E) → b ≡ 45 → 0 < length bs → OkIff r (IsDigits bs × (0 < length bs) × (digits_value 10 bs ≤ 2 ^ 63)) (neg_ℤ (pos (digits_value 10 bs))) → result_ok r ≡ number_of (b ∷ bs)
from_minus b bs (Ok x) e some h = ap Some h.1 ∙ sym (minus_some b bs e h.0.0 h.0.2)
from_minus b bs (Err fault) e some misfit = sym (minus_none b bs e (λ h l. misfit (h, some, l)))

from_plain : {E : Type 0} (b : ℕ) (bs : List ℕ) (r : Result ℤ E) → (b ≡ 45 → ⊥) → OkIff r (IsDigits (b ∷ bs) × (0 < length (b ∷ bs)) × (digits_value 10 (b ∷ bs) < 2 ^ 63)) (pos (digits_value 10 (b ∷ bs))) → result_ok r ≡ number_of (b ∷ bs)
from_plain b bs (Ok x) e h = ap Some h.1 ∙ sym (plain_some b bs e h.0.0 h.0.2)
from_plain b bs (Err fault) e misfit = sym (plain_none b bs e (λ h l. misfit (h, omega arith, l)))

-- what std reads from a word that begins as a number does
pub number_of-parse : {E : Type 0} (word : List ℕ) (r : Result ℤ E) → begins_number word ≡ true → ParsesSigned w64 10 word r → result_ok r ≡ number_of word
number_of-parse [] r begins h = cc
number_of-parse (b ∷ bs) r begins h =
    elim (cases_eq b 45) [
      | inl e ↦ from_minus b bs r e (begins_minus b bs e begins) (parse_signed_minus digits w64 (b ∷ bs) r h e)
      | inr e ↦
          let digit = begins_plain b bs e begins in
          from_plain b bs r e (parse_signed_plain digits w64 (b ∷ bs) r h (λ plus. absurd (grind (arith, nat_tests))) e)
    ]

-- a word that is no text is no number
pub number_of-no_text : (word : List ℕ) → (IsUtf8 word → ⊥) → number_of word ≡ None
number_of-no_text [] misfit = refl
number_of-no_text (b ∷ bs) misfit =
    elim (cases_eq b 45) [
      | inl e ↦ minus_none b bs e (λ h l. misfit (IsUtf8-from_ascii (b ∷ bs) (IsAscii-cons b bs (omega arith) (digits_ascii bs h))))
      | inr e ↦ plain_none b bs e (λ h l. misfit (IsUtf8-from_ascii (b ∷ bs) (digits_ascii (b ∷ bs) h)))
    ]
