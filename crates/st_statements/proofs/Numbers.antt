-- The number that digits write is what std reads from them.
use Rattle.std.proofs.Common.{◌≡◌, ℕ, ◌<◌, ◌^◌, ◌&&◌, true, List, [], ◌∷◌, length, Some, Result, Ok, Err, ltb, slice_index, sym, ap, ◌∙◌, arith}
use Rattle.std.specs.Char.{is_ascii_digit}
use Rattle.std.specs.Result.{OkIff, result_ok}
use Rattle.std.specs.Str.{all_ascii_digits}
use Rattle.std.specs.Str.Parse.{digits_value, ParsesUnsigned}
use Rattle.std.proofs.lemmas.Bool.{and_parts, ltb-true, lt-ltb, and_from, false_from_ne_true}
use Rattle.std.proofs.lemmas.Bool.Decides.{nat_tests}
use Rattle.std.proofs.lemmas.Str.Parse.{IsNumeralModel, numerals_by_value, tells_all_ascii_digits, parse_plain}
use Rattle.st_sexp.specs.Items.{only_if}
use Rattle.st_statements.specs.Terms.{number_of}

abbrev IsDigits : List ℕ → Type 0
IsDigits bs = all_ascii_digits bs ≡ true

digits : IsNumeralModel IsDigits (digits_value 10)
digits = numerals_by_value IsDigits tells_all_ascii_digits

from_digits : {E : Type 0} (bs : List ℕ) (r : Result ℕ E) → 0 < length bs → OkIff r (IsDigits bs × (0 < length bs) × (digits_value 10 bs < 2 ^ 32)) (digits_value 10 bs) → result_ok r ≡ number_of bs
unfolding number_of
from_digits bs (Ok x) some h = ap Some h.1 ∙ sym (ap (λ fits. only_if fits (digits_value 10 bs)) (and_from (all_ascii_digits bs) (ltb (digits_value 10 bs) (2 ^ 32)) h.0.0 (lt-ltb _ _ h.0.2)))
from_digits bs (Err fault) some misfit =
    sym (ap (λ fits. only_if fits (digits_value 10 bs)) (false_from_ne_true (all_ascii_digits bs && ltb (digits_value 10 bs) (2 ^ 32)) (λ t. let both = and_parts _ _ t in misfit (both.0, some, ltb-true _ _ both.1))))

pub number_of-parse : {E : Type 0} (bs : List ℕ) (r : Result ℕ E) → is_ascii_digit (slice_index bs 0) ≡ true → ParsesUnsigned 32 10 bs r → result_ok r ≡ number_of bs
number_of-parse [] r begins h = cc
number_of-parse (b ∷ bs) r begins h = from_digits (b ∷ bs) r (omega arith) (parse_plain digits 32 (b ∷ bs) r h (λ plus. absurd (grind (arith, nat_tests))))
