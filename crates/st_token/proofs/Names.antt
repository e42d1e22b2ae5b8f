-- Names are ASCII.
use Rattle.std.proofs.Common.{◌≡◌, ℕ, ◌<◌, ◌≤◌, Bool, true, not, List, length, get_or, map, position, None, arith}
use Rattle.std.specs.Char.{to_ascii_lowercase}
use Rattle.std.specs.List.{position_or_len}
use Rattle.std.specs.Str.{IsAscii, IsUtf8}
use Rattle.std.proofs.lemmas.Bool.{not-false}
use Rattle.std.proofs.lemmas.Bool.Decides.{nat_tests}
use Rattle.std.proofs.lemmas.List.Sums.{fails_before_first}
use Rattle.std.proofs.lemmas.Str.{IsUtf8-from_ascii}
use Rattle.std.proofs.lemmas.Str.Ascii.{IsAscii-from_reads, IsAscii-map, lowercase_ascii}
use Rattle.st_token.specs.Bytes.{is_name_byte}

name_byte_ascii : (b : ℕ) → is_name_byte b ≡ true → b < 128
name_byte_ascii b h = grind (arith, nat_tests)

reaches_end : (p : ℕ → Bool) (word : List ℕ) → position p word ≡ None → length word ≤ position_or_len p word
reaches_end p word h = grind (arith, nat_tests)

name_ascii : (word : List ℕ) → position (λ b. not (is_name_byte b)) word ≡ None → IsAscii word
name_ascii word h =
    let p : ℕ → Bool = λ b. not (is_name_byte b) in
    let all = reaches_end p word h in
    IsAscii-from_reads word (length word) (omega arith)
    (λ k l. name_byte_ascii (get_or word k 0) (not-false _ (fails_before_first p word k 0 (omega arith))))

-- a name in small letters is a text
pub IsUtf8-small_name : (word : List ℕ) → position (λ b. not (is_name_byte b)) word ≡ None → IsUtf8 (map to_ascii_lowercase word)
IsUtf8-small_name word h = IsUtf8-from_ascii _ (IsAscii-map to_ascii_lowercase word lowercase_ascii (name_ascii word h))
