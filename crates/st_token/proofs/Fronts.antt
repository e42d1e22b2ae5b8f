-- The token at the front of a text that begins with a known word.
use Rattle.std.proofs.Common.{◌≡◌, ℕ, ◌+◌, ◌<◌, ◌^◌, Bool, true, false, not, ◌||◌, ◌&&◌, ◌==◌, List, [], ◌∷◌, ◌++◌, length, map, take, drop, position, Some, None, Result, Ok, pos, refl, ap, ◌∙◌, arith}
use Rattle.std.specs.Char.{is_ascii_digit, is_ascii_lowercase, to_ascii_lowercase}
use Rattle.std.specs.List.{position_or_len, list_all}
use Rattle.std.specs.Str.{IsAscii, all_ascii_digits}
use Rattle.std.specs.Str.Parse.{digits_value}
use Rattle.std.proofs.lemmas.Bool.{and_parts, and_from, or_parts, le-ltb, cond-true, cond-false}
use Rattle.std.proofs.lemmas.Bool.Decides.{nat_tests}
use Rattle.std.proofs.lemmas.Str.Ascii.{IsAscii-nil, IsAscii-cons}
use Rattle.std.proofs.Math.Seq.{take-append_seam, drop-append_seam}
use Rattle.st_token.specs.declared.fault.SexpFault.{SexpFault}
use Rattle.st_token.specs.declared.token.TokenKind.{TokenKind}
use Rattle.st_token.specs.declared.token.TokenKind.TheVariants as kind
use Rattle.st_token.specs.Bytes.{is_blank, ends_token, is_name_byte}
use Rattle.st_token.proofs.Numbers.{plain_some}
use Rattle.st_token.specs.Scan.{place, after_gap, begins_number, word_kind, word_read, word_at, token_at, next_of}

-- a text that a word before it does not run into
abbrev pub EndsWord : List ℕ → Type 0
EndsWord [] = Unit {0}
EndsWord (b ∷ bs) = ends_token b ≡ true

-- a small letter, a digit, a hyphen or a colon
abbrev pub is_small_byte : ℕ → Bool
is_small_byte b = is_ascii_lowercase b || is_ascii_digit b || b == 45 || b == 58

-- a small letter or a colon, and then such bytes
abbrev pub is_small_word : List ℕ → Bool
is_small_word [] = false
is_small_word (b ∷ bs) = (is_ascii_lowercase b || b == 58) && list_all is_small_byte bs

first_small : (b : ℕ) → (is_ascii_lowercase b || b == 58) ≡ true → is_small_byte b ≡ true
first_small b h = grind (arith, nat_tests)

first_no_number : (b : ℕ) → (is_ascii_lowercase b || b == 58) ≡ true → (is_ascii_digit b ≡ false) × ((b == 45) ≡ false)
first_no_number b h = (grind (arith, nat_tests), grind (arith, nat_tests))

small_ends_not : (b : ℕ) → is_small_byte b ≡ true → ends_token b ≡ false
small_ends_not b h = grind (arith, nat_tests)

small_name : (b : ℕ) → is_small_byte b ≡ true → is_name_byte b ≡ true
small_name b h = grind (arith, nat_tests)

small_lowercase : (b : ℕ) → is_small_byte b ≡ true → to_ascii_lowercase b ≡ b
small_lowercase b h = grind (arith, nat_tests)

small_ascii : (b : ℕ) → is_small_byte b ≡ true → b < 128
small_ascii b h = grind (arith, nat_tests)

digit_small : (b : ℕ) → is_ascii_digit b ≡ true → is_small_byte b ≡ true
digit_small b h = grind (arith, nat_tests)

abbrev AreSmall : List ℕ → Type 0
AreSmall word = list_all is_small_byte word ≡ true

small_bytes : (word : List ℕ) → is_small_word word ≡ true → AreSmall word
small_bytes [] h = absurd (cc)
small_bytes (b ∷ bs) h = let both = and_parts _ _ h in and_from _ _ (first_small b both.0) both.1

digits_small : (word : List ℕ) → all_ascii_digits word ≡ true → AreSmall word
digits_small [] h = refl
digits_small (b ∷ bs) h = let both = and_parts _ _ h in and_from _ _ (digit_small b both.0) (digits_small bs both.1)

small_are_ascii : (word : List ℕ) → list_all is_small_byte word ≡ true → IsAscii word
small_are_ascii [] h = IsAscii-nil
small_are_ascii (b ∷ bs) h = let both = and_parts _ _ h in IsAscii-cons b bs (small_ascii b both.0) (small_are_ascii bs both.1)

pub small_word_ascii : (word : List ℕ) → is_small_word word ≡ true → IsAscii word
small_word_ascii word h = small_are_ascii word (small_bytes word h)

pub digits_ascii : (word : List ℕ) → all_ascii_digits word ≡ true → IsAscii word
digits_ascii word h = small_are_ascii word (digits_small word h)

-- a word goes up to what ends it
ends_at_once : (rest : List ℕ) → EndsWord rest → position_or_len ends_token rest ≡ 0
ends_at_once [] ends = refl
ends_at_once (b ∷ bs) ends = rw ends refl

word_length : (word rest : List ℕ) → AreSmall word → EndsWord rest → position_or_len ends_token (word ++ rest) ≡ length word
word_length [] rest h ends = ends_at_once rest ends
word_length (b ∷ bs) rest h ends =
    let both = and_parts _ _ h in
    let more : position_or_len ends_token (bs ++ rest) ≡ length bs = word_length bs rest both.1 ends in
    rw (small_ends_not b both.0) (omega (arith, more))

all_name_bytes : (word : List ℕ) → AreSmall word → position_or_len (λ b. not (is_name_byte b)) word ≡ length word
all_name_bytes [] h = refl
all_name_bytes (b ∷ bs) h =
    let both = and_parts _ _ h in
    let more : position_or_len (λ b. not (is_name_byte b)) bs ≡ length bs = all_name_bytes bs both.1 in
    rw (small_name b both.0) (omega (arith, more))

no_other : (word : List ℕ) → AreSmall word → position (λ b. not (is_name_byte b)) word ≡ None
no_other word h = rw (all_name_bytes word h, le-ltb (length word) (length word) (omega arith)) refl

same_letters : (word : List ℕ) → AreSmall word → map to_ascii_lowercase word ≡ word
same_letters [] h = refl
same_letters (b ∷ bs) h = let both = and_parts _ _ h in rw (small_lowercase b both.0, same_letters bs both.1) refl

no_number : (word : List ℕ) → is_small_word word ≡ true → begins_number word ≡ false
no_number [] h = refl
no_number (b ∷ []) h = (first_no_number b (and_parts _ _ h).0).0
no_number (b ∷ c ∷ bs) h = let no = first_no_number b (and_parts _ _ h).0 in rw (no.0, no.1) refl

small_kind : (from : ℕ) (word : List ℕ) → is_small_word word ≡ true → word_kind from word ≡ Ok (kind.Name word)
small_kind from word h =
    let small = small_bytes word h in rw (no_number word h, no_other word small, same_letters word small) refl

-- a small byte begins a word
word_begins : (total b : ℕ) (bs : List ℕ) → is_small_byte b ≡ true → next_of total (b ∷ bs) ≡ word_at total (b ∷ bs)
word_begins total b bs h =
    let comment = or_parts (is_blank b || b == 40 || b == 41 || b == 34) (b == 59) (small_ends_not b h) in
    let quote = or_parts (is_blank b || b == 40 || b == 41) (b == 34) comment.0 in
    let closing = or_parts (is_blank b || b == 40) (b == 41) quote.0 in
    let opening = or_parts (is_blank b) (b == 40) closing.0 in
    let gap : after_gap false (b ∷ bs) ≡ b ∷ bs = cond-false (b == 59) _ _ comment.1 ∙ cond-false (is_blank b) _ _ opening.0 in
    ap (token_at total) gap ∙ cond-false (b == 40) _ _ opening.1 ∙ cond-false (b == 41) _ _ closing.1 ∙ cond-false (b == 34) _ _ quote.1

word_read_is : (from len : ℕ) (text rest : List ℕ) (read : Result TokenKind SexpFault) (s : TokenKind) → drop len text ≡ rest → read ≡ Ok s → word_read from text len read ≡ Ok (Some (record { kind = s; from = from; to = from + len }, rest))
word_read_is from len text rest read s left is = rw (is, left) refl

word_is : (total : ℕ) (text word rest : List ℕ) (s : TokenKind) → position_or_len ends_token text ≡ length word → take (length word) text ≡ word → drop (length word) text ≡ rest → word_kind (place total text) word ≡ Ok s →
    word_at total text ≡ Ok (Some (record { kind = s; from = place total text; to = place total text + length word }, rest))
word_is total text word rest s long front left is =
    ap (λ (len : ℕ). word_read (place total text) text len (word_kind (place total text) (take len text))) long
    ∙ word_read_is (place total text) (length word) text rest (word_kind (place total text) (take (length word) text)) s left (ap (word_kind (place total text)) front ∙ is)

token_of_word : (total b : ℕ) (bs rest : List ℕ) (s : TokenKind) → AreSmall (b ∷ bs) → EndsWord rest → word_kind (place total (b ∷ bs ++ rest)) (b ∷ bs) ≡ Ok s →
    next_of total (b ∷ bs ++ rest) ≡ Ok (Some (record { kind = s; from = place total (b ∷ bs ++ rest); to = place total (b ∷ bs ++ rest) + length (b ∷ bs) }, rest))
token_of_word total b bs rest s small ends is =
    let first = (and_parts _ _ small).0 in
    word_begins total b (bs ++ rest) first
    ∙ word_is total (b ∷ bs ++ rest) (b ∷ bs) rest s (word_length (b ∷ bs) rest small ends) (take-append_seam (b ∷ bs) rest) (drop-append_seam (b ∷ bs) rest) is

-- a word of small letters is the name with these letters
pub next_of-word : (total : ℕ) (word rest : List ℕ) → is_small_word word ≡ true → EndsWord rest →
    next_of total (word ++ rest) ≡ Ok (Some (record { kind = kind.Name word; from = place total (word ++ rest); to = place total (word ++ rest) + length word }, rest))
next_of-word total [] rest h ends = absurd (cc)
next_of-word total (b ∷ bs) rest h ends = token_of_word total b bs rest (kind.Name (b ∷ bs)) (small_bytes (b ∷ bs) h) ends (small_kind (place total (b ∷ bs ++ rest)) (b ∷ bs) h)

digit_begins : (b : ℕ) (bs : List ℕ) → is_ascii_digit b ≡ true → begins_number (b ∷ bs) ≡ true
digit_begins b [] h = h
digit_begins b (c ∷ bs) h = rw h refl

digits_kind : (from b : ℕ) (bs : List ℕ) → all_ascii_digits (b ∷ bs) ≡ true → digits_value 10 (b ∷ bs) < 2 ^ 63 → word_kind from (b ∷ bs) ≡ Ok (kind.Number (pos (digits_value 10 (b ∷ bs))))
digits_kind from b bs h below =
    let digit = (and_parts _ _ h).0 in
    rw (cond-true (begins_number (b ∷ bs)) _ _ (digit_begins b bs digit), plain_some b bs (λ minus. absurd (grind (arith, nat_tests))) h below) refl

-- digits are the number that they write
pub next_of-digits : (total : ℕ) (word rest : List ℕ) → all_ascii_digits word ≡ true → 0 < length word → digits_value 10 word < 2 ^ 63 → EndsWord rest →
    next_of total (word ++ rest) ≡ Ok (Some (record { kind = kind.Number (pos (digits_value 10 word)); from = place total (word ++ rest); to = place total (word ++ rest) + length word }, rest))
next_of-digits total [] rest h some below ends = absurd (omega arith)
next_of-digits total (b ∷ bs) rest h some below ends =
    token_of_word total b bs rest (kind.Number (pos (digits_value 10 (b ∷ bs)))) (digits_small (b ∷ bs) h) ends (digits_kind (place total (b ∷ bs ++ rest)) b bs h below)
