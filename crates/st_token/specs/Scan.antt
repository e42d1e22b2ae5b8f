-- The tokens of a text, each read from what is left of the text. A place is counted from the front of the
-- whole text: of what is left it is the whole length less the length that is left.
use Rattle.std.specs.Prelude.{ℕ, ◌+◌, ◌-◌, ◌^◌, Bool, true, false, not, ◌||◌, ◌&&◌, ◌==◌, nat_lt, nat_le, if◌then◌else◌, List, [], ◌∷◌, map, length, take, drop, position, Option, Some, None, Result, Ok, Err, pos, neg_ℤ, ℤ}
use Rattle.std.specs.List.{position_or_len}
use Rattle.std.specs.Char.{is_ascii_digit, to_ascii_lowercase}
use Rattle.std.specs.Str.{all_ascii_digits}
use Rattle.std.specs.Str.Parse.{digits_value}
use Rattle.st_token.specs.declared.fault.SexpFault.{SexpFault}
use Rattle.st_token.specs.declared.fault.SexpFault.TheVariants.{Unclosed, Stray, BadNumber}
use Rattle.st_token.specs.declared.token.Token.{Token}
use Rattle.st_token.specs.declared.token.TokenKind.{TokenKind}
use Rattle.st_token.specs.declared.token.TokenKind.TheVariants as kind
use Rattle.st_token.specs.Bytes.{is_blank, ends_token, is_name_byte, is_escape}

-- where what is left begins
abbrev pub place : ℕ → List ℕ → ℕ
place total text = total - length text

-- what is left behind the blanks and comments at the front; a comment goes from a semicolon to the end of its line
abbrev pub after_gap : Bool → List ℕ → List ℕ
after_gap in_comment [] = []
after_gap true (b ∷ bs) = after_gap (not (b == 10)) bs
after_gap false (b ∷ bs) = if b == 59 then after_gap true bs else (if is_blank b then after_gap false bs else b ∷ bs)

-- the byte that an escape stands for: n for the line feed, a quote or a backslash for itself
abbrev pub escape_of : ℕ → ℕ
escape_of b = if b == 110 then 10 else b

-- a byte before the text that was read
abbrev pub before : ℕ → Result (List ℕ × List ℕ) SexpFault → Result (List ℕ × List ℕ) SexpFault
before b (Ok found) = Ok (b ∷ found.0, found.1)
before b (Err fault) = Err fault

-- the rest of a quoted text that began at from: what it stands for, and what is left behind its closing quote.
-- In an escape the backslash was the byte before.
abbrev pub quoted : ℕ → ℕ → Bool → List ℕ → Result (List ℕ × List ℕ) SexpFault
quoted total from in_escape [] = Err (Unclosed from)
quoted total from true (b ∷ bs) =
    if is_escape b then before (escape_of b) (quoted total from false bs) else Err (Stray (place total (b ∷ bs) - 1))
quoted total from false (b ∷ bs) =
    if b == 34 then Ok ([], bs) else (if b == 92 then quoted total from true bs else before b (quoted total from false bs))

-- a token that begins with a digit, or with a minus and a digit, is a number
abbrev pub begins_number : List ℕ → Bool
begins_number [] = false
begins_number (b ∷ []) = is_ascii_digit b
begins_number (b ∷ c ∷ bs) = is_ascii_digit b || (b == 45 && is_ascii_digit c)

-- the number of a minus and digits, or of digits, where there is no other byte and it has 64 bits
abbrev pub number_of : List ℕ → Option ℤ
number_of [] = None
number_of (b ∷ bs) =
    if b == 45 then (if all_ascii_digits bs && nat_le (digits_value 10 bs) (2 ^ 63) then Some (neg_ℤ (pos (digits_value 10 bs))) else None)
    else (if all_ascii_digits (b ∷ bs) && nat_lt (digits_value 10 (b ∷ bs)) (2 ^ 63) then Some (pos (digits_value 10 (b ∷ bs))) else None)

-- a number, or a fault at its start
abbrev pub number_kind : ℕ → Option ℤ → Result TokenKind SexpFault
number_kind from None = Err (BadNumber from)
number_kind from (Some number) = Ok (kind.Number number)

-- a name in small letters, or a fault at its first byte that no name has
abbrev pub name_kind : ℕ → List ℕ → Option ℕ → Result TokenKind SexpFault
name_kind from word None = Ok (kind.Name (map to_ascii_lowercase word))
name_kind from word (Some i) = Err (Stray (from + i))

-- a token that is no list's end and no quoted text
abbrev pub word_kind : ℕ → List ℕ → Result TokenKind SexpFault
word_kind from word =
    if begins_number word then number_kind from (number_of word) else name_kind from word (position (λ b. not (is_name_byte b)) word)

-- what is read at the front of a text: a token and what is left behind it, or a fault; None at the end
abbrev pub Read : Type 0
Read = Result (Option (Token × List ℕ)) SexpFault

-- a word as long as it goes
abbrev pub word_read : ℕ → List ℕ → ℕ → Result TokenKind SexpFault → Read
word_read from text len (Ok s) = Ok (Some (record { kind = s; from = from; to = from + len }, drop len text))
word_read from text len (Err fault) = Err fault

abbrev pub word_at : ℕ → List ℕ → Read
word_at total text =
    let len = position_or_len ends_token text in word_read (place total text) text len (word_kind (place total text) (take len text))

-- a quoted text behind its opening quote
abbrev pub quote_read : ℕ → ℕ → Result (List ℕ × List ℕ) SexpFault → Read
quote_read total from (Ok found) = Ok (Some (record { kind = kind.Quoted (found.0); from = from; to = place total (found.1) }, found.1))
quote_read total from (Err fault) = Err fault

-- a parenthesis, which is one byte
abbrev pub parenthesis : TokenKind → ℕ → List ℕ → Read
parenthesis s from bs = Ok (Some (record { kind = s; from = from; to = from + 1 }, bs))

-- a token at the front of the text, with no gap before it
abbrev pub token_at : ℕ → List ℕ → Read
token_at total [] = Ok None
token_at total (b ∷ bs) =
    let from = place total (b ∷ bs) in
    if b == 40 then parenthesis kind.Open from bs
    else (if b == 41 then parenthesis kind.Close from bs
    else (if b == 34 then quote_read total from (quoted total from false bs) else word_at total (b ∷ bs)))

-- the next token of what is left of a text
abbrev pub next_of : ℕ → List ℕ → Read
next_of total text = token_at total (after_gap false text)
