-- Each token takes at least one byte from the text, and a parenthesis is one byte long.
use Rattle.std.proofs.Common.{◌≡◌, ℕ, suc, ◌+◌, ◌<◌, ◌≤◌, Bool, true, false, not, ◌||◌, ◌==◌, cond, List, [], ◌∷◌, length, take, drop, Option, Some, None, Result, Ok, Err, refl, arith, length-drop}
use Rattle.std.specs.Prelude.{ℤ, position}
use Rattle.std.specs.List.{position_or_len}
use Rattle.st_token.specs.declared.fault.SexpFault.{SexpFault}
use Rattle.st_token.specs.declared.token.TokenKind.{TokenKind}
use Rattle.st_token.specs.declared.token.TokenKind.TheVariants as kind
use Rattle.st_token.specs.Bytes.{is_blank, ends_token, is_escape, is_name_byte}
use Rattle.st_token.specs.Answer.{IsOneByte}
use Rattle.st_token.specs.Scan.{Read, place, after_gap, before, escape_of, quoted, begins_number, number_of, number_kind, name_kind, word_kind, word_read, word_at, quote_read, parenthesis, token_at, next_of}

-- a token leaves less than n bytes behind it
abbrev pub Advances : ℕ → Read → Type 0
Advances n (Err fault) = Unit {0}
Advances n (Ok None) = Unit {0}
Advances n (Ok (Some found)) = (length (found.1) < n) × IsOneByte (found.0.kind) (found.0.from) (found.0.to)

either_advances : (n : ℕ) (b : Bool) (x y : Read) → (b ≡ true → Advances n x) → (b ≡ false → Advances n y) → Advances n (cond b x y)
either_advances n true x y p q = p refl
either_advances n false x y p q = q refl

-- the text of a quote leaves no more than there is
abbrev Leaves : ℕ → Result (List ℕ × List ℕ) SexpFault → Type 0
Leaves n (Err fault) = Unit {0}
Leaves n (Ok found) = length (found.1) ≤ n

either_leaves : (n : ℕ) (b : Bool) (x y : Result (List ℕ × List ℕ) SexpFault) → Leaves n x → Leaves n y → Leaves n (cond b x y)
either_leaves n true x y p q = p
either_leaves n false x y p q = q

before_leaves : (n b : ℕ) (r : Result (List ℕ × List ℕ) SexpFault) → Leaves n r → Leaves (suc n) (before b r)
before_leaves n b (Ok found) is = omega (arith, is)
before_leaves n b (Err fault) is = tt

more_leaves : (n : ℕ) (r : Result (List ℕ × List ℕ) SexpFault) → Leaves n r → Leaves (suc n) r
more_leaves n (Ok found) is = omega (arith, is)
more_leaves n (Err fault) is = tt

quoted_leaves : (total from : ℕ) (in_escape : Bool) (text : List ℕ) → Leaves (length text) (quoted total from in_escape text)
quoted_leaves total from true [] = tt
quoted_leaves total from false [] = tt
quoted_leaves total from true (b ∷ bs) =
    either_leaves (suc (length bs)) (is_escape b) (before (escape_of b) (quoted total from false bs)) (Err _) (before_leaves (length bs) (escape_of b) (quoted total from false bs) (quoted_leaves total from false bs)) tt
quoted_leaves total from false (b ∷ bs) =
    let more = before b (quoted total from false bs) in
    either_leaves (suc (length bs)) (b == 34) (Ok ([], bs)) (cond (b == 92) (quoted total from true bs) more) (omega arith)
    (either_leaves (suc (length bs)) (b == 92) (quoted total from true bs) more (more_leaves (length bs) (quoted total from true bs) (quoted_leaves total from true bs)) (before_leaves (length bs) b (quoted total from false bs) (quoted_leaves total from false bs)))

quote_advances : (n total from : ℕ) (r : Result (List ℕ × List ℕ) SexpFault) → Leaves n r → Advances (suc n) (quote_read total from r)
quote_advances n total from (Ok found) is = (omega (arith, is), tt)
quote_advances n total from (Err fault) is = tt

-- a word is no parenthesis
abbrev IsWord : Result TokenKind SexpFault → Type 0
IsWord (Err fault) = Unit {0}
IsWord (Ok s) = (from to : ℕ) → IsOneByte s from to

either_word : (b : Bool) (x y : Result TokenKind SexpFault) → IsWord x → IsWord y → IsWord (cond b x y)
either_word true x y p q = p
either_word false x y p q = q

number_kind_word : (from : ℕ) (o : Option ℤ) → IsWord (number_kind from o)
number_kind_word from None = tt
number_kind_word from (Some number) = λ from to. tt

name_kind_word : (from : ℕ) (word : List ℕ) (o : Option ℕ) → IsWord (name_kind from word o)
name_kind_word from word None = λ from to. tt
name_kind_word from word (Some i) = tt

word_kind_word : (from : ℕ) (word : List ℕ) → IsWord (word_kind from word)
word_kind_word from word =
    let other = position (λ b. not (is_name_byte b)) word in
    either_word (begins_number word) (number_kind from (number_of word)) (name_kind from word other) (number_kind_word from (number_of word)) (name_kind_word from word other)

word_advances : (n from : ℕ) (text : List ℕ) (len : ℕ) (r : Result TokenKind SexpFault) → IsWord r → length (drop len text) < n → Advances n (word_read from text len r)
word_advances n from text len (Ok s) word less = (less, word from (from + len))
word_advances n from text len (Err fault) word less = tt

some_len : (ends : Bool) (k : ℕ) → ends ≡ false → 0 < cond (not ends) (1 + k) 0
some_len true k is = absurd (cc)
some_len false k is = omega arith

word_at_advances : (total b : ℕ) (bs : List ℕ) → ends_token b ≡ false → Advances (length (b ∷ bs)) (word_at total (b ∷ bs))
word_at_advances total b bs word =
    let len = position_or_len ends_token (b ∷ bs) in
    let some : 0 < len = some_len (ends_token b) (position_or_len ends_token bs) word in
    let less : length (drop len (b ∷ bs)) < length (b ∷ bs) = omega (arith, length-drop len (b ∷ bs)) in
    word_advances (length (b ∷ bs)) (place total (b ∷ bs)) (b ∷ bs) len (word_kind (place total (b ∷ bs)) (take len (b ∷ bs))) (word_kind_word (place total (b ∷ bs)) (take len (b ∷ bs))) less

-- a text that begins with no blank and no comment
abbrev Starts : List ℕ → Type 0
Starts [] = Unit {0}
Starts (b ∷ bs) = (is_blank b ≡ false) × ((b == 59) ≡ false)

either_starts : (b : Bool) (x y : List ℕ) → (b ≡ true → Starts x) → (b ≡ false → Starts y) → Starts (cond b x y)
either_starts true x y p q = p refl
either_starts false x y p q = q refl

after_gap_starts : (in_comment : Bool) (text : List ℕ) → Starts (after_gap in_comment text)
after_gap_starts true [] = tt
after_gap_starts false [] = tt
after_gap_starts true (b ∷ bs) = after_gap_starts (not (b == 10)) bs
after_gap_starts false (b ∷ bs) =
    either_starts (b == 59) (after_gap true bs) (cond (is_blank b) (after_gap false bs) (b ∷ bs)) (λ _. after_gap_starts true bs) (λ no_comment. either_starts (is_blank b) (after_gap false bs) (b ∷ bs) (λ _. after_gap_starts false bs) (λ no_blank. (no_blank, no_comment)))

either_le : (n : ℕ) (b : Bool) (x y : List ℕ) → length x ≤ n → length y ≤ n → length (cond b x y) ≤ n
either_le n true x y p q = p
either_le n false x y p q = q

after_gap_le : (in_comment : Bool) (text : List ℕ) → length (after_gap in_comment text) ≤ length text
after_gap_le true [] = omega arith
after_gap_le false [] = omega arith
after_gap_le true (b ∷ bs) = omega (arith, after_gap_le (not (b == 10)) bs)
after_gap_le false (b ∷ bs) =
    either_le (suc (length bs)) (b == 59) (after_gap true bs) (cond (is_blank b) (after_gap false bs) (b ∷ bs)) (omega (arith, after_gap_le true bs)) (either_le (suc (length bs)) (is_blank b) (after_gap false bs) (b ∷ bs) (omega (arith, after_gap_le false bs)) (omega arith))

no_end : (p q r s t : Bool) → p ≡ false → q ≡ false → r ≡ false → s ≡ false → t ≡ false → (p || q || r || s || t) ≡ false
no_end p q r s t hp hq hr hs ht = rw (hp, hq, hr, hs, ht) refl

token_at_advances : (total : ℕ) (text : List ℕ) → Starts text → Advances (length text) (token_at total text)
token_at_advances total [] starts = tt
token_at_advances total (b ∷ bs) starts =
    let n = length (b ∷ bs) in
    let from = place total (b ∷ bs) in
    let text = quote_read total from (quoted total from false bs) in
    let word = word_at total (b ∷ bs) in
    let opening = parenthesis kind.Open from bs in
    let closing = parenthesis kind.Close from bs in
    either_advances n (b == 40) opening (cond (b == 41) closing (cond (b == 34) text word)) (λ _. (omega arith, refl)) (λ no_open.
    either_advances n (b == 41) closing (cond (b == 34) text word) (λ _. (omega arith, refl)) (λ no_close.
    either_advances n (b == 34) text word (λ _. quote_advances (length bs) total from (quoted total from false bs) (quoted_leaves total from false bs)) (λ no_quote.
    word_at_advances total b bs (no_end (is_blank b) (b == 40) (b == 41) (b == 34) (b == 59) starts.0 no_open no_close no_quote starts.1))))

advances_more : (m n : ℕ) (read : Read) → m ≤ n → Advances m read → Advances n read
advances_more m n (Err fault) less is = tt
advances_more m n (Ok None) less is = tt
advances_more m n (Ok (Some found)) less is = (omega (arith, is.0), is.1)

-- a token takes at least one byte from the text
pub next_of_advances : (total : ℕ) (text : List ℕ) → Advances (length text) (next_of total text)
next_of_advances total text =
    let left = after_gap false text in
    advances_more (length left) (length text) (token_at total left) (after_gap_le false text) (token_at_advances total left (after_gap_starts false text))
