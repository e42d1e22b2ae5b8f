-- Which faults come from the tokens of a text: neither want of memory nor bytes that are not UTF-8.
use Rattle.std.proofs.Common.{◌≡◌, ℕ, Bool, true, false, not, ◌==◌, ltb, cond, List, [], ◌∷◌, length, take, Option, Some, None, Result, Ok, Err, subst}
use Rattle.std.specs.Prelude.{ℤ, position}
use Rattle.std.specs.List.{position_or_len}
use Rattle.st_token.specs.declared.fault.SexpFault.{SexpFault}
use Rattle.st_token.specs.declared.fault.SexpFault.TheVariants.{TooDeep, NotUtf8, Memory}
use Rattle.st_token.specs.declared.token.TokenKind.{TokenKind}
use Rattle.st_token.specs.declared.token.TokenKind.TheVariants as kind
use Rattle.st_token.specs.Bytes.{ends_token, is_escape, is_name_byte}
use Rattle.st_token.specs.Scan.{Read, place, after_gap, before, escape_of, quoted, begins_number, number_of, number_kind, name_kind, word_kind, word_read, word_at, quote_read, parenthesis, token_at, next_of}
use Rattle.st_sexp.specs.Reading.{nesting_fault, fault_at, max_depth}

-- a fault of a text that is UTF-8, and not want of memory
abbrev pub IsOfTokens : SexpFault → Type 0
IsOfTokens Memory = ⊥
IsOfTokens (NotUtf8 place) = ⊥
IsOfTokens fault = Unit {0}

-- only such a fault is answered
abbrev pub Faults : {A : Type 0} → Result A SexpFault → Type 0
Faults (Ok x) = Unit {0}
Faults (Err fault) = IsOfTokens fault

either : {X : Type 0} (P : X → Type 0) (b : Bool) (x y : X) → P x → P y → P (cond b x y)
either P true x y p q = p
either P false x y p q = q

either_fails : {A : Type 0} (b : Bool) (x y : Result A SexpFault) → Faults x → Faults y → Faults (cond b x y)
either_fails true x y p q = p
either_fails false x y p q = q

before_fails : (b : ℕ) (r : Result (List ℕ × List ℕ) SexpFault) → Faults r → Faults (before b r)
before_fails b (Ok found) f = tt
before_fails b (Err fault) f = f

quoted_fails : (total from : ℕ) (in_escape : Bool) (text : List ℕ) → Faults (quoted total from in_escape text)
quoted_fails total from true [] = tt
quoted_fails total from false [] = tt
quoted_fails total from true (b ∷ bs) =
    either_fails (is_escape b) (before (escape_of b) (quoted total from false bs)) _ (before_fails (escape_of b) (quoted total from false bs) (quoted_fails total from false bs)) tt
quoted_fails total from false (b ∷ bs) =
    let more = before b (quoted total from false bs) in
    either_fails {A = List ℕ × List ℕ} (b == 34) (Ok ([], bs)) (cond (b == 92) (quoted total from true bs) more) tt (either_fails (b == 92) (quoted total from true bs) more (quoted_fails total from true bs) (before_fails b (quoted total from false bs) (quoted_fails total from false bs)))

number_kind_fails : (from : ℕ) (o : Option ℤ) → Faults (number_kind from o)
number_kind_fails from None = tt
number_kind_fails from (Some number) = tt

name_kind_fails : (from : ℕ) (word : List ℕ) (o : Option ℕ) → Faults (name_kind from word o)
name_kind_fails from word None = tt
name_kind_fails from word (Some i) = tt

word_kind_fails : (from : ℕ) (word : List ℕ) → Faults (word_kind from word)
word_kind_fails from word = either_fails (begins_number word) (number_kind from (number_of word)) (name_kind from word (position (λ b. not (is_name_byte b)) word)) (number_kind_fails from (number_of word)) (name_kind_fails from word (position (λ b. not (is_name_byte b)) word))

word_read_fails : (from : ℕ) (text : List ℕ) (len : ℕ) (r : Result TokenKind SexpFault) → Faults r → Faults (word_read from text len r)
word_read_fails from text len (Ok s) f = tt
word_read_fails from text len (Err fault) f = f

word_at_fails : (total : ℕ) (text : List ℕ) → Faults (word_at total text)
word_at_fails total text =
    let len = position_or_len ends_token text in
    word_read_fails (place total text) text len (word_kind (place total text) (take len text)) (word_kind_fails (place total text) (take len text))

quote_read_fails : (total from : ℕ) (r : Result (List ℕ × List ℕ) SexpFault) → Faults r → Faults (quote_read total from r)
quote_read_fails total from (Ok found) f = tt
quote_read_fails total from (Err fault) f = f

token_at_fails : (total : ℕ) (text : List ℕ) → Faults (token_at total text)
token_at_fails total [] = tt
token_at_fails total (b ∷ bs) =
    let from = place total (b ∷ bs) in
    let text = quote_read total from (quoted total from false bs) in
    let other = cond (b == 34) text (word_at total (b ∷ bs)) in
    let close = parenthesis kind.Close from bs in
    either_fails (b == 40) (parenthesis kind.Open from bs) (cond (b == 41) close other) tt (either_fails (b == 41) close other tt (either_fails (b == 34) text (word_at total (b ∷ bs)) (quote_read_fails total from (quoted total from false bs) (quoted_fails total from false bs)) (word_at_fails total (b ∷ bs))))

-- reading a token fails with no other fault
pub next_of_fails : (total : ℕ) (text : List ℕ) → Faults (next_of total text)
next_of_fails total text = token_at_fails total (after_gap false text)

-- the fault that is there, if there is one
abbrev MayFault : Option SexpFault → Type 0
MayFault None = Unit {0}
MayFault (Some fault) = IsOfTokens fault

nesting_may : (s : TokenKind) (from : ℕ) (levels : List ℕ) → MayFault (nesting_fault s from levels)
nesting_may kind.Open from levels = either MayFault (ltb (length levels) max_depth) None (Some (TooDeep from)) tt tt
nesting_may kind.Close from [] = tt
nesting_may kind.Close from (innermost ∷ levels) = tt
nesting_may (kind.Name letters) from levels = tt
nesting_may (kind.Number number) from levels = tt
nesting_may (kind.Quoted letters) from levels = tt

fault_may : (read : Read) (levels : List ℕ) → Faults read → MayFault (fault_at read levels)
fault_may (Err fault) levels f = f
fault_may (Ok (Some found)) levels f = nesting_may (found.0.kind) (found.0.from) levels
fault_may (Ok None) [] f = tt
fault_may (Ok None) (innermost ∷ levels) f = tt

-- the fault where reading stops is one of the tokens
pub fault_is_of_tokens : (total : ℕ) (rest levels : List ℕ) (fault : SexpFault) → fault_at (next_of total rest) levels ≡ Some fault → IsOfTokens fault
fault_is_of_tokens total rest levels fault is = subst MayFault is (fault_may (next_of total rest) levels (next_of_fails total rest))
