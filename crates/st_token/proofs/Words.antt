-- The word that stands at a place.
use Rattle.std.proofs.Common.{◌≡◌, ℕ, ◌+◌, ◌-◌, ◌<◌, ◌≤◌, Bool, true, false, not, cond, List, length, get_or, take, drop, position, unwrap_or, Option, Some, None, Result, Ok, Err, IfSome, ℤ, refl, sym, ap, ◌∙◌, length-drop, drop-drop, arith}
use Rattle.std.specs.List.{position_or_len}
use Rattle.std.proofs.lemmas.Bool.{not_from_false}
use Rattle.std.proofs.lemmas.Bool.Decides.{nat_tests}
use Rattle.std.proofs.lemmas.List.{take_rest}
use Rattle.std.proofs.lemmas.List.Sums.{prefix_len-le-length, prefix_len-drop_yes}
use Rattle.st_token.specs.declared.fault.SexpFault.{SexpFault}
use Rattle.st_token.specs.declared.token.TokenKind.{TokenKind}
use Rattle.st_token.specs.declared.token.TokenKind.TheVariants as kind
use Rattle.st_text.specs.Answer.{Answers}
use Rattle.st_token.specs.Answer.{told, IsOneByte}
use Rattle.st_token.specs.Bytes.{ends_token}
use Rattle.st_token.specs.Scan.{begins_number, number_of, number_kind, name_kind, word_kind, word_read, word_at}
use Rattle.st_token.proofs.Places.{place-drop}

-- the first place at which a test passes, or else the length
unwrap_or-position : (p : ℕ → Bool) (xs : List ℕ) → unwrap_or (position p xs) (length xs) ≡ position_or_len p xs
unwrap_or-position p xs = let h = prefix_len-le-length (λ x. not (p x)) xs in grind (arith, nat_tests)

pub word_len-is : (bs : List ℕ) (from len : ℕ) (found : Option ℕ) → found ≡ position ends_token (take (length bs - from) (drop from bs)) → len ≡ unwrap_or found (length (take (length bs - from) (drop from bs))) → len ≡ position_or_len ends_token (drop from bs)
word_len-is bs from len found first is = is ∙ rw (first, take_rest bs from) (unwrap_or-position ends_token (drop from bs))

-- how long the word is that stands at a place
pub word_within : (bs : List ℕ) (from : ℕ) → from < length bs → ends_token (get_or bs from 0) ≡ false → (0 < position_or_len ends_token (drop from bs)) × (from + position_or_len ends_token (drop from bs) ≤ length bs)
word_within bs from at begins =
    let first = prefix_len-drop_yes (λ b. not (ends_token b)) bs from 0 at (not_from_false _ begins) in
    let all = prefix_len-le-length (λ b. not (ends_token b)) (drop from bs) in
    (omega (arith, first), omega (arith, all, length-drop from bs))

word_at-place : (bs : List ℕ) (from : ℕ) → from ≤ length bs → word_at (length bs) (drop from bs) ≡
    word_read from (drop from bs) (position_or_len ends_token (drop from bs)) (word_kind from (take (position_or_len ends_token (drop from bs)) (drop from bs)))
word_at-place bs from at =
    let len = position_or_len ends_token (drop from bs) in
    ap (λ (f : ℕ). word_read f (drop from bs) len (word_kind f (take len (drop from bs)))) (place-drop bs from at)

-- the token of a word
pub word_at-token : (bs : List ℕ) (from len : ℕ) (s : TokenKind) → from ≤ length bs → len ≡ position_or_len ends_token (drop from bs) → Ok s ≡ word_kind from (take len (drop from bs)) →
    Ok (Some (record { kind = s; from = from; to = from + len }, drop (from + len) bs)) ≡ word_at (length bs) (drop from bs)
word_at-token bs from len s at is read =
    sym (word_at-place bs from at ∙ (rw (← is, ← read, drop-drop len from bs) refl))

fails-word_read : (from len : ℕ) (text : List ℕ) (found : Option SexpFault) (read : Result TokenKind SexpFault) → IfSome found (λ fault. Err fault ≡ read) → IfSome found (λ fault. Err fault ≡ word_read from text len read)
fails-word_read from len text None read h = tt
fails-word_read from len text (Some fault) read h = ap (word_read from text len) h

-- a word that is none
pub word_at-fault : (bs : List ℕ) (from len : ℕ) (fault : SexpFault) → from ≤ length bs → len ≡ position_or_len ends_token (drop from bs) → Answers told (Err fault) (word_kind from (take len (drop from bs))) → Answers told (Err fault) (word_at (length bs) (drop from bs))
word_at-fault bs from len fault at is h =
    rw (word_at-place bs from at, ← is) (fails-word_read from len (drop from bs) (told fault) (word_kind from (take len (drop from bs))) h)

is_word : (b : Bool) (from : ℕ) (number : Option ℤ) (word : List ℕ) (stray : Option ℕ) (s : TokenKind) (to : ℕ) → cond b (number_kind from number) (name_kind from word stray) ≡ Ok s → IsOneByte s from to
is_word b from number word stray (kind.Name name) to h = tt
is_word b from number word stray (kind.Number value) to h = tt
is_word b from number word stray (kind.Quoted text) to h = tt
is_word true from None word stray kind.Open to h = cc
is_word true from (Some n) word stray kind.Open to h = cc
is_word false from number word None kind.Open to h = cc
is_word false from number word (Some i) kind.Open to h = cc
is_word true from None word stray kind.Close to h = cc
is_word true from (Some n) word stray kind.Close to h = cc
is_word false from number word None kind.Close to h = cc
is_word false from number word (Some i) kind.Close to h = cc

-- a word is no parenthesis
pub word_kind-one_byte : (from : ℕ) (word : List ℕ) (s : TokenKind) (to : ℕ) → Ok s ≡ word_kind from word → IsOneByte s from to
word_kind-one_byte from word s to h = is_word (begins_number word) from (number_of word) word _ s to (sym h)
