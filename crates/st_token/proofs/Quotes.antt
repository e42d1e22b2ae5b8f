-- What a quoted text stands for, from a place inside it on.
use Rattle.std.proofs.Common.{◌≡◌, ℕ, suc, ◌+◌, ◌<◌, ◌≤◌, ◌==◌, inl, inr, Bool, true, false, List, [], ◌∷◌, ◌++◌, length, get_or, drop, Result, Ok, Err, refl, sym, ◌∙◌, ap, append_assoc, arith}
use Rattle.std.specs.Char.{IsScalar}
use Rattle.std.proofs.lemmas.List.{append-nil, drop_more}
use Rattle.std.specs.Str.{IsUtf8}
use Rattle.std.proofs.lemmas.Bool.{cases_lt, cases_Bool, and_parts, cond-true, cond-false}
use Rattle.std.proofs.lemmas.Bool.Decides.{nat_tests}
use Rattle.std.proofs.lemmas.Str.{IsUtf8-nil, IsUtf8-append, IsUtf8-from_ascii, IsUtf8-encode, IsUtf8-drop, IsCharBoundary-after_ascii, encode_ascii, inside_one, length-encode, len_utf8_bounds}
use Rattle.std.proofs.lemmas.Str.Ascii.{IsAscii-nil, IsAscii-cons}
use lib.Utf8.{scalars, encodes, encode}
use Rattle.st_token.specs.Bytes.{is_escape}
use Rattle.st_token.specs.declared.fault.SexpFault.{SexpFault}
use Rattle.st_token.specs.Scan.{before, escape_of, quoted}

-- bytes before the text that was read
abbrev pub after_content : List ℕ → Result (List ℕ × List ℕ) SexpFault → Result (List ℕ × List ℕ) SexpFault
after_content content (Ok found) = Ok (content ++ found.0, found.1)
after_content content (Err fault) = Err fault

pub after_content-nil : (read : Result (List ℕ × List ℕ) SexpFault) → after_content [] read ≡ read
after_content-nil (Ok found) = refl
after_content-nil (Err fault) = refl

pub after_content-before : (content : List ℕ) (b : ℕ) (read : Result (List ℕ × List ℕ) SexpFault) → after_content content (before b read) ≡ after_content (content ++ b ∷ []) read
after_content-before content b (Ok found) = rw append_assoc refl
after_content-before content b (Err fault) = refl

before-one : (b : ℕ) (read : Result (List ℕ × List ℕ) SexpFault) → before b read ≡ after_content (b ∷ []) read
before-one b (Ok found) = refl
before-one b (Err fault) = refl

before-after_content : (b : ℕ) (content : List ℕ) (read : Result (List ℕ × List ℕ) SexpFault) → before b (after_content content read) ≡ after_content (b ∷ content) read
before-after_content b content (Ok found) = refl
before-after_content b content (Err fault) = refl

-- a byte that is in no escape and no ASCII
plain_byte : (total from b : ℕ) (bs : List ℕ) → 128 ≤ b → quoted total from false (b ∷ bs) ≡ before b (quoted total from false bs)
plain_byte total from b bs h = grind (arith, nat_tests)

no_escape : (b : ℕ) → 128 ≤ b → is_escape b ≡ false
no_escape b h = grind (arith, nat_tests)

escape_ascii : (b : ℕ) → is_escape b ≡ true → escape_of b < 128
escape_ascii b h = grind (arith, nat_tests)

-- the bytes of a character that is not ASCII stand for themselves
plain_bytes : (total from : ℕ) (hs bs : List ℕ) → ((k : ℕ) → k < length hs → 128 ≤ get_or hs k 0) → quoted total from false (hs ++ bs) ≡ after_content hs (quoted total from false bs)
plain_bytes total from [] bs high = sym (after_content-nil (quoted total from false bs))
plain_bytes total from (h ∷ hs) bs high =
    plain_byte total from h (hs ++ bs) (high 0 (omega arith)) ∙ ap (before h) (plain_bytes total from hs bs (λ k l. high (suc k) (omega arith)))
    ∙ before-after_content h hs (quoted total from false bs)

no_escape_byte : (total from : ℕ) (hs bs : List ℕ) (found : List ℕ × List ℕ) → 0 < length hs → ((k : ℕ) → k < length hs → 128 ≤ get_or hs k 0) → quoted total from true (hs ++ bs) ≡ Ok found → ⊥
no_escape_byte total from [] bs found some high is = absurd (omega arith)
no_escape_byte total from (h ∷ hs) bs found some high is =
    let plain = no_escape h (high 0 some) in let e = rw (cond-false (is_escape h) _ _ plain) at is in cc

-- what is read behind a text, from what is read behind it
put : (hs : List ℕ) (read : Result (List ℕ × List ℕ) SexpFault) (found : List ℕ × List ℕ) → IsUtf8 hs → ((rest : List ℕ × List ℕ) → read ≡ Ok rest → IsUtf8 (rest.0)) → after_content hs read ≡ Ok found → IsUtf8 (found.0)
put hs (Ok rest) found text ih is =
    let e : found ≡ (hs ++ rest.0, rest.1) = cc in rw e (IsUtf8-append hs (rest.0) text (ih rest refl))
put hs (Err fault) found text ih is = cc

-- what the rest of a quoted text stands for is a text
abbrev StandsForText : ℕ → ℕ → List ℕ → Type 0
StandsForText total from bs = (in_escape : Bool) (found : List ℕ × List ℕ) → quoted total from in_escape bs ≡ Ok found → IsUtf8 (found.0)

one_ascii : (b : ℕ) → b < 128 → IsUtf8 (b ∷ [])
one_ascii b low = IsUtf8-from_ascii (b ∷ []) (IsAscii-cons b [] low IsAscii-nil)

past_escape : (total from b : ℕ) (bs : List ℕ) → StandsForText total from bs → (found : List ℕ × List ℕ) → quoted total from true (b ∷ bs) ≡ Ok found → IsUtf8 (found.0)
past_escape total from b bs ih found is =
    elim (cases_Bool (is_escape b)) [
      | inl passes ↦
          put (escape_of b ∷ []) (quoted total from false bs) found (one_ascii (escape_of b) (escape_ascii b passes)) (ih false) (sym (before-one (escape_of b) (quoted total from false bs)) ∙ (rw (cond-true (is_escape b) _ _ passes) at is))
      | inr plain ↦ let e = rw (cond-false (is_escape b) _ _ plain) at is in cc
    ]

past_ascii : (total from b : ℕ) (bs : List ℕ) → b < 128 → StandsForText total from bs → (found : List ℕ × List ℕ) → quoted total from false (b ∷ bs) ≡ Ok found → IsUtf8 (found.0)
past_ascii total from b bs low ih found is =
    elim (cases_Bool (b == 34)) [
      | inl passes ↦ let h = rw (cond-true (b == 34) _ _ passes) at is in let e : found ≡ ([], bs) = cc in rw e IsUtf8-nil
      | inr plain ↦
          let h = rw (cond-false (b == 34) _ _ plain) at is in
          elim (cases_Bool (b == 92)) [
            | inl passes ↦ ih true found (rw (cond-true (b == 92) _ _ passes) at h)
            | inr other ↦
                put (b ∷ []) (quoted total from false bs) found (one_ascii b low) (ih false) (sym (before-one b (quoted total from false bs)) ∙ (rw (cond-false (b == 92) _ _ other) at h))
          ]
    ]

high_bytes : (c : ℕ) → 128 ≤ c → (k : ℕ) → k < length (encode c) → 128 ≤ get_or (encode c) k 0
high_bytes c high k l =
    elim (cases_lt (get_or (encode c) k 0) 128) [
      | inl low ↦ let e = inside_one c [] (encode c) k (sym (append-nil (encode c))) l low in absurd (omega arith)
      | inr h ↦ h
    ]

ascii_either : (total from c : ℕ) (bs : List ℕ) → c < 128 → StandsForText total from bs → StandsForText total from (c ∷ bs)
ascii_either total from c bs low ih true found is = past_escape total from c bs ih found is
ascii_either total from c bs low ih false found is = past_ascii total from c bs low ih found is

high_either : (total from : ℕ) (hs bs : List ℕ) → IsUtf8 hs → 0 < length hs → ((k : ℕ) → k < length hs → 128 ≤ get_or hs k 0) → StandsForText total from bs → StandsForText total from (hs ++ bs)
high_either total from hs bs text some high ih true found is = absurd (no_escape_byte total from hs bs found some high is)
high_either total from hs bs text some high ih false found is =
    put hs (quoted total from false bs) found text (ih false) (sym (plain_bytes total from hs bs high) ∙ is)

past_char : (total from c : ℕ) (bs : List ℕ) → IsScalar c → StandsForText total from bs → StandsForText total from (encode c ++ bs)
past_char total from c bs scalar ih in_escape found is =
    elim (cases_lt c 128) [
      | inl low ↦
          let one = encode_ascii c low in
          let h = rw one at is in
          ascii_either total from c bs low ih in_escape found h
      | inr high ↦ high_either total from (encode c) bs (IsUtf8-encode c scalar) (omega (arith, length-encode c, len_utf8_bounds c)) (high_bytes c high) ih in_escape found is
    ]

-- what a quoted text stands for is a text
IsUtf8-quoted : (total from : ℕ) (cs : List ℕ) → scalars cs ≡ true → StandsForText total from (encodes cs)
IsUtf8-quoted total from [] s in_escape found is = cc
IsUtf8-quoted total from (c ∷ cs) s in_escape found is = let both = and_parts _ _ s in past_char total from c (encodes cs) both.0 (IsUtf8-quoted total from cs both.1) in_escape found is

-- what was read before the closing quote is a text
pub IsUtf8-content : (total from : ℕ) (content bs : List ℕ) (i : ℕ) (in_escape : Bool) → IsUtf8 bs → from < length bs → get_or bs from 0 ≡ 34 → i < length bs → get_or bs i 0 ≡ 34 → in_escape ≡ false →
    after_content content (quoted total from in_escape (drop i bs)) ≡ quoted total from false (drop (from + 1) bs) → IsUtf8 content
IsUtf8-content total from content bs i in_escape text at opens lt closes outside is =
    let rest = IsUtf8-drop bs (from + 1) text (IsCharBoundary-after_ascii bs from text at (omega arith)) in
    let closed : quoted total from in_escape (drop i bs) ≡ Ok ([], drop (i + 1) bs) = rw (outside, drop_more bs i 0 lt, closes) refl in
    let whole : quoted total from false (drop (from + 1) bs) ≡ Ok (content ++ [], drop (i + 1) bs) = sym is ∙ ap (after_content content) closed in
    let read : quoted total from false (encodes (rest.0)) ≡ Ok (content ++ [], drop (i + 1) bs) = rw (rest.1.1) whole in
    rw (append-nil content) at (IsUtf8-quoted total from (rest.0) (rest.1.0) false (content ++ [], drop (i + 1) bs) read)
