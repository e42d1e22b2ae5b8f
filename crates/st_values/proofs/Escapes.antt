-- The escapes of a text, one character at a time.
use Rattle.std.proofs.Common.{◌≡◌, ◌≢◌, ℕ, suc, ◌<◌, List, [], ◌∷◌, ◌++◌, length, get_or, flat_map, ne_eqb, encode_utf8, refl, sym, ap, ◌∙◌, append_assoc, append-nil, arith}
use Rattle.std.proofs.lemmas.List.Concat.{flat_map-append}
use Rattle.std.proofs.lemmas.Str.{inside_one}
use Rattle.st_values.specs.Print.{escaped}

-- a byte that has no backslash form stands for itself
escaped-plain : (byte : ℕ) → byte ≢ 34 → byte ≢ 92 → byte ≢ 10 → escaped byte ≡ byte ∷ []
escaped-plain byte quote backslash feed =
    rw (ne_eqb byte 34 quote, ne_eqb byte 92 backslash, ne_eqb byte 10 feed) refl

-- a list of such bytes stands for itself
flat_map-plain : (bytes : List ℕ) → ((k : ℕ) → k < length bytes → (get_or bytes k 0 ≢ 34) × (get_or bytes k 0 ≢ 92) × (get_or bytes k 0 ≢ 10)) → flat_map escaped bytes ≡ bytes
flat_map-plain [] plain = refl
flat_map-plain (byte ∷ bytes) plain =
    let first = plain 0 (omega arith) in
    let rest = flat_map-plain bytes (λ k h. plain (suc k) (omega arith)) in
    rw (escaped-plain byte first.0 first.1 first.2, rest) refl

-- any other character than the three stands for itself
pub flat_map-other : (c : ℕ) → c ≢ 34 → c ≢ 92 → c ≢ 10 → flat_map escaped (encode_utf8 c) ≡ encode_utf8 c
flat_map-other c quote backslash feed =
    let bytes = encode_utf8 c in
    let same : (k : ℕ) → k < length bytes → get_or bytes k 0 < 128 → c ≡ get_or bytes k 0 =
    λ k h low. inside_one c [] bytes k (sym (append-nil bytes)) h low in
    flat_map-plain bytes (λ k h. (
      λ e. quote (same k h (omega arith) ∙ e),
      λ e. backslash (same k h (omega arith) ∙ e),
      λ e. feed (same k h (omega arith) ∙ e),
    ))

-- one character more is written
pub flat_map-past_char : (written rest after whole : List ℕ) (c : ℕ) → rest ≡ encode_utf8 c ++ after → written ++ flat_map escaped rest ≡ whole → (written ++ flat_map escaped (encode_utf8 c)) ++ flat_map escaped after ≡ whole
flat_map-past_char written rest after whole c parts held =
    let split = ap (flat_map escaped) parts ∙ flat_map-append escaped (encode_utf8 c) after in
    rw (append_assoc, ← split) held
