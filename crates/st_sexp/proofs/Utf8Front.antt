-- Bytes that are not UTF-8 have a place where they stop being it.
use Rattle.std.proofs.Common.{◌≡◌, ◌⊎◌, inl, inr, ⊎_elim, ℕ, zero, suc, ◌≤◌, false, List, length, take, sym, ◌∙◌, subst, arith, take_all, IsUtf8}
use Rattle.std.specs.Str.{is_utf8, IsValidUpTo}
use Rattle.std.proofs.lemmas.Bool.{cases_Bool, cases_eq, false≢true}
use Rattle.std.proofs.lemmas.Str.{IsUtf8-nil, IsUtf8-from_is_utf8, is_utf8-from_IsUtf8}

fails : (bytes : List ℕ) → is_utf8 bytes ≡ false → ¬ (IsUtf8 bytes)
fails bytes faulty utf8 = false≢true (sym faulty ∙ is_utf8-from_IsUtf8 bytes utf8)

-- no front of this length or a greater one is UTF-8, so the place lies below
place_below : (bytes : List ℕ) (n : ℕ) → n ≤ length bytes → ((m : ℕ) → n ≤ m → ¬ (IsUtf8 (take m bytes))) → (place : ℕ) × IsValidUpTo bytes place
place_below bytes zero within none = absurd (none 0 (omega arith) IsUtf8-nil)
place_below bytes (suc n) within none =
    ⊎_elim
    (λ valid. (n, record { short = omega arith; front = IsUtf8-from_is_utf8 (take n bytes) valid; longest = λ m above. none m (omega arith) }))
    (λ faulty. place_below bytes n (omega arith) (λ m from utf8.
    ⊎_elim
    (λ (same : m ≡ n). fails (take n bytes) faulty (subst (λ k. IsUtf8 (take k bytes)) same utf8))
    (λ (other : m ≡ n → ⊥). none m (omega arith) utf8)
    (cases_eq m n)))
    (cases_Bool (is_utf8 (take n bytes)))

-- bytes are UTF-8, or they are not and have that place
pub utf8_or_place : (bytes : List ℕ) → IsUtf8 bytes ⊎ (¬ (IsUtf8 bytes) × ((place : ℕ) × IsValidUpTo bytes place))
utf8_or_place bytes =
    ⊎_elim
    (λ valid. inl (IsUtf8-from_is_utf8 bytes valid))
    (λ faulty. inr (fails bytes faulty, place_below bytes (length bytes) (omega arith) (λ m all utf8. fails bytes faulty (subst IsUtf8 (take_all m bytes all) utf8))))
    (cases_Bool (is_utf8 bytes))
