-- The bytes of a cell, as they are written and read.
use Rattle.std.proofs.Common.{◌≡◌, ℕ, zero, suc, ◌+◌, ◌-◌, ◌≤◌, Bool, true, cond, not, ltb, List, [], ◌∷◌, ◌++◌, length, set, replicate, Some, None, refl, sym, ap, ◌∙◌, subst, inl, inr, arith, append-nil}
use Rattle.std.specs.Prelude.{position}
use Rattle.std.specs.List.{position_or_len}
use Rattle.std.proofs.lemmas.Bool.{cases_lt, lt-ltb, le-ltb}
use Rattle.std.proofs.lemmas.List.{drop_all, length-replicate}
use borrow.Rule.Slice.PartMut.{put_mid}
use Rattle.st_values.specs.declared.value.Kind.{Kind}
use Rattle.st_values.specs.declared.value.Value.{Value}
use Rattle.st_values.specs.declared.value.Value.TheVariants.{Null}
use Rattle.st_keys.specs.Keys.{width, key}
use Rattle.st_rows.specs.Rows.{cell_bytes, is_filled}

-- a value that isn't null is spelled by a byte 1 and its key
pub cell-filled : (kind : Kind) (value : Value) → (value ≡ Null → ⊥) → cell_bytes kind value ≡ 1 ∷ key kind value
cell-filled kind Null h = absurd (h refl)
cell-filled kind _ h = refl

marked : (into new : List ℕ) (wide : ℕ) → length into ≡ 1 + wide → put_mid 1 (length (set into 0 1) - 1) (set into 0 1) new ≡ 1 ∷ (new ++ [])
marked [] new wide h = absurd (omega arith)
marked (x ∷ into) new wide h =
    ap (λ (rest : List ℕ). 1 ∷ (new ++ rest)) (drop_all (suc (length into) - 1) into (omega arith))

-- a cell is written: its first byte, and all the others
pub cell-written : (kind : Kind) (value : Value) (into new : List ℕ) → (value ≡ Null → ⊥) → length into ≡ 1 + width kind → new ≡ key kind value
    → put_mid 1 (length (set into 0 1) - 1) (set into 0 1) new ≡ cell_bytes kind value
cell-written kind value into new some h e =
    marked into new (width kind) h ∙ ap (λ (rest : List ℕ). 1 ∷ rest) (append-nil new ∙ e) ∙ sym (cell-filled kind value some)

-- the first filled one of zeros is behind them
zeros-through : (n : ℕ) → position_or_len is_filled (replicate n 0) ≡ n
zeros-through zero = refl
zeros-through (suc n) = ap (λ (k : ℕ). 1 + k) (zeros-through n) ∙ omega arith

-- bytes of which none is filled are zeros
none-through : (bytes : List ℕ) → length bytes ≤ position_or_len is_filled bytes → bytes ≡ replicate (length bytes) 0
none-through [] h = refl
none-through (zero ∷ bytes) h = ap (λ (rest : List ℕ). 0 ∷ rest) (none-through bytes (omega arith))
none-through (suc byte ∷ bytes) h =
    let seen : ltb 0 (suc byte) ≡ true = lt-ltb 0 (suc byte) (omega arith) in
    let past : Bool → Type 0 = λ b. suc (length bytes) ≤ cond (not b) (1 + position_or_len is_filled bytes) 0 in
    absurd (omega (arith, subst past seen h))

none-filled : (bytes : List ℕ) → None ≡ position is_filled bytes → bytes ≡ replicate (length bytes) 0
none-filled bytes e =
    let place : ℕ = position_or_len is_filled bytes in
    elim (cases_lt place (length bytes)) [
      | inl below ↦
          let here : None ≡ Some place = e ∙ ap (λ (b : Bool). cond b (Some place) None) (lt-ltb place (length bytes) below) in
          cc
      | inr beyond ↦ none-through bytes beyond
    ]

-- none of zeros is filled
pub zeros-none : (n : ℕ) → position is_filled (replicate n 0) ≡ None
zeros-none n =
    let zeros : List ℕ = replicate n 0 in
    let place : ℕ = position_or_len is_filled zeros in
    ap (λ (b : Bool). cond b (Some place) None) (le-ltb place (length zeros) (omega (arith, zeros-through n, length-replicate {A = ℕ} n 0)))

-- bytes of which none is filled are null's
pub null-read : (wide : ℕ) (bytes : List ℕ) → length bytes ≡ 1 + wide → None ≡ position is_filled bytes → 0 ∷ replicate wide 0 ≡ bytes
null-read wide bytes h e =
    let many : length bytes ≡ suc wide = omega arith in
    sym (none-filled bytes e ∙ ap (λ (k : ℕ). replicate k 0) many)
