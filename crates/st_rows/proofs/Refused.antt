-- Bytes that fields refuse are no row of theirs.
use Rattle.std.proofs.Common.{◌≡◌, ◌≢◌, ℕ, zero, suc, ◌-◌, ◌/◌, ◌%◌, ◌^◌, ◌<◌, pos, negsuc, List, [], ◌∷◌, get_or, take, drop, replicate, Some, None, sym, ap, ◌∙◌, inl, inr, arith}
use Rattle.std.specs.Prelude.{position}
use Rattle.std.specs.Int.{w32, to_be_bytes}
use Rattle.std.proofs.lemmas.List.{take_at, drop_at}
use Rattle.st_values.specs.declared.value.Kind.{Kind}
use Rattle.st_values.specs.declared.value.Value.{Value}
use Rattle.st_values.specs.declared.value.Value.TheVariants.{Null, Int}
use Rattle.st_keys.specs.Keys.{width}
use Rattle.st_rows.specs.declared.field.Field.{Field}
use Rattle.st_rows.specs.declared.field.Field.TheVariants.{Serial, Cell, Key}
use Rattle.st_rows.specs.Rows.{field_width, HoldsInCell, Holds, serial_bytes, cell_bytes, spelled, AreHeld, row, is_filled, IsCellRefused, IsRefused, IsTaken, RowRefused}
use Rattle.st_rows.proofs.Cells.{zeros-none}
use Rattle.st_rows.proofs.Ordered.{KeysAreWide, spelled-width}

no-serial : (n : ℕ) → 0 < n → n < 2 ^ 32 → to_be_bytes w32 n ≢ replicate 4 0
no-serial n some small e =
    let a : n / 16777216 % 256 ≡ 0 = ap (λ (xs : List ℕ). get_or xs 0 0) e in
    let b : n / 65536 % 256 ≡ 0 = ap (λ (xs : List ℕ). get_or xs 1 0) e in
    let c : n / 256 % 256 ≡ 0 = ap (λ (xs : List ℕ). get_or xs 2 0) e in
    let d : n % 256 ≡ 0 = ap (λ (xs : List ℕ). get_or xs 3 0) e in
    omega arith

serial-refused : (bytes : List ℕ) (a : Value) → bytes ≡ replicate 4 0 → Holds Serial a → serial_bytes a ≢ bytes
serial-refused bytes (Int (pos n)) blank h e = no-serial n h.0 h.1 (e ∙ blank)
serial-refused bytes (Int (negsuc n)) blank h e = h
serial-refused bytes _ blank h e = h

head-of : {x y : ℕ} {xs ys : List ℕ} → x ∷ xs ≡ y ∷ ys → x ≡ y
head-of e = ap (λ (zs : List ℕ). get_or zs 0 0) e

tail-of : {x y : ℕ} {xs ys : List ℕ} → x ∷ xs ≡ y ∷ ys → xs ≡ ys
tail-of e = ap (λ (zs : List ℕ). drop 1 zs) e

cell-refused : (kind : Kind) (bytes : List ℕ) (place : ℕ) (a : Value) → IsCellRefused kind bytes place → HoldsInCell kind a → cell_bytes kind a ≢ bytes
cell-refused kind [] place a r h e = r
cell-refused kind (zero ∷ bytes) place Null r h e =
    let here : None ≡ Some place = sym (zeros-none (suc (width kind))) ∙ ap (position is_filled) e ∙ r in
    cc
cell-refused kind (zero ∷ bytes) place a r h e = absurd (omega (arith, head-of e))
cell-refused kind (suc zero ∷ bytes) place Null r h e = absurd (omega (arith, head-of e))
cell-refused kind (suc zero ∷ bytes) place a r h e = r.0 a h (tail-of e)
cell-refused kind (suc (suc byte) ∷ bytes) place Null r h e = absurd (omega (arith, head-of e))
cell-refused kind (suc (suc byte) ∷ bytes) place a r h e = absurd (omega (arith, head-of e))

field-refused : (field : Field) (bytes : List ℕ) (place : ℕ) (a : Value) → IsRefused field bytes place → Holds field a → spelled field a ≢ bytes
field-refused Serial bytes place a r h e = serial-refused bytes a r.0 h e
field-refused (Cell kind) bytes place a r h e = cell-refused kind bytes place a r h e
field-refused (Key kind) bytes place a r h e = r.0 a h e

pub row-refused : KeysAreWide → (fields : List Field) (bytes : List ℕ) (place : ℕ) → RowRefused fields bytes place → (values : List Value) → AreHeld fields values → row fields values ≢ bytes
row-refused wide [] bytes place r values h e = r
row-refused wide (field ∷ fields) bytes place r [] h e = h
row-refused wide (field ∷ fields) bytes place r (a ∷ values) h e =
    let long = spelled-width wide field a h.0 in
    let front : spelled field a ≡ take (field_width field) bytes = sym (take_at (spelled field a) (row fields values) (field_width field) long) ∙ ap (take (field_width field)) e in
    let rest : row fields values ≡ drop (field_width field) bytes = sym (drop_at (spelled field a) (row fields values) (field_width field) long) ∙ ap (drop (field_width field)) e in
    elim r [
      | inl here ↦ field-refused field (take (field_width field) bytes) place a here h.0 front
      | inr later ↦ row-refused wide fields (drop (field_width field) bytes) (place - field_width field) later.2 values h.1 rest
    ]

-- ---- bytes are refused at one place

cell-place : (kind : Kind) (bytes : List ℕ) (p q : ℕ) → IsCellRefused kind bytes p → IsCellRefused kind bytes q → p ≡ q
cell-place kind [] p q r s = absurd r
cell-place kind (zero ∷ bytes) p q r s =
    let both : Some p ≡ Some q = sym r ∙ s in
    cc
cell-place kind (suc zero ∷ bytes) p q r s = r.1 ∙ sym s.1
cell-place kind (suc (suc byte) ∷ bytes) p q r s = r ∙ sym s

field-place : (field : Field) (bytes : List ℕ) (p q : ℕ) → IsRefused field bytes p → IsRefused field bytes q → p ≡ q
field-place Serial bytes p q r s = r.1 ∙ sym s.1
field-place (Cell kind) bytes p q r s = cell-place kind bytes p q r s
field-place (Key kind) bytes p q r s = omega (arith, r.1, s.1)

not-both : (field : Field) (bytes : List ℕ) (place : ℕ) → IsRefused field bytes place → IsTaken field bytes → ⊥
not-both field bytes place r taken = field-refused field bytes place taken.0 r taken.1 taken.2

pub row-place : (fields : List Field) (bytes : List ℕ) (p q : ℕ) → RowRefused fields bytes p → RowRefused fields bytes q → p ≡ q
row-place [] bytes p q r s = absurd r
row-place (field ∷ fields) bytes p q r s =
    let w : ℕ = field_width field in
    let front : List ℕ = take w bytes in
    elim r [
      | inl here ↦ elim s [
        | inl there ↦ field-place field front p q here there
        | inr later ↦ absurd (not-both field front p here later.0)
      ]
      | inr behind ↦ elim s [
        | inl there ↦ absurd (not-both field front q there behind.0)
        | inr later ↦ omega (arith, row-place fields (drop w bytes) (p - w) (q - w) behind.2 later.2, behind.1, later.1)
      ]
    ]
