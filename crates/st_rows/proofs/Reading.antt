-- Reading fields one behind the other.
use Rattle.std.proofs.Common.{◌≡◌, ℕ, ◌+◌, ◌-◌, ◌^◌, ◌<◌, ◌≤◌, List, [], ◌∷◌, ◌++◌, length, take, drop, sym, ap, subst, ◌∙◌, inl, inr, append_assoc, append-nil, length-take, length-drop, arith}
use Rattle.std.proofs.lemmas.Grind.{common_steps}
use Rattle.std.proofs.lemmas.List.{drop_all, drop-drop, take-append-drop}
use Rattle.st_values.specs.declared.value.Value.{Value}
use Rattle.st_rows.specs.declared.field.Field.{Field}
use Rattle.st_rows.specs.declared.fault.RowFault.{RowFault}
use Rattle.st_rows.specs.declared.fault.RowFault.TheVariants.{BadRow, Memory}
use Rattle.st_rows.specs.Rows.{field_width, fields_width, spelled, AreHeld, row, IsRefused, IsTaken, RowRefused}
use Rattle.st_rows.specs.Causes.{IsRowCause, IsCauseAt, IsPushed, PlaceFits, moved}

-- Bytes of fields are read up to a place, as values: the rest of the fields is left, of the bytes' width. With what they
-- hold behind the values that is the row; and where they refuse the rest, the fields refuse the bytes.
pub record Reads (fields rest : List Field) (bytes : List ℕ) (place : ℕ) (values : List Value) : Type 0 where
  pub room : place + fields_width rest ≡ length bytes
  pub held : (more : List Value) → AreHeld rest more → row rest more ≡ drop place bytes → AreHeld fields (values ++ more) × (row fields (values ++ more) ≡ bytes)
  pub refused : (p : ℕ) → RowRefused rest (drop place bytes) p → RowRefused fields bytes (place + p)

-- nothing is read
pub reads-begin : (fields : List Field) (bytes : List ℕ) → length bytes ≡ fields_width fields → Reads fields fields bytes 0 []
reads-begin fields bytes wide = record {
  room = omega arith;
  held = λ more h e. (h, e);
  refused = λ p r. let same : p ≡ 0 + p = omega arith in subst (RowRefused fields bytes) same r;
}

-- one more field is read
pub reads-next : (whole all fields : List Field) (field : Field) (bytes : List ℕ) (place : ℕ) (values new : List Value) → Reads whole all bytes place values
    → all ≡ field ∷ fields → IsPushed field bytes place values new → Reads whole fields bytes (place + field_width field) new
reads-next whole all fields field bytes place values new reads e pushed =
    let r : Reads whole (field ∷ fields) bytes place values = subst (λ (fs : List Field). Reads whole fs bytes place values) e reads in
    let w : ℕ = field_width field in
    let a : Value = pushed.0 in
    let behind : drop w (drop place bytes) ≡ drop (place + w) bytes = drop-drop w place bytes in
    record {
      room = omega (arith, r.room);
      held = λ more h same.
          let whole_row : spelled field a ++ row fields more ≡ drop place bytes = (λ i. pushed.2 i ++ (same ∙ sym behind) i) ∙ take-append-drop w (drop place bytes) in
          let joined : values ++ a ∷ more ≡ new ++ more = sym (append_assoc values (a ∷ []) more) ∙ ap (λ (vs : List Value). vs ++ more) (sym pushed.3) in
          let both = r.held (a ∷ more) (pushed.1, h) whole_row in
          (subst (AreHeld whole) joined both.0, ap (row whole) (sym joined) ∙ both.1);
      refused = λ p x.
          let back : p ≡ w + p - w = omega arith in
          let far : place + (w + p) ≡ place + w + p = omega arith in
          let there : RowRefused fields (drop w (drop place bytes)) (w + p - w) = subst (RowRefused fields (drop w (drop place bytes))) back (subst (λ (bs : List ℕ). RowRefused fields bs p) (sym behind) x) in
          subst (RowRefused whole bytes) far (r.refused (w + p) (inr ((a, pushed.1, pushed.2), omega arith, there)));
    }

-- the same fields are left
pub reads-as : (whole all rest : List Field) (bytes : List ℕ) (place : ℕ) (values : List Value) → Reads whole all bytes place values → all ≡ rest → Reads whole rest bytes place values
reads-as whole all rest bytes place values reads e = subst (λ (fs : List Field). Reads whole fs bytes place values) e reads

-- a field refuses its bytes, or there is no memory for what it holds
pub reads-fail : (whole all fields : List Field) (field : Field) (bytes : List ℕ) (place : ℕ) (values : List Value) (fault : RowFault) → Reads whole all bytes place values
    → all ≡ field ∷ fields → IsCauseAt field bytes place fault → IsRowCause whole bytes fault
reads-fail whole all fields field bytes place values (BadRow p) reads e cause =
    let r : Reads whole (field ∷ fields) bytes place values = subst (λ (fs : List Field). Reads whole fs bytes place values) e reads in
    let there : place + (p - place) ≡ p = omega (arith, cause.0) in
    subst (RowRefused whole bytes) there (r.refused (p - place) (inl cause.1))
reads-fail whole all fields field bytes place values Memory reads e cause = tt

-- all fields are read
pub reads-end : (whole rest : List Field) (bytes : List ℕ) (place : ℕ) (values : List Value) → rest ≡ [] → Reads whole rest bytes place values
    → AreHeld whole values × (row whole values ≡ bytes)
reads-end whole rest bytes place values e reads =
    let r : Reads whole [] bytes place values = subst (λ (fs : List Field). Reads whole fs bytes place values) e reads in
    let none : drop place bytes ≡ [] = drop_all place bytes (omega (arith, r.room)) in
    let both = r.held [] tt (sym none) in
    (subst (AreHeld whole) (append-nil values) both.0, ap (row whole) (sym (append-nil values)) ∙ both.1)

-- ---- where the place of a fault lies

field-within : (field : Field) (bytes : List ℕ) (place : ℕ) → IsRefused field bytes place → length bytes ≡ field_width field → place < field_width field
field-within field bytes place r wide = grind (arith, common_steps)

pub row-within : (fields : List Field) (bytes : List ℕ) (place : ℕ) → RowRefused fields bytes place → length bytes ≡ fields_width fields → place < fields_width fields
row-within [] bytes place r wide = absurd r
row-within (field ∷ fields) bytes place r wide =
    let w : ℕ = field_width field in
    elim r [
      | inl here ↦
          let long : length (take w bytes) ≡ w = simp length-take (omega arith) in
          omega (arith, field-within field (take w bytes) place here long)
      | inr later ↦
          let long : length (drop w bytes) ≡ fields_width fields = simp length-drop (omega arith) in
          omega (arith, row-within fields (drop w bytes) (place - w) later.2 long, later.1)
    ]

-- the place of a fault behind a field fits 16 bits where the width does
pub behind-fits : (fields : List Field) (bytes : List ℕ) (by : ℕ) (fault : RowFault) → IsRowCause fields bytes fault → length bytes ≡ fields_width fields
    → by + fields_width fields ≤ 2 ^ 16 → by < 2 ^ 16 → PlaceFits fault by
behind-fits fields bytes by (BadRow place) cause wide room small = omega (arith, row-within fields bytes place cause wide)
behind-fits fields bytes by Memory cause wide room small = small

-- a fault of the fields behind a first one that holds its bytes
pub behind-first : (field : Field) (fields : List Field) (bytes : List ℕ) (fault : RowFault) → IsTaken field (take (field_width field) bytes) → IsRowCause fields (drop (field_width field) bytes) fault
    → IsRowCause (field ∷ fields) bytes (moved fault (field_width field))
behind-first field fields bytes (BadRow place) taken cause =
    let w : ℕ = field_width field in
    let back : place ≡ place + w - w = omega arith in
    inr (taken, omega arith, subst (RowRefused fields (drop w bytes)) back cause)
behind-first field fields bytes Memory taken cause = tt
