-- Writing fields one behind the other.
use Rattle.std.proofs.Common.{◌≡◌, ℕ, zero, suc, ◌+◌, ◌<◌, List, [], ◌∷◌, ◌++◌, length, get_or, take, drop, sym, ap, subst, ◌∙◌, append_assoc, append-nil, drop-cons, add-one, arith}
use Rattle.std.proofs.lemmas.List.{take_all}
use Rattle.st_values.specs.declared.value.Value.{Value}
use Rattle.st_rows.specs.declared.field.Field.{Field}
use Rattle.st_rows.specs.Rows.{field_width, fields_width, Holds, spelled, AreHeld, row}

-- A row is written up to a place: fields are left for values, there is room for them, and what stands in front of the
-- place is the row's with theirs behind it.
pub record Writes (fields : List Field) (values : List Value) (place : ℕ) (into whole : List ℕ) : Type 0 where
  pub held : AreHeld fields values
  pub room : place + fields_width fields ≡ length into
  pub front : take place into ++ row fields values ≡ whole

-- fields that are left have a value each
pub value-left : (field : Field) (fields : List Field) (values : List Value) (index : ℕ) → AreHeld (field ∷ fields) (drop index values) → index < length values
value-left field fields [] zero h = absurd h
value-left field fields [] (suc index) h = absurd h
value-left field fields (a ∷ values) zero h = omega arith
value-left field fields (a ∷ values) (suc index) h = omega (arith, value-left field fields values index h)

parted : (field : Field) (fields : List Field) (values : List Value) (index : ℕ) (a : Value) → AreHeld (field ∷ fields) (drop index values) → a ≡ get_or values index a
    → drop index values ≡ a ∷ drop (suc index) values
parted field fields values index a h e =
    drop-cons values index a (value-left field fields values index h) ∙ (λ i. sym e i ∷ drop (suc index) values)

-- the next value is one that the next field holds
pub value-held : (all fields : List Field) (field : Field) (values : List Value) (index place : ℕ) (into whole : List ℕ) (a : Value) → Writes all (drop index values) place into whole
    → all ≡ field ∷ fields → a ≡ get_or values index a → Holds field a
value-held all fields field values index place into whole a w e here =
    let held : AreHeld (field ∷ fields) (drop index values) = subst (λ (fs : List Field). AreHeld fs (drop index values)) e w.held in
    let now : AreHeld (field ∷ fields) (a ∷ drop (suc index) values) = subst (λ (vs : List Value). AreHeld (field ∷ fields) vs) (parted field fields values index a held here) held in
    now.0

-- a row is written on by a field
pub writes-next : (all fields : List Field) (field : Field) (values : List Value) (index place : ℕ) (into new whole : List ℕ) (a : Value) → Writes all (drop index values) place into whole
    → all ≡ field ∷ fields → a ≡ get_or values index a → length new ≡ length into → take (place + field_width field) new ≡ take place into ++ spelled field a
    → Writes fields (drop (index + 1) values) (place + field_width field) new whole
writes-next all fields field values index place into new whole a w e here long put =
    let held : AreHeld (field ∷ fields) (drop index values) = subst (λ (fs : List Field). AreHeld fs (drop index values)) e w.held in
    let split = parted field fields values index a held here in
    let now : AreHeld (field ∷ fields) (a ∷ drop (suc index) values) = subst (λ (vs : List Value). AreHeld (field ∷ fields) vs) split held in
    let room : place + (field_width field + fields_width fields) ≡ length into = subst (λ (fs : List Field). place + fields_width fs ≡ length into) e w.room in
    let front : take place into ++ (spelled field a ++ row fields (drop (suc index) values)) ≡ whole = sym (λ i. take place into ++ row (e i) (split i)) ∙ w.front in
    rw add-one (record {
      held = now.1;
      room = omega arith;
      front = ap (λ (xs : List ℕ). xs ++ row fields (drop (suc index) values)) put ∙ append_assoc (take place into) (spelled field a) (row fields (drop (suc index) values)) ∙ front;
    })

-- a row is written where no field is left
pub writes-end : (fields : List Field) (values : List Value) (place : ℕ) (into whole : List ℕ) → fields ≡ [] → Writes fields values place into whole → into ≡ whole
writes-end fields values place into whole e w =
    let room : place + 0 ≡ length into = subst (λ (fs : List Field). place + fields_width fs ≡ length into) e w.room in
    let front : take place into ++ [] ≡ whole = ap (λ (fs : List Field). take place into ++ row fs values) (sym e) ∙ w.front in
    sym (append-nil (take place into) ∙ take_all place into (omega arith)) ∙ front
