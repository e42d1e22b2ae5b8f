-- Rows of pairs that name entities of the right types are no bad ones.
use Rattle.std.proofs.Common.{◌≡◌, ℕ, true, List, [], ◌∷◌, map, sym, ap, ◌∙◌, inl, inr, true≢false}
use Rattle.std.specs.Prelude.{◌≢◌, not, filter, Result, Ok, Err, IfOk}
use Rattle.std.specs.List.{All}
use Rattle.std.proofs.lemmas.List.Elements.{All-filter, All-head, All-tail}
use Rattle.st_values.specs.declared.value.EntityId.{EntityId}
use Rattle.st_values.specs.declared.value.Value.{Value}
use Rattle.st_values.specs.declared.value.Value.TheVariants.{Entity}
use Rattle.st_values.specs.Order.{value_before}
use Rattle.st_lattice.specs.declared.attribute.Attribute.{Attribute}
use Rattle.st_lattice.specs.Outline.{Outline}
use Rattle.st_lattice.specs.Lattice.{isa}
use Rattle.st_keys.specs.Keys.{Fits, IsEntity}
use Rattle.st_rows.specs.declared.field.Field.{Field}
use Rattle.st_rows.specs.Rows.{AreHeld, RowRefused, pair_fields, pair_values, pair_width, row}
use Rattle.st_state.specs.State.{Pair}
use Rattle.st_store.specs.Rows.{rows_from}
use Rattle.st_index.specs.Turned.{AreOfPairs, turned_row}
use Rattle.st_index.specs.Bad.{AreNamed, IsBadPair, IsMisnamed, IsNamed, IsNamedRow, is_of_kind}
use Rattle.st_index.specs.Found.{least_entity}
use Rattle.st_index.proofs.Looked.{RowLaws, from-are}

value-is : (a b : Value) (x y : EntityId) → a ∷ Entity x ∷ [] ≡ b ∷ Entity y ∷ [] → a ≡ b
value-is a b x y e = cc

entity-is : (a b : Value) (x y : EntityId) → a ∷ Entity x ∷ [] ≡ b ∷ Entity y ∷ [] → x ≡ y
entity-is a b x y e = cc

head-is : (r s : List ℕ) (rs ss : List (List ℕ)) → r ∷ rs ≡ s ∷ ss → r ≡ s
head-is r s rs ss e = cc

tail-is : (r s : List ℕ) (rs ss : List (List ℕ)) → r ∷ rs ≡ s ∷ ss → rs ≡ ss
tail-is r s rs ss e = cc

none-ahead : (r : List ℕ) (rs : List (List ℕ)) → r ∷ rs ≡ [] → ⊥
none-ahead r rs e = cc

module _ (schema : Outline) (a : Attribute) where
  -- the pair that names wrong types is no pair that names right ones
  not-both : (value : Value) (entity : EntityId) (at : ℕ) (pair : Pair) → value ≡ pair.value → entity ≡ pair.entity → IsMisnamed schema a value entity at → IsNamed schema a pair → ⊥
  not-both value entity at pair v e wrong named = elim wrong [
    | inl h ↦ true≢false (sym named.value ∙ ap (is_of_kind schema a.kind) (sym v) ∙ h.0)
    | inr h ↦ true≢false (sym named.owner ∙ ap (λ (x : EntityId). isa schema x.ty a.owner) (sym e) ∙ h.1)
  ]

  -- the row of a pair that names entities of the right types isn't refused, nor that of a pair which doesn't
  pub good-row : (one_spelling : (fields : List Field) (xs ys : List Value) → AreHeld fields xs → AreHeld fields ys → row fields xs ≡ row fields ys → xs ≡ ys)
      (refused : (fields : List Field) (bytes : List ℕ) (place : ℕ) → RowRefused fields bytes place → (values : List Value) → AreHeld fields values → row fields values ≢ bytes)
      (bytes : List ℕ) (at : ℕ) → IsBadPair schema a bytes at → IsNamedRow schema a bytes → ⊥
  good-row one_spelling refused bytes at bad n = elim bad [
    | inl r ↦ refused (pair_fields a.kind true) bytes at r (pair_values true n.pair.value n.pair.entity) (n.fits, (n.is_entity, tt)) n.is
    | inr m ↦
        let same = one_spelling (pair_fields a.kind true) (pair_values true m.value m.entity) (pair_values true n.pair.value n.pair.entity) (m.fits, (m.is_entity, tt)) (n.fits, (n.is_entity, tt)) (m.is ∙ sym n.is) in
        not-both m.value m.entity at n.pair (value-is m.value n.pair.value m.entity n.pair.entity same) (entity-is m.value n.pair.value m.entity n.pair.entity same) m.misnamed n.named
  ]

  -- the first row of such rows, and the others
  split : (here : List ℕ) (others rest : List (List ℕ)) (pairs : List Pair) → rest ≡ here ∷ others → AreOfPairs a.kind rest pairs → All (IsNamed schema a) pairs → IsNamedRow schema a here × AreNamed schema a others
  split here others rest [] e are named = absurd (none-ahead here others (sym e ∙ are.rows_are))
  split here others rest (q ∷ qs) e are named =
      let rows : List (List ℕ) = map (λ pair. turned_row a.kind pair.value pair.entity) qs in
      let both-are = sym e ∙ are.rows_are in (
        record {
          pair = q;
          fits = All-head (λ (pair : Pair). Fits a.kind pair.value) q qs are.fit;
          is_entity = All-head (λ (pair : Pair). IsEntity pair.entity) q qs are.entities;
          is = sym (head-is here (turned_row a.kind q.value q.entity) others rows both-are);
          named = All-head (IsNamed schema a) q qs named;
        },
        record {
          pairs = qs;
          are = record {
            rows_are = tail-is here (turned_row a.kind q.value q.entity) others rows both-are;
            fit = All-tail (λ (pair : Pair). Fits a.kind pair.value) q qs are.fit;
            entities = All-tail (λ (pair : Pair). IsEntity pair.entity) q qs are.entities;
          };
          named = All-tail (IsNamed schema a) q qs named;
        },
      )

  pub first-named : (here : List ℕ) (others rest : List (List ℕ)) → rest ≡ here ∷ others → AreNamed schema a rest → IsNamedRow schema a here
  first-named here others rest e n = (split here others rest n.pairs e n.are n.named).0

  pub others-named : (here : List ℕ) (others rest : List (List ℕ)) → rest ≡ here ∷ others → AreNamed schema a rest → AreNamed schema a others
  others-named here others rest e n = (split here others rest n.pairs e n.are n.named).1

  -- the rows from the least one of a value on
  pub from-named : (laws : RowLaws) (v : Value) (key : ℕ) (rows : List (List ℕ)) → key ≡ pair_width a.kind → Fits a.kind v → AreNamed schema a rows → AreNamed schema a (rows_from key (turned_row a.kind v least_entity) rows)
  from-named laws v key rows e fv n = record {
    pairs = filter (λ p. not (value_before p.value v)) n.pairs;
    are = from-are laws a.kind v key rows n.pairs e fv n.are;
    named = All-filter (λ p. not (value_before p.value v)) (IsNamed schema a) n.pairs n.named;
  }

pub any-ok : {A : Type 0} {E : Type 0} (P : A → Type 0) (answer : Result A E) → ((x : A) → P x) → IfOk answer P
any-ok P (Ok x) h = h x
any-ok P (Err e) h = tt
