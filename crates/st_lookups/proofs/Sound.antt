-- The rows of a state's entities are sound, and tell the entities' cells.
use Rattle.std.proofs.Common.{◌≡◌, ℕ, ◌<◌, ◌^◌, Bool, true, false, if◌then◌else◌, List, [], ◌∷◌, Option, Some, None, pos, get_or, refl, sym, ap, ◌∙◌, subst, map}
use Rattle.std.specs.Prelude.{◌==◌, ◌&&◌, filter, find}
use Rattle.std.specs.List.{All}
use Rattle.std.specs.Int.{w32, to_be_bytes}
use Rattle.std.proofs.lemmas.List.Elements.{All-cons, All-filter, All-head, All-nil, All-tail}
use Rattle.st_values.specs.declared.value.EntityId.{EntityId}
use Rattle.st_values.specs.declared.value.Kind.{Kind}
use Rattle.st_values.specs.declared.value.Kind.TheVariants as kind
use Rattle.st_values.specs.declared.value.Value.{Value}
use Rattle.st_values.specs.declared.value.Value.TheVariants.{Null, Int, Bool as Truth, Text, Entity}
use Rattle.st_values.specs.Order.{same_entity}
use Rattle.st_values.proofs.Tests.{both, left, right}
use Rattle.st_lattice.specs.declared.attribute.Attribute.{Attribute}
use Rattle.st_lattice.specs.Lattice.{attributes_in, isa}
use Rattle.st_lattice.specs.Outline.{Outline, attribute}
use Rattle.st_lattice.specs.Stores.{passes}
use Rattle.st_index.specs.Bad.{is_of_kind}
use Rattle.st_rows.specs.declared.field.Field.{Field}
use Rattle.st_rows.specs.Rows.{AreHeld, row, row_fields}
use Rattle.st_state.specs.declared.triple.Triple.{Triple}
use Rattle.st_state.specs.State.{State, is_at, is_live, value_at, value_in}
use Rattle.st_state.specs.Legal.{IsNearlyLegal, can_hold, is_sound}
use Rattle.st_state.specs.Rows.{entity_row}
use Rattle.st_state.proofs.Changed.{number-is}
use Rattle.st_state.proofs.Members.{find-passes}
use Rattle.st_store.specs.Rows.{row_with}
use Rattle.st_standing.specs.Standing.{IsOfProgram, entity_bytes, extent_rows}
use Rattle.st_standing.proofs.Extents.{IsOfType, entities-of-type}
use Rattle.st_standing.proofs.Fitting.{all-passed, among-holds, each-found, found-holds, row-held}
use Rattle.st_standing.proofs.RowLaws.{RowLaws}
use Rattle.st_keys.specs.Keys.{IsEntity}
use Rattle.st_lookups.specs.Looks.{AreCellsIn, IsSoundRow, are_named, cells_of, is_cell}
use Rattle.st_lookups.proofs.Lived.{entity-row}

null-named : (schema : Outline) (k : Kind) → is_of_kind schema k Null ≡ true
null-named schema kind.Int = refl
null-named schema kind.Bool = refl
null-named schema (kind.Text limit) = refl
null-named schema (kind.Entity ty) = refl

-- a value that an attribute can hold is of its type
pub held-named : (s : State) (k : Kind) (v : Value) → can_hold s k v ≡ true → is_of_kind s.schema k v ≡ true
held-named s kind.Int v h = refl
held-named s kind.Bool v h = refl
held-named s (kind.Text limit) v h = refl
held-named s (kind.Entity ty) Null h = refl
held-named s (kind.Entity ty) (Int i) h = refl
held-named s (kind.Entity ty) (Truth b) h = refl
held-named s (kind.Entity ty) (Text t) h = refl
held-named s (kind.Entity ty) (Entity x) h = left (isa s.schema x.ty ty) (is_live s x) h

module _ (s : State) (legal : IsNearlyLegal s) where
  value-named : (n : ℕ) (a : Attribute) (e : EntityId) → attribute s.schema n ≡ Some a → is_of_kind s.schema a.kind (value_at n e s.triples) ≡ true
  value-named n a e f = by (find (is_at n e) s.triples) refl
    where
      by : (o : Option Triple) → find (is_at n e) s.triples ≡ o → is_of_kind s.schema a.kind (value_in o) ≡ true
      by None h = null-named s.schema a.kind
      by (Some t) h =
          let sound = found-holds (λ u. is_sound s u ≡ true) (is_at n e) s.triples t (all-passed (is_sound s) s.triples legal.sound) h in
          let number : t.attribute ≡ n = number-is t.attribute n (left (t.attribute == n) (same_entity t.entity e) (find-passes (is_at n e) t s.triples h)) in
          let test : Attribute → Bool = λ b. isa s.schema t.entity.ty b.owner && can_hold s b.kind t.value in
          let here : passes test (Some a) ≡ true = sym (ap (passes test) (ap (attribute s.schema) number ∙ f)) ∙ right (is_live s t.entity) (passes test (attribute s.schema t.attribute)) sound in
          held-named s a.kind t.value (right (isa s.schema t.entity.ty a.owner) (can_hold s a.kind t.value) here)

  cells-named : (e : EntityId) (xs : List Attribute) → All (λ a. is_of_kind s.schema a.kind (value_at a.number e s.triples) ≡ true) xs → are_named s.schema xs (map (λ a. value_at a.number e s.triples) xs) ≡ true
  cells-named e [] all = refl
  cells-named e (a ∷ xs) all =
      let Named : Attribute → Type 0 = λ b. is_of_kind s.schema b.kind (value_at b.number e s.triples) ≡ true in
      both (is_of_kind s.schema a.kind (value_at a.number e s.triples)) (are_named s.schema xs (map (λ b. value_at b.number e s.triples) xs)) (All-head Named a xs all) (cells-named e xs (All-tail Named a xs all))

  all-named : (e : EntityId) → are_named s.schema (filter is_cell (attributes_in s.schema e.ty)) (entity_row s e).cells ≡ true
  all-named e =
      let Named : Attribute → Type 0 = λ b. is_of_kind s.schema b.kind (value_at b.number e s.triples) ≡ true in
      cells-named e (filter is_cell (attributes_in s.schema e.ty))
      (All-filter is_cell Named (attributes_in s.schema e.ty) (All-filter (λ a. isa s.schema e.ty a.owner) Named s.schema.attributes
      (λ k d l. let a = get_or s.schema.attributes k d in value-named a.number a e (each-found s.schema.attributes legal.consistent.numbers k d l))))

  module _ (program : IsOfProgram s) where
    pub row-sound : (e : EntityId) → IsEntity e → IsSoundRow s.schema e.ty (entity_bytes s e)
    row-sound e entity = record { serial = e.serial; cells = (entity_row s e).cells; held = row-held s legal program e entity; is = refl; named = all-named e }

    sound-rows : (ty : ℕ) (es : List EntityId) → All (IsOfType ty) es → All (IsSoundRow s.schema ty) (map (entity_bytes s) es)
    sound-rows ty [] all = All-nil (IsSoundRow s.schema ty)
    sound-rows ty (e ∷ es) all =
        let here = All-head (IsOfType ty) e es all in
        All-cons (IsSoundRow s.schema ty) (entity_bytes s e) (map (entity_bytes s) es) (subst (λ (n : ℕ). IsSoundRow s.schema n (entity_bytes s e)) here.type_is (row-sound e here.entity)) (sound-rows ty es (All-tail (IsOfType ty) e es all))

    pub extent-sound : (ty : ℕ) → All (IsSoundRow s.schema ty) (extent_rows s ty)
    extent-sound ty = sound-rows ty (filter (λ e. e.ty == ty) s.live) (entities-of-type ty s.live program.entities)

    -- the cells in the row of an entity are its own
    pub cells-are : RowLaws → ((fields : List Field) (xs ys : List Value) → AreHeld fields xs → AreHeld fields ys → row fields xs ≡ row fields ys → xs ≡ ys) → (e : EntityId) → e.serial < 2 ^ 32 → e.ty < 65536
        → (found : Option (List Value)) → AreCellsIn s.schema e.ty e.serial (extent_rows s e.ty) found → found ≡ cells_of s e
    cells-are laws one e small few found is = by (is_live s e) refl found is
      where
        here : row_with 4 (to_be_bytes w32 e.serial) (extent_rows s e.ty) ≡ (if is_live s e then Some (entity_bytes s e) else None)
        here = entity-row laws s legal program e small few

        some-none : (x : List ℕ) → Some x ≡ None → ⊥
        some-none x h = cc

        some-is : (x y : List ℕ) → Some x ≡ Some y → x ≡ y
        some-is x y h = cc

        tail-is : (a b : Value) (xs ys : List Value) → a ∷ xs ≡ b ∷ ys → xs ≡ ys
        tail-is a b xs ys h = cc

        by : (live : Bool) → is_live s e ≡ live → (o : Option (List Value)) → AreCellsIn s.schema e.ty e.serial (extent_rows s e.ty) o → o ≡ (if is_live s e then Some (entity_row s e).cells else None)
        by true h None none = absurd (some-none (entity_bytes s e) (sym (here ∙ ap (λ (b : Bool). if b then Some (entity_bytes s e) else None) h) ∙ none))
        by true h (Some cells) x =
            let bytes = some-is x.0 (entity_bytes s e) (sym x.2 ∙ here ∙ ap (λ (b : Bool). if b then Some (entity_bytes s e) else None) h) in
            let entity = among-holds IsEntity e s.live program.entities h in
            let same = one (row_fields s.schema e.ty) (Int (pos x.1) ∷ cells) (Int (pos e.serial) ∷ (entity_row s e).cells) x.3 (row-held s legal program e entity) (x.4 ∙ bytes) in
            ap Some (tail-is (Int (pos x.1)) (Int (pos e.serial)) cells (entity_row s e).cells same) ∙ sym (ap (λ (b : Bool). if b then Some (entity_row s e).cells else None) h)
        by false h None none = sym (ap (λ (b : Bool). if b then Some (entity_row s e).cells else None) h)
        by false h (Some cells) x = absurd (some-none x.0 (sym x.2 ∙ here ∙ ap (λ (b : Bool). if b then Some (entity_bytes s e) else None) h))
