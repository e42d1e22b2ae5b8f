-- What rows tell of entities, as they are read one after the other.
use Rattle.std.proofs.Common.{◌≡◌, ℕ, ◌==◌, true, List, [], ◌∷◌, ◌++◌, pos, map, refl, sym, ap, ◌∙◌, subst, append_assoc, append-nil}
use Rattle.std.specs.Prelude.{filter, reverse}
use Rattle.std.specs.List.{All}
use Rattle.std.specs.Int.{w32, to_be_bytes}
use Rattle.std.proofs.lemmas.Grind.{reverse_onto}
use Rattle.std.proofs.lemmas.List.{map-append}
use Rattle.std.proofs.lemmas.List.Elements.{All-append, All-cons, All-head, All-nil, All-tail}
use Rattle.st_values.specs.declared.value.EntityId.{EntityId}
use Rattle.st_values.specs.declared.value.Value.{Value}
use Rattle.st_values.specs.declared.value.Value.TheVariants.{Int}
use Rattle.st_lattice.specs.declared.attribute.Attribute.{Attribute}
use Rattle.st_lattice.specs.Lattice.{attributes_in}
use Rattle.st_lattice.specs.Outline.{Outline}
use Rattle.st_keys.specs.Keys.{IsEntity}
use Rattle.st_rows.specs.declared.field.Field.{Field}
use Rattle.st_rows.specs.Rows.{AreHeld, row, row_fields}
use Rattle.st_state.specs.State.{State, value_at}
use Rattle.st_state.specs.Legal.{IsNearlyLegal}
use Rattle.st_state.specs.Rows.{entity_row}
use Rattle.st_store.specs.Rows.{rows_from}
use Rattle.st_standing.specs.Standing.{IsOfProgram, entity_bytes, extent_rows}
use Rattle.st_standing.proofs.Extents.{IsOfType, entities-of-type}
use Rattle.st_standing.proofs.Fitting.{row-held}
use Rattle.st_standing.proofs.RowLaws.{RowLaws}
use Rattle.st_known.specs.declared.known.Known.{Known}
use Rattle.st_known.specs.declared.known.KnownValue.{KnownValue}
use Rattle.st_known.specs.Known.{AreKnown, IsKnown}
use Rattle.st_lookups.specs.Looks.{is_cell, taken_from}
use Rattle.st_lookups.proofs.Listed.{from-start, taken-all}
use Rattle.st_listings.specs.Listings.{AlsoKnown, AreRead, IsRead, known_of, numbered}

-- ---- rows, one after another

pub read-more : (schema : Outline) (ty : ℕ) (rows : List (List ℕ)) (known : List Known) (bytes : List ℕ) (k : Known) → AreRead schema ty rows known → IsRead schema ty bytes k → AreRead schema ty (rows ++ bytes ∷ []) (known ++ k ∷ [])
read-more schema ty [] [] bytes k are is = (is, tt)
read-more schema ty [] (l ∷ known) bytes k are is = absurd are
read-more schema ty (r ∷ rows) [] bytes k are is = absurd are
read-more schema ty (r ∷ rows) (l ∷ known) bytes k are is = (are.0, read-more schema ty rows known bytes k are.1 is)

abbrev Told : Outline → ℕ → List Known → List Known → List (List ℕ) → Type 0
Told schema ty before after rows = (read : List Known) × AreRead schema ty rows read × (after ≡ before ++ read)

-- what was told of rows is told of a row more
pub read-told : (sb so : Outline) (tb to : ℕ) (kb ko kn : List Known) (rows : List (List ℕ)) (n : ℕ) (cells : List Value) (bytes : List ℕ) → so ≡ sb → to ≡ tb → Told sb tb kb ko rows
    → AreHeld (row_fields so to) (Int (pos n) ∷ cells) → row (row_fields so to) (Int (pos n) ∷ cells) ≡ bytes → kn ≡ ko ++ known_of so to n cells ∷ [] → Told sb tb kb kn (rows ++ bytes ∷ [])
read-told sb so tb to kb ko kn rows n cells bytes s t told held is kept =
    let own : IsRead so to bytes (known_of so to n cells) = record { serial = n; cells = cells; held = held; is = is; tells = refl } in
    let here : IsRead sb tb bytes (known_of so to n cells) = subst (λ (o : Outline). IsRead o tb bytes (known_of so to n cells)) s (subst (λ (m : ℕ). IsRead so m bytes (known_of so to n cells)) t own) in (
      told.0 ++ known_of so to n cells ∷ [],
      read-more sb tb rows told.0 bytes (known_of so to n cells) told.1 here,
      kept ∙ ap (λ (l : List Known). l ++ known_of so to n cells ∷ []) told.2 ∙ append_assoc kb told.0 (known_of so to n cells ∷ []),
    )

-- ---- the values of an entity

reverse-map : {X Y : Type 0} (f : X → Y) (xs : List X) → reverse (map f xs) ≡ map f (reverse xs)
reverse-map f [] = refl
reverse-map {X} {Y} f (x ∷ xs) =
    reverse_onto (map f xs) (f x) [] ∙ ap (λ (l : List Y). l ++ f x ∷ []) (reverse-map f xs) ∙ sym (map-append f (reverse xs) (x ∷ [])) ∙ ap (map f) (sym (reverse_onto xs x []))

module _ (f : ℕ → Value) where
  own-values : (xs : List Attribute) → All (λ v. f v.number ≡ v.value) (numbered xs (map (λ a. f a.number) xs))
  own-values [] = All-nil (λ (v : KnownValue). f v.number ≡ v.value)
  own-values (a ∷ xs) = All-cons (λ (v : KnownValue). f v.number ≡ v.value) (record { number = a.number; value = f a.number }) (numbered xs (map (λ a. f a.number) xs)) refl (own-values xs)

  turned-values : (xs : List Attribute) → All (λ v. f v.number ≡ v.value) (numbered (reverse xs) (reverse (map (λ a. f a.number) xs)))
  turned-values xs = subst (λ (l : List Value). All (λ v. f v.number ≡ v.value) (numbered (reverse xs) l)) (sym (reverse-map (λ (a : Attribute). f a.number) xs)) (own-values (reverse xs))

abbrev own : State → EntityId → Known
own s e = known_of s.schema e.ty e.serial (entity_row s e).cells

own-known : (s : State) (e : EntityId) → IsKnown s (own s e)
own-known s e = turned-values (λ n. value_at n e s.triples) (filter is_cell (attributes_in s.schema e.ty))

-- ---- the rows of an extent

head-is : {X : Type 0} (x y : X) (xs ys : List X) → x ∷ xs ≡ y ∷ ys → x ≡ y
head-is x y xs ys e = cc

tail-is : {X : Type 0} (x y : X) (xs ys : List X) → x ∷ xs ≡ y ∷ ys → xs ≡ ys
tail-is x y xs ys e = cc

serial-is : (m n : ℕ) → Int (pos m) ≡ Int (pos n) → m ≡ n
serial-is m n e = cc

abbrev pub OneSpelling : Type 0
OneSpelling = (fields : List Field) (xs ys : List Value) → AreHeld fields xs → AreHeld fields ys → row fields xs ≡ row fields ys → xs ≡ ys

module _ (one_spelling : OneSpelling) (s : State) (legal : IsNearlyLegal s) (program : IsOfProgram s) where
  -- an entity's row tells what is its own
  row-tells : (e : EntityId) → IsEntity e → (k : Known) → IsRead s.schema e.ty (entity_bytes s e) k → k ≡ own s e
  row-tells e entity k read =
      let same = one_spelling (row_fields s.schema e.ty) (Int (pos read.serial) ∷ read.cells) (Int (pos e.serial) ∷ (entity_row s e).cells) read.held (row-held s legal program e entity) read.is in
      let serials : read.serial ≡ e.serial = serial-is read.serial e.serial (head-is (Int (pos read.serial)) (Int (pos e.serial)) read.cells (entity_row s e).cells same) in
      let cells : read.cells ≡ (entity_row s e).cells = tail-is (Int (pos read.serial)) (Int (pos e.serial)) read.cells (entity_row s e).cells same in
      read.tells ∙ (λ i. known_of s.schema e.ty (serials i) (cells i))

  rows-tell : (ty : ℕ) (es : List EntityId) (known : List Known) → All (IsOfType ty) es → AreRead s.schema ty (map (entity_bytes s) es) known → AreKnown s es known
  rows-tell ty [] [] all are = record { same = refl; hold = All-nil (IsKnown s) }
  rows-tell ty [] (k ∷ known) all are = absurd are
  rows-tell ty (e ∷ es) [] all are = absurd are
  rows-tell ty (e ∷ es) (k ∷ known) all are =
      let here = All-head (IsOfType ty) e es all in
      let rest = rows-tell ty es known (All-tail (IsOfType ty) e es all) are.1 in
      let is : k ≡ own s e = row-tells e here.entity k (subst (λ (n : ℕ). IsRead s.schema n (entity_bytes s e) k) (sym here.type_is) are.0) in
      record {
        same = λ i. (is i).entity ∷ rest.same i;
        hold = All-cons (IsKnown s) k known (subst (IsKnown s) (sym is) (own-known s e)) rest.hold;
      }

  -- what is read of all rows of an extent is known of its entities
  pub extent-tells : RowLaws → (ty : ℕ) (schema : Outline) → s.schema ≡ schema → (width : ℕ) (key : List ℕ) → width ≡ 4 → key ≡ to_be_bytes w32 0 → (known : List Known)
      → AreRead schema ty (taken_from (λ row. true) (rows_from width key (extent_rows s ty))) known → AreKnown s (filter (λ e. e.ty == ty) s.live) known
  extent-tells laws ty schema same width key w k known are =
      let all = entities-of-type ty s.live program.entities in
      let rows : taken_from (λ row. true) (rows_from width key (extent_rows s ty)) ≡ extent_rows s ty =
      taken-all (rows_from width key (extent_rows s ty)) ∙ (λ i. rows_from (w i) (k i) (extent_rows s ty)) ∙ from-start laws s ty (filter (λ e. e.ty == ty) s.live) all in
      rows-tell ty (filter (λ e. e.ty == ty) s.live) known all (subst (λ (o : Outline). AreRead o ty (extent_rows s ty) known) (sym same) (subst (λ (l : List (List ℕ)). AreRead schema ty l known) rows are))

-- ---- what is known of entities, one after another

pub known-none : (s : State) (known : List Known) (es : List EntityId) → known ≡ [] → es ≡ [] → AreKnown s es known
known-none s known es none empty = subst (λ (l : List EntityId). AreKnown s l known) (sym empty) (subst (AreKnown s []) (sym none) (record { same = refl; hold = All-nil (IsKnown s) }))

known-then : (s : State) (es fs : List EntityId) (ks ls : List Known) → AreKnown s es ks → AreKnown s fs ls → AreKnown s (es ++ fs) (ks ++ ls)
known-then s es fs ks ls one two = record {
  same = map-append (λ (k : Known). k.entity) ks ls ∙ (λ i. one.same i ++ two.same i);
  hold = All-append (IsKnown s) ks ls one.hold two.hold;
}

pub also-none : (s : State) (known : List Known) (es : List EntityId) → es ≡ [] → AlsoKnown s known es known
also-none s known es none = λ others h. subst (λ (l : List EntityId). AreKnown s l known) (sym (ap (λ (l : List EntityId). others ++ l) none ∙ append-nil others)) h

pub also-read : (s : State) (known read more : List Known) (es : List EntityId) → more ≡ known ++ read → AreKnown s es read → AlsoKnown s known es more
also-read s known read more es is here = λ others h. subst (AreKnown s (others ++ es)) (sym is) (known-then s others es known read h here)

pub also-as : (s : State) (known more : List Known) (es fs : List EntityId) → es ≡ fs → AlsoKnown s known es more → AlsoKnown s known fs more
also-as s known more es fs e h = subst (λ (l : List EntityId). AlsoKnown s known l more) e h

-- those of the types so far, and of one more
pub also-then : (s : State) (known more : List Known) (es fs gs : List EntityId) → es ++ fs ≡ gs → AreKnown s es known → AlsoKnown s known fs more → AreKnown s gs more
also-then s known more es fs gs e before also = subst (λ (l : List EntityId). AreKnown s l more) e (also es before)

pub known-as : (s : State) (es fs : List EntityId) (known : List Known) → es ≡ fs → AreKnown s es known → AreKnown s fs known
known-as s es fs known e h = subst (λ (l : List EntityId). AreKnown s l known) e h
