-- The cells of rows that are read one after the other, and the entities in whose cells a value stands.
use Rattle.std.proofs.Common.{refl}
use Rattle.std.proofs.Common.{Bool, cond}
use Rattle.std.specs.Prelude.{◌==◌, filter}
use Rattle.std.specs.List.{All}
use Rattle.std.proofs.lemmas.List.Elements.{All-head, All-tail}
use Rattle.st_values.proofs.Tests.{either}
use Rattle.st_rows.specs.declared.field.Field.{Field}
use Rattle.st_state.specs.State.{State}
use Rattle.st_state.specs.Legal.{IsNearlyLegal}
use Rattle.st_state.specs.Rows.{entity_row}
use Rattle.st_standing.specs.Standing.{IsOfProgram, entity_bytes, extent_rows}
use Rattle.st_standing.proofs.Extents.{IsOfType, entities-of-type}
use Rattle.st_standing.proofs.Fitting.{row-held}
use Rattle.std.proofs.Common.{◌≡◌, ℕ, if◌then◌else◌, List, [], ◌∷◌, ◌++◌, Option, pos, map, sym, ap, ◌∙◌, subst, append_assoc}
use Rattle.std.proofs.lemmas.List.{map-append}
use Rattle.std.proofs.lemmas.List.Elements.{All-append, All-cons, All-nil}
use Rattle.st_values.specs.declared.value.EntityId.{EntityId}
use Rattle.st_values.specs.declared.value.Value.{Value}
use Rattle.st_values.specs.declared.value.Value.TheVariants.{Int}
use Rattle.st_values.specs.Order.{same_value}
use Rattle.st_lattice.specs.Outline.{Outline}
use Rattle.st_rows.specs.Rows.{AreHeld, row, row_fields}
use Rattle.st_lookups.specs.Looks.{AreCells, Cells, entities_having, value_among}
use Rattle.st_lookups.proofs.Membered.{kept-more}

abbrev read_of : ℕ → List Value → Cells
read_of n cells = record { serial = n; cells = cells }

abbrev bytes_of : Outline → ℕ → Cells → List ℕ
bytes_of schema ty r = row (row_fields schema ty) (Int (pos r.serial) ∷ r.cells)

-- a row more is a serial and cells more
cells-more : (schema : Outline) (ty : ℕ) (rows : List (List ℕ)) (read : List Cells) (n : ℕ) (cells : List Value) (bytes : List ℕ) → AreCells schema ty rows read → AreHeld (row_fields schema ty) (Int (pos n) ∷ cells)
    → row (row_fields schema ty) (Int (pos n) ∷ cells) ≡ bytes → AreCells schema ty (rows ++ bytes ∷ []) (read ++ read_of n cells ∷ [])
cells-more schema ty rows read n cells bytes are held is =
    let Held : Cells → Type 0 = λ r. AreHeld (row_fields schema ty) (Int (pos r.serial) ∷ r.cells) in
    record {
      rows_are = ap (λ (l : List (List ℕ)). l ++ bytes ∷ []) are.rows_are ∙ ap (λ (l : List ℕ). map (bytes_of schema ty) read ++ l ∷ []) (sym is) ∙ sym (map-append (bytes_of schema ty) read (read_of n cells ∷ []));
      held = All-append Held read (read_of n cells ∷ []) are.held (All-cons Held (read_of n cells) [] held (All-nil Held));
    }

abbrev Told : Outline → ℕ → Option ℕ → Value → List EntityId → List EntityId → List (List ℕ) → Type 0
Told schema ty index v before after rows = (read : List Cells) × AreCells schema ty rows read × (after ≡ before ++ entities_having ty index v read)

-- what was told of rows is told of a row more
pub cells-told : (sb so : Outline) (tb to : ℕ) (ib io : Option ℕ) (vb vo : Value) (eb eo en : List EntityId) (rows : List (List ℕ)) (n : ℕ) (cells : List Value) (bytes : List ℕ) → so ≡ sb → to ≡ tb → io ≡ ib → vo ≡ vb
    → Told sb tb ib vb eb eo rows → AreHeld (row_fields so to) (Int (pos n) ∷ cells) → row (row_fields so to) (Int (pos n) ∷ cells) ≡ bytes
    → en ≡ eo ++ (if same_value (value_among io cells) vo then (record { ty = to; serial = n }) ∷ [] else []) → Told sb tb ib vb eb en (rows ++ bytes ∷ [])
cells-told sb so tb to ib io vb vo eb eo en rows n cells bytes s t i v told held is kept =
    let more : ℕ → Option ℕ → Value → List EntityId = λ ty index w. if same_value (value_among index cells) w then (record { ty = ty; serial = n }) ∷ [] else [] in (
      told.0 ++ read_of n cells ∷ [],
      cells-more sb tb rows told.0 n cells bytes told.1 (subst (λ (o : Outline). AreHeld (row_fields o tb) (Int (pos n) ∷ cells)) s (subst (λ (m : ℕ). AreHeld (row_fields so m) (Int (pos n) ∷ cells)) t held))
          (subst (λ (o : Outline). row (row_fields o tb) (Int (pos n) ∷ cells) ≡ bytes) s (subst (λ (m : ℕ). row (row_fields so m) (Int (pos n) ∷ cells) ≡ bytes) t is)),
      kept ∙ (λ j. eo ++ more (t j) (i j) (v j)) ∙ ap (λ (l : List EntityId). l ++ more tb ib vb) told.2
          ∙ append_assoc eb (entities_having tb ib vb told.0) (more tb ib vb) ∙ ap (λ (l : List EntityId). eb ++ l) (sym (kept-more {X = EntityId} {Y = Cells} (λ r. same_value (value_among ib r.cells) vb) (λ r. record { ty = tb; serial = r.serial }) told.0 (read_of n cells))),
    )

-- ---- the rows of an extent

head-is : {X : Type 0} (x y : X) (xs ys : List X) → x ∷ xs ≡ y ∷ ys → x ≡ y
head-is x y xs ys e = cc

tail-is : {X : Type 0} (x y : X) (xs ys : List X) → x ∷ xs ≡ y ∷ ys → xs ≡ ys
tail-is x y xs ys e = cc

no-more : {X : Type 0} (x : X) (xs : List X) → x ∷ xs ≡ [] → ⊥
no-more x xs e = cc

none-more : {X : Type 0} (x : X) (xs : List X) → [] ≡ x ∷ xs → ⊥
none-more x xs e = cc

serial-is : (m n : ℕ) → Int (pos m) ≡ Int (pos n) → m ≡ n
serial-is m n e = cc

module _ (one_spelling : (fields : List Field) (xs ys : List Value) → AreHeld fields xs → AreHeld fields ys → row fields xs ≡ row fields ys → xs ≡ ys) (schema : Outline) (ty : ℕ) where
  -- rows that are those of some serials and cells are those of no others
  one-read : (ps qs : List Cells) → All (λ (r : Cells). AreHeld (row_fields schema ty) (Int (pos r.serial) ∷ r.cells)) ps → All (λ (r : Cells). AreHeld (row_fields schema ty) (Int (pos r.serial) ∷ r.cells)) qs
      → map (bytes_of schema ty) ps ≡ map (bytes_of schema ty) qs → ps ≡ qs
  one-read [] [] f g e = refl
  one-read [] (q ∷ qs) f g e = absurd (none-more (bytes_of schema ty q) (map (bytes_of schema ty) qs) e)
  one-read (p ∷ ps) [] f g e = absurd (no-more (bytes_of schema ty p) (map (bytes_of schema ty) ps) e)
  one-read (p ∷ ps) (q ∷ qs) f g e =
      let Held : Cells → Type 0 = λ r. AreHeld (row_fields schema ty) (Int (pos r.serial) ∷ r.cells) in
      let here = one_spelling (row_fields schema ty) (Int (pos p.serial) ∷ p.cells) (Int (pos q.serial) ∷ q.cells) (All-head Held p ps f) (All-head Held q qs g)
      (head-is (bytes_of schema ty p) (bytes_of schema ty q) (map (bytes_of schema ty) ps) (map (bytes_of schema ty) qs) e) in
      let serials : p.serial ≡ q.serial = serial-is p.serial q.serial (head-is (Int (pos p.serial)) (Int (pos q.serial)) p.cells q.cells here) in
      let cells : p.cells ≡ q.cells = tail-is (Int (pos p.serial)) (Int (pos q.serial)) p.cells q.cells here in
      let rest = one-read ps qs (All-tail Held p ps f) (All-tail Held q qs g) (tail-is (bytes_of schema ty p) (bytes_of schema ty q) (map (bytes_of schema ty) ps) (map (bytes_of schema ty) qs) e) in
      λ i. read_of (serials i) (cells i) ∷ rest i

module _ (s : State) (legal : IsNearlyLegal s) (program : IsOfProgram s) (ty : ℕ) where
  abbrev own_cells : EntityId → Cells
  own_cells e = read_of e.serial (entity_row s e).cells

  -- the rows of entities of a type are those of their serials and cells
  are-cells : (es : List EntityId) → All (IsOfType ty) es → AreCells s.schema ty (map (entity_bytes s) es) (map own_cells es)
  are-cells [] all = record { rows_are = refl; held = All-nil (λ (r : Cells). AreHeld (row_fields s.schema ty) (Int (pos r.serial) ∷ r.cells)) }
  are-cells (e ∷ es) all =
      let Held : Cells → Type 0 = λ r. AreHeld (row_fields s.schema ty) (Int (pos r.serial) ∷ r.cells) in
      let here = All-head (IsOfType ty) e es all in
      let rest = are-cells es (All-tail (IsOfType ty) e es all) in
      record {
        rows_are = ap (λ (m : ℕ). row (row_fields s.schema m) (Int (pos e.serial) ∷ (entity_row s e).cells) ∷ map (entity_bytes s) es) here.type_is ∙ ap (λ (l : List (List ℕ)). bytes_of s.schema ty (own_cells e) ∷ l) rest.rows_are;
        held = All-cons Held (own_cells e) (map own_cells es) (subst (λ (m : ℕ). AreHeld (row_fields s.schema m) (Int (pos e.serial) ∷ (entity_row s e).cells)) here.type_is (row-held s legal program e here.entity)) rest.held;
      }

  -- which entities have a value in their cells
  having-own : (index : Option ℕ) (v : Value) (es : List EntityId) → All (IsOfType ty) es → entities_having ty index v (map own_cells es) ≡ filter (λ e. same_value (value_among index (entity_row s e).cells) v) es
  having-own index v [] all = refl
  having-own index v (e ∷ es) all =
      let here = All-head (IsOfType ty) e es all in
      let rest = having-own index v es (All-tail (IsOfType ty) e es all) in
      let test : Cells → Bool = λ r. same_value (value_among index r.cells) v in
      let same : record { ty = ty; serial = e.serial } ≡ e = λ i. record { ty = sym here.type_is i; serial = e.serial } in
      either (test (own_cells e)) (λ b. map (λ (r : Cells). record { ty = ty; serial = r.serial }) (cond b (own_cells e ∷ filter test (map own_cells es)) (filter test (map own_cells es)))
      ≡ cond b (e ∷ filter (λ x. same_value (value_among index (entity_row s x).cells) v) es) (filter (λ x. same_value (value_among index (entity_row s x).cells) v) es))
      (λ _. λ i. same i ∷ rest i) (λ _. rest)

  -- what is read of the rows of an extent tells its entities in whose cells a value stands
  pub extent-having : (one_spelling : (fields : List Field) (xs ys : List Value) → AreHeld fields xs → AreHeld fields ys → row fields xs ≡ row fields ys → xs ≡ ys) (index : Option ℕ) (v : Value) (read : List Cells)
      → AreCells s.schema ty (extent_rows s ty) read → entities_having ty index v read ≡ filter (λ e. same_value (value_among index (entity_row s e).cells) v) (filter (λ e. e.ty == ty) s.live)
  extent-having one_spelling index v read are =
      let es = filter (λ e. e.ty == ty) s.live in
      let all = entities-of-type ty s.live program.entities in
      let mine = are-cells es all in
      let same : read ≡ map own_cells es = one-read one_spelling s.schema ty read (map own_cells es) are.held mine.held (sym are.rows_are ∙ mine.rows_are) in
      ap (entities_having ty index v) same ∙ having-own index v es all
