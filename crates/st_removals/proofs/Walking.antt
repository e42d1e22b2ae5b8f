-- The cells of a row that go, as the attributes of a schema are gone through.
use Rattle.std.proofs.Common.{◌≡◌, ℕ, suc, ◌+◌, ◌<◌, ◌≤◌, Bool, true, false, cond, List, [], ◌∷◌, ◌++◌, length, get_or, drop, Option, Some, refl, sym, ap, ◌∙◌, subst, true≢false, append_assoc, add-one, drop-cons, if◌then◌else◌}
use Rattle.std.specs.Prelude.{◌&&◌, ◌||◌, ◌==◌, not, filter, find, flat_map}
use Rattle.std.proofs.lemmas.List.{drop_all}
use Rattle.st_values.specs.Arranged.{each_pair}
use Rattle.st_values.specs.declared.value.EntityId.{EntityId}
use Rattle.st_values.specs.declared.value.Value.{Value}
use Rattle.st_lattice.specs.declared.attribute.Attribute.{Attribute}
use Rattle.st_lattice.specs.Lattice.{isa}
use Rattle.st_lattice.specs.Outline.{Outline, attribute}
use Rattle.st_rows.specs.declared.field.Field.{Field}
use Rattle.st_rows.specs.declared.field.Field.TheVariants.{Cell}
use Rattle.st_rows.specs.Rows.{AreHeld, HoldsInCell, cell_fields, cell_of}
use Rattle.st_state.specs.declared.triple.Triple.{Triple}
use Rattle.st_state.specs.State.{State}
use Rattle.st_state.specs.Legal.{IsNearlyLegal}
use Rattle.st_state.proofs.Changed.{other_number}
use Rattle.st_standing.proofs.Fitting.{each-found}
use Rattle.st_lookups.proofs.Celled.{all-cells, cells_among}
use Rattle.st_removals.specs.Noting.{IsFirstHeld, cells_behind, gone_first, gone_one, is_cell_of}
use Rattle.st_removals.specs.Taken.{goes, gone_among, gone_cells}

-- the fields of the attributes of a type among some
abbrev pub fields_among : Outline → ℕ → List Attribute → List Field
fields_among schema ty attributes = flat_map cell_of (filter (λ a. isa schema ty a.owner) attributes)

-- some triples of an entity's row are gone: what is left are those of the cells that are ahead, which fit the attributes ahead
pub record Passed (schema : Outline) (e : EntityId) (which : Option EntityId) (cells : List Value) (rest : List Attribute) (left : List Value) (gone : List Triple) : Type 0 where
  pub all : gone_cells schema e which cells ≡ gone ++ gone_among e which (cells_among schema e.ty rest) left
  pub held : AreHeld (fields_among schema e.ty rest) left

module _ (schema : Outline) (e : EntityId) (which : Option EntityId) where
  pub passed-none : (cells : List Value) → AreHeld (cell_fields schema e.ty) cells → Passed schema e which cells schema.attributes cells []
  passed-none cells held = record { all = ap (λ (xs : List Attribute). gone_among e which xs cells) (all-cells schema e.ty); held = held }

  none-more : (xs : List Attribute) → gone_among e which xs [] ≡ []
  none-more [] = refl
  none-more (x ∷ xs) = refl

  none-here : (left : List Value) → gone_among e which [] left ≡ []
  none-here [] = refl
  none-here (v ∷ vs) = refl

  append-none : (ts : List Triple) → ts ++ [] ≡ ts
  append-none [] = refl
  append-none (t ∷ ts) = ap (λ (l : List Triple). t ∷ l) (append-none ts)

  passed-all : (cells left : List Value) (gone : List Triple) → Passed schema e which cells [] left gone → gone_cells schema e which cells ≡ gone
  passed-all cells left gone p = p.all ∙ ap (λ (ts : List Triple). gone ++ ts) (none-here left) ∙ append-none gone

  -- one attribute more
  record Step (a : Attribute) (rest : List Attribute) (left : List Value) : Type 0 where
    first : IsFirstHeld schema e.ty a left
    among : gone_among e which (cells_among schema e.ty (a ∷ rest)) left ≡ gone_first schema e which a left ++ gone_among e which (cells_among schema e.ty rest) (cells_behind schema e.ty a left)
    held : AreHeld (fields_among schema e.ty rest) (cells_behind schema e.ty a left)

  one-more : (v : Value) (a : Attribute) (xs : List Attribute) (vs : List Value) → gone_among e which (a ∷ xs) (v ∷ vs) ≡ gone_one e which a v ++ gone_among e which xs vs
  one-more v a xs vs = by (goes which v)
    where
      t : Triple
      t = record { attribute = a.number; entity = e; value = v }

      by : (b : Bool) → (if b then t ∷ gone_among e which xs vs else gone_among e which xs vs) ≡ (if b then t ∷ [] else []) ++ gone_among e which xs vs
      by true = refl
      by false = refl

  abbrev IsHere : Attribute → List Attribute → List Value → Bool → Bool → Bool → Type 0
  IsHere a rest left here many column = AreHeld (flat_map cell_of (cond here (a ∷ filter (λ x. isa schema e.ty x.owner) rest) (filter (λ x. isa schema e.ty x.owner) rest))) left

  step : (a : Attribute) (rest : List Attribute) (left : List Value) → AreHeld (fields_among schema e.ty (a ∷ rest)) left → Step a rest left
  step a rest left h = by (isa schema e.ty a.owner) a.many a.column refl refl refl left h
    where
      others : List Attribute
      others = filter (λ x. isa schema e.ty x.owner) rest

      no : (b : Bool) → is_cell_of schema e.ty a ≡ b → b ≡ false → (left : List Value) → AreHeld (fields_among schema e.ty rest) left → Step a rest left
      no b is k [] held = record { first = tt; among = none-more (cells_among schema e.ty (a ∷ rest)) ∙ sym (none-more (cells_among schema e.ty rest)); held = held }
      no b is k (v ∷ vs) held = record {
        first = λ t. absurd (true≢false (sym t ∙ is ∙ k));
        among = ap (λ (c : Bool). gone_among e which (cond c (a ∷ cells_among schema e.ty rest) (cells_among schema e.ty rest)) (v ∷ vs)) (is ∙ k)
            ∙ sym (λ i. (if (is ∙ k) i then gone_one e which a v else []) ++ gone_among e which (cells_among schema e.ty rest) (if (is ∙ k) i then vs else v ∷ vs));
        held = subst (λ (c : Bool). AreHeld (fields_among schema e.ty rest) (if c then vs else v ∷ vs)) (sym (is ∙ k)) held;
      }

      yes : is_cell_of schema e.ty a ≡ true → (left : List Value) → AreHeld (Cell a.kind ∷ fields_among schema e.ty rest) left → Step a rest left
      yes is [] held = absurd held
      yes is (v ∷ vs) held = record {
        first = λ t. held.0;
        among = ap (λ (c : Bool). gone_among e which (cond c (a ∷ cells_among schema e.ty rest) (cells_among schema e.ty rest)) (v ∷ vs)) is ∙ one-more v a (cells_among schema e.ty rest) vs
            ∙ sym (λ i. (if is i then gone_one e which a v else []) ++ gone_among e which (cells_among schema e.ty rest) (if is i then vs else v ∷ vs));
        held = subst (λ (c : Bool). AreHeld (fields_among schema e.ty rest) (if c then vs else v ∷ vs)) (sym is) held.1;
      }

      cell : (here many column : Bool) → isa schema e.ty a.owner ≡ here → a.many ≡ many → a.column ≡ column → is_cell_of schema e.ty a ≡ (here && (not many && not column))
      cell here many column h m c = λ i. h i && (not (m i) && not (c i))

      by : (here many column : Bool) → isa schema e.ty a.owner ≡ here → a.many ≡ many → a.column ≡ column → (left : List Value) → AreHeld (flat_map cell_of (cond (isa schema e.ty a.owner) (a ∷ others) others)) left → Step a rest left
      by false many column h m c left held = no false (cell false many column h m c) refl left (subst (λ (b : Bool). AreHeld (flat_map cell_of (cond b (a ∷ others) others)) left) h held)
      by true true column h m c left held =
          no false (cell true true column h m c) refl left
          (subst (λ (b : Bool). AreHeld (cond (b || a.column) [] (Cell a.kind ∷ []) ++ flat_map cell_of others) left) m (subst (λ (b : Bool). AreHeld (flat_map cell_of (cond b (a ∷ others) others)) left) h held))
      by true false true h m c left held =
          no false (cell true false true h m c) refl left
          (subst (λ (b : Bool). AreHeld (cond (b || true) [] (Cell a.kind ∷ []) ++ flat_map cell_of others) left) m
          (subst (λ (b : Bool). AreHeld (cond (a.many || b) [] (Cell a.kind ∷ []) ++ flat_map cell_of others) left) c
          (subst (λ (b : Bool). AreHeld (flat_map cell_of (cond b (a ∷ others) others)) left) h held)))
      by true false false h m c left held =
          yes (cell true false false h m c) left
          (subst (λ (b : Bool). AreHeld (cond (b || false) [] (Cell a.kind ∷ []) ++ flat_map cell_of others) left) m
          (subst (λ (b : Bool). AreHeld (cond (a.many || b) [] (Cell a.kind ∷ []) ++ flat_map cell_of others) left) c
          (subst (λ (b : Bool). AreHeld (flat_map cell_of (cond b (a ∷ others) others)) left) h held)))

  pub first-held : (a : Attribute) (cells : List Value) (rest : List Attribute) (left : List Value) (gone : List Triple) → Passed schema e which cells (a ∷ rest) left gone → IsFirstHeld schema e.ty a left
  first-held a cells rest left gone p = (step a rest left p.held).first

  pub passed-more : (a : Attribute) (cells : List Value) (rest : List Attribute) (left more : List Value) (gone : List Triple) → more ≡ cells_behind schema e.ty a left → Passed schema e which cells (a ∷ rest) left gone
      → Passed schema e which cells rest more (gone ++ gone_first schema e which a left)
  passed-more a cells rest left more gone is p =
      let s = step a rest left p.held in
      subst (λ (l : List Value). Passed schema e which cells rest l (gone ++ gone_first schema e which a left)) (sym is) (record {
        all = p.all ∙ ap (λ (ts : List Triple). gone ++ ts) s.among ∙ sym (append_assoc gone (gone_first schema e which a left) (gone_among e which (cells_among schema e.ty rest) (cells_behind schema e.ty a left)));
        held = s.held;
      })

-- from one position to the next
at-position : (k : ℕ) (xs : List Attribute) (a : Attribute) → k < length xs → a ≡ get_or xs k a → drop k xs ≡ a ∷ drop (k + 1) xs
at-position k xs a h e = rw add-one (drop-cons xs k a h ∙ (λ i. sym e i ∷ drop (suc k) xs))

module _ (schema : Outline) (e : EntityId) (which : Option EntityId) (cells left : List Value) (gone : List Triple) (k : ℕ) (xs : List Attribute) (is : xs ≡ schema.attributes) where
  pub passed-here : (a : Attribute) → k < length xs → a ≡ get_or xs k a → Passed schema e which cells (drop k schema.attributes) left gone → Passed schema e which cells (a ∷ drop (k + 1) schema.attributes) left gone
  passed-here a h at p =
      subst (λ (l : List Attribute). Passed schema e which cells l left gone) (subst (λ (l : List Attribute). drop k l ≡ a ∷ drop (k + 1) l) is (at-position k xs a h at)) p

  pub passed-end : length xs ≤ k → Passed schema e which cells (drop k schema.attributes) left gone → gone_cells schema e which cells ≡ gone
  passed-end h p = passed-all schema e which cells left gone (subst (λ (l : List Attribute). Passed schema e which cells l left gone) (ap (drop k) (sym is) ∙ drop_all k xs h) p)

-- an attribute of a state's schema is found by its number
pub found-at : (s : State) (schema : Outline) (xs : List Attribute) (k : ℕ) (a : Attribute) → s.schema ≡ schema → IsNearlyLegal s → xs ≡ schema.attributes → k < length xs → a ≡ get_or xs k a → attribute schema a.number ≡ Some a
found-at s schema xs k a same legal is h e =
    let numbers : each_pair other_number schema.attributes ≡ true = subst (λ (o : Outline). each_pair other_number o.attributes ≡ true) same legal.consistent.numbers in
    let all = each-found xs (subst (λ (l : List Attribute). each_pair other_number l ≡ true) (sym is) numbers) k a h in
    ap (find (λ x. x.number == a.number)) (sym is) ∙ subst (λ (b : Attribute). find (λ x. x.number == b.number) xs ≡ Some b) (sym e) all

-- ---- the first one of the cells that are ahead

module _ (schema : Outline) (e : EntityId) (which : Option EntityId) (a : Attribute) where
  pub first-none : (left : List Value) → left ≡ [] → gone_first schema e which a left ≡ []
  first-none left h = ap (gone_first schema e which a) h

  pub first-not : (left : List Value) → is_cell_of schema e.ty a ≡ false → gone_first schema e which a left ≡ []
  first-not [] h = refl
  first-not (v ∷ vs) h = ap (λ (b : Bool). if b then gone_one e which a v else []) h

  pub first-is : (left : List Value) (v : Value) (vs : List Value) → left ≡ v ∷ vs → is_cell_of schema e.ty a ≡ true → gone_first schema e which a left ≡ gone_one e which a v
  first-is left v vs h k = ap (gone_first schema e which a) h ∙ ap (λ (b : Bool). if b then gone_one e which a v else []) k

  pub first-holds : (left : List Value) (v : Value) (vs : List Value) → left ≡ v ∷ vs → is_cell_of schema e.ty a ≡ true → IsFirstHeld schema e.ty a left → HoldsInCell a.kind v
  first-holds left v vs h k held = subst (IsFirstHeld schema e.ty a) h held k
