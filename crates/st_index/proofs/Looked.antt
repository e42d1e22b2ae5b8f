-- The rows of a value, among the rows of all pairs.
use Rattle.std.proofs.Common.{zero, ◌≡◌, ℕ, suc, ◌+◌, ◌*◌, ◌/◌, ◌≤◌, Bool, true, false, cond, if◌then◌else◌, List, [], ◌∷◌, length, map, take, Option, Some, None, refl, sym, ap, ◌∙◌, subst, arith, true≢false}
use Rattle.std.specs.Prelude.{not, filter, slice_get, Result, Ok, Err, IfOk, IfErr, IfSome, OnOk, is_err}
use Rattle.std.specs.declared.cmp.Ordering.{Ordering}
use Rattle.std.specs.declared.cmp.Ordering.TheVariants.{Less, Equal, Greater}
use Rattle.std.specs.Ordering.{is_lt, is_eq, nat_cmp, ordering_then}
use Rattle.std.specs.Cmp.Lexicographic.{slice_cmp}
use Rattle.std.specs.List.{All, list_all}
use Rattle.std.proofs.lemmas.List.Elements.{All-filter, All-head, All-tail}
use Rattle.std.proofs.lemmas.Bool.Decides.{nat_tests}
use Rattle.std.proofs.lemmas.Option.{slice_get_within}
use Rattle.std.proofs.Math.Nat.{div-mul-le_self, mul-le-mul_right}
use Rattle.st_values.specs.declared.value.EntityId.{EntityId}
use Rattle.st_values.specs.declared.value.Kind.{Kind}
use Rattle.st_values.specs.declared.value.Value.{Value}
use Rattle.st_values.specs.declared.value.Value.TheVariants.{Entity}
use Rattle.st_values.specs.Arranged.{ascends}
use Rattle.st_values.specs.Order.{value_order, value_before, same_value, entity_order}
use Rattle.st_values.proofs.Entities.{same_value-is, same_value-itself, strict}
use Rattle.st_values.proofs.Exact.{exact_values}
use Rattle.st_values.proofs.Placing.{IsStrict}
use Rattle.st_values.proofs.Tests.{both, either, left, right, never, not-true}
use Rattle.st_values.proofs.Total.{value_order_total}
use Rattle.st_image.specs.Fields.{count_of, body_of, rows_of}
use Rattle.st_image.specs.Grammar.{IsRowPage, row_before}
use Rattle.st_image.proofs.Laid.{length-pieces}
use Rattle.st_keys.specs.Keys.{Fits, IsEntity}
use Rattle.st_rows.specs.declared.field.Field.{Field}
use Rattle.st_rows.specs.Rows.{AreHeld, fields_width, row, pair_fields, pair_values, pair_order, pair_width}
use Rattle.st_state.specs.State.{Pair}
use Rattle.st_store.specs.Rows.{AreOrdered, rows_from}
use Rattle.st_store.specs.Stores.{Advanced}
use Rattle.st_store.proofs.Ordering.{before-asymmetric}
use Rattle.st_index.specs.Turned.{turned_row, AreOfPairs, entities_with}
use Rattle.st_index.specs.Found.{front_with, least_entity, IsPairOf, IsNext}

-- what `laws_of_rows` says of widths, of the order of pairs, and of their spelling
pub record RowLaws : Type 0 where
  pub width : (fields : List Field) (values : List Value) → AreHeld fields values → length (row fields values) ≡ fields_width fields
  pub pair_width : (kind : Kind) (turned : Bool) → fields_width (pair_fields kind turned) ≡ pair_width kind
  pub one_spelling : (fields : List Field) (xs ys : List Value) → AreHeld fields xs → AreHeld fields ys → row fields xs ≡ row fields ys → xs ≡ ys
  pub pairs : (kind : Kind) (turned : Bool) (a b : Value) (x y : EntityId) → Fits kind a → Fits kind b → IsEntity x → IsEntity y
      → slice_cmp nat_cmp (row (pair_fields kind turned) (pair_values turned a x)) (row (pair_fields kind turned) (pair_values turned b y)) ≡ pair_order turned a x b y

-- ---- two values

values-strict : IsStrict value_before
values-strict = strict value_order value_order_total exact_values

same-not-before : (a b : Value) → value_before a b ≡ true → same_value a b ≡ false
same-not-before a b h = apart (value_order a b) h
  where
    apart : (o : Ordering) → is_lt o ≡ true → is_eq o ≡ false
    apart Less e = refl
    apart Equal e = cc
    apart Greater e = cc

-- a value that isn't below one and not the same is above it
above : (a v : Value) → value_before a v ≡ false → same_value a v ≡ false → value_before v a ≡ true
above a v h k =
    either (value_before v a) (λ b. b ≡ true)
    (λ _. refl)
    (λ e. absurd (true≢false (sym (subst (λ x. same_value x v ≡ true) (sym (values-strict.tie a v h e)) (same_value-itself v)) ∙ k)))

-- what isn't below a value that is above one isn't that one
not-same : (a b v : Value) → value_before v a ≡ true → value_before b a ≡ false → same_value b v ≡ false
not-same a b v h k = never (same_value b v) (λ e. true≢false (sym (subst (λ x. value_before x a ≡ true) (sym (same_value-is b v e)) h) ∙ k))

-- ---- pairs

-- no pair stands in front of one whose value is lower
abbrev pub climb : List Pair → Bool
climb pairs = ascends (λ p q. not (value_before q.value p.value)) pairs

none-with : (v a : Value) (pairs : List Pair) → value_before v a ≡ true → list_all (λ q. not (value_before q.value a)) pairs ≡ true → filter (λ q. same_value q.value v) pairs ≡ []
none-with v a [] h k = refl
none-with v a (q ∷ qs) h k =
    let rest = none-with v a qs h (right (not (value_before q.value a)) (list_all (λ q. not (value_before q.value a)) qs) k) in
    let no = not-same a q.value v h (not-true (value_before q.value a) (left (not (value_before q.value a)) (list_all (λ q. not (value_before q.value a)) qs) k)) in
    ap (λ (b : Bool). cond b (q ∷ filter (λ q. same_value q.value v) qs) (filter (λ q. same_value q.value v) qs)) no ∙ rest

pub front-is : (v : Value) (pairs : List Pair) → climb pairs ≡ true → front_with v (filter (λ p. not (value_before p.value v)) pairs) ≡ entities_with v pairs
front-is v [] c = refl
front-is v (p ∷ ps) c =
    let ahead = left (list_all (λ q. not (value_before q.value p.value)) ps) (climb ps) c in
    let rest = front-is v ps (right (list_all (λ q. not (value_before q.value p.value)) ps) (climb ps) c) in
    let F : List Pair = filter (λ q. not (value_before q.value v)) ps in
    let S : List Pair = filter (λ q. same_value q.value v) ps in
    let Goal : Bool → Bool → Type 0 = λ b s. front_with v (cond (not b) (p ∷ F) F) ≡ map (λ q. q.entity) (cond s (p ∷ S) S) in
    either (value_before p.value v) (λ b. Goal b (same_value p.value v))
    (λ h. subst (λ (s : Bool). Goal true s) (sym (same-not-before p.value v h)) rest)
    (λ h. inner p v F S (same_value p.value v) refl rest
    (λ k. none-with v p.value ps (above p.value v h k) ahead))
  where
    inner : (p : Pair) (v : Value) (F S : List Pair) (s : Bool) → same_value p.value v ≡ s → front_with v F ≡ map (λ q. q.entity) S → (s ≡ false → S ≡ [])
        → (if same_value p.value v then p.entity ∷ front_with v F else []) ≡ map (λ q. q.entity) (cond s (p ∷ S) S)
    inner p v F S true e rest none = ap (λ (b : Bool). if b then p.entity ∷ front_with v F else []) e ∙ ap (λ (l : List EntityId). p.entity ∷ l) rest
    inner p v F S false e rest none = ap (λ (b : Bool). if b then p.entity ∷ front_with v F else []) e ∙ sym (ap (map (λ q. q.entity)) (none refl))

-- ---- rows

take-all : (n : ℕ) (xs : List ℕ) → length xs ≡ n → take n xs ≡ xs
take-all zero [] e = refl
take-all (suc n) [] e = absurd (omega (arith, e))
take-all zero (x ∷ xs) e = absurd (omega (arith, e))
take-all (suc n) (x ∷ xs) e = ap (λ (l : List ℕ). x ∷ l) (take-all n xs (omega (arith, e)))

module _ (laws : RowLaws) (kind : Kind) where
  pub turned-width : (a : Value) (x : EntityId) → Fits kind a → IsEntity x → length (turned_row kind a x) ≡ pair_width kind
  turned-width a x f e = laws.width (pair_fields kind true) (pair_values true a x) (f, (e, tt)) ∙ laws.pair_width kind true

  pub before-is : (a b : Value) (x y : EntityId) → Fits kind a → Fits kind b → IsEntity x → IsEntity y
      → row_before (pair_width kind) (turned_row kind a x) (turned_row kind b y) ≡ is_lt (ordering_then (value_order a b) (entity_order x y))
  before-is a b x y fa fb ex ey =
      ap (λ (l : List ℕ). is_lt (slice_cmp nat_cmp l (take (pair_width kind) (turned_row kind b y)))) (take-all (pair_width kind) (turned_row kind a x) (turned-width a x fa ex))
      ∙ ap (λ (l : List ℕ). is_lt (slice_cmp nat_cmp (turned_row kind a x) l)) (take-all (pair_width kind) (turned_row kind b y) (turned-width b y fb ey))
      ∙ ap is_lt (laws.pairs kind true a b x y fa fb ex ey)

-- ---- the rows from the least one of a value on

then-lt : (o q : Ordering) → is_lt q ≡ false → is_lt (ordering_then o q) ≡ is_lt o
then-lt Less q h = refl
then-lt Equal q h = h
then-lt Greater q h = refl

then-first : (o q : Ordering) → is_lt (ordering_then o q) ≡ false → is_lt o ≡ false
then-first Less q h = h
then-first Equal q h = refl
then-first Greater q h = refl

not-below : (m n : ℕ) → n ≤ m → is_lt (nat_cmp m n) ≡ false
not-below m n h = grind (arith, nat_tests)

least-first : (x : EntityId) → IsEntity x → is_lt (entity_order x least_entity) ≡ false
least-first x e = then-lt (nat_cmp x.ty 0) (nat_cmp x.serial 1) (not-below x.serial 1 e.0) ∙ not-below x.ty 0 (omega arith)

least-is : IsEntity least_entity
least-is = (omega arith, omega arith, omega arith)

map-cond : {X Y : Type 0} (f : X → Y) (b : Bool) (x : X) (xs : List X) → cond b (f x ∷ map f xs) (map f xs) ≡ map f (cond b (x ∷ xs) xs)
map-cond f true x xs = refl
map-cond f false x xs = refl

module _ (laws : RowLaws) (kind : Kind) where
  abbrev turn : Pair → List ℕ
  turn pair = turned_row kind pair.value pair.entity

  from-pairs : (v : Value) → Fits kind v → (pairs : List Pair) → All (λ pair. Fits kind pair.value) pairs → All (λ pair. IsEntity pair.entity) pairs
      → rows_from (pair_width kind) (turned_row kind v least_entity) (map (λ pair. turned_row kind pair.value pair.entity) pairs) ≡ map (λ pair. turned_row kind pair.value pair.entity) (filter (λ p. not (value_before p.value v)) pairs)
  from-pairs v fv [] fits entities = refl
  from-pairs v fv (p ∷ ps) fits entities =
      let fp = All-head (λ (pair : Pair). Fits kind pair.value) p ps fits in
      let ep = All-head (λ (pair : Pair). IsEntity pair.entity) p ps entities in
      let rest = from-pairs v fv ps (All-tail (λ (pair : Pair). Fits kind pair.value) p ps fits) (All-tail (λ (pair : Pair). IsEntity pair.entity) p ps entities) in
      let here = before-is laws kind p.value v p.entity least_entity fp fv ep least-is ∙ then-lt (value_order p.value v) (entity_order p.entity least_entity) (least-first p.entity ep) in
      joined (turn p) p v ps (rows_from (pair_width kind) (turned_row kind v least_entity) (map (λ pair. turned_row kind pair.value pair.entity) ps)) (row_before (pair_width kind) (turn p) (turned_row kind v least_entity)) refl here rest
    where
      joined : (r : List ℕ) (p : Pair) (v : Value) (ps : List Pair) (rs : List (List ℕ)) (b : Bool) → r ≡ turned_row kind p.value p.entity → b ≡ value_before p.value v
          → rs ≡ map (λ pair. turned_row kind pair.value pair.entity) (filter (λ p. not (value_before p.value v)) ps)
          → cond (not b) (r ∷ rs) rs ≡ map (λ pair. turned_row kind pair.value pair.entity) (cond (not (value_before p.value v)) (p ∷ filter (λ p. not (value_before p.value v)) ps) (filter (λ p. not (value_before p.value v)) ps))
      joined r p v ps rs b e f h =
          let F : List Pair = filter (λ p. not (value_before p.value v)) ps in
          let f-row : Pair → List ℕ = λ pair. turned_row kind pair.value pair.entity in
          ap (λ (x : Bool). cond (not x) (r ∷ rs) rs) f ∙ ap (λ (l : List ℕ). cond (not (value_before p.value v)) (l ∷ rs) rs) e
          ∙ ap (λ (l : List (List ℕ)). cond (not (value_before p.value v)) (f-row p ∷ l) l) h ∙ map-cond f-row (not (value_before p.value v)) p F

  -- rows that ascend are those of pairs that climb
  all-climb : (p : Pair) (ps : List Pair) → Fits kind p.value → IsEntity p.entity → All (λ pair. Fits kind pair.value) ps → All (λ pair. IsEntity pair.entity) ps
      → list_all (row_before (pair_width kind) (turned_row kind p.value p.entity)) (map (λ pair. turned_row kind pair.value pair.entity) ps) ≡ true → list_all (λ q. not (value_before q.value p.value)) ps ≡ true
  all-climb p [] fp ep fits entities h = refl
  all-climb p (q ∷ qs) fp ep fits entities h =
      let R : List ℕ → Bool = row_before (pair_width kind) (turned_row kind p.value p.entity) in
      let rows : List (List ℕ) = map (λ pair. turned_row kind pair.value pair.entity) qs in
      let fq = All-head (λ (pair : Pair). Fits kind pair.value) q qs fits in
      let eq = All-head (λ (pair : Pair). IsEntity pair.entity) q qs entities in
      let back = before-asymmetric (pair_width kind) (turned_row kind p.value p.entity) (turned_row kind q.value q.entity) (left (R (turned_row kind q.value q.entity)) (list_all R rows) h) in
      let no = then-first (value_order q.value p.value) (entity_order q.entity p.entity) (sym (before-is laws kind q.value p.value q.entity p.entity fq fp eq ep) ∙ back) in
      both (not (value_before q.value p.value)) (list_all (λ q. not (value_before q.value p.value)) qs) (ap not no)
      (all-climb p qs fp ep (All-tail (λ (pair : Pair). Fits kind pair.value) q qs fits) (All-tail (λ (pair : Pair). IsEntity pair.entity) q qs entities) (right (R (turned_row kind q.value q.entity)) (list_all R rows) h))

  rows-climb : (pairs : List Pair) → All (λ pair. Fits kind pair.value) pairs → All (λ pair. IsEntity pair.entity) pairs
      → ascends (row_before (pair_width kind)) (map (λ pair. turned_row kind pair.value pair.entity) pairs) ≡ true → climb pairs ≡ true
  rows-climb [] fits entities h = refl
  rows-climb (p ∷ ps) fits entities h =
      let rows : List (List ℕ) = map (λ pair. turned_row kind pair.value pair.entity) ps in
      let R : List ℕ → Bool = row_before (pair_width kind) (turned_row kind p.value p.entity) in
      let fs = All-tail (λ (pair : Pair). Fits kind pair.value) p ps fits in
      let es = All-tail (λ (pair : Pair). IsEntity pair.entity) p ps entities in
      both (list_all (λ q. not (value_before q.value p.value)) ps) (climb ps)
      (all-climb p ps (All-head (λ (pair : Pair). Fits kind pair.value) p ps fits) (All-head (λ (pair : Pair). IsEntity pair.entity) p ps entities) fs es (left (list_all R rows) (ascends (row_before (pair_width kind)) rows) h))
      (rows-climb ps fs es (right (list_all R rows) (ascends (row_before (pair_width kind)) rows) h))

  pub from-are : (v : Value) (key : ℕ) (rows : List (List ℕ)) (pairs : List Pair) → key ≡ pair_width kind → Fits kind v → AreOfPairs kind rows pairs
      → AreOfPairs kind (rows_from key (turned_row kind v least_entity) rows) (filter (λ p. not (value_before p.value v)) pairs)
  from-are v key rows pairs e fv are = record {
    rows_are = ap (λ (k : ℕ). rows_from k (turned_row kind v least_entity) rows) e ∙ ap (rows_from (pair_width kind) (turned_row kind v least_entity)) are.rows_are ∙ from-pairs v fv pairs are.fit are.entities;
    fit = All-filter (λ p. not (value_before p.value v)) (λ (pair : Pair). Fits kind pair.value) pairs are.fit;
    entities = All-filter (λ p. not (value_before p.value v)) (λ (pair : Pair). IsEntity pair.entity) pairs are.entities;
  }

  pub with-are : (v : Value) (key width : ℕ) (rows : List (List ℕ)) (pairs : List Pair) → key ≡ pair_width kind → AreOrdered key width rows → AreOfPairs kind rows pairs
      → front_with v (filter (λ p. not (value_before p.value v)) pairs) ≡ entities_with v pairs
  with-are v key width rows pairs e order are =
      front-is v pairs (rows-climb pairs are.fit are.entities
      (subst (λ (l : List (List ℕ)). ascends (row_before (pair_width kind)) l ≡ true) are.rows_are (subst (λ (k : ℕ). ascends (row_before k) rows ≡ true) e order.ascend)))

  -- ---- one row

  head-is : (r s : List ℕ) (rs ss : List (List ℕ)) → r ∷ rs ≡ s ∷ ss → r ≡ s
  head-is r s rs ss e = cc

  tail-is : (r s : List ℕ) (rs ss : List (List ℕ)) → r ∷ rs ≡ s ∷ ss → rs ≡ ss
  tail-is r s rs ss e = cc

  value-is : (a b : Value) (x y : EntityId) → a ∷ Entity x ∷ [] ≡ b ∷ Entity y ∷ [] → a ≡ b
  value-is a b x y e = cc

  entity-is : (a b : Value) (x y : EntityId) → a ∷ Entity x ∷ [] ≡ b ∷ Entity y ∷ [] → x ≡ y
  entity-is a b x y e = cc

  told-next : (Ahead : List (List ℕ) → Type 0) (value : Value) (q : Pair) (qs : List Pair) (others : List (List ℕ)) (next : Option EntityId) (b : Bool) → same_value q.value value ≡ b
      → next ≡ (if b then Some q.entity else None) → Ahead others → AreOfPairs kind others qs → IsNext Ahead kind value (q ∷ qs) next
  told-next Ahead value q qs others next true e told ahead are =
      subst (λ (o : Option EntityId). IsNext Ahead kind value (q ∷ qs) o) (sym told) (others, qs, ahead, are, ap (λ (b : Bool). if b then q.entity ∷ front_with value qs else []) e)
  told-next Ahead value q qs others next false e told ahead are =
      subst (λ (o : Option EntityId). IsNext Ahead kind value (q ∷ qs) o) (sym told) (ap (λ (b : Bool). if b then q.entity ∷ front_with value qs else []) e)

  pub next-of : (Ahead : List (List ℕ) → Type 0) (value : Value) (here : List ℕ) (rest : List (List ℕ)) (pairs : List Pair) (next : Option EntityId)
      → IsPairOf kind value here next → Advanced Ahead rest true here → AreOfPairs kind rest pairs → IsNext Ahead kind value pairs next
  next-of Ahead value here rest [] next is on are = absurd (empty here on.0 (sym on.1 ∙ are.rows_are))
    where
      empty : (r : List ℕ) (rs : List (List ℕ)) → r ∷ rs ≡ [] → ⊥
      empty r rs e = cc
  next-of Ahead value here rest (q ∷ qs) next is on are =
      let rows : List (List ℕ) = map (λ pair. turned_row kind pair.value pair.entity) qs in
      let both-are = sym on.1 ∙ are.rows_are in
      let fq = All-head (λ (pair : Pair). Fits kind pair.value) q qs are.fit in
      let eq = All-head (λ (pair : Pair). IsEntity pair.entity) q qs are.entities in
      let spelled : turned_row kind is.other is.entity ≡ turned_row kind q.value q.entity = is.is ∙ head-is here (turned_row kind q.value q.entity) on.0 rows both-are in
      let same = laws.one_spelling (pair_fields kind true) (pair_values true is.other is.entity) (pair_values true q.value q.entity) (is.fits, (is.is_entity, tt)) (fq, (eq, tt)) spelled in
      let v = value-is is.other q.value is.entity q.entity same in
      let x = entity-is is.other q.value is.entity q.entity same in
      told-next Ahead value q qs on.0 next (same_value q.value value) refl
      (is.told ∙ ap (λ (a : Value). if same_value a value then Some is.entity else None) v ∙ ap (λ (e : EntityId). if same_value q.value value then Some e else None) x)
      on.2 (record {
        rows_are = tail-is here (turned_row kind q.value q.entity) on.0 rows both-are;
        fit = All-tail (λ (pair : Pair). Fits kind pair.value) q qs are.fit;
        entities = All-tail (λ (pair : Pair). IsEntity pair.entity) q qs are.entities;
      })

pub none-next : (kind : Kind) (value : Value) (rest : List (List ℕ)) (pairs : List Pair) → rest ≡ [] → AreOfPairs kind rest pairs → front_with value pairs ≡ []
none-next kind value rest [] e are = refl
none-next kind value rest (q ∷ qs) e are = absurd (empty (turned_row kind q.value q.entity) (map (λ pair. turned_row kind pair.value pair.entity) qs) (sym are.rows_are ∙ e))
  where
    empty : (r : List ℕ) (rs : List (List ℕ)) → r ∷ rs ≡ [] → ⊥
    empty r rs e = cc

-- no pair has a value that doesn't fit
none-fits : (kind : Kind) (value : Value) (pairs : List Pair) → (Fits kind value → ⊥) → All (λ pair. Fits kind pair.value) pairs → entities_with value pairs ≡ []
none-fits kind value [] never-fits fits = refl
none-fits kind value (q ∷ qs) never-fits fits =
    let fq = All-head (λ (pair : Pair). Fits kind pair.value) q qs fits in
    let rest = none-fits kind value qs never-fits (All-tail (λ (pair : Pair). Fits kind pair.value) q qs fits) in
    let apart = never (same_value q.value value) (λ e. never-fits (subst (Fits kind) (same_value-is q.value value e) fq)) in
    ap (λ (b : Bool). map (λ (p : Pair). p.entity) (cond b (q ∷ filter (λ p. same_value p.value value) qs) (filter (λ p. same_value p.value value) qs))) apart ∙ rest

pub none-found : (kind : Kind) (value : Value) (pairs : List Pair) (entities : List EntityId) → entities ≡ [] → (Fits kind value → ⊥) → All (λ pair. Fits kind pair.value) pairs → entities ≡ entities_with value pairs
none-found kind value pairs entities e never-fits fits = e ∙ sym (none-fits kind value pairs never-fits fits)

-- a row of a page lies in its body
pub within-page : (form store key width index : ℕ) (page row : List ℕ) → IsRowPage form store key width page → slice_get (rows_of width page) index ≡ Some row → index * width + width ≤ 4080
within-page form store key width index page row is there =
    let most = is.has_header.most in
    let below = slice_get_within (rows_of width page) index row there in
    let many = length-pieces (count_of page) width (body_of page) in
    let all = div-mul-le_self 4080 width in
    let up : (index + 1) * width ≤ (4080 / width) * width = mul-le-mul_right width (omega (arith, most, below, many)) in
    omega (arith, up, all)

pub ok-weaken : {A : Type 0} {E : Type 0} (P Q : A → Type 0) (answer : Result A E) → ((x : A) → P x → Q x) → IfOk answer P → IfOk answer Q
ok-weaken P Q (Ok x) w h = w x h
ok-weaken P Q (Err e) w h = tt

pub err-weaken : {A : Type 0} {E : Type 0} (P Q : E → Type 0) (answer : Result A E) → ((x : E) → P x → Q x) → IfErr answer P → IfErr answer Q
err-weaken P Q (Ok x) w h = tt
err-weaken P Q (Err e) w h = w e h

pub some-of : {X : Type 0} (P : X → Type 0) (o : Option X) (x : X) → Some x ≡ o → P x → IfSome o P
some-of P o x e h = subst (λ q. IfSome q P) e h

pub any-some : {X : Type 0} (P : X → Type 0) (o : Option X) → ((x : X) → P x) → IfSome o P
any-some P None h = tt
any-some P (Some x) h = h x

pub push-ok : {E : Type 0} (P : Type 0) (answer : Result Unit E) (b : Bool) → b ≡ is_err answer → b ≡ false → OnOk answer P → P
push-ok P (Ok u) b e f h = h
push-ok P (Err x) b e f h = absurd (true≢false (sym e ∙ f))
