-- Rows of sets: of which pairs they are, whose values they tell, and which of them are taken.
use Rattle.std.specs.Prelude.{not}
use Rattle.st_lookups.proofs.Listed.{taken-all}
use Rattle.st_standing.proofs.RowLaws.{pair-long, take-pair}
use Rattle.st_state.specs.State.{turned}
use Rattle.st_index.specs.Turned.{entities_with}
use Rattle.st_image.specs.Grammar.{row_before}
use Rattle.st_values.specs.Order.{same_value}
use Rattle.std.proofs.lemmas.Cmp.{ranked}
use Rattle.std.specs.Cmp.Lexicographic.{slice_cmp}
use Rattle.std.specs.Ordering.{nat_cmp, ordering_then, MatchOrdering}
use Rattle.st_lookups.specs.Looks.{OfState}
use Rattle.st_standing.proofs.Listed.{rows-set}
use Rattle.st_standing.specs.Standing.{rows_at, view_of}
use Rattle.st_database.specs.Touches.{WithStore}
use Rattle.st_pages.specs.Attempt.{Array, Attempt}
use Rattle.std.proofs.lemmas.List.{take_all}
use Rattle.std.proofs.Common.{zero, suc, ◌≤◌}
use Rattle.std.specs.declared.cmp.Ordering.TheVariants.{Less, Equal, Greater}
use Rattle.std.specs.declared.cmp.Ordering.{Ordering}
use Rattle.std.specs.Ordering.{is_eq, is_lt}
use Rattle.st_values.specs.Order.{entity_before}
use Rattle.st_standing.proofs.RowLaws.{RowLaws}
use Rattle.st_standing.proofs.Filtered.{filter-filter}
use Rattle.st_standing.proofs.Sets.{rows_from-entity, own-first, of-kind, in-order}
use Rattle.st_values.proofs.Entities.{same_entity-turned}
use Rattle.st_values.specs.Order.{entity_order}
use Rattle.st_state.specs.State.{values_at}
use Rattle.st_store.specs.Rows.{rows_from}
use Rattle.st_rows.specs.Rows.{pair_width}
use Rattle.st_keys.specs.Keys.{entity_key, width}
use Rattle.std.specs.Prelude.{replicate}
use Rattle.std.proofs.Common.{◌≡◌, ◌≢◌, ℕ, ◌+◌, ◌<◌, Bool, true, false, cond, if◌then◌else◌, List, [], ◌∷◌, ◌++◌, Option, Some, None, Result, Ok, Err, OnOk, map, take, drop, length, refl, sym, ap, ◌∙◌, subst, arith, true≢false}
use Rattle.std.specs.Prelude.{◌==◌, ◌&&◌, filter, nat_lt, slice_index_or, IfSome}
use Rattle.std.specs.List.{All}
use Rattle.std.specs.Int.{w16, w32, from_be_bytes, to_be_bytes}
use Rattle.std.proofs.lemmas.List.{map-append}
use Rattle.std.proofs.lemmas.List.Elements.{All-append, All-cons, All-filter, All-head, All-nil, All-tail, filter_passes}
use Rattle.std.proofs.lemmas.Nat.{from_be_bytes-to_be_bytes_2, from_be_bytes-to_be_bytes_4}
use Rattle.st_values.specs.declared.value.EntityId.{EntityId}
use Rattle.st_values.specs.declared.value.Kind.{Kind}
use Rattle.st_values.specs.declared.value.Value.{Value}
use Rattle.st_values.specs.declared.value.Value.TheVariants.{Entity}
use Rattle.st_values.specs.Order.{same_entity}
use Rattle.st_values.proofs.Tests.{either, left, right}
use Rattle.st_lattice.specs.declared.attribute.Attribute.{Attribute}
use Rattle.st_lattice.specs.declared.stores.StoreKind.TheVariants.{Set}
use Rattle.st_lattice.specs.Outline.{Outline, attribute}
use Rattle.st_lattice.specs.Lattice.{isa}
use Rattle.st_lattice.specs.Stores.{keeps_one, passes, store}
use Rattle.st_keys.specs.Keys.{Fits, IsEntity}
use Rattle.st_rows.specs.declared.fault.RowFault.{RowFault}
use Rattle.st_rows.specs.declared.fault.RowFault.TheVariants.{BadRow, Memory}
use Rattle.st_rows.specs.declared.field.Field.{Field}
use Rattle.st_rows.specs.Causes.{IsRowCause}
use Rattle.st_rows.specs.Rows.{AreHeld, RowRefused, pair_fields, pair_values, row}
use Rattle.st_pages.specs.declared.places.Place.{Place}
use Rattle.st_pages.specs.Places.{place_of}
use Rattle.st_store.specs.Stores.{IsPlace}
use Rattle.st_catalog.specs.Stores.{AreOf}
use Rattle.st_schema_bytes.specs.SchemaBytes.{IsReadable}
use Rattle.st_index.specs.Bad.{IsNamed}
use Rattle.st_index.specs.Change.{IsTurned}
use Rattle.st_index.proofs.Placed.{one-store, placed-turned}
use Rattle.st_state.specs.declared.triple.Triple.{Triple}
use Rattle.st_state.specs.State.{Pair, State, is_live, pair_of}
use Rattle.st_state.specs.Legal.{IsNearlyLegal, can_hold, is_sound}
use Rattle.st_state.proofs.Changed.{number-is}
use Rattle.st_state.proofs.Members.{find-passes}
use Rattle.st_standing.specs.Standing.{IsOfProgram, pair_bytes, triples_of, value_rows}
use Rattle.st_standing.proofs.Fitting.{all-passed, found-holds}
use Rattle.st_standing.proofs.Listed.{has-set, in-holds}
use Rattle.st_standing.proofs.Numbered.{numbers-below}
use Rattle.st_standing.proofs.OfKind.{IsOfKind, triples-of-kind}
use Rattle.st_lookups.specs.Looks.{AreMembers, IsMember, first_entity, taken_from, values_with}
use Rattle.st_lookups.proofs.Placed.{none-has}
use Rattle.st_lookups.proofs.Sound.{held-named}

pub on-ok : {A E : Type 0} (P Q : Type 0) (answer : Result A E) → (P → Q) → OnOk answer P → OnOk answer Q
on-ok P Q (Ok x) w h = w h
on-ok P Q (Err e) w h = tt

-- ---- one row

-- the row of a pair of the right types isn't refused
pub none-refused : (refused : (fields : List Field) (bytes : List ℕ) (place : ℕ) → RowRefused fields bytes place → (values : List Value) → AreHeld fields values → row fields values ≢ bytes)
    (schema : Outline) (a : Attribute) (bytes : List ℕ) (fault : RowFault) → IsRowCause (pair_fields a.kind false) bytes fault → IsMember schema a bytes → fault ≡ Memory
none-refused refused schema a bytes (BadRow place) cause m = absurd (refused (pair_fields a.kind false) bytes place cause (pair_values false m.pair.value m.pair.entity) (m.is_entity, (m.fits, tt)) m.is)
none-refused refused schema a bytes Memory cause m = refl

abbrev the_pair : Value → EntityId → Pair
the_pair v e = record { value = v; entity = e }

abbrev bytes_of : Kind → Pair → List ℕ
bytes_of kind p = pair_bytes kind p.value p.entity

-- a row more is a pair more
members-more : (kind : Kind) (rows : List (List ℕ)) (pairs : List Pair) (v : Value) (e : EntityId) (bytes : List ℕ) → AreMembers kind rows pairs → Fits kind v → IsEntity e → pair_bytes kind v e ≡ bytes
    → AreMembers kind (rows ++ bytes ∷ []) (pairs ++ the_pair v e ∷ [])
members-more kind rows pairs v e bytes are fits entity is = record {
  rows_are = ap (λ (l : List (List ℕ)). l ++ bytes ∷ []) are.rows_are ∙ ap (λ (l : List ℕ). map (bytes_of kind) pairs ++ l ∷ []) (sym is) ∙ sym (map-append (bytes_of kind) pairs (the_pair v e ∷ []));
  fit = All-append (λ (p : Pair). Fits kind p.value) pairs (the_pair v e ∷ []) are.fit (All-cons (λ (p : Pair). Fits kind p.value) (the_pair v e) [] fits (All-nil (λ (p : Pair). Fits kind p.value)));
  entities = All-append (λ (p : Pair). IsEntity p.entity) pairs (the_pair v e ∷ []) are.entities (All-cons (λ (p : Pair). IsEntity p.entity) (the_pair v e) [] entity (All-nil (λ (p : Pair). IsEntity p.entity)));
}

-- what is kept of pairs and one more
pub kept-more : {X Y : Type 0} (test : Y → Bool) (get : Y → X) (pairs : List Y) (p : Y) → map get (filter test (pairs ++ p ∷ [])) ≡ map get (filter test pairs) ++ (if test p then get p ∷ [] else [])
kept-more {X} {Y} test get [] p = either (test p) (λ b. map get (cond b (p ∷ []) []) ≡ (if b then get p ∷ [] else [])) (λ _. refl) (λ _. refl)
kept-more {X} {Y} test get (q ∷ qs) p =
    let more : List X = if test p then get p ∷ [] else [] in
    either (test q) (λ b. map get (cond b (q ∷ filter test (qs ++ p ∷ [])) (filter test (qs ++ p ∷ []))) ≡ map get (cond b (q ∷ filter test qs) (filter test qs)) ++ more)
    (λ _. ap (λ (l : List X). get q ∷ l) (kept-more test get qs p)) (λ _. kept-more test get qs p)

-- what was told of rows is told of a row more
pub told-more : (b o : Attribute) (eb eo : EntityId) (vb vo vn : List Value) (rows : List (List ℕ)) (v : Value) (e : EntityId) (bytes : List ℕ) → o ≡ b → eo ≡ eb
    → ((pairs : List Pair) × AreMembers b.kind rows pairs × (vo ≡ vb ++ values_with eb pairs)) → Fits o.kind v → IsEntity e → pair_bytes o.kind v e ≡ bytes → vn ≡ vo ++ (if same_entity e eo then v ∷ [] else [])
    → ((pairs : List Pair) × AreMembers b.kind (rows ++ bytes ∷ []) pairs × (vn ≡ vb ++ values_with eb pairs))
told-more b o eb eo vb vo vn rows v e bytes same here t fits entity is kept = (
  t.0 ++ the_pair v e ∷ [],
  members-more b.kind rows t.0 v e bytes t.1 (subst (λ (a : Attribute). Fits a.kind v) same fits) entity (subst (λ (a : Attribute). pair_bytes a.kind v e ≡ bytes) same is),
  kept ∙ ap (λ (x : EntityId). vo ++ (if same_entity e x then v ∷ [] else [])) here ∙ ap (λ (l : List Value). l ++ (if same_entity e eb then v ∷ [] else [])) t.2
      ∙ Rattle.std.proofs.Common.append_assoc vb (values_with eb t.0) (if same_entity e eb then v ∷ [] else []) ∙ ap (λ (l : List Value). vb ++ l) (sym (kept-more (λ p. same_entity p.entity eb) (λ p. p.value) t.0 (the_pair v e))),
)

-- the same of the entities that have a value
pub having-more : (b o : Attribute) (wb wo : Value) (eb eo en : List EntityId) (rows : List (List ℕ)) (v : Value) (e : EntityId) (bytes : List ℕ) → o ≡ b → wo ≡ wb
    → ((pairs : List Pair) × AreMembers b.kind rows pairs × (eo ≡ eb ++ entities_with wb pairs)) → Fits o.kind v → IsEntity e → pair_bytes o.kind v e ≡ bytes → en ≡ eo ++ (if same_value v wo then e ∷ [] else [])
    → ((pairs : List Pair) × AreMembers b.kind (rows ++ bytes ∷ []) pairs × (en ≡ eb ++ entities_with wb pairs))
having-more b o wb wo eb eo en rows v e bytes same here t fits entity is kept = (
  t.0 ++ the_pair v e ∷ [],
  members-more b.kind rows t.0 v e bytes t.1 (subst (λ (a : Attribute). Fits a.kind v) same fits) entity (subst (λ (a : Attribute). pair_bytes a.kind v e ≡ bytes) same is),
  kept ∙ ap (λ (x : Value). eo ++ (if same_value v x then e ∷ [] else [])) here ∙ ap (λ (l : List EntityId). l ++ (if same_value v wb then e ∷ [] else [])) t.2
      ∙ Rattle.std.proofs.Common.append_assoc eb (entities_with wb t.0) (if same_value v wb then e ∷ [] else []) ∙ ap (λ (l : List EntityId). eb ++ l) (sym (kept-more (λ p. same_value p.value wb) (λ p. p.entity) t.0 (the_pair v e))),
)

-- ---- the place of a set

pub set-laid : (schema : Outline) (places : List Place) (number : ℕ) (a : Attribute) (place : Option Place) → AreOf schema places → All IsPlace places → number < 65536 → attribute schema number ≡ Some a → place ≡ place_of (store Set number) places
    → IfSome place (λ p. (p.store ≡ store Set number) × IsTurned a.kind p)
set-laid schema places number a None of fair small is at = tt
set-laid schema places number a (Some p) of fair small is at = (
  All-head (λ (q : Place). q.store ≡ store Set number) p [] (one-store places (store Set number) (Some p) at),
  All-head (IsTurned a.kind) p [] (placed-turned schema places number 1 (store Set number) a (Some p) of fair small (omega arith) (omega arith) refl (sym is) at),
)

lower : (m n : ℕ) → nat_lt m n ≡ true → m < n
lower m n h = borrow.Author.Tests.ltb-true m n h

-- the numbers of attributes are below the next one
pub number-below : (schema : Outline) (number : ℕ) (a : Attribute) → IsReadable schema → attribute schema number ≡ Some a → number < schema.next
number-below schema number a readable is =
    let below = found-holds (λ (b : Attribute). nat_lt b.number schema.next ≡ true) (λ b. b.number == number) schema.attributes a (all-passed (λ b. nat_lt b.number schema.next) schema.attributes (numbers-below schema readable)) is in
    subst (λ (n : ℕ). n < schema.next) (number-is a.number number (find-passes (λ b. b.number == number) a schema.attributes is)) (lower a.number schema.next below)

pub number-small : (schema : Outline) (number : ℕ) (a : Attribute) → IsReadable schema → schema.next < 65536 → attribute schema number ≡ Some a → number < 65536
number-small schema number a readable few is = let less = number-below schema number a readable is in omega (arith, less, few)

-- each attribute with sets has one
pub set-there : (schema : Outline) (places : List Place) (number : ℕ) (a : Attribute) → IsReadable schema → AreOf schema places → attribute schema number ≡ Some a → a.many ≡ true → place_of (store Set number) places ≡ None → ⊥
set-there schema places number a readable of is many none =
    let less = number-below schema number a readable is in
    let kept : keeps_one Set (attribute schema number) ≡ true = ap (keeps_one Set) is ∙ many in
    in-holds (λ t. t ≡ store Set number → ⊥) (store Set number) (Rattle.st_lattice.specs.Stores.stores_of schema)
    (subst (All (λ t. t ≡ store Set number → ⊥)) of.stores (none-has (store Set number) places none)) (has-set schema number less kept) refl

-- ---- rows of the same pairs

same-values : (v w : Value) (x y : EntityId) → Entity x ∷ v ∷ [] ≡ Entity y ∷ w ∷ [] → the_pair v x ≡ the_pair w y
same-values v w x y e = λ i. the_pair (value-is i) (entity-is i)
  where
    value-is : v ≡ w
    value-is = cc

    entity-is : x ≡ y
    entity-is = cc

module _ (one_spelling : (fields : List Field) (xs ys : List Value) → AreHeld fields xs → AreHeld fields ys → row fields xs ≡ row fields ys → xs ≡ ys) (kind : Kind) where
  one-members : (ps qs : List Pair) → All (λ (p : Pair). Fits kind p.value) ps → All (λ (p : Pair). IsEntity p.entity) ps → All (λ (p : Pair). Fits kind p.value) qs → All (λ (p : Pair). IsEntity p.entity) qs
      → map (bytes_of kind) ps ≡ map (bytes_of kind) qs → ps ≡ qs
  one-members [] [] f g h k e = refl
  one-members [] (q ∷ qs) f g h k e = absurd (none-some (bytes_of kind q) (map (bytes_of kind) qs) e)
    where
      none-some : (r : List ℕ) (rs : List (List ℕ)) → [] ≡ r ∷ rs → ⊥
      none-some r rs m = cc
  one-members (p ∷ ps) [] f g h k e = absurd (some-none (bytes_of kind p) (map (bytes_of kind) ps) e)
    where
      some-none : (r : List ℕ) (rs : List (List ℕ)) → r ∷ rs ≡ [] → ⊥
      some-none r rs m = cc
  one-members (p ∷ ps) (q ∷ qs) f g h k e =
      let Fit : Pair → Type 0 = λ x. Fits kind x.value in
      let Named : Pair → Type 0 = λ x. IsEntity x.entity in
      let here : pair_values false p.value p.entity ≡ pair_values false q.value q.entity =
      one_spelling (pair_fields kind false) (pair_values false p.value p.entity) (pair_values false q.value q.entity) (All-head Named p ps g, (All-head Fit p ps f, tt)) (All-head Named q qs k, (All-head Fit q qs h, tt))
      (head-is (bytes_of kind p) (bytes_of kind q) (map (bytes_of kind) ps) (map (bytes_of kind) qs) e) in
      let rest = one-members ps qs (All-tail Fit p ps f) (All-tail Named p ps g) (All-tail Fit q qs h) (All-tail Named q qs k) (tail-is (bytes_of kind p) (bytes_of kind q) (map (bytes_of kind) ps) (map (bytes_of kind) qs) e) in
      λ i. same-values p.value q.value p.entity q.entity here i ∷ rest i
    where
      head-is : (r t : List ℕ) (rs ts : List (List ℕ)) → r ∷ rs ≡ t ∷ ts → r ≡ t
      head-is r t rs ts m = cc

      tail-is : (r t : List ℕ) (rs ts : List (List ℕ)) → r ∷ rs ≡ t ∷ ts → rs ≡ ts
      tail-is r t rs ts m = cc

  -- rows that are those of some pairs are those of no others
  pub the-members : (ps qs : List Pair) (rows : List (List ℕ)) → AreMembers kind rows ps → AreMembers kind rows qs → ps ≡ qs
  the-members ps qs rows a b = one-members ps qs a.fit a.entities b.fit b.entities (sym a.rows_are ∙ b.rows_are)

-- ---- the rows of triples

triples-are : (number : ℕ) (kind : Kind) (ts : List Triple) → All (IsOfKind number kind) ts → AreMembers kind (value_rows kind ts) (map pair_of ts)
triples-are number kind [] all = record { rows_are = refl; fit = All-nil (λ (p : Pair). Fits kind p.value); entities = All-nil (λ (p : Pair). IsEntity p.entity) }
triples-are number kind (t ∷ ts) all =
    let here = All-head (IsOfKind number kind) t ts all in
    let rest = triples-are number kind ts (All-tail (IsOfKind number kind) t ts all) in
    record {
      rows_are = ap (λ (l : List (List ℕ)). pair_bytes kind t.value t.entity ∷ l) rest.rows_are;
      fit = All-cons (λ (p : Pair). Fits kind p.value) (pair_of t) (map pair_of ts) here.fits rest.fit;
      entities = All-cons (λ (p : Pair). IsEntity p.entity) (pair_of t) (map pair_of ts) here.entity rest.entities;
    }

-- the entity stands first in a row
pub entity-first : (kind : Kind) (v : Value) (e : EntityId) → IsEntity e → first_entity (pair_bytes kind v e) ≡ e
entity-first kind v e entity =
    let ty : from_be_bytes w16 (to_be_bytes w16 e.ty) ≡ e.ty = from_be_bytes-to_be_bytes_2 e.ty entity.2 in
    let serial : from_be_bytes w32 (to_be_bytes w32 e.serial) ≡ e.serial = from_be_bytes-to_be_bytes_4 e.serial entity.1 in
    λ i. record { ty = ty i; serial = serial i }

-- the front of triples up to the first one of another entity, that one included
abbrev front : EntityId → List Triple → List Triple
front e [] = []
front e (t ∷ ts) = t ∷ (if same_entity t.entity e then front e ts else [])

front-taken : (number : ℕ) (kind : Kind) (e : EntityId) (ts : List Triple) → All (IsOfKind number kind) ts → taken_from (λ row. same_entity (first_entity row) e) (value_rows kind ts) ≡ value_rows kind (front e ts)
front-taken number kind e [] all = refl
front-taken number kind e (t ∷ ts) all =
    let here = All-head (IsOfKind number kind) t ts all in
    let rest = front-taken number kind e ts (All-tail (IsOfKind number kind) t ts all) in
    ap (λ (l : List (List ℕ)). pair_bytes kind t.value t.entity ∷ l)
    (ap (λ (x : EntityId). if same_entity x e then taken_from (λ row. same_entity (first_entity row) e) (value_rows kind ts) else []) (entity-first kind t.value t.entity here.entity)
    ∙ either (same_entity t.entity e) (λ b. (if b then taken_from (λ row. same_entity (first_entity row) e) (value_rows kind ts) else []) ≡ value_rows kind (if b then front e ts else [])) (λ _. rest) (λ _. refl))

front-all : (P : Triple → Type 0) (e : EntityId) (ts : List Triple) → All P ts → All P (front e ts)
front-all P e [] all = All-nil P
front-all P e (t ∷ ts) all =
    All-cons P t (if same_entity t.entity e then front e ts else []) (All-head P t ts all)
    (either (same_entity t.entity e) (λ b. All P (if b then front e ts else [])) (λ _. front-all P e ts (All-tail P t ts all)) (λ _. All-nil P))

front-own : (e : EntityId) (us ws : List Triple) → All (λ (t : Triple). same_entity t.entity e ≡ true) us → All (λ (t : Triple). same_entity t.entity e ≡ false) ws → values_with e (map pair_of (front e (us ++ ws))) ≡ map (λ t. t.value) us
front-own e [] [] a b = refl
front-own e [] (w ∷ ws) a b =
    let here = All-head (λ (t : Triple). same_entity t.entity e ≡ false) w ws b in
    ap (λ (c : Bool). values_with e (map pair_of (w ∷ (if c then front e ws else [])))) here ∙ ap (λ (c : Bool). map (λ (p : Pair). p.value) (cond c (pair_of w ∷ []) [])) here
front-own e (u ∷ us) ws a b =
    let here = All-head (λ (t : Triple). same_entity t.entity e ≡ true) u us a in
    ap (λ (c : Bool). values_with e (map pair_of (u ∷ (if c then front e (us ++ ws) else [])))) here
    ∙ ap (λ (c : Bool). map (λ (p : Pair). p.value) (cond c (pair_of u ∷ filter (λ p. same_entity p.entity e) (map pair_of (front e (us ++ ws)))) (filter (λ p. same_entity p.entity e) (map pair_of (front e (us ++ ws)))))) here
    ∙ ap (λ (l : List Value). u.value ∷ l) (front-own e us ws (All-tail (λ (t : Triple). same_entity t.entity e ≡ true) u us a) b)

unequal : (o : Ordering) → is_lt o ≡ true → is_eq o ≡ false
unequal Less h = refl
unequal Equal h = absurd (true≢false (sym h))
unequal Greater h = refl

-- ---- a state

module _ (s : State) (legal : IsNearlyLegal s) (number : ℕ) (a : Attribute) (f : attribute s.schema number ≡ Some a) where
  -- the triples of an attribute name entities of its types
  triple-named : (t : Triple) → is_sound s t ≡ true → (t.attribute == number) ≡ true → IsNamed s.schema a (pair_of t)
  triple-named t sound n =
      let test : Attribute → Bool = λ b. isa s.schema t.entity.ty b.owner && can_hold s b.kind t.value in
      let here : passes test (Some a) ≡ true = sym (ap (passes test) (ap (attribute s.schema) (number-is t.attribute number n) ∙ f)) ∙ right (is_live s t.entity) (passes test (attribute s.schema t.attribute)) sound in
      record {
        value = held-named s a.kind t.value (right (isa s.schema t.entity.ty a.owner) (can_hold s a.kind t.value) here);
        owner = left (isa s.schema t.entity.ty a.owner) (can_hold s a.kind t.value) here;
      }

  pub triples-named : All (λ (t : Triple). IsNamed s.schema a (pair_of t)) (triples_of number s.triples)
  triples-named k d l =
      let t = slice_index_or (triples_of number s.triples) k d in
      triple-named t (All-filter (λ t. t.attribute == number) (λ (t : Triple). is_sound s t ≡ true) s.triples (all-passed (is_sound s) s.triples legal.sound) k d l) (filter_passes (λ t. t.attribute == number) s.triples k d l)

  sound-rows : (ts : List Triple) → All (IsOfKind number a.kind) ts → All (λ (t : Triple). IsNamed s.schema a (pair_of t)) ts → All (IsMember s.schema a) (value_rows a.kind ts)
  sound-rows [] all named = All-nil (IsMember s.schema a)
  sound-rows (t ∷ ts) all named =
      let here = All-head (IsOfKind number a.kind) t ts all in
      All-cons (IsMember s.schema a) (pair_bytes a.kind t.value t.entity) (value_rows a.kind ts)
      (record { pair = pair_of t; fits = here.fits; is_entity = here.entity; is = refl; named = All-head (λ (u : Triple). IsNamed s.schema a (pair_of u)) t ts named })
      (sound-rows ts (All-tail (IsOfKind number a.kind) t ts all) (All-tail (λ (u : Triple). IsNamed s.schema a (pair_of u)) t ts named))

  -- the rows of a set are sound
  pub set-sound : IsOfProgram s → All (IsMember s.schema a) (value_rows a.kind (triples_of number s.triples))
  set-sound program = sound-rows (triples_of number s.triples) (triples-of-kind s legal program number a f) triples-named

  module _ (laws : RowLaws) (one_spelling : (fields : List Field) (xs ys : List Value) → AreHeld fields xs → AreHeld fields ys → row fields xs ≡ row fields ys → xs ≡ ys) (program : IsOfProgram s) where
    -- all rows of a set are those of the triples of its attribute
    pub set-pairs : (pairs : List Pair) → AreMembers a.kind (value_rows a.kind (triples_of number s.triples)) pairs → pairs ≡ map pair_of (triples_of number s.triples)
    set-pairs pairs are =
        let ts = triples_of number s.triples in
        the-members one_spelling a.kind pairs (map pair_of ts) (value_rows a.kind ts) are (triples-are number a.kind ts (triples-of-kind s legal program number a f))

    module _ (e : EntityId) (entity : IsEntity e) (key : List ℕ) (zeros : take (pair_width a.kind) key ≡ entity_key e ++ replicate (width a.kind) 0) where
      abbrev mine : List Triple
      mine = filter (λ t. same_entity t.entity e) (triples_of number s.triples)

      abbrev later : List Triple
      later = filter (λ t. entity_before e t.entity) (triples_of number s.triples)

      kinds : All (IsOfKind number a.kind) (mine ++ later)
      kinds =
          let all = triples-of-kind s legal program number a f in
          All-append (IsOfKind number a.kind) mine later (All-filter (λ t. same_entity t.entity e) (IsOfKind number a.kind) (triples_of number s.triples) all) (All-filter (λ t. entity_before e t.entity) (IsOfKind number a.kind) (triples_of number s.triples) all)

      set-taken : taken_from (λ row. same_entity (first_entity row) e) (rows_from (pair_width a.kind) key (value_rows a.kind (triples_of number s.triples))) ≡ value_rows a.kind (front e (mine ++ later))
      set-taken =
          ap (taken_from (λ row. same_entity (first_entity row) e))
          (rows_from-entity laws s number a f legal program e entity key zeros ∙ ap (value_rows a.kind) (own-first number a.kind e (triples_of number s.triples) (of-kind laws s number a f legal program) (in-order laws s number a f legal program)))
          ∙ front-taken number a.kind e (mine ++ later) kinds

      others : All (λ (t : Triple). same_entity t.entity e ≡ false) later
      others k d l =
          let t = slice_index_or later k d in
          same_entity-turned t.entity e ∙ unequal (entity_order e t.entity) (filter_passes (λ t. entity_before e t.entity) (triples_of number s.triples) k d l)

      -- the rows that are taken tell the values of an entity
      pub set-values : (pairs : List Pair) → AreMembers a.kind (taken_from (λ row. same_entity (first_entity row) e) (rows_from (pair_width a.kind) key (value_rows a.kind (triples_of number s.triples)))) pairs → values_with e pairs ≡ values_at number e s.triples
      set-values pairs are =
          let taken = front e (mine ++ later) in
          let is = the-members one_spelling a.kind pairs (map pair_of taken) (value_rows a.kind taken) (subst (λ (l : List (List ℕ)). AreMembers a.kind l pairs) set-taken are)
          (triples-are number a.kind taken (front-all (IsOfKind number a.kind) e (mine ++ later) kinds)) in
          ap (values_with e) is ∙ front-own e mine later (filter_passes (λ t. same_entity t.entity e) (triples_of number s.triples)) others
          ∙ ap (map (λ (t : Triple). t.value)) (filter-filter (λ t. t.attribute == number) (λ t. same_entity t.entity e) s.triples)

-- ---- the key of an entity

pub zeros-taken : (n m : ℕ) → take {A = ℕ} n (replicate m 0) ≡ replicate (length (take {A = ℕ} n (replicate m 0))) 0
zeros-taken zero m = refl
zeros-taken (suc n) zero = refl
zeros-taken (suc n) (suc m) = ap (λ (l : List ℕ). 0 ∷ l) (zeros-taken n m)

zeros-long : (n : ℕ) → length {A = ℕ} (replicate n 0) ≡ n
zeros-long zero = refl
zeros-long (suc n) = ap suc (zeros-long n)

-- all of the least row of an entity is its key
pub least-key : (kind : Kind) (e : EntityId) → take (pair_width kind) (entity_key e ++ replicate (width kind) 0) ≡ entity_key e ++ replicate (width kind) 0
least-key kind e = let long = zeros-long (width kind) in take_all (pair_width kind) (entity_key e ++ replicate (width kind) 0) (omega (arith, long))

-- ---- what is found where there is the store of a set

pub of-set : (form : Place → Array → List ℕ → List (List ℕ) → Type 0) (a b : Attempt) (schema : Outline) (places : List Place) (x : Attribute) (place : Place) (Holds : Array → List (List ℕ) → Type 0) → attribute schema x.number ≡ Some x
    → place_of (store Set x.number) places ≡ Some place → place.store ≡ store Set x.number → WithStore form a b place (λ array outline others view. Holds array (view.rows place.store))
    → OfState form a b schema places (λ array s. Holds array (value_rows x.kind (triples_of x.number s.triples)))
of-set form a b schema places x place Holds there at is with-store = λ array s agrees same stands.
    let here = ap (λ (o : Outline). attribute o x.number) same ∙ there in
    subst (Holds array) (ap (rows_at s) is ∙ rows-set s x here (number-small s.schema x.number x stands.database.has.spells.readable stands.legal.orderly.next here))
    (with-store array s.schema places (view_of s) agrees stands.database (ap (λ (n : ℕ). place_of n places) is ∙ at))

-- ---- an attribute by its number

pub its-number : (schema : Outline) (number : ℕ) (a : Attribute) → Some a ≡ attribute schema number → a.number ≡ number
its-number schema number a e = number-is a.number number (find-passes (λ b. b.number == number) a schema.attributes (sym e))

pub found-again : (schema : Outline) (number : ℕ) (a : Attribute) → Some a ≡ attribute schema number → attribute schema a.number ≡ Some a
found-again schema number a e = ap (attribute schema) (its-number schema number a e) ∙ sym e

-- ---- from the key of zeros on

taken-below : (k m : ℕ) (xs : List ℕ) → length xs ≡ k → is_lt (slice_cmp nat_cmp xs (take k (replicate m 0))) ≡ false
taken-below zero m [] h = refl
taken-below zero m (x ∷ xs) h = absurd (omega (arith, h))
taken-below (suc k) m [] h = absurd (omega (arith, h))
taken-below (suc k) zero (x ∷ xs) h = refl
taken-below (suc k) (suc m) (x ∷ xs) h = by (nat_cmp x 0) (ranked x 0 (nat_cmp x 0) refl) (slice_cmp nat_cmp xs (take k (replicate m 0))) (taken-below k m xs (omega (arith, h)))
  where
    by : (o : Ordering) → MatchOrdering o (x < 0) (x ≡ 0) (0 < x) → (r : Ordering) → is_lt r ≡ false → is_lt (ordering_then o r) ≡ false
    by Less m r k = absurd (omega (arith, m))
    by Equal m r k = k
    by Greater m r k = refl

-- all rows of a set stand behind zeros
pub from-zeros : (laws : RowLaws) (number : ℕ) (kind : Kind) (key : List ℕ) (m : ℕ) → key ≡ replicate m 0 → (ts : List Triple) → All (IsOfKind number kind) ts → rows_from (pair_width kind) key (value_rows kind ts) ≡ value_rows kind ts
from-zeros laws number kind key m e [] all = refl
from-zeros laws number kind key m e (t ∷ ts) all =
    let here = All-head (IsOfKind number kind) t ts all in
    let bytes = pair_bytes kind t.value t.entity in
    let rest = rows_from (pair_width kind) key (value_rows kind ts) in
    let apart : row_before (pair_width kind) bytes key ≡ false =
    ap (λ (l : List ℕ). row_before (pair_width kind) bytes l) e ∙ ap (λ (l : List ℕ). is_lt (slice_cmp nat_cmp l (take (pair_width kind) (replicate m 0)))) (take-pair laws kind t.value t.entity here.fits here.entity)
    ∙ taken-below (pair_width kind) m bytes (pair-long laws kind t.value t.entity here.fits here.entity) in
    ap (λ (b : Bool). cond (not b) (bytes ∷ rest) rest) apart ∙ ap (λ (l : List (List ℕ)). bytes ∷ l) (from-zeros laws number kind key m e ts (All-tail (IsOfKind number kind) t ts all))

turned-pairs : (v : Value) (us : List Triple) → entities_with v (map pair_of us) ≡ map (λ t. t.entity) (filter (λ t. same_value t.value v) us)
turned-pairs v [] = refl
turned-pairs v (u ∷ us) =
    either (same_value u.value v) (λ b. map (λ (p : Pair). p.entity) (cond b (pair_of u ∷ filter (λ p. same_value p.value v) (map pair_of us)) (filter (λ p. same_value p.value v) (map pair_of us)))
    ≡ map (λ (t : Triple). t.entity) (cond b (u ∷ filter (λ t. same_value t.value v) us) (filter (λ t. same_value t.value v) us)))
    (λ _. ap (λ (l : List EntityId). u.entity ∷ l) (turned-pairs v us)) (λ _. turned-pairs v us)

-- the rows of a set tell the entities of a value
pub set-turned : (laws : RowLaws) (one_spelling : (fields : List Field) (xs ys : List Value) → AreHeld fields xs → AreHeld fields ys → row fields xs ≡ row fields ys → xs ≡ ys) (s : State) → IsNearlyLegal s → IsOfProgram s
    → (number : ℕ) (a : Attribute) → attribute s.schema number ≡ Some a → (key : List ℕ) (m : ℕ) → key ≡ replicate m 0 → (v : Value) (pairs : List Pair)
    → AreMembers a.kind (taken_from (λ row. true) (rows_from (pair_width a.kind) key (value_rows a.kind (triples_of number s.triples)))) pairs → entities_with v pairs ≡ turned number v s.triples
set-turned laws one_spelling s legal program number a f key m e v pairs are =
    let rows = value_rows a.kind (triples_of number s.triples) in
    let all = taken-all (rows_from (pair_width a.kind) key rows) ∙ from-zeros laws number a.kind key m e (triples_of number s.triples) (triples-of-kind s legal program number a f) in
    ap (entities_with v) (set-pairs s legal number a f laws one_spelling program pairs (subst (λ (l : List (List ℕ)). AreMembers a.kind l pairs) all are))
    ∙ turned-pairs v (triples_of number s.triples)
    ∙ ap (map (λ (t : Triple). t.entity)) (filter-filter (λ t. t.attribute == number) (λ t. same_value t.value v) s.triples)
