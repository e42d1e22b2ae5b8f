-- The entities of a type, as they are read from extents, one type after the other.
use Rattle.std.proofs.Common.{◌≡◌, ℕ, zero, suc, ◌+◌, ◌<◌, ◌≤◌, ◌==◌, Bool, true, false, cond, List, [], ◌∷◌, ◌++◌, IsTrue, refl, sym, ap, ◌∙◌, subst, arith, true≢false, take, replicate, map}
use Rattle.std.specs.Prelude.{◌&&◌, ◌||◌, not, nat_lt, nat_le, filter, length, slice_index}
use Rattle.std.specs.List.{All, list_all, range_with_len}
use Rattle.std.specs.Int.{w32, to_be_bytes, from_be_bytes}
use Rattle.std.specs.declared.cmp.Ordering.{Ordering}
use Rattle.std.specs.declared.cmp.Ordering.TheVariants.{Less, Equal, Greater}
use Rattle.std.specs.Ordering.{is_lt, nat_cmp, ordering_then, MatchOrdering}
use Rattle.std.proofs.lemmas.Bool.Decides.{nat_tests}
use Rattle.std.proofs.lemmas.Cmp.{ranked}
use Rattle.std.proofs.lemmas.List.Elements.{All-cons, All-head, All-nil, All-tail}
use Rattle.std.proofs.lemmas.Nat.{from_be_bytes-to_be_bytes_4}
use Rattle.st_values.specs.declared.value.EntityId.{EntityId}
use Rattle.st_values.specs.Order.{entity_before}
use Rattle.st_values.specs.Arranged.{ascends}
use Rattle.st_values.proofs.Tests.{either, first-of, left, one-of, right}
use Rattle.st_lattice.specs.declared.stores.StoreKind.TheVariants.{Extent}
use Rattle.st_lattice.specs.Outline.{Outline}
use Rattle.st_lattice.specs.Lattice.{isa}
use Rattle.st_lattice.specs.Stores.{extents, store}
use Rattle.st_image.specs.Grammar.{row_before}
use Rattle.st_state.specs.State.{State, entities_of}
use Rattle.st_state.specs.Legal.{IsNearlyLegal, is_counted}
use Rattle.st_store.specs.Rows.{rows_from}
use Rattle.st_store.specs.Stores.{among}
use Rattle.st_database.proofs.Touching.{AreAmong}
use Rattle.st_standing.specs.Standing.{IsOfProgram, entity_bytes, extent_rows}
use Rattle.st_standing.proofs.Extents.{IsOfType, entities-of-type}
use Rattle.st_standing.proofs.RowLaws.{RowLaws}
use Rattle.st_lookups.specs.Looks.{entity_in, taken_from}

-- ---- the rows of one type

-- no row is left out where more are always wanted
pub taken-all : (rows : List (List ℕ)) → taken_from (λ row. true) rows ≡ rows
taken-all [] = refl
taken-all (row ∷ rows) = ap (λ (l : List (List ℕ)). row ∷ l) (taken-all rows)

not-below : (n : ℕ) → is_lt (nat_cmp n 0) ≡ false
not-below n = grind (arith, nat_tests)

module _ (laws : RowLaws) (s : State) (ty : ℕ) where
  -- all rows of an extent stand behind the serial 0
  pub from-start : (es : List EntityId) → All (IsOfType ty) es → rows_from 4 (to_be_bytes w32 0) (map (entity_bytes s) es) ≡ map (entity_bytes s) es
  from-start [] all = refl
  from-start (e ∷ es) all =
      let entity = (All-head (IsOfType ty) e es all).entity in
      let apart : row_before 4 (entity_bytes s e) (to_be_bytes w32 0) ≡ false = ap is_lt (laws.serials s.schema 0 e.serial 0 [] [] entity.1 (omega arith)) ∙ not-below e.serial in
      ap (λ (b : Bool). cond (not b) (entity_bytes s e ∷ rows_from 4 (to_be_bytes w32 0) (map (entity_bytes s) es)) (rows_from 4 (to_be_bytes w32 0) (map (entity_bytes s) es))) apart
      ∙ ap (λ (l : List (List ℕ)). entity_bytes s e ∷ l) (from-start es (All-tail (IsOfType ty) e es all))

  -- their serials are those of the entities
  entity-is : (e : EntityId) → IsOfType ty e → entity_in ty (entity_bytes s e) ≡ e
  entity-is e is =
      let serial : from_be_bytes w32 (to_be_bytes w32 e.serial) ≡ e.serial = from_be_bytes-to_be_bytes_4 e.serial is.entity.1 in
      λ i. record { ty = sym is.type_is i; serial = serial i }

  pub entities-are : (es : List EntityId) → All (IsOfType ty) es → map (entity_in ty) (map (entity_bytes s) es) ≡ es
  entities-are [] all = refl
  entities-are (e ∷ es) all = λ i. entity-is e (All-head (IsOfType ty) e es all) i ∷ entities-are es (All-tail (IsOfType ty) e es all) i

  -- and none of them is 0
  pub none-nil : (es : List EntityId) → All (IsOfType ty) es → All (λ row. take 4 row ≡ replicate 4 0 → ⊥) (map (entity_bytes s) es)
  none-nil [] all = All-nil (λ row. take 4 row ≡ replicate 4 0 → ⊥)
  none-nil (e ∷ es) all =
      let entity = (All-head (IsOfType ty) e es all).entity in
      All-cons (λ row. take 4 row ≡ replicate 4 0 → ⊥) (entity_bytes s e) (map (entity_bytes s) es)
      (λ h.
      let nil : from_be_bytes w32 (to_be_bytes w32 e.serial) ≡ 0 = ap (from_be_bytes w32) h in
      let some = entity.0 in
      let same = from_be_bytes-to_be_bytes_4 e.serial entity.1 in
      absurd (omega (arith, nil, same, some)))
      (none-nil es (All-tail (IsOfType ty) e es all))

module _ (laws : RowLaws) (s : State) (program : IsOfProgram s) (ty : ℕ) where
  pub rows-sound : All (λ row. take 4 row ≡ replicate 4 0 → ⊥) (extent_rows s ty)
  rows-sound = none-nil laws s ty (filter (λ e. e.ty == ty) s.live) (entities-of-type ty s.live program.entities)

  pub rows-entities : map (entity_in ty) (taken_from (λ row. true) (rows_from 4 (to_be_bytes w32 0) (extent_rows s ty))) ≡ filter (λ e. e.ty == ty) s.live
  rows-entities =
      let es = filter (λ e. e.ty == ty) s.live in
      let all = entities-of-type ty s.live program.entities in
      ap (map (entity_in ty)) (taken-all (rows_from 4 (to_be_bytes w32 0) (extent_rows s ty)) ∙ from-start laws s ty es all) ∙ entities-are laws s ty es all

-- ---- one type after the other

module _ {X : Type 0} where
  -- what passes either of two tests stands in two parts, where nothing that passes the first one follows on what passes the second one
  pub parts : (before : X → X → Bool) (p q : X → Bool) → ((x y : X) → q x ≡ true → before x y ≡ true → p y ≡ false) → ((x : X) → p x ≡ true → q x ≡ false) → (xs : List X) → ascends before xs ≡ true
      → filter p xs ++ filter q xs ≡ filter (λ x. p x || q x) xs
  parts before p q later apart [] h = refl
  parts before p q later apart (x ∷ xs) h =
      let ahead = left (list_all (before x) xs) (ascends before xs) h in
      let rest = parts before p q later apart xs (right (list_all (before x) xs) (ascends before xs) h) in
      let Goal : Bool → Bool → Type 0 = λ b c. cond b (x ∷ filter p xs) (filter p xs) ++ cond c (x ∷ filter q xs) (filter q xs) ≡ cond (b || c) (x ∷ filter (λ y. p y || q y) xs) (filter (λ y. p y || q y) xs) in
      either (p x) (λ b. Goal b (q x))
      (λ e. subst (Goal true) (sym (apart x e)) (ap (λ (l : List X). x ∷ l) rest))
      (λ e. either (q x) (Goal false)
      (λ f. let none = no-more x xs f ahead in
      ap (λ (l : List X). l ++ x ∷ filter q xs) none ∙ ap (λ (l : List X). x ∷ l) (ap (λ (l : List X). l ++ filter q xs) (sym none) ∙ rest))
      (λ f. rest))
    where
      no-more : (x : X) (ys : List X) → q x ≡ true → list_all (before x) ys ≡ true → filter p ys ≡ []
      no-more x [] f a = refl
      no-more x (y ∷ ys) f a = ap (λ (b : Bool). cond b (y ∷ filter p ys) (filter p ys)) (later x y f (left (before x y) (list_all (before x) ys) a)) ∙ no-more x ys f (right (before x y) (list_all (before x) ys) a)

  pub agree : (p q : X → Bool) (xs : List X) → ((x : X) → p x ≡ q x) → filter p xs ≡ filter q xs
  agree p q xs h = let one : p ≡ q = λ i x. h x i in ap (λ (f : X → Bool). filter f xs) one

  pub agree-all : (t p q : X → Bool) (xs : List X) → ((x : X) → t x ≡ true → p x ≡ q x) → list_all t xs ≡ true → filter p xs ≡ filter q xs
  agree-all t p q [] h a = refl
  agree-all t p q (x ∷ xs) h a =
      ap (λ (b : Bool). cond b (x ∷ filter p xs) (filter p xs)) (h x (left (t x) (list_all t xs) a)) ∙ ap (λ (l : List X). cond (q x) (x ∷ l) l) (agree-all t p q xs h (right (t x) (list_all t xs) a))

-- an entity's type isn't below that of one in front of it
pub in-front : (x y : EntityId) → entity_before x y ≡ true → x.ty ≤ y.ty
in-front x y h = by (nat_cmp x.ty y.ty) (ranked x.ty y.ty (nat_cmp x.ty y.ty) refl) h
  where
    by : (o : Ordering) → MatchOrdering o (x.ty < y.ty) (x.ty ≡ y.ty) (y.ty < x.ty) → is_lt (ordering_then o (nat_cmp x.serial y.serial)) ≡ true → x.ty ≤ y.ty
    by Less m k = omega (arith, m)
    by Equal m k = omega (arith, m)
    by Greater m k = absurd (true≢false (sym k))

pub is-number : (m n : ℕ) → (m == n) ≡ true → m ≡ n
is-number m n h = grind (arith, nat_tests)

pub lower : (m n k : ℕ) → (m == k) ≡ true → m ≤ n → nat_lt n k ≡ false
lower m n k h l = grind (arith, nat_tests)

pub other-than : (m k : ℕ) → nat_lt m k ≡ true → (m == k) ≡ false
other-than m k h = grind (arith, nat_tests)

pub up-to : (m k : ℕ) → (nat_lt m k || (m == k)) ≡ nat_lt m (k + 1)
up-to m k = grind (arith, nat_tests)

pub none-yet : (schema : Outline) (ty : ℕ) (es : List EntityId) → filter (λ e. nat_lt e.ty 0 && isa schema e.ty ty) es ≡ []
none-yet schema ty [] = refl
none-yet schema ty (e ∷ es) = ap (λ (b : Bool). cond (b && isa schema e.ty ty) (e ∷ filter (λ x. nat_lt x.ty 0 && isa schema x.ty ty) es) (filter (λ x. nat_lt x.ty 0 && isa schema x.ty ty) es)) (never-below e.ty) ∙ none-yet schema ty es
  where
    never-below : (m : ℕ) → nat_lt m 0 ≡ false
    never-below m = grind (arith, nat_tests)

-- the entities of the types up to one, and those of that type
pub one-more : (s : State) (ty k : ℕ) → IsNearlyLegal s → filter (λ e. nat_lt e.ty k && isa s.schema e.ty ty) s.live ++ filter (λ e. (e.ty == k) && isa s.schema k ty) s.live ≡ filter (λ e. nat_lt e.ty (k + 1) && isa s.schema e.ty ty) s.live
one-more s ty k legal =
    parts entity_before (λ e. nat_lt e.ty k && isa s.schema e.ty ty) (λ e. (e.ty == k) && isa s.schema k ty)
    (λ x y q b. ap (λ (t : Bool). t && isa s.schema y.ty ty) (lower x.ty y.ty k (left (x.ty == k) (isa s.schema k ty) q) (in-front x y b)))
    (λ x p. ap (λ (t : Bool). t && isa s.schema k ty) (other-than x.ty k (left (nat_lt x.ty k) (isa s.schema x.ty ty) p))) s.live legal.live_ascends
    ∙ agree (λ e. (nat_lt e.ty k && isa s.schema e.ty ty) || ((e.ty == k) && isa s.schema k ty)) (λ e. nat_lt e.ty (k + 1) && isa s.schema e.ty ty) s.live (λ e. joined e.ty)
  where
    joined : (m : ℕ) → ((nat_lt m k && isa s.schema m ty) || ((m == k) && isa s.schema k ty)) ≡ (nat_lt m (k + 1) && isa s.schema m ty)
    joined m =
        either (m == k) (λ b. ((nat_lt m k && isa s.schema m ty) || (b && isa s.schema k ty)) ≡ (nat_lt m (k + 1) && isa s.schema m ty))
        (λ e. subst (λ (n : ℕ). ((nat_lt m n && isa s.schema m ty) || isa s.schema n ty) ≡ (nat_lt m (n + 1) && isa s.schema m ty)) (is-number m k e)
        (ap (λ (b : Bool). (b && isa s.schema m ty) || isa s.schema m ty) (itself m) ∙ ap (λ (b : Bool). b && isa s.schema m ty) (sym (next m))))
        (λ e. first-only (nat_lt m k) (isa s.schema m ty) ∙ ap (λ (b : Bool). b && isa s.schema m ty) (skip m e))
      where
        itself : (n : ℕ) → nat_lt n n ≡ false
        itself n = grind (arith, nat_tests)

        next : (n : ℕ) → nat_lt n (n + 1) ≡ true
        next n = grind (arith, nat_tests)

        skip : (n : ℕ) → (n == k) ≡ false → nat_lt n k ≡ nat_lt n (k + 1)
        skip n e = grind (arith, nat_tests)

        first-only : (a b : Bool) → ((a && b) || false) ≡ (a && b)
        first-only true true = refl
        first-only true false = refl
        first-only false b = refl

-- the entities of all types
pub all-types : (s : State) (ty : ℕ) → IsNearlyLegal s → filter (λ e. nat_lt e.ty (length s.schema.names) && isa s.schema e.ty ty) s.live ≡ entities_of s ty
all-types s ty legal =
    agree-all (is_counted s) (λ e. nat_lt e.ty (length s.schema.names) && isa s.schema e.ty ty) (λ e. isa s.schema e.ty ty) s.live
    (λ e h. ap (λ (b : Bool). b && isa s.schema e.ty ty) (left (nat_lt e.ty (length s.schema.names)) (nat_lt 0 e.serial && nat_le e.serial (slice_index s.last e.ty)) h)) legal.counted

-- no entity is of a type that isn't there
pub none-of : (s : State) (ty : ℕ) → IsNearlyLegal s → length s.schema.names ≤ ty → filter (λ e. e.ty == ty) s.live ≡ []
none-of s ty legal h =
    agree-all (is_counted s) (λ e. e.ty == ty) (λ e. false) s.live
    (λ e k. apart e.ty (length s.schema.names) (left (nat_lt e.ty (length s.schema.names)) (nat_lt 0 e.serial && nat_le e.serial (slice_index s.last e.ty)) k) h) legal.counted ∙ nothing s.live
  where
    apart : (m n : ℕ) → nat_lt m n ≡ true → n ≤ ty → (m == ty) ≡ false
    apart m n k l = grind (arith, nat_tests)

    nothing : (es : List EntityId) → filter (λ e. false) es ≡ []
    nothing [] = refl
    nothing (e ∷ es) = nothing es

number-itself : (n : ℕ) → (n == n) ≡ true
number-itself n = grind (arith, nat_tests)

more-than : (m n : ℕ) → (m == n) ≡ false → m ≤ n → m + 1 ≤ n
more-than m n e h = grind (arith, nat_tests)

-- an extent is among those of a type that its type is of
extent-in : (schema : Outline) (ty other : ℕ) → isa schema other ty ≡ true → (from many : ℕ) → from ≤ other → other < from + many
    → IsTrue (among (map (store Extent) (filter (λ t. isa schema t ty) (range_with_len from many))) (store Extent other))
extent-in schema ty other is from zero l m = absurd (omega (arith, l, m))
extent-in schema ty other is from (suc many) l m =
    let rest : List ℕ = filter (λ t. isa schema t ty) (range_with_len (from + 1) many) in
    either (from == other) (λ b. IsTrue (among (map (store Extent) (cond (isa schema from ty) (from ∷ rest) rest)) (store Extent other)))
    (λ e.
    let same = is-number from other e in
    subst (λ (b : Bool). IsTrue (among (map (store Extent) (cond b (from ∷ rest) rest)) (store Extent other))) (sym (ap (λ (n : ℕ). isa schema n ty) same ∙ is))
    (first-of (store Extent from == store Extent other) (among (map (store Extent) rest) (store Extent other)) (subst (λ (n : ℕ). (store Extent n == store Extent other) ≡ true) (sym same) (number-itself (store Extent other)))))
    (λ e.
    let later = extent-in schema ty other is (from + 1) many (more-than from other e l) (omega (arith, m)) in
    either (isa schema from ty) (λ b. IsTrue (among (map (store Extent) (cond b (from ∷ rest) rest)) (store Extent other)))
    (λ f. one-of (store Extent from == store Extent other) (among (map (store Extent) rest) (store Extent other)) later) (λ f. later))

pub extent-among : (schema : Outline) (ty other : ℕ) → other < length schema.names → isa schema other ty ≡ true → AreAmong (store Extent other ∷ []) (extents schema ty)
extent-among schema ty other h is n m =
    subst (λ (k : ℕ). IsTrue (among (extents schema ty) k)) (only n (or-false (store Extent other == n) m)) (extent-in schema ty other is 0 (length schema.names) (omega arith) (omega (arith, h)))
  where
    or-false : (b : Bool) → (b || false) ≡ true → b ≡ true
    or-false true k = refl
    or-false false k = k

    only : (k : ℕ) → (store Extent other == k) ≡ true → store Extent other ≡ k
    only k e = is-number (store Extent other) k e

and-true : (a : Bool) → (a && true) ≡ a
and-true true = refl
and-true false = refl

and-false : (a : Bool) → (a && false) ≡ false
and-false true = refl
and-false false = refl

-- where a type is of another one, its entities are all taken, and else none
pub all-of-type : (k : ℕ) (b : Bool) (es : List EntityId) → b ≡ true → filter (λ e. e.ty == k) es ≡ filter (λ e. (e.ty == k) && b) es
all-of-type k b es h = subst (λ (c : Bool). filter (λ (e : EntityId). e.ty == k) es ≡ filter (λ e. (e.ty == k) && c) es) (sym h) (agree (λ e. e.ty == k) (λ e. (e.ty == k) && true) es (λ e. sym (and-true (e.ty == k))))

pub none-of-type : (k : ℕ) (b : Bool) (es : List EntityId) → b ≡ false → filter (λ e. (e.ty == k) && b) es ≡ []
none-of-type k b es h = ap (λ (c : Bool). filter (λ (e : EntityId). (e.ty == k) && c) es) h ∙ agree (λ e. (e.ty == k) && false) (λ e. false) es (λ e. and-false (e.ty == k)) ∙ nothing es
  where
    nothing : (xs : List EntityId) → filter (λ e. false) xs ≡ []
    nothing [] = refl
    nothing (x ∷ xs) = nothing xs
