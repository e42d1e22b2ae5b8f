-- A value that is put into a set, or taken out of it: what calls on the stores give of a state.
use Rattle.std.proofs.Common.{◌≡◌, ℕ, ◌+◌, ◌*◌, ◌<◌, ◌≤◌, ◌==◌, Bool, true, false, List, [], ◌∷◌, length, slice_index_or, Option, Some, None, Result, Ok, Err, refl, sym, ap, ◌∙◌, subst, arith}
use Rattle.std.specs.Prelude.{⊤, not, is_some, if◌then◌else◌}
use Rattle.std.specs.List.{All}
use Rattle.st_values.specs.declared.value.EntityId.{EntityId}
use Rattle.st_values.specs.declared.value.Kind.{Kind}
use Rattle.st_values.specs.declared.value.Kind.TheVariants as kind
use Rattle.st_values.specs.declared.value.Value.{Value}
use Rattle.st_values.specs.declared.value.Value.TheVariants.{Null, Int, Bool as Truth, Text, Entity}
use Rattle.st_values.specs.Order.{same_value}
use Rattle.st_values.proofs.Tests.{either}
use Rattle.st_page.specs.declared.fault.PageFault.{PageFault}
use Rattle.st_lattice.specs.declared.attribute.Attribute.{Attribute}
use Rattle.st_lattice.specs.declared.stores.StoreKind.TheVariants.{Set}
use Rattle.st_lattice.specs.Outline.{attribute}
use Rattle.st_lattice.specs.Stores.{store}
use Rattle.st_keys.specs.Keys.{Fits, IsEntity}
use Rattle.st_pages.specs.declared.places.Place.{Place}
use Rattle.st_pages.specs.Attempt.{Array, Attempt, over}
use Rattle.st_pages.specs.Places.{AscendByStore}
use Rattle.st_store.specs.Rows.{row_with, with_row, without_row}
use Rattle.st_store.proofs.Ordering.{same-bytes}
use Rattle.st_catalog.specs.Stores.{AreOf}
use Rattle.st_counts.specs.Counts.{turned_count}
use Rattle.st_index.specs.Turned.{turned_places}
use Rattle.st_index.specs.Noted.{rows_for}
use Rattle.st_index.proofs.Called.{PageLaws}
use Rattle.st_database.specs.Database.{IsDatabase, View, noted_view, with_rows}
use Rattle.st_database.specs.Touches.{Leads, Touches, added_by, changed_by, is_row, pairs_added, pairs_changed, removed_by, stores_at}
use Rattle.st_database.proofs.Frames.{StoreLaws, database-alike}
use Rattle.st_database.proofs.Touching.{AreAmong, touches-more, touches-then}
use Rattle.st_state.specs.State.{State, has_value, member_added, member_taken, same_triple}
use Rattle.st_state.specs.Calls.{Add, Take, Call, changed_stores}
use Rattle.st_state.specs.Legal.{IsNearlyLegal}
use Rattle.st_state.specs.Rows.{rows_added, rows_changed}
use Rattle.st_standing.specs.Standing.{FitsOne, IsOfProgram, NearlyStandsAt, pair_bytes, rows_at, view_of}
use Rattle.st_standing.proofs.Others.{rows_at-set}
use Rattle.st_standing.proofs.RowLaws.{RowLaws}
use Rattle.st_standing.proofs.Sets.{row_with-member, value_rows-added, value_rows-taken}
use Rattle.st_standing.proofs.Turning.{added-nothing, noted-added, noted-taken, taken-nothing}
use Rattle.st_standing.proofs.ValueAt.{added-others, taken-others}
use Rattle.std.proofs.lemmas.List.Elements.{All-filter}
use Rattle.st_state.proofs.Kept.{filter-nearly}
use Rattle.st_edits.specs.Steps.{IsSet, Left, Takes, Turns}
use Rattle.st_schema_bytes.specs.SchemaBytes.{IsReadable}
use Rattle.st_edits.proofs.Setting.{turned-few}
use Rattle.st_edits.proofs.Behind.{IsKept, aside-has, is-number, kept-places, rows-behind, set-alone}

-- a value that fits has a row, and isn't null
pub record HasRow (v : Value) : Type 0 where
  pub from_null : same_value Null v ≡ false
  pub to_null : same_value v Null ≡ false
  pub rows : rows_for v ≡ 1

pub has-row : (k : Kind) (v : Value) → Fits k v → HasRow v
has-row kind.Int Null h = absurd h
has-row kind.Bool Null h = absurd h
has-row (kind.Text limit) Null h = absurd h
has-row (kind.Entity ty) Null h = absurd h
has-row k (Int i) h = record { from_null = refl; to_null = refl; rows = refl }
has-row k (Truth b) h = record { from_null = refl; to_null = refl; rows = refl }
has-row k (Text t) h = record { from_null = refl; to_null = refl; rows = refl }
has-row k (Entity x) h = record { from_null = refl; to_null = refl; rows = refl }

times-one : (m n k : ℕ) → n ≡ 1 → m ≤ k → m * n ≤ k
times-one m n k e h = subst (λ z. m * z ≤ k) (sym e) (omega (arith, h))

module _ {Self : Type 0} (attempt : Self → Attempt) (follows : Self → Self → Type 0) (asked : Self → Self → (ℕ → Bool) → (ℕ → Bool) → ℕ → Type 0) (page_laws : PageLaws attempt follows asked)
    (form : Place → Array → List ℕ → List (List ℕ) → Type 0) (reach : Place → Array → ℕ → Bool) (stores : StoreLaws form reach) (array : Array)
    (s t : State) (call : Call) (places : List Place) (legal : IsNearlyLegal t) (program : IsOfProgram t) (schema : t.schema ≡ s.schema) (e : EntityId) (number : ℕ) (a : Attribute) (small : number < 65536)
    (f : attribute s.schema number ≡ Some a) (of : AreOf s.schema places) (kept : All (λ p. IsKept number a small p.store) places) (st : ℕ) (is : st ≡ store Set number) where
  -- the stores of calls are those of the change
  abbrev all : List ℕ
  all = st ∷ stores_at (turned_places number places)

  more : AreAmong all (changed_stores s.schema e number)
  more = aside-has number a small s.schema f places e st is

  alone : AreAmong (st ∷ []) (changed_stores s.schema e number)
  alone x m = more x (set-alone number a small places st x m)

  touched-one : (x y : Self) (m k up most : ℕ) → m ≤ most → k ≤ up → Touches (asked x y) (attempt x) (attempt y) array (st ∷ []) true m k → Touches (asked x y) (attempt x) (attempt y) array (changed_stores s.schema e number) true most up
  touched-one x y m k up most h l touches = touches-more attempt follows asked page_laws x y array (st ∷ []) (changed_stores s.schema e number) true true m most k up alone (λ z. z) h l touches

  touched-two : (x y z : Self) → follows x y → follows y z → (m n k l most up : ℕ) → m + n ≤ most → k + l ≤ up → Touches (asked x y) (attempt x) (attempt y) array (st ∷ []) true m k
      → Touches (asked y z) (attempt y) (attempt z) array (stores_at (turned_places number places)) true n l → Touches (asked x z) (attempt x) (attempt z) array (changed_stores s.schema e number) true most up
  touched-two x y z xy yz m n k l most up h g first second =
      touches-more attempt follows asked page_laws x z array all (changed_stores s.schema e number) true true (m + n) most (k + l) up more (λ w. w) h g
      (touches-then attempt follows asked page_laws x y z xy yz array (st ∷ []) (stores_at (turned_places number places)) true true m n k l first second)

  -- a view that is alike in all places is that of the state
  pub stands : (view : View) (x : Array) → ((at : ℕ) → IsKept number a small at → rows_at t at ≡ view.rows at) → ((at : ℕ) → (view_of t).last at ≡ view.last at) → IsDatabase form x s.schema places view → NearlyStandsAt form x places t
  stands view x rows last d = record {
    legal = legal;
    program = program;
    database = subst (λ o. IsDatabase form x o places (view_of t)) (sym schema)
        (database-alike form reach stores x s.schema places view (view_of t) (λ k i l. let q = slice_index_or places k i in (rows q.store (kept k i l), last q.store)) d);
  }

-- ---- a value more

module _ {Self : Type 0} (attempt : Self → Attempt) (follows : Self → Self → Type 0) (asked : Self → Self → (ℕ → Bool) → (ℕ → Bool) → ℕ → Type 0) (page_laws : PageLaws attempt follows asked)
    (form : Place → Array → List ℕ → List (List ℕ) → Type 0) (reach : Place → Array → ℕ → Bool) (stores : StoreLaws form reach) (array : Array) (laws : RowLaws)
    (s : State) (places : List Place) (legal : IsNearlyLegal s) (program : IsOfProgram s) (e : EntityId) (entity : IsEntity e) (number : ℕ) (a : Attribute) (small : number < 65536) (v : Value) (fits : Fits a.kind v)
    (f : attribute s.schema number ≡ Some a) (many : a.many ≡ true) (of : AreOf s.schema places) (ascend : AscendByStore places) (none : a.column ≡ false) (readable : IsReadable s.schema) (place : Place) (set : IsSet number a place) where
  abbrev pair : List ℕ
  pair = pair_bytes a.kind v e

  kept-all : All (λ p. IsKept number a small p.store) places
  kept-all = kept-places number a small s.schema f none legal.orderly.next places of legal.orderly.few_types

  few : length (turned_places number places) ≤ turned_count a
  few = turned-few s.schema places of ascend readable legal.orderly number a f

  had : row_with place.key pair (rows_at s place.store) ≡ (if has_value s number e v then Some pair else None)
  had = (λ i. row_with (set.key i) pair ((ap (rows_at s) set.store_is ∙ rows_at-set s number a f small) i)) ∙ row_with-member laws s number a f legal program e v fits entity

  module _ (legal-added : IsNearlyLegal (member_added s number e v)) (program-added : IsOfProgram (member_added s number e v))
      (adds : has_value s number e v ≡ false → 1 + turned_count a ≤ rows_added s (member_added s number e v)) (changes : has_value s number e v ≡ false → 1 + turned_count a ≤ rows_changed s (member_added s number e v)) where
    abbrev t : State
    t = member_added s number e v

    abbrev mid : View
    mid = with_rows place.store (with_row place.key pair (rows_at s place.store)) (view_of s)

    set-added : rows_at t (store Set number) ≡ with_row place.key pair (rows_at s place.store)
    set-added =
        rows_at-set t number a f small ∙ value_rows-added laws s number a f legal program e v fits entity
        ∙ sym (λ i. with_row (set.key i) pair ((ap (rows_at s) set.store_is ∙ rows_at-set s number a f small) i))

    few-added : added_by place.key pair (rows_at s place.store) ≤ rows_added s t
    few-added = subst (λ (o : Option (List ℕ)). (if is_some o then 0 else 1) ≤ rows_added s t) (sym had)
        (either (has_value s number e v) (λ h. has_value s number e v ≡ h → (if is_some (if h then Some pair else None) then 0 else 1) ≤ rows_added s t) (λ _ h. omega arith) (λ _ h. let x = adds h in omega (arith, x)) refl)

    few-changed : changed_by place.key pair (rows_at s place.store) ≤ rows_changed s t
    few-changed = subst (λ (o : Option (List ℕ)). (if is_row pair o then 0 else 1) ≤ rows_changed s t) (sym had)
        (either (has_value s number e v) (λ h. has_value s number e v ≡ h → (if is_row pair (if h then Some pair else None) then 0 else 1) ≤ rows_changed s t)
        (λ _ h. subst (λ b. (if b then 0 else 1) ≤ rows_changed s t) (sym (same-bytes pair pair refl)) (omega arith)) (λ _ h. let x = changes h in omega (arith, x)) refl)

    abbrev Gives : Self → Self → Result Bool PageFault → Type 0
    Gives x z result = Turns (asked x z) (attempt x) (attempt z) array s (Add e number v) (Left form (attempt z) array places s (Add e number v) (not (has_value s number e v))) result

    abbrev First : Self → Self → Result Bool PageFault → Type 0
    First x y result = Leads form (asked x y) (attempt x) (attempt y) array s.schema places mid (λ was. was ≡ is_some (row_with place.key pair (rows_at s place.store))) (place.store ∷ []) true
        (17 * added_by place.key pair (rows_at s place.store)) (34 * changed_by place.key pair (rows_at s place.store)) result

    one : (x y : Self) (result : Result Bool PageFault) → First x y result → Touches (asked x y) (attempt x) (attempt y) array (changed_stores s.schema e number) true (17 * rows_added s t) (34 * rows_changed s t)
    one x y result l =
        touched-one attempt follows asked page_laws form reach stores array s t (Add e number v) places legal-added program-added refl e number a small f of kept-all place.store set.store_is x y
        (17 * added_by place.key pair (rows_at s place.store)) (34 * changed_by place.key pair (rows_at s place.store)) (34 * rows_changed s t) (17 * rows_added s t)
        (let k = few-added in omega (arith, k)) (let k = few-changed in omega (arith, k)) l.touches

    -- the row was not put in
    pub add-fault : (x y : Self) (fault : PageFault) → First x y (Err fault) → Gives x y (Err fault)
    add-fault x y fault l = record { answers = tt; sound = l.sound; early = λ h. refl; touches = one x y (Err fault) l }

    there : is_some (row_with place.key pair (rows_at s place.store)) ≡ has_value s number e v
    there = ap is_some had ∙ either (has_value s number e v) (λ h. is_some (if h then Some pair else None) ≡ h) (λ _. refl) (λ _. refl)

    -- it was there
    pub add-there : (x y : Self) → First x y (Ok true) → Gives x y (Ok false)
    add-there x y l =
        let h : has_value s number e v ≡ true = sym (l.answers.0 ∙ there) in
        let same : t ≡ s = added-nothing s number e v h in
        record {
          answers = (
            ap not (sym h),
            stands attempt follows asked page_laws form reach stores array s t (Add e number v) places legal-added program-added refl e number a small f of kept-all place.store set.store_is mid (over (attempt y) array)
                (λ at k. either (at == place.store) (λ b. rows_at t at ≡ (if b then with_row place.key pair (rows_at s place.store) else rows_at s at))
                (λ m. ap (rows_at t) (is-number at place.store m ∙ set.store_is) ∙ set-added) (λ m. ap (λ (u : State). rows_at u at) same)) (λ at. refl) l.answers.1,
          );
          sound = tt;
          early = tt;
          touches = one x y (Ok true) l;
        }

    abbrev Second : Self → Self → Result Unit PageFault → Type 0
    Second y z result = Leads form (asked y z) (attempt y) (attempt z) array s.schema places (if same_value Null v then mid else noted_view number a.kind e Null v mid) (λ done. ⊤)
        (stores_at (turned_places number places)) true (17 * pairs_added number places Null v) (34 * pairs_changed number places Null v) result

    more-pairs : pairs_added number places Null v ≤ turned_count a
    more-pairs =
        let r = has-row a.kind v fits in
        subst (λ b. (if b then 0 else length (turned_places number places) * rows_for v) ≤ turned_count a) (sym r.from_null) (times-one (length (turned_places number places)) (rows_for v) (turned_count a) r.rows few)

    more-changes : pairs_changed number places Null v ≤ turned_count a
    more-changes =
        let r = has-row a.kind v fits in
        subst (λ b. (if b then 0 else length (turned_places number places) * (0 + rows_for v)) ≤ turned_count a) (sym r.from_null)
        (times-one (length (turned_places number places)) (0 + rows_for v) (turned_count a) (ap (λ n. 0 + n) r.rows) few)

    two : (x y z : Self) → follows x y → follows y z → First x y (Ok false) → (result : Result Unit PageFault) → Second y z result
        → Touches (asked x z) (attempt x) (attempt z) array (changed_stores s.schema e number) true (17 * rows_added s t) (34 * rows_changed s t)
    two x y z xy yz l result m =
        let h : has_value s number e v ≡ false = sym (l.answers.0 ∙ there) in
        let p = adds h in
        let q = changes h in
        let i = more-pairs in
        let j = more-changes in
        let new : added_by place.key pair (rows_at s place.store) ≤ 1 = either (is_some (row_with place.key pair (rows_at s place.store))) (λ b. (if b then 0 else 1) ≤ 1) (λ _. omega arith) (λ _. omega arith) in
        let other : changed_by place.key pair (rows_at s place.store) ≤ 1 = either (is_row pair (row_with place.key pair (rows_at s place.store))) (λ b. (if b then 0 else 1) ≤ 1) (λ _. omega arith) (λ _. omega arith) in
        touched-two attempt follows asked page_laws form reach stores array s t (Add e number v) places legal-added program-added refl e number a small f of kept-all place.store set.store_is x y z xy yz
        (17 * added_by place.key pair (rows_at s place.store)) (17 * pairs_added number places Null v) (34 * changed_by place.key pair (rows_at s place.store)) (34 * pairs_changed number places Null v) (17 * rows_added s t) (34 * rows_changed s t)
        (omega (arith, p, i, new)) (omega (arith, q, j, other)) l.touches m.touches

    pub add-stopped : (x y z : Self) → follows x y → follows y z → First x y (Ok false) → (fault : PageFault) → Second y z (Err fault) → Gives x z (Err fault)
    add-stopped x y z xy yz l fault m = record { answers = tt; sound = m.sound; early = λ h. refl; touches = two x y z xy yz l (Err fault) m }

    pub add-new : (x y z : Self) → follows x y → follows y z → First x y (Ok false) → (done : Unit) → Second y z (Ok done) → Gives x z (Ok true)
    add-new x y z xy yz l done m =
        let h : has_value s number e v ≡ false = sym (l.answers.0 ∙ there) in
        let r = has-row a.kind v fits in
        record {
          answers = (
            ap not (sym h),
            stands attempt follows asked page_laws form reach stores array s t (Add e number v) places legal-added program-added refl e number a small f of kept-all place.store set.store_is (noted_view number a.kind e Null v mid) (over (attempt z) array)
                (rows-behind s t legal number a small f many refl refl (λ other p. added-others number other p s e v) e Null v place.store set.store_is (with_row place.key pair (rows_at s place.store)) set-added
                (noted-added laws.width laws.pair_width laws.pairs s number a f legal program e entity v fits h)) (λ at. refl)
                (subst (λ b. IsDatabase form (over (attempt z) array) s.schema places (if b then mid else noted_view number a.kind e Null v mid)) r.from_null m.answers.1),
          );
          sound = tt;
          early = tt;
          touches = two x y z xy yz l (Ok done) m;
        }

-- ---- a value fewer

module _ {Self : Type 0} (attempt : Self → Attempt) (follows : Self → Self → Type 0) (asked : Self → Self → (ℕ → Bool) → (ℕ → Bool) → ℕ → Type 0) (page_laws : PageLaws attempt follows asked)
    (form : Place → Array → List ℕ → List (List ℕ) → Type 0) (reach : Place → Array → ℕ → Bool) (stores : StoreLaws form reach) (array : Array) (laws : RowLaws)
    (s : State) (places : List Place) (legal : IsNearlyLegal s) (program : IsOfProgram s) (e : EntityId) (entity : IsEntity e) (number : ℕ) (a : Attribute) (small : number < 65536) (v : Value) (fits : Fits a.kind v)
    (f : attribute s.schema number ≡ Some a) (many : a.many ≡ true) (of : AreOf s.schema places) (ascend : AscendByStore places) (none : a.column ≡ false) (readable : IsReadable s.schema) (place : Place) (set : IsSet number a place) where
  abbrev old_pair : List ℕ
  old_pair = pair_bytes a.kind v e

  kept-these : All (λ p. IsKept number a small p.store) places
  kept-these = kept-places number a small s.schema f none legal.orderly.next places of legal.orderly.few_types

  few-these : length (turned_places number places) ≤ turned_count a
  few-these = turned-few s.schema places of ascend readable legal.orderly number a f

  held : row_with place.key old_pair (rows_at s place.store) ≡ (if has_value s number e v then Some old_pair else None)
  held = (λ i. row_with (set.key i) old_pair ((ap (rows_at s) set.store_is ∙ rows_at-set s number a f small) i)) ∙ row_with-member laws s number a f legal program e v fits entity

  abbrev fewer : State
  fewer = member_taken s number e v

  fewer-legal : IsNearlyLegal fewer
  fewer-legal = filter-nearly s (λ t. not (same_triple (record { attribute = number; entity = e; value = v }) t)) legal

  fewer-program : IsOfProgram fewer
  fewer-program = record {
    entities = program.entities;
    values = All-filter (λ t. not (same_triple (record { attribute = number; entity = e; value = v }) t)) (FitsOne s.schema) s.triples program.values;
    serials = program.serials;
  }

  module _ (most : ℕ) (changes : has_value s number e v ≡ true → 1 + turned_count a ≤ most) where
    abbrev left_view : View
    left_view = with_rows place.store (without_row place.key old_pair (rows_at s place.store)) (view_of s)

    set-taken : rows_at fewer (store Set number) ≡ without_row place.key old_pair (rows_at s place.store)
    set-taken =
        rows_at-set fewer number a f small ∙ value_rows-taken laws s number a f legal program e v fits entity
        ∙ sym (λ i. without_row (set.key i) old_pair ((ap (rows_at s) set.store_is ∙ rows_at-set s number a f small) i))

    few-removed : removed_by place.key old_pair (rows_at s place.store) ≤ most
    few-removed = subst (λ (o : Option (List ℕ)). (if is_some o then 1 else 0) ≤ most) (sym held)
        (either (has_value s number e v) (λ h. has_value s number e v ≡ h → (if is_some (if h then Some old_pair else None) then 1 else 0) ≤ most) (λ _ h. let x = changes h in omega (arith, x)) (λ _ h. omega arith) refl)

    abbrev Leaves : Self → Self → Result Bool PageFault → Type 0
    Leaves x z result = Takes form (asked x z) (attempt x) (attempt z) array places s e number v most result

    abbrev Out : Self → Self → Result Bool PageFault → Type 0
    Out x y result = Leads form (asked x y) (attempt x) (attempt y) array s.schema places left_view (λ was. was ≡ is_some (row_with place.key old_pair (rows_at s place.store))) (place.store ∷ []) true
        0 (34 * removed_by place.key old_pair (rows_at s place.store)) result

    out-touched : (x y : Self) (result : Result Bool PageFault) → Out x y result → Touches (asked x y) (attempt x) (attempt y) array (changed_stores s.schema e number) true 0 (34 * most)
    out-touched x y result l =
        touched-one attempt follows asked page_laws form reach stores array s fewer (Take e number v) places fewer-legal fewer-program refl e number a small f of kept-these place.store set.store_is x y
        0 (34 * removed_by place.key old_pair (rows_at s place.store)) (34 * most) 0
        (omega arith) (let k = few-removed in omega (arith, k)) l.touches

    -- the row was not taken out
    pub take-fault : (x y : Self) (fault : PageFault) → Out x y (Err fault) → Leaves x y (Err fault)
    take-fault x y fault l = record { answers = tt; sound = l.sound; touches = out-touched x y (Err fault) l }

    was-there : is_some (row_with place.key old_pair (rows_at s place.store)) ≡ has_value s number e v
    was-there = ap is_some held ∙ either (has_value s number e v) (λ h. is_some (if h then Some old_pair else None) ≡ h) (λ _. refl) (λ _. refl)

    -- it was not there
    pub take-none : (x y : Self) → Out x y (Ok false) → Leaves x y (Ok false)
    take-none x y l =
        let h : has_value s number e v ≡ false = sym (l.answers.0 ∙ was-there) in
        let same : fewer ≡ s = taken-nothing s number e v h in
        record {
          answers = (
            sym h,
            stands attempt follows asked page_laws form reach stores array s fewer (Take e number v) places fewer-legal fewer-program refl e number a small f of kept-these place.store set.store_is left_view (over (attempt y) array)
                (λ at k. either (at == place.store) (λ b. rows_at fewer at ≡ (if b then without_row place.key old_pair (rows_at s place.store) else rows_at s at))
                (λ m. ap (rows_at fewer) (is-number at place.store m ∙ set.store_is) ∙ set-taken) (λ m. ap (λ (u : State). rows_at u at) same)) (λ at. refl) l.answers.1,
          );
          sound = tt;
          touches = out-touched x y (Ok false) l;
        }

    abbrev OutNoted : Self → Self → Result Unit PageFault → Type 0
    OutNoted y z result = Leads form (asked y z) (attempt y) (attempt z) array s.schema places (if same_value v Null then left_view else noted_view number a.kind e v Null left_view) (λ done. ⊤)
        (stores_at (turned_places number places)) true (17 * pairs_added number places v Null) (34 * pairs_changed number places v Null) result

    no-pairs : pairs_added number places v Null ≤ 0
    no-pairs =
        let r = has-row a.kind v fits in
        subst (λ b. (if b then 0 else length (turned_places number places) * rows_for Null) ≤ 0) (sym r.to_null) (omega arith)

    fewer-pairs : pairs_changed number places v Null ≤ turned_count a
    fewer-pairs =
        let r = has-row a.kind v fits in
        subst (λ b. (if b then 0 else length (turned_places number places) * (rows_for v + 0)) ≤ turned_count a) (sym r.to_null)
        (times-one (length (turned_places number places)) (rows_for v + 0) (turned_count a) (ap (λ n. n + 0) r.rows) few-these)

    both-touched : (x y z : Self) → follows x y → follows y z → Out x y (Ok true) → (result : Result Unit PageFault) → OutNoted y z result
        → Touches (asked x z) (attempt x) (attempt z) array (changed_stores s.schema e number) true 0 (34 * most)
    both-touched x y z xy yz l result m =
        let h : has_value s number e v ≡ true = sym (l.answers.0 ∙ was-there) in
        let q = changes h in
        let i = no-pairs in
        let j = fewer-pairs in
        let other : removed_by place.key old_pair (rows_at s place.store) ≤ 1 = either (is_some (row_with place.key old_pair (rows_at s place.store))) (λ b. (if b then 1 else 0) ≤ 1) (λ _. omega arith) (λ _. omega arith) in
        touched-two attempt follows asked page_laws form reach stores array s fewer (Take e number v) places fewer-legal fewer-program refl e number a small f of kept-these place.store set.store_is x y z xy yz
        0 (17 * pairs_added number places v Null) (34 * removed_by place.key old_pair (rows_at s place.store)) (34 * pairs_changed number places v Null) 0 (34 * most)
        (omega (arith, i)) (omega (arith, q, j, other)) l.touches m.touches

    pub take-stopped : (x y z : Self) → follows x y → follows y z → Out x y (Ok true) → (fault : PageFault) → OutNoted y z (Err fault) → Leaves x z (Err fault)
    take-stopped x y z xy yz l fault m = record { answers = tt; sound = m.sound; touches = both-touched x y z xy yz l (Err fault) m }

    pub take-out : (x y z : Self) → follows x y → follows y z → Out x y (Ok true) → (done : Unit) → OutNoted y z (Ok done) → Leaves x z (Ok true)
    take-out x y z xy yz l done m =
        let h : has_value s number e v ≡ true = sym (l.answers.0 ∙ was-there) in
        let r = has-row a.kind v fits in
        record {
          answers = (
            sym h,
            stands attempt follows asked page_laws form reach stores array s fewer (Take e number v) places fewer-legal fewer-program refl e number a small f of kept-these place.store set.store_is (noted_view number a.kind e v Null left_view) (over (attempt z) array)
                (rows-behind s fewer legal number a small f many refl refl (λ other p. taken-others number other p s e v) e v Null place.store set.store_is (without_row place.key old_pair (rows_at s place.store)) set-taken
                (noted-taken laws.width laws.pair_width laws.pairs s number a f legal program e entity v fits)) (λ at. refl)
                (subst (λ b. IsDatabase form (over (attempt z) array) s.schema places (if b then left_view else noted_view number a.kind e v Null left_view)) r.to_null m.answers.1),
          );
          sound = tt;
          touches = both-touched x y z xy yz l (Ok done) m;
        }
