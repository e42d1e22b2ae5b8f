-- A row that no longer refers to an entity: what the steps of it give of a state.
use Rattle.std.proofs.Common.{◌≡◌, ℕ, ◌+◌, ◌*◌, ◌≤◌, ◌||◌, Bool, true, false, cond, List, [], ◌∷◌, ◌++◌, Option, Some, Result, Ok, Err, IsTrue, IfOk, refl, sym, ap, ◌∙◌, subst, arith, true≢false}
use Rattle.std.specs.Prelude.{◌==◌, ⊤, not, filter, flat_map, map}
use Rattle.std.specs.List.{All, list_all, list_any}
use Rattle.std.proofs.lemmas.List.Folds.{list_any-append}
use Rattle.st_page.specs.declared.fault.PageFault.{PageFault}
use Rattle.st_page.specs.declared.fault.PageFault.TheVariants.{Memory}
use Rattle.st_values.specs.declared.value.EntityId.{EntityId}
use Rattle.st_values.specs.declared.value.Kind.{Kind}
use Rattle.st_values.specs.declared.value.Value.{Value}
use Rattle.st_values.specs.declared.value.Value.TheVariants.{Entity, Null}
use Rattle.st_values.specs.Order.{same_entity, same_value}
use Rattle.st_values.proofs.Tests.{either, not-true, other-of}
use Rattle.st_lattice.specs.declared.attribute.Attribute.{Attribute}
use Rattle.st_lattice.specs.declared.stores.StoreKind.TheVariants.{Extent}
use Rattle.st_lattice.specs.Lattice.{attributes_in}
use Rattle.st_lattice.specs.Outline.{Outline}
use Rattle.st_lattice.specs.Stores.{deleted, store}
use Rattle.st_rows.specs.declared.field.Field.TheVariants.{Cell}
use Rattle.st_rows.specs.Rows.{AreHeld, HoldsInCell, cell_of}
use Rattle.st_pages.specs.declared.places.Place.{Place}
use Rattle.st_pages.specs.Attempt.{Agrees, Array, Attempt, over}
use Rattle.st_pages.specs.Reading.{OfDamage}
use Rattle.st_state.specs.declared.triple.Triple.{Triple}
use Rattle.st_state.specs.State.{State, is_live, value_at}
use Rattle.st_state.specs.Legal.{IsNearlyLegal}
use Rattle.st_state.specs.Rows.{entity_row}
use Rattle.st_state.proofs.Changed.{number-is}
use Rattle.st_state.proofs.Members.{all-members}
use Rattle.st_store.specs.Stores.{among}
use Rattle.st_store.proofs.Ordering.{filter-none}
use Rattle.st_index.proofs.Called.{PageLaws}
use Rattle.st_counts.proofs.Tallies.{none-any}
use Rattle.st_database.specs.Database.{IsDatabase, with_rows}
use Rattle.st_database.specs.Touches.{Leads, Touches, added_by, changed_by}
use Rattle.st_database.proofs.Touching.{AreAmong, among-first, touches-more, touches-nothing, touches-then}
use Rattle.st_standing.specs.Standing.{NearlyStandsAt, extent_rows, rows_at, view_of}
use Rattle.st_standing.proofs.RowLaws.{RowLaws}
use Rattle.st_lookups.specs.Looks.{is_cell}
use Rattle.st_edits.specs.Values.{its_row, put_view}
use Rattle.st_removals.specs.Clears.{Clears, IsLess, tally}
use Rattle.st_removals.specs.Noting.{Notes}
use Rattle.st_removals.specs.Taken.{gone_cells, gone_rows, gone_stores, goes, is_unreferring, left_of, taken_all}
use Rattle.st_removals.proofs.Gone.{any-images, cell_triple, is_one}
use Rattle.st_removals.proofs.Cleared.{cleared-is, gone-cells, stays-is}
use Rattle.st_removals.proofs.RowLeft.{changed-one, cleared-nearly, cleared-program, less-cleared, none-refers, put-adds, put-left, view-left}
use Rattle.st_removals.proofs.AllCounted.{all-counted}
use Rattle.st_removals.proofs.Asked.{asked-among}

-- ---- cells

left-fits : (which : Option EntityId) (k : Kind) (v : Value) → HoldsInCell k v → HoldsInCell k (left_of which v)
left-fits which k v h = either (goes which v) (λ b. HoldsInCell k (cond b Null v)) (λ _. tt) (λ _. h)

-- what is left of cells that fields hold, they hold
pub held-left : (which : Option EntityId) (xs : List Attribute) (cells : List Value) → AreHeld (flat_map cell_of xs) cells → AreHeld (flat_map cell_of xs) (map (left_of which) cells)
held-left which [] [] h = tt
held-left which [] (c ∷ cs) h = absurd h
held-left which (x ∷ xs) cells h = by (λ cs. held-left which xs cs) (x.many || x.column) cells h
  where
    by : ((cs : List Value) → AreHeld (flat_map cell_of xs) cs → AreHeld (flat_map cell_of xs) (map (left_of which) cs)) → (b : Bool) (cs : List Value) → AreHeld (cond b [] (Cell x.kind ∷ []) ++ flat_map cell_of xs) cs → AreHeld (cond b [] (Cell x.kind ∷ []) ++ flat_map cell_of xs) (map (left_of which) cs)
    by rest true cs k = rest cs k
    by rest false [] k = absurd k
    by rest false (c ∷ cs) k = (left-fits which x.kind c k.0, rest cs k.1)

-- where no cell of a row is an entity, no single value of it is
pub none-there : (s : State) → IsNearlyLegal s → All (λ b. b.column ≡ false) s.schema.attributes → (other entity : EntityId) → list_any (goes (Some entity)) (entity_row s other).cells ≡ false
    → list_all (is_unreferring s.schema other entity) s.triples ≡ true
none-there s legal in_rows other entity none =
    let value : Attribute → Value = λ a. value_at a.number other s.triples in
    let refers : Attribute → Bool = λ a. same_value (value_at a.number other s.triples) (Entity entity) in
    let columns = filter is_cell (attributes_in s.schema other.ty) in
    let nothing : gone_cells s.schema other (Some entity) (entity_row s other).cells ≡ [] =
    gone-cells s legal in_rows other entity
    ∙ ap (map (cell_triple other value)) (filter-none refers (λ a. not (refers a)) (λ a h. not-true (refers a) h) columns
    (none-any refers columns (sym (any-images (goes (Some entity)) value columns) ∙ none))) in
    all-members (is_unreferring s.schema other entity) s.triples
    (λ t m. sym (stays-is s legal in_rows other entity t m) ∙ ap (λ gone. not (is_one gone t)) nothing)

-- ---- stores

among-both : (stores others : List ℕ) → AreAmong stores others → AreAmong (stores ++ others) others
among-both stores others more t h =
    either (among stores t) (λ _. IsTrue (among others t)) (λ k. more t k)
    (λ k. other-of (among stores t) (among others t) (sym (list_any-append (λ s. s == t) stores others) ∙ h) k)

pub one-among : (store : ℕ) (others : List ℕ) → IsTrue (among others store) → AreAmong (store ∷ []) others
one-among store others h t m =
    either (store == t) (λ b. (b || false) ≡ true → IsTrue (among others t)) (λ k _. subst (λ (n : ℕ). IsTrue (among others n)) (number-is store t k) h) (λ _ n. absurd (true≢false (sym n))) m

-- ---- what is given

same-less : (e : EntityId) (s : State) → IsLess e s s
same-less e s = record { schema = refl; live = refl; last = refl; deleted = refl; fewer = λ test h. h }

module _ {Self : Type 0} (attempt : Self → Attempt) (follows : Self → Self → Type 0) (asked : Self → Self → (ℕ → Bool) → (ℕ → Bool) → ℕ → Type 0) (page_laws : PageLaws attempt follows asked)
    (form : Place → Array → List ℕ → List (List ℕ) → Type 0) (array : Array) (places : List Place) (s : State) where
  abbrev Cleared : Self → Self → EntityId → EntityId → Outline → Result Unit PageFault → Type 0
  Cleared x y other entity schema result = Clears {A = Unit {0}} form (asked x y) (attempt x) (attempt y) array places entity s (λ t. IsTrue (list_all (is_unreferring schema other entity) t.triples)) result

  -- ---- where nothing is asked

  module _ (nothing : (x : Self) (got put : ℕ → Bool) → asked x x got put 0) (x : Self) (entity : EntityId) (right : State → Type 0) where
    touches-none : Touches (asked x x) (attempt x) (attempt x) array (deleted s.schema entity.ty) true 0 (34 * 0)
    touches-none =
        touches-more attempt follows asked page_laws x x array [] (deleted s.schema entity.ty) false true 0 0 0 (34 * 0) (λ t h. absurd (true≢false (sym h))) (λ h. absurd (true≢false (sym h))) (omega arith) (omega arith)
        (touches-nothing attempt follows asked nothing x array)

    -- want of memory
    pub clears-memory : Clears {A = Unit {0}} form (asked x x) (attempt x) (attempt x) array places entity s right (Err Memory)
    clears-memory = record { spent = 0; within = omega arith; touches = touches-none; sound = tt; answers = tt }

    -- nothing was to be done
    pub clears-nothing : NearlyStandsAt form (over (attempt x) array) places s → right s → (u : Unit {0}) → Clears {A = Unit {0}} form (asked x x) (attempt x) (attempt x) array places entity s right (Ok u)
    clears-nothing stands done u = record { spent = 0; within = omega arith; touches = touches-none; sound = tt; answers = (s, same-less entity s, stands, omega arith, done) }

  -- ---- behind a look

  module _ (entity : EntityId) (right : State → Type 0) (store : ℕ) (some : IsTrue (among (deleted s.schema entity.ty) store)) (x y : Self) (look : Touches (asked x y) (attempt x) (attempt y) array (store ∷ []) false 0 0) where
    pub clears-later : (z : Self) → follows x y → follows y z → (result : Result Unit PageFault) → Clears form (asked y z) (attempt y) (attempt z) array places entity s right result
        → Clears form (asked x z) (attempt x) (attempt z) array places entity s right result
    clears-later z xy yz result k = record {
      spent = k.spent;
      within = k.within;
      touches = touches-more attempt follows asked page_laws x z array (store ∷ deleted s.schema entity.ty) (deleted s.schema entity.ty) true true 0 0 (0 + 34 * k.spent) (34 * k.spent)
          (among-both (store ∷ []) (deleted s.schema entity.ty) (one-among store (deleted s.schema entity.ty) some)) (λ h. h) (omega arith) (omega arith)
          (touches-then attempt follows asked page_laws x y z xy yz array (store ∷ []) (deleted s.schema entity.ty) false true 0 0 0 (34 * k.spent) look k.touches);
      sound = k.sound;
      answers = k.answers;
    }

    pub clears-fault : (fault : PageFault) → OfDamage (λ page at. ⊥) fault → Clears {A = Unit {0}} form (asked x y) (attempt x) (attempt y) array places entity s right (Err fault)
    clears-fault fault sound = record {
      spent = 0;
      within = omega arith;
      touches = touches-more attempt follows asked page_laws x y array (store ∷ []) (deleted s.schema entity.ty) false true 0 0 0 (34 * 0)
          (one-among store (deleted s.schema entity.ty) some) (λ h. absurd (true≢false (sym h))) (omega arith) (omega arith) look;
      sound = sound;
      answers = tt;
    }

  -- ---- a row with null in place of the entity

  module _ (laws : RowLaws) (in_rows : All (λ b. b.column ≡ false) s.schema.attributes) (place : Place) (other entity : EntityId) (is : place.store ≡ store Extent other.ty) (live : is_live s entity ≡ true) (living : is_live s other ≡ true)
      (apart : same_entity other entity ≡ false) where
    abbrev T : State
    T = record s { triples = filter (is_unreferring s.schema other entity) s.triples }

    module _ (x : Self) (stands : NearlyStandsAt form (over (attempt x) array) places s) (has : list_any (goes (Some entity)) (entity_row s other).cells ≡ true) (left : List Value)
        (is_left : left ≡ map (left_of (Some entity)) (entity_row s other).cells) where
      abbrev gone : List Triple
      gone = gone_cells s.schema other (Some entity) (entity_row s other).cells

      abbrev added : ℕ
      added = added_by 4 (its_row s.schema other left) (rows_at s place.store)

      abbrev changed : ℕ
      changed = changed_by 4 (its_row s.schema other left) (rows_at s place.store)

      few : 1 + gone_rows s.schema gone + tally T entity ≤ tally s entity
      few = all-counted s stands.legal in_rows other entity living apart has

      none-added : added ≡ 0
      none-added = put-adds laws s stands.legal stands.program in_rows other entity living place.store is left is_left

      one-changed : changed ≤ 1
      one-changed = changed-one 4 (its_row s.schema other left) (rows_at s place.store)

      stores : AreAmong (place.store ∷ gone_stores gone) (deleted s.schema entity.ty)
      stores = asked-among s stands.legal in_rows other entity live place.store is living has

      -- the row was not put
      pub row-fault : (y : Self) (fault : PageFault) → Leads form (asked x y) (attempt x) (attempt y) array s.schema places {A = Bool} (put_view s.schema place.store other left (view_of s)) (λ was. ⊤) (place.store ∷ []) true (17 * added) (34 * changed) (Err fault)
          → Cleared x y other entity s.schema (Err fault)
      row-fault y fault leads = record {
        spent = 1;
        within = let less = few in omega (arith, less);
        touches = touches-more attempt follows asked page_laws x y array (place.store ∷ []) (deleted s.schema entity.ty) true true (17 * added) 0 (34 * changed) (34 * 1)
            (λ t h. stores t (among-first (place.store ∷ []) (gone_stores gone) t h)) (λ h. h) (let none = none-added in omega (arith, none)) (let one = one-changed in omega (arith, one)) leads.touches;
        sound = leads.sound;
        answers = tt;
      }

      -- it was, and then the references go
      pub row-cleared : (y z : Self) → follows x y → follows y z → Agrees (attempt z) array → (answer : Bool) (result : Result Unit PageFault)
          → Leads form (asked x y) (attempt x) (attempt y) array s.schema places {A = Bool} (put_view s.schema place.store other left (view_of s)) (λ was. ⊤) (place.store ∷ []) true (17 * added) (34 * changed) (Ok answer)
          → Notes {A = Unit {0}} form (asked y z) (attempt y) (attempt z) s.schema places other (Some entity) (entity_row s other).cells result → Cleared x z other entity s.schema result
      row-cleared y z xy yz agrees answer result leads notes = record {
        spent = 1 + gone_rows s.schema gone;
        within = let less = few in omega (arith, less);
        touches = touches-more attempt follows asked page_laws x z array (place.store ∷ gone_stores gone) (deleted s.schema entity.ty) true true (17 * added + 0) 0 (34 * changed + 34 * gone_rows s.schema gone) (34 * (1 + gone_rows s.schema gone))
            stores (λ h. h) (let none = none-added in omega (arith, none)) (let one = one-changed in omega (arith, one))
            (touches-then attempt follows asked page_laws x y z xy yz array (place.store ∷ []) (gone_stores gone) true true (17 * added) 0 (34 * changed) (34 * gone_rows s.schema gone) leads.touches noted.touches);
        sound = noted.sound;
        answers = answered result noted.answers;
      }
        where
          rows : List (List ℕ)
          rows = extent_rows T other.ty

          noted : Leads form (asked y z) (attempt y) (attempt z) array s.schema places {A = Unit {0}} (with_rows place.store (extent_rows T other.ty) (view_of (taken_all gone s))) (λ done. ⊤) (gone_stores gone) true 0 (34 * gone_rows s.schema gone) result
          noted =
              notes array s place.store (extent_rows T other.ty) agrees refl stands.legal stands.program living refl is
              (subst (IsDatabase form (over (attempt y) array) s.schema places) (put-left laws s stands.legal stands.program in_rows other entity living place.store is left is_left) leads.answers.1)

          answered : (o : Result Unit PageFault) → IfOk o (λ done. ⊤ × IsDatabase form (over (attempt z) array) s.schema places (with_rows place.store (extent_rows T other.ty) (view_of (taken_all gone s))))
              → IfOk o (λ done. (t : State) × IsLess entity s t × NearlyStandsAt form (over (attempt z) array) places t × (1 + gone_rows s.schema gone + tally t entity ≤ tally s entity) × IsTrue (list_all (is_unreferring s.schema other entity) t.triples))
          answered (Err fault) h = tt
          answered (Ok u) h = (
            T,
            less-cleared s other entity,
            record {
              legal = cleared-nearly s other entity stands.legal;
              program = cleared-program s other entity stands.program;
              database = subst (IsDatabase form (over (attempt z) array) s.schema places)
                  (ap (λ (t : State). with_rows place.store (extent_rows T other.ty) (view_of t)) (cleared-is s stands.legal in_rows other entity)
                  ∙ view-left laws s stands.legal stands.program in_rows other entity living place.store is left is_left) h.1;
            },
            few,
            none-refers s other entity,
          )

    -- ---- by the schema and the cells that are known

    module _ (schema : Outline) (same : s.schema ≡ schema) (cells : List Value) (cells_are : cells ≡ (entity_row s other).cells) (has : list_any (goes (Some entity)) cells ≡ true) (left : List Value)
        (is_left : left ≡ map (left_of (Some entity)) cells) (x : Self) (stands : NearlyStandsAt form (over (attempt x) array) places s) where
      its-has : list_any (goes (Some entity)) (entity_row s other).cells ≡ true
      its-has = ap (list_any (goes (Some entity))) (sym cells_are) ∙ has

      its-left : left ≡ map (left_of (Some entity)) (entity_row s other).cells
      its-left = is_left ∙ ap (map (left_of (Some entity))) cells_are

      abbrev Led : (y : Self) → Outline → Result Bool PageFault → Type 0
      Led y o result =
          Leads form (asked x y) (attempt x) (attempt y) array o places (put_view o place.store other left (view_of s)) (λ was. ⊤) (place.store ∷ []) true (17 * added_by 4 (its_row o other left) (rows_at s place.store))
          (34 * changed_by 4 (its_row o other left) (rows_at s place.store)) result

      pub empties-not : (y : Self) (fault : PageFault) → Led y schema (Err fault) → Cleared x y other entity schema (Err fault)
      empties-not y fault =
          subst (λ (o : Outline). Led y o (Err fault) → Cleared x y other entity o (Err fault)) same (λ leads. row-fault x stands its-has left its-left y fault leads)

      pub empties : (y z : Self) → follows x y → follows y z → Agrees (attempt z) array → (answer : Bool) (result : Result Unit PageFault) → Led y schema (Ok answer)
          → Notes {A = Unit {0}} form (asked y z) (attempt y) (attempt z) schema places other (Some entity) cells result → Cleared x z other entity schema result
      empties y z xy yz agrees answer result leads notes =
          subst (λ (o : Outline). Led y o (Ok answer) → Notes {A = Unit {0}} form (asked y z) (attempt y) (attempt z) o places other (Some entity) (entity_row s other).cells result → Cleared x z other entity o result) same
          (λ l n. row-cleared x stands its-has left its-left y z xy yz agrees answer result l n) leads
          (subst (λ (cs : List Value). Notes {A = Unit {0}} form (asked y z) (attempt y) (attempt z) schema places other (Some entity) cs result) cells_are notes)
