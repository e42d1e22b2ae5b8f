-- What a call that puts a value into a set, or takes one out of it, gives of each state, by the calls on its stores.
use Rattle.std.proofs.Common.{◌≡◌, ℕ, ◌*◌, ◌<◌, Bool, true, false, List, [], ◌∷◌, Option, Some, Result, Ok, Err, refl, sym, ap, ◌∙◌, subst, arith, ◌+◌, ◌≤◌, true≢false}
use Rattle.std.specs.Prelude.{⊤, IfSome, not, is_some, if◌then◌else◌, ◌==◌, ◌&&◌}
use Rattle.std.specs.List.{All, list_any}
use Rattle.std.specs.Option.{ForSome}
use Rattle.st_values.specs.declared.value.EntityId.{EntityId}
use Rattle.st_values.specs.declared.value.Value.{Value}
use Rattle.st_values.specs.declared.value.Value.TheVariants.{Null}
use Rattle.st_values.specs.Order.{same_value}
use Rattle.st_values.proofs.Tests.{either, left, right}
use Rattle.st_page.specs.declared.fault.PageFault.{PageFault}
use Rattle.st_lattice.specs.declared.attribute.Attribute.{Attribute}
use Rattle.st_lattice.specs.declared.stores.StoreKind.TheVariants.{Set}
use Rattle.st_lattice.specs.Lattice.{isa}
use Rattle.st_lattice.specs.Outline.{Outline, attribute}
use Rattle.st_lattice.specs.Stores.{passes, store}
use Rattle.st_keys.specs.Keys.{Fits, IsEntity}
use Rattle.st_pages.specs.declared.places.Place.{Place}
use Rattle.st_pages.specs.Attempt.{Agrees, Array, Attempt, over}
use Rattle.st_pages.specs.Places.{AscendByStore, place_of}
use Rattle.st_store.specs.Rows.{row_with, with_row, without_row}
use Rattle.st_schema_bytes.specs.SchemaBytes.{IsReadable}
use Rattle.st_catalog.specs.Catalog.{Has}
use Rattle.st_catalog.specs.Stores.{AreOf}
use Rattle.st_counts.specs.Counts.{turned_count}
use Rattle.st_index.specs.Turned.{turned_places}
use Rattle.st_index.proofs.Called.{PageLaws, earlier}
use Rattle.st_database.specs.Database.{IsDatabase, View, noted_view, with_rows}
use Rattle.st_database.specs.Touches.{Leads, OfDatabase, Touches, WithStore, added_by, changed_by, pairs_added, pairs_changed, removed_by, stores_at}
use Rattle.st_database.proofs.Frames.{StoreLaws}
use Rattle.st_database.proofs.Touching.{touches-more}
use Rattle.st_state.specs.declared.triple.Triple.{Triple}
use Rattle.st_state.specs.State.{State, has_value, member_added, member_taken, same_triple, triple_before, with_triple}
use Rattle.st_state.specs.Legal.{IsNearlyLegal, can_hold}
use Rattle.st_state.specs.Calls.{Add, Admits, Take, changed_stores}
use Rattle.st_state.specs.Rows.{rows_added, rows_changed}
use Rattle.st_state.proofs.Changed.{added-nearly}
use Rattle.st_standing.specs.Standing.{FitsOne, IsOfProgram, NearlyStandsAt, pair_bytes, view_of}
use Rattle.st_standing.proofs.Fitting.{found-holds}
use Rattle.st_standing.proofs.RowLaws.{RowLaws}
use Rattle.st_lookups.specs.Looks.{OfState}
use Rattle.st_edits.specs.Steps.{IsSet, Left, Takes, Turns}
use Rattle.st_edits.proofs.InSets.{add-fault, add-new, add-stopped, add-there, take-fault, take-none, take-out, take-stopped}
use Rattle.st_edits.proofs.Kept.{all-numbers}
use Rattle.st_edits.proofs.Making.{put-in}

-- an attribute's number is in 16 bits, it has sets, and a set has it
module _ (s : State) (e : EntityId) (number : ℕ) (v : Value) (a : Attribute) (f : attribute s.schema number ≡ Some a) where
  pub has-set-there : passes (λ b. isa s.schema e.ty b.owner && b.many) (attribute s.schema number) ≡ true → (isa s.schema e.ty a.owner && a.many) ≡ true
  has-set-there h = sym (ap (passes (λ b. isa s.schema e.ty b.owner && b.many)) f) ∙ h

  holds-there : passes (λ b. can_hold s b.kind v) (attribute s.schema number) ≡ true → can_hold s a.kind v ≡ true
  holds-there h = sym (ap (passes (λ b. can_hold s b.kind v)) f) ∙ h

  same-attribute : (b : Attribute) → Some a ≡ Some b → a ≡ b
  same-attribute b h = cc

  abbrev its_triple : Triple
  its_triple = record { attribute = number; entity = e; value = v }

  fits-there : Fits a.kind v → FitsOne s.schema its_triple
  fits-there fits = subst (λ (o : Option Attribute). ForSome o (λ b. Fits b.kind v)) (sym f) own
    where
      own : ForSome (Some a) (λ b. Fits b.kind v)
      own = λ b is. subst (λ (c : Attribute). Fits c.kind v) (same-attribute b is) fits

  added-program : Fits a.kind v → IsOfProgram s → IsOfProgram (member_added s number e v)
  added-program fits program = record {
    entities = program.entities;
    values = either (list_any (same_triple its_triple) s.triples) (λ b. All (FitsOne s.schema) (if b then s.triples else with_triple its_triple s.triples))
        (λ _. program.values) (λ _. put-in triple_before (FitsOne s.schema) its_triple s.triples (fits-there fits) program.values);
    serials = program.serials;
  }

-- ---- a value taken out as a whole call

-- as many rows change as the value has
pub taken-most : ((s : State) (n : ℕ) (x : EntityId) (w : Value) → IsNearlyLegal s → All (λ b. b.number < 65536) s.schema.attributes → (b : Attribute) → attribute s.schema n ≡ Some b → b.many ≡ true → has_value s n x w ≡ true → 1 + turned_count b ≤ rows_changed s (member_taken s n x w))
    → (s : State) → IsNearlyLegal s → IsReadable s.schema → (e : EntityId) (number : ℕ) (v : Value) → passes (λ b. isa s.schema e.ty b.owner && b.many) (attribute s.schema number) ≡ true
    → (a : Attribute) → attribute s.schema number ≡ Some a → has_value s number e v ≡ true → 1 + turned_count a ≤ rows_changed s (member_taken s number e v)
taken-most law s legal readable e number v there a f h =
    law s number e v legal (all-numbers s.schema readable legal.orderly) a f (right (isa s.schema e.ty a.owner) a.many (has-set-there s e number v a f there)) h

module _ {Self : Type 0} (attempt : Self → Attempt) (follows : Self → Self → Type 0) (asked : Self → Self → (ℕ → Bool) → (ℕ → Bool) → ℕ → Type 0) (page_laws : PageLaws attempt follows asked)
    (form : Place → Array → List ℕ → List (List ℕ) → Type 0) (x z : Self) (array : Array) (places : List Place) (s : State) (e : EntityId) (number : ℕ) (v : Value) where
  taken-touched : Touches (asked x z) (attempt x) (attempt z) array (changed_stores s.schema e number) true 0 (34 * rows_changed s (member_taken s number e v))
      → Touches (asked x z) (attempt x) (attempt z) array (changed_stores s.schema e number) true (17 * rows_added s (member_taken s number e v)) (34 * rows_changed s (member_taken s number e v))
  taken-touched touches =
      touches-more attempt follows asked page_laws x z array (changed_stores s.schema e number) (changed_stores s.schema e number) true true 0 (17 * rows_added s (member_taken s number e v)) (34 * rows_changed s (member_taken s number e v)) (34 * rows_changed s (member_taken s number e v))
      (λ store m. m) (λ w. w) (omega arith) (omega arith) touches

  pub taken-turns : (result : Result Bool PageFault) → Takes form (asked x z) (attempt x) (attempt z) array places s e number v (rows_changed s (member_taken s number e v)) result
      → Turns (asked x z) (attempt x) (attempt z) array s (Take e number v) (Left form (attempt z) array places s (Take e number v) (has_value s number e v)) result
  taken-turns (Ok changed) t = record { answers = t.answers; sound = t.sound; early = tt; touches = taken-touched t.touches }
  taken-turns (Err fault) t = record { answers = t.answers; sound = t.sound; early = λ h. refl; touches = taken-touched t.touches }

module _ {Self : Type 0} (attempt : Self → Attempt) (follows : Self → Self → Type 0) (asked : Self → Self → (ℕ → Bool) → (ℕ → Bool) → ℕ → Type 0) (page_laws : PageLaws attempt follows asked)
    (form : Place → Array → List ℕ → List (List ℕ) → Type 0) (reach : Place → Array → ℕ → Bool) (stores : StoreLaws form reach) (laws : RowLaws)
    (schema : Outline) (places : List Place) (of : AreOf schema places) (number : ℕ) (small : number < 65536) (a : Attribute) (there : attribute schema number ≡ Some a)
    (place : Place) (set : IsSet number a place) (at : place_of (store Set number) places ≡ Some place) (e : EntityId) (entity : IsEntity e) (v : Value) (fits : Fits a.kind v)
    (order : (array : Array) (o : Outline) (ps : List Place) → Has array o ps → AscendByStore ps) (in_rows : (array : Array) (o : Outline) (ps : List Place) → Has array o ps → All (λ b. b.column ≡ false) o.attributes) where
  here : place_of place.store places ≡ Some place
  here = ap (λ n. place_of n places) set.store_is ∙ at

  module _ (array : Array) (s : State) (same : s.schema ≡ schema) where
    f : attribute s.schema number ≡ Some a
    f = ap (λ (o : Outline). attribute o number) same ∙ there

    these : AreOf s.schema places
    these = subst (λ o. AreOf o places) (sym same) of

    module _ (x : Attempt) (standing : NearlyStandsAt form (over x array) places s) where
      ascend : AscendByStore places
      ascend = order (over x array) s.schema places standing.database.has

      none : a.column ≡ false
      none = found-holds (λ b. b.column ≡ false) (λ b. b.number == number) s.schema.attributes a (in_rows (over x array) s.schema places standing.database.has) f

      low : All (λ b. b.number < 65536) s.schema.attributes
      low = all-numbers s.schema standing.database.has.spells.readable standing.legal.orderly

    -- what is said of the schema that was read
    noted-there : (y z : Self) (old new : Value) (view : View) (result : Result Unit PageFault)
        → OfDatabase form (attempt y) (attempt z) schema places (λ array view. IfSome (attribute schema number) (λ b.
        Leads form (asked y z) (attempt y) (attempt z) array schema places (if same_value old new then view else noted_view number b.kind e old new view) (λ done. ⊤)
        (stores_at (turned_places number places)) true (17 * pairs_added number places old new) (34 * pairs_changed number places old new) result))
        → Agrees (attempt z) array → IsDatabase form (over (attempt y) array) s.schema places view
        → Leads form (asked y z) (attempt y) (attempt z) array s.schema places (if same_value old new then view else noted_view number a.kind e old new view) (λ done. ⊤)
        (stores_at (turned_places number places)) true (17 * pairs_added number places old new) (34 * pairs_changed number places old new) result
    noted-there y z old new view result leads agrees d =
        subst (λ (o : Outline). Leads form (asked y z) (attempt y) (attempt z) array o places (if same_value old new then view else noted_view number a.kind e old new view) (λ done. ⊤)
        (stores_at (turned_places number places)) true (17 * pairs_added number places old new) (34 * pairs_changed number places old new) result) (sym same)
        (subst (λ (o : Option Attribute). IfSome o (λ b.
        Leads form (asked y z) (attempt y) (attempt z) array schema places (if same_value old new then view else noted_view number b.kind e old new view) (λ done. ⊤)
        (stores_at (turned_places number places)) true (17 * pairs_added number places old new) (34 * pairs_changed number places old new) result)) there
        (leads array view agrees (subst (λ (o : Outline). IsDatabase form (over (attempt y) array) o places view) same d)))

  abbrev pub Noting : Self → Self → Value → Value → Result Unit PageFault → Type 0
  Noting y z old new result = OfDatabase form (attempt y) (attempt z) schema places (λ array view. IfSome (attribute schema number) (λ b.
      Leads form (asked y z) (attempt y) (attempt z) array schema places (if same_value old new then view else noted_view number b.kind e old new view) (λ done. ⊤)
      (stores_at (turned_places number places)) true (17 * pairs_added number places old new) (34 * pairs_changed number places old new) result))

  -- ---- a value fewer

  abbrev Dropping : Self → Self → Result Bool PageFault → Type 0
  Dropping x y result = WithStore form (attempt x) (attempt y) place (λ array o ps view.
      Leads form (asked x y) (attempt x) (attempt y) array o ps
      (with_rows place.store (without_row place.key (pair_bytes a.kind v e) (view.rows place.store)) view) (λ was. was ≡ is_some (row_with place.key (pair_bytes a.kind v e) (view.rows place.store)))
      (place.store ∷ []) true 0 (34 * removed_by place.key (pair_bytes a.kind v e) (view.rows place.store)) result)

  abbrev Taking : Self → Self → Result Bool PageFault → Type 0
  Taking x z result = OfState form (attempt x) (attempt z) schema places (λ array s. Admits s (Take e number v) →
      (most : ℕ) → (has_value s number e v ≡ true → 1 + turned_count a ≤ most) → Takes form (asked x z) (attempt x) (attempt z) array places s e number v most result)

  pub takes-fault : (x y : Self) (fault : PageFault) → Dropping x y (Err fault) → Taking x y (Err fault)
  takes-fault x y fault drops = λ array s agrees same standing admits most changes.
      let g = f array s same in
      let sets = right (isa s.schema e.ty a.owner) a.many (has-set-there s e number v a g admits.0.many) in
      take-fault attempt follows asked page_laws form reach stores array laws s places standing.legal standing.program e entity number a small v fits g sets (these array s same) (ascend array s same (attempt x) standing) (none array s same (attempt x) standing) standing.database.has.spells.readable place set
      most changes x y fault (drops array s.schema places (view_of s) agrees standing.database here)

  pub takes-none : (x y : Self) (b : Bool) → b ≡ false → Dropping x y (Ok b) → Taking x y (Ok false)
  takes-none x y b test drops = λ array s agrees same standing admits most changes.
      let g = f array s same in
      let sets = right (isa s.schema e.ty a.owner) a.many (has-set-there s e number v a g admits.0.many) in
      let first = subst (λ c. Dropping x y (Ok c)) test drops in
      take-none attempt follows asked page_laws form reach stores array laws s places standing.legal standing.program e entity number a small v fits g sets (these array s same) (ascend array s same (attempt x) standing) (none array s same (attempt x) standing) standing.database.has.spells.readable place set
      most changes x y (first array s.schema places (view_of s) agrees standing.database here)

  pub takes-stopped : (x y z : Self) → follows x y → follows y z → (b : Bool) → b ≡ true → Dropping x y (Ok b) → (fault : PageFault) → Noting y z v Null (Err fault) → Taking x z (Err fault)
  takes-stopped x y z xy yz b test drops fault notes = λ array s agrees same standing admits most changes.
      let g = f array s same in
      let sets = right (isa s.schema e.ty a.owner) a.many (has-set-there s e number v a g admits.0.many) in
      let first = subst (λ c. Dropping x y (Ok c)) test drops in
      let l = first array s.schema places (view_of s) (earlier (attempt y) (attempt z) array (page_laws.seen_stays y z yz) agrees) standing.database here in
      take-stopped attempt follows asked page_laws form reach stores array laws s places standing.legal standing.program e entity number a small v fits g sets (these array s same) (ascend array s same (attempt x) standing) (none array s same (attempt x) standing) standing.database.has.spells.readable place set
      most changes x y z xy yz l fault
      (noted-there array s same y z v Null _ (Err fault) notes agrees l.answers.1)

  pub takes-out : (x y z : Self) → follows x y → follows y z → (b : Bool) → b ≡ true → Dropping x y (Ok b) → (done : Unit) → Noting y z v Null (Ok done) → Taking x z (Ok true)
  takes-out x y z xy yz b test drops done notes = λ array s agrees same standing admits most changes.
      let g = f array s same in
      let sets = right (isa s.schema e.ty a.owner) a.many (has-set-there s e number v a g admits.0.many) in
      let first = subst (λ c. Dropping x y (Ok c)) test drops in
      let l = first array s.schema places (view_of s) (earlier (attempt y) (attempt z) array (page_laws.seen_stays y z yz) agrees) standing.database here in
      take-out attempt follows asked page_laws form reach stores array laws s places standing.legal standing.program e entity number a small v fits g sets (these array s same) (ascend array s same (attempt x) standing) (none array s same (attempt x) standing) standing.database.has.spells.readable place set
      most changes x y z xy yz l done
      (noted-there array s same y z v Null _ (Ok done) notes agrees l.answers.1)

  -- ---- a value more

  module _ (lone : (array : Array) (o : Outline) (ps : List Place) → Has array o ps → All (λ b. b.many ≡ true → b.unique ≡ false) o.attributes)
      (adds : (s : State) (n : ℕ) (x : EntityId) (w : Value) → IsNearlyLegal s → All (λ b. b.number < 65536) s.schema.attributes → (b : Attribute) → attribute s.schema n ≡ Some b → b.many ≡ true → has_value s n x w ≡ false → 1 + turned_count b ≤ rows_added s (member_added s n x w))
      (changes : (s : State) (n : ℕ) (x : EntityId) (w : Value) → IsNearlyLegal s → All (λ b. b.number < 65536) s.schema.attributes → (b : Attribute) → attribute s.schema n ≡ Some b → b.many ≡ true → has_value s n x w ≡ false → 1 + turned_count b ≤ rows_changed s (member_added s n x w)) where
    abbrev Putting : Self → Self → Result Bool PageFault → Type 0
    Putting x y result = WithStore form (attempt x) (attempt y) place (λ array o ps view.
        Leads form (asked x y) (attempt x) (attempt y) array o ps
        (with_rows place.store (with_row place.key (pair_bytes a.kind v e) (view.rows place.store)) view) (λ was. was ≡ is_some (row_with place.key (pair_bytes a.kind v e) (view.rows place.store)))
        (place.store ∷ []) true (17 * added_by place.key (pair_bytes a.kind v e) (view.rows place.store)) (34 * changed_by place.key (pair_bytes a.kind v e) (view.rows place.store)) result)

    abbrev Adds : Self → Self → Result Bool PageFault → Type 0
    Adds x z result = OfState form (attempt x) (attempt z) schema places (λ array s. Admits s (Add e number v) →
        Turns (asked x z) (attempt x) (attempt z) array s (Add e number v) (Left form (attempt z) array places s (Add e number v) (not (has_value s number e v))) result)

    added-legal : (array : Array) (s : State) (same : s.schema ≡ schema) (x : Attempt) → NearlyStandsAt form (over x array) places s → Admits s (Add e number v) → a.many ≡ true → IsNearlyLegal (member_added s number e v)
    added-legal array s same x standing admits sets =
        let g = f array s same in
        let plain : a.unique ≡ false = found-holds (λ b. b.many ≡ true → b.unique ≡ false) (λ b. b.number == number) s.schema.attributes a (lone (over x array) s.schema places standing.database.has) g sets in
        added-nearly s number e v a g sets standing.legal admits.0.live (left (isa s.schema e.ty a.owner) a.many (has-set-there s e number v a g admits.0.many)) (holds-there s e number v a g admits.1) (λ u. absurd (true≢false (sym u ∙ plain)))

    pub adds-fault : (x y : Self) (fault : PageFault) → Putting x y (Err fault) → Adds x y (Err fault)
    adds-fault x y fault puts = λ array s agrees same standing admits.
        let g = f array s same in
        let sets = right (isa s.schema e.ty a.owner) a.many (has-set-there s e number v a g admits.0.many) in
        add-fault attempt follows asked page_laws form reach stores array laws s places standing.legal standing.program e entity number a small v fits g sets (these array s same) (ascend array s same (attempt x) standing) (none array s same (attempt x) standing) standing.database.has.spells.readable place set
        (added-legal array s same (attempt x) standing admits sets) (added-program s e number v a g fits standing.program)
        (adds s number e v standing.legal (low array s same (attempt x) standing) a g sets) (changes s number e v standing.legal (low array s same (attempt x) standing) a g sets) x y fault (puts array s.schema places (view_of s) agrees standing.database here)

    pub adds-there : (x y : Self) (b : Bool) → b ≡ true → Putting x y (Ok b) → Adds x y (Ok false)
    adds-there x y b test puts = λ array s agrees same standing admits.
        let g = f array s same in
        let sets = right (isa s.schema e.ty a.owner) a.many (has-set-there s e number v a g admits.0.many) in
        let first = subst (λ c. Putting x y (Ok c)) test puts in
        add-there attempt follows asked page_laws form reach stores array laws s places standing.legal standing.program e entity number a small v fits g sets (these array s same) (ascend array s same (attempt x) standing) (none array s same (attempt x) standing) standing.database.has.spells.readable place set
        (added-legal array s same (attempt x) standing admits sets) (added-program s e number v a g fits standing.program)
        (adds s number e v standing.legal (low array s same (attempt x) standing) a g sets) (changes s number e v standing.legal (low array s same (attempt x) standing) a g sets) x y (first array s.schema places (view_of s) agrees standing.database here)

    pub adds-stopped : (x y z : Self) → follows x y → follows y z → (b : Bool) → b ≡ false → Putting x y (Ok b) → (fault : PageFault) → Noting y z Null v (Err fault) → Adds x z (Err fault)
    adds-stopped x y z xy yz b test puts fault notes = λ array s agrees same standing admits.
        let g = f array s same in
        let sets = right (isa s.schema e.ty a.owner) a.many (has-set-there s e number v a g admits.0.many) in
        let first = subst (λ c. Putting x y (Ok c)) test puts in
        let l = first array s.schema places (view_of s) (earlier (attempt y) (attempt z) array (page_laws.seen_stays y z yz) agrees) standing.database here in
        add-stopped attempt follows asked page_laws form reach stores array laws s places standing.legal standing.program e entity number a small v fits g sets (these array s same) (ascend array s same (attempt x) standing) (none array s same (attempt x) standing) standing.database.has.spells.readable place set
        (added-legal array s same (attempt x) standing admits sets) (added-program s e number v a g fits standing.program)
        (adds s number e v standing.legal (low array s same (attempt x) standing) a g sets) (changes s number e v standing.legal (low array s same (attempt x) standing) a g sets) x y z xy yz l fault
        (noted-there array s same y z Null v _ (Err fault) notes agrees l.answers.1)

    pub adds-new : (x y z : Self) → follows x y → follows y z → (b : Bool) → b ≡ false → Putting x y (Ok b) → (done : Unit) → Noting y z Null v (Ok done) → Adds x z (Ok true)
    adds-new x y z xy yz b test puts done notes = λ array s agrees same standing admits.
        let g = f array s same in
        let sets = right (isa s.schema e.ty a.owner) a.many (has-set-there s e number v a g admits.0.many) in
        let first = subst (λ c. Putting x y (Ok c)) test puts in
        let l = first array s.schema places (view_of s) (earlier (attempt y) (attempt z) array (page_laws.seen_stays y z yz) agrees) standing.database here in
        add-new attempt follows asked page_laws form reach stores array laws s places standing.legal standing.program e entity number a small v fits g sets (these array s same) (ascend array s same (attempt x) standing) (none array s same (attempt x) standing) standing.database.has.spells.readable place set
        (added-legal array s same (attempt x) standing admits sets) (added-program s e number v a g fits standing.program)
        (adds s number e v standing.legal (low array s same (attempt x) standing) a g sets) (changes s number e v standing.legal (low array s same (attempt x) standing) a g sets) x y z xy yz l done
        (noted-there array s same y z Null v _ (Ok done) notes agrees l.answers.1)
