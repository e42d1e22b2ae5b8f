-- What every database in pages keeps from call to call, as a base.
use Rattle.std.proofs.Common.{◌≡◌, ℕ, ◌+◌, ◌*◌, ◌||◌, Bool, true, false, List, [], ◌++◌, Option, Some, None, IsSome, refl, sym, ap, ◌∙◌, subst, arith, true≢false}
use Rattle.std.specs.Prelude.{is_some, slice_index_or}
use Rattle.std.specs.List.{sum_by}
use Rattle.std.proofs.lemmas.List.Elements.{All-append, All-nil}
use Rattle.std.proofs.lemmas.List.Folds.{list_any-append}
use Rattle.std.proofs.lemmas.List.Sums.{sum_by-append}
use Rattle.std.proofs.lemmas.Grind.{flat_map-append}
use Rattle.st_values.specs.declared.value.EntityId.{EntityId}
use Rattle.st_lattice.specs.declared.stores.StoreKind.TheVariants.{Extent}
use Rattle.st_lattice.specs.Stores.{store}
use Rattle.st_pages.specs.declared.places.Place.{Place}
use Rattle.st_pages.specs.Attempt.{Array, Attempt, Agrees}
use Rattle.st_pages.specs.Places.{place_of}
use Rattle.st_state.specs.State.{State}
use Rattle.st_state.specs.Calls.{Call, Live, Make, Get, Set, Members, Add, Take, Turned, Delete, Listed}
use Rattle.st_index.proofs.Called.{PageLaws}
use Rattle.st_database.specs.Touches.{Touches}
use Rattle.st_database.proofs.Touching.{touches-nothing, touches-then}
use Rattle.st_plain.specs.Base.{Asked, puts, rows_drawn, rows_put, stores_asked}
use Rattle.st_paged.specs.Paged.{AsksFor, Continues, IsReached, Parts, PutsFor, PutsRow}

some-there : {X : Type 0} (o : Option X) → IsSome o → (x : X) × (o ≡ Some x)
some-there (Some x) h = (x, refl)
some-there None h = absurd (true≢false (sym h))

is-there : {X : Type 0} (x : X) (o : Option X) → o ≡ Some x → IsSome o
is-there x o e = ap is_some e

module _ {P : Type 0} (attempt : P → Attempt) (follows : P → P → Type 0) where
  pub follows-itself : ((a : P) → follows a a) → (a : Parts P) → Continues attempt follows a a
  follows-itself itself a = record { below = itself a.pages; same_schema = refl; same_places = refl; kinds = λ h. h }

  pub follows-on : ((a b c : P) → follows a b → follows b c → follows a c) → (a b c : Parts P) → Continues attempt follows a b → Continues attempt follows b c → Continues attempt follows a c
  follows-on on a b c first second = record {
    below = on a.pages b.pages c.pages first.below second.below;
    same_schema = second.same_schema ∙ first.same_schema;
    same_places = second.same_places ∙ first.same_places;
    kinds = λ h. second.kinds (first.kinds h);
  }

  module _ (seen_stays : (a b : P) → follows a b → (page : ℕ) (image : List ℕ) → (attempt a).seen page ≡ Some image → (attempt b).seen page ≡ Some image) where
    pub agrees-before : (a b : Parts P) (array : Array) → Continues attempt follows a b → Agrees (attempt b.pages) array → Agrees (attempt a.pages) array
    agrees-before a b array ab agrees = λ page image e. agrees page image (seen_stays a.pages b.pages ab.below page image e)

    pub reached-stays : (a b : Parts P) (array : Array) (e : EntityId) → Continues attempt follows a b → IsReached attempt a array e → IsReached attempt b array e
    reached-stays a b array e ab reached = λ place at page has.
        let was = some-there ((attempt a.pages).seen page) (reached place (subst (λ (ps : List Place). place_of (store Extent e.ty) ps ≡ Some place) ab.same_places at) page has) in
        is-there was.0 ((attempt b.pages).seen page) (seen_stays a.pages b.pages ab.below page was.0 was.1)

  module _ (form : Place → Array → List ℕ → List (List ℕ) → Type 0) (spot : Place → Array → List ℕ → ℕ → Type 0) (asked : P → P → (ℕ → Bool) → (ℕ → Bool) → ℕ → Type 0) where
    pub asks-nothing : ((a : P) (got put : ℕ → Bool) → asked a a got put 0) → (a : Parts P) (array : Array) → AsksFor attempt follows form spot asked a a array []
    asks-nothing nothing a array = record {
      touches = touches-nothing attempt follows asked nothing a.pages array;
      sets = All-nil (λ q. PutsFor attempt follows form spot asked a a array q.state q.call q.answered);
    }

    module _ (laws : PageLaws attempt follows asked) (written_stays : (a b : P) → follows a b → (page : ℕ) → IsSome ((attempt a).written page) → IsSome ((attempt b).written page)) where
      -- what was put in front of further calls is put
      row-then : (a b c : Parts P) (array : Array) (s : State) (place : Place) (key : List ℕ) → Continues attempt follows b c → PutsRow attempt follows form spot asked a b array s place key → PutsRow attempt follows form spot asked a c array s place key
      row-then a b c array s place key bc x = record {
        at = x.at;
        since = x.since;
        until = follows-on laws.follows_on x.at b c x.until bc;
        stands = x.stands;
        page = x.page;
        stood = x.stood;
        put = written_stays b.pages c.pages bc.below x.page x.put;
      }

      -- and behind earlier ones
      row-before : (a b c : Parts P) (array : Array) (s : State) (place : Place) (key : List ℕ) → Continues attempt follows a b → PutsRow attempt follows form spot asked b c array s place key → PutsRow attempt follows form spot asked a c array s place key
      row-before a b c array s place key ab x = record {
        at = x.at;
        since = follows-on laws.follows_on a b x.at ab x.since;
        until = x.until;
        stands = x.stands;
        page = x.page;
        stood = x.stood;
        put = x.put;
      }

      sets-then : (a b c : Parts P) (array : Array) (s : State) (call : Call) (answered : Bool) → Continues attempt follows b c → PutsFor attempt follows form spot asked a b array s call answered → PutsFor attempt follows form spot asked a c array s call answered
      sets-then a b c array s (Set e number value) true bc x = λ place at. row-then a b c array s place _ bc (x place at)
      sets-then a b c array s (Set e number value) false bc x = tt
      sets-then a b c array s (Live e) answered bc x = tt
      sets-then a b c array s (Make ty) answered bc x = tt
      sets-then a b c array s (Get e number) answered bc x = tt
      sets-then a b c array s (Members e number) answered bc x = tt
      sets-then a b c array s (Add e number value) answered bc x = tt
      sets-then a b c array s (Take e number value) answered bc x = tt
      sets-then a b c array s (Turned number value) answered bc x = tt
      sets-then a b c array s (Delete e) answered bc x = tt
      sets-then a b c array s (Listed ty) answered bc x = tt

      sets-before : (a b c : Parts P) (array : Array) (s : State) (call : Call) (answered : Bool) → Continues attempt follows a b → PutsFor attempt follows form spot asked b c array s call answered → PutsFor attempt follows form spot asked a c array s call answered
      sets-before a b c array s (Set e number value) true ab x = λ place at.
          row-before a b c array s place _ ab (x place (subst (λ (ps : List Place). place_of (store Extent e.ty) ps ≡ Some place) (sym ab.same_places) at))
      sets-before a b c array s (Set e number value) false ab x = tt
      sets-before a b c array s (Live e) answered ab x = tt
      sets-before a b c array s (Make ty) answered ab x = tt
      sets-before a b c array s (Get e number) answered ab x = tt
      sets-before a b c array s (Members e number) answered ab x = tt
      sets-before a b c array s (Add e number value) answered ab x = tt
      sets-before a b c array s (Take e number value) answered ab x = tt
      sets-before a b c array s (Turned number value) answered ab x = tt
      sets-before a b c array s (Delete e) answered ab x = tt
      sets-before a b c array s (Listed ty) answered ab x = tt

      rows-then : (k : ℕ) (f : Asked → ℕ) (first second : List Asked) → k * sum_by f first + k * sum_by f second ≡ k * sum_by f (first ++ second)
      rows-then k f first second = subst (λ (n : ℕ). k * sum_by f first + k * sum_by f second ≡ k * n) (sym (sum_by-append f first second)) (omega arith)

      pub asks-on : (a b c : Parts P) (array : Array) (first second : List Asked) → Continues attempt follows a b → Continues attempt follows b c → AsksFor attempt follows form spot asked a b array first → AsksFor attempt follows form spot asked b c array second
          → AsksFor attempt follows form spot asked a c array (first ++ second)
      asks-on a b c array first second ab bc one two =
          let A = attempt a.pages in
          let C = attempt c.pages in
          let T : List ℕ → Bool → ℕ → ℕ → Type 0 = Touches (asked a.pages c.pages) A C array in
          let both = touches-then attempt follows asked laws a.pages b.pages c.pages ab.below bc.below array (stores_asked first) (stores_asked second) (puts first) (puts second) (17 * rows_drawn first) (17 * rows_drawn second) (34 * rows_put first) (34 * rows_put second) one.touches two.touches in
          let by-stores = subst (λ (stores : List ℕ). T stores (puts first || puts second) (17 * rows_drawn first + 17 * rows_drawn second) (34 * rows_put first + 34 * rows_put second)) (sym (flat_map-append _ first second)) both in
          let by-puts = subst (λ (p : Bool). T (stores_asked (first ++ second)) p (17 * rows_drawn first + 17 * rows_drawn second) (34 * rows_put first + 34 * rows_put second)) (sym (list_any-append _ first second)) by-stores in
          let by-drawn = subst (λ (n : ℕ). T (stores_asked (first ++ second)) (puts (first ++ second)) n (34 * rows_put first + 34 * rows_put second)) (rows-then 17 _ first second) by-puts in
          record {
            touches = subst (λ (n : ℕ). T (stores_asked (first ++ second)) (puts (first ++ second)) (17 * rows_drawn (first ++ second)) n) (rows-then 34 _ first second) by-drawn;
            sets = All-append (λ q. PutsFor attempt follows form spot asked a c array q.state q.call q.answered) first second
                (λ k d w. let q : Asked = slice_index_or first k d in sets-then a b c array q.state q.call q.answered bc (one.sets k d w))
                (λ k d w. let q : Asked = slice_index_or second k d in sets-before a b c array q.state q.call q.answered ab (two.sets k d w));
          }
