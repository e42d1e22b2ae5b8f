-- What calls of a base asked of pages, as what a statement uses.
use Rattle.std.proofs.Common.{◌≡◌, ℕ, ◌+◌, ◌*◌, ◌≤◌, ◌⊎◌, ◌==◌, ◌||◌, Bool, true, false, cond, List, [], ◌∷◌, length, Option, None, Result, Ok, Err, IsTrue, refl, sym, ap, ◌∙◌, subst, inl, inr, arith, true≢false}
use Rattle.std.specs.Prelude.{◌&&◌, ◌++◌, All, OnOk, filter, nat_le, not, suc}
use Rattle.std.specs.List.{list_all, list_any, sum_by}
use Rattle.std.specs.Option.{ForSome}
use Rattle.std.proofs.lemmas.List.Sums.{sum_by-cons}
use Rattle.st_values.proofs.Tests.{both, either, first-of, left, one-of, or-left, or-right, right}
use Rattle.st_values.proofs.Entities.{same_entity-itself, same_value-itself}
use Rattle.st_values.specs.declared.value.Value.{Value}
use Rattle.st_values.specs.Order.{same_entity, same_value}
use Rattle.st_image.specs.Fields.{kind_of, store_of}
use Rattle.st_pages.specs.declared.places.Place.{Place}
use Rattle.st_pages.specs.Attempt.{Array, Attempt, Agrees, IsSound, changed, over, taken}
use Rattle.st_pages.specs.Calls.{IsAllRoom, IsNoMore, IsStopped, IsWithin, Room}
use Rattle.st_query.specs.declared.statement.Statement.{Statement}
use Rattle.st_query.specs.Written.{is_written}
use Rattle.st_state.specs.State.{State}
use Rattle.st_state.specs.Calls.{Call, Live, Make, Get, Set, Members, Add, Take, Turned, Delete, Listed, after, may_change}
use Rattle.st_state.specs.Rows.{Row, rows, rows_added, rows_changed, same_cells, same_key, unmatched}
use Rattle.st_state.proofs.Changed.{number-is, number-itself}
use Rattle.st_state.specs.Legal.{IsLegal}
use Rattle.st_meaning.specs.Statements.{Present, does}
use Rattle.st_meaning.specs.Rules.{refusal}
use Rattle.st_plain.specs.declared.fault.BaseFault.{BaseFault}
use Rattle.st_plain.specs.Base.{Asked, fault_behind, puts, rows_drawn, rows_put, stores_asked}
use Rattle.st_store.specs.Stores.{among, is_page_of}
use Rattle.st_index.proofs.Called.{PageLaws}
use Rattle.st_index.proofs.Counted.{or-cases}
use Rattle.st_database.specs.Touches.{belongs, may_touch}
use Rattle.st_database.proofs.Listed.{any-found}
use Rattle.st_standing.specs.Standing.{StandsFor}
use Rattle.st_terms.specs.Looks.{AreAmong, AskedAt, Concludes}
use Rattle.st_terms.specs.Checked.{touched}
use Rattle.st_terms.specs.Looks as terms
use Rattle.st_terms.proofs.Looking.{all-map}
use Rattle.st_changes.specs.Effects.{SetsAt}
use Rattle.st_running.specs.Steps.{Steps, first_place, is_in_footprint, may_put}
use Rattle.st_paged.specs.Paged.{AsksFor, IsReached, Parts, PutsFor, StandsIn}
use Rattle.st_paged_steps.specs.InPages.{Fits, IsPut, StepsInPages, Uses, is_used, may_use}
use Rattle.st_paged_steps.proofs.Bounds.{changed-most, from-two, not-full, not-many, taken-most}

-- ---- calls that only look add no rows

key-itself : (r : Row) → same_key r r ≡ true
key-itself r = both (r.store == r.store) (same_entity r.entity r.entity && same_value r.value r.value) (number-itself r.store) (both (same_entity r.entity r.entity) (same_value r.value r.value) (same_entity-itself r.entity) (same_value-itself r.value))

-- each row of some that are among others is matched there
matched : (rs others : List Row) → ((r : Row) → list_any (same_key r) rs ≡ true → list_any (same_key r) others ≡ true) → unmatched same_key rs others ≡ 0
matched [] others more = refl
matched (r ∷ rs) others more =
    ap (λ (b : Bool). length (cond (not b) (r ∷ filter (λ x. not (list_any (same_key x) others)) rs) (filter (λ x. not (list_any (same_key x) others)) rs)))
    (more r (first-of (same_key r r) (list_any (same_key r) rs) (key-itself r)))
    ∙ matched rs others (λ x h. more x (one-of (same_key x r) (list_any (same_key x) rs) h))

-- or given another content
abbrev as_it_is : Row → Row → Bool
as_it_is r other = same_key r other && same_cells r.cells other.cells

cells-itself : (vs : List Value) → same_cells vs vs ≡ true
cells-itself [] = refl
cells-itself (v ∷ vs) = both (same_value v v) (same_cells vs vs) (same_value-itself v) (cells-itself vs)

kept : (rs others : List Row) → ((r : Row) → list_any (as_it_is r) rs ≡ true → list_any (as_it_is r) others ≡ true) → unmatched as_it_is rs others ≡ 0
kept [] others more = refl
kept (r ∷ rs) others more =
    ap (λ (b : Bool). length (cond (not b) (r ∷ filter (λ x. not (list_any (as_it_is x) others)) rs) (filter (λ x. not (list_any (as_it_is x) others)) rs)))
    (more r (first-of (as_it_is r r) (list_any (as_it_is r) rs) (both (same_key r r) (same_cells r.cells r.cells) (key-itself r) (cells-itself r.cells))))
    ∙ kept rs others (λ x h. more x (one-of (as_it_is x r) (list_any (as_it_is x) rs) h))

zeros : (m n : ℕ) → m ≡ 0 → n ≡ 0 → m + n ≡ 0
zeros m n a b = omega (arith, a, b)

none-changed : (s : State) → rows_changed s s ≡ 0
none-changed s = zeros (unmatched as_it_is (rows s) (rows s)) (unmatched same_key (rows s) (rows s)) (kept (rows s) (rows s) (λ r h. h)) (matched (rows s) (rows s) (λ r h. h))

same-none : (s : State) → rows_added s s ≡ 0
same-none s = matched (rows s) (rows s) (λ r h. h)

still : (s : State) (call : Call) → may_change call ≡ false → after s call ≡ s
still s (Live e) h = refl
still s (Get e number) h = refl
still s (Members e number) h = refl
still s (Turned number value) h = refl
still s (Listed ty) h = refl
still s (Make ty) h = absurd (true≢false h)
still s (Set e number value) h = absurd (true≢false h)
still s (Add e number value) h = absurd (true≢false h)
still s (Take e number value) h = absurd (true≢false h)
still s (Delete e) h = absurd (true≢false h)

module _ (count : State → State → ℕ) (none : (s : State) → count s s ≡ 0) where
  none-counted : (calls : List Asked) → puts calls ≡ false → sum_by (λ q. count q.state (after q.state q.call)) calls ≡ 0
  none-counted [] h = refl
  none-counted (q ∷ qs) h =
      let here : count q.state (after q.state q.call) ≡ 0 = ap (count q.state) (still q.state q.call (or-left (may_change q.call) (puts qs) h)) ∙ none q.state in
      let rest = none-counted qs (or-right (may_change q.call) (puts qs) h) in
      sum_by-cons (λ (x : Asked). count x.state (after x.state x.call)) q qs ∙ zeros (count q.state (after q.state q.call)) (sum_by (λ x. count x.state (after x.state x.call)) qs) here rest

-- what is said of all calls, of the last one
all-last : (P : Asked → Type 0) (calls : List Asked) (q : Asked) → All P (calls ++ q ∷ []) → P q
all-last P [] q h = h 0 q (omega arith)
all-last P (x ∷ xs) q h = all-last P xs q (λ k d within. h (suc k) d (omega (arith, within)))

-- ---- from the stores that calls ask to a statement's footprint

all-among : (test : ℕ → Bool) (xs : List ℕ) (n : ℕ) → list_all test xs ≡ true → among xs n ≡ true → test n ≡ true
all-among test [] n all h = absurd (true≢false (sym h))
all-among test (x ∷ xs) n all h =
    either (x == n) (λ b. (b || among xs n) ≡ true → test n ≡ true)
    (λ k _. subst (λ (m : ℕ). test m ≡ true) (number-is x n k) (left (test x) (list_all test xs) all))
    (λ _ k. all-among test xs n (right (test x) (list_all test xs) all) k) h

module _ {P : Type 0} (attempt : P → Attempt) (follows : P → P → Type 0) (asked : P → P → (ℕ → Bool) → (ℕ → Bool) → ℕ → Type 0) (laws : PageLaws attempt follows asked)
    (form : Place → Array → List ℕ → List (List ℕ) → Type 0) (spot : Place → Array → List ℕ → ℕ → Type 0) (a b : Parts P) (array : Array) (p : Present) (statement : Statement) where
  pub uses-of : follows a.pages b.pages → (changes : Bool) → ((asked : List ℕ) → AreAmong asked (touched p.state.schema p.variables statement) → IsTrue (list_all (is_in_footprint p.state.schema p.variables statement) asked))
      → AskedAt (AsksFor attempt follows form spot asked a b array) changes (touched p.state.schema p.variables statement) → Uses attempt asked a b array p statement changes
  uses-of ab changes footprints at =
      let before : Array = over (attempt a.pages) array in
      let B = attempt b.pages in
      let stores = stores_asked at.calls in
      let inside = footprints stores at.within in
      let used : ℕ → Bool = may_use p.state.schema p.variables statement B before in
      let wide : IsWithin (may_touch stores B before) used = λ page h.
      elim (or-cases (belongs stores before page) (B.drawn page) h) [
        | inl k ↦
            let found = any-found (λ store. is_page_of store (before page)) stores k in
            let number : (store_of (before page) == found.0) ≡ true = left (store_of (before page) == found.0) (nat_le 2 (kind_of (before page)) && nat_le (kind_of (before page)) 4) found.2 in
            first-of (is_used p.state.schema p.variables statement (before page)) (B.drawn page)
            (both (nat_le 2 (kind_of (before page)) && nat_le (kind_of (before page)) 4) (is_in_footprint p.state.schema p.variables statement (store_of (before page)))
            (right (store_of (before page) == found.0) (nat_le 2 (kind_of (before page)) && nat_le (kind_of (before page)) 4) found.2)
            (subst (λ (n : ℕ). is_in_footprint p.state.schema p.variables statement n ≡ true) (sym (number-is (store_of (before page)) found.0 number))
            (all-among (is_in_footprint p.state.schema p.variables statement) stores found.0 inside found.1)))
        | inr d ↦ one-of (is_used p.state.schema p.variables statement (before page)) (B.drawn page) d
      ] in
      record {
        calls = at.calls;
        few = at.asked.touches.few;
        idle = λ none. (none-counted rows_added same-none at.calls (at.looks none), none-counted rows_changed none-changed at.calls (at.looks none));
        still = λ none page. elim ((laws.asked_tells a.pages b.pages (may_touch stores B before) (λ other. puts at.calls && may_touch stores B before other) (17 * rows_drawn at.calls) ab at.asked.touches.asks).put_only page) [
          | inl same ↦ same
          | inr put ↦ absurd (true≢false (sym (left (puts at.calls) (may_touch stores B before page) put) ∙ at.looks none))
        ];
        asks = laws.asked_more a.pages b.pages (may_touch stores B before) (λ page. puts at.calls && may_touch stores B before page) used (λ page. changes && used page) (17 * rows_drawn at.calls) (17 * rows_drawn at.calls) wide
            (λ page h. both changes (used page)
            (either changes (λ c. changes ≡ c → c ≡ true) (λ _ _. refl) (λ _ none. absurd (true≢false (sym (left (puts at.calls) (may_touch stores B before page) h) ∙ at.looks none))) refl)
            (wide page (right (puts at.calls) (may_touch stores B before page) h)))
            (omega arith) at.asked.touches.asks;
      }

  -- ---- a place that was set

  set-put : (s : State) (place : terms.Place) → SetsAt (AsksFor attempt follows form spot asked a b array) s place → IsPut attempt asked follows form spot a b array s place.entity
  set-put s place set =
      let last : Asked = record { state = s; call = Set place.entity place.number set.value; answered = true } in
      all-last (λ q. PutsFor attempt follows form spot asked a b array q.state q.call q.answered) set.before last set.asked.sets

  put-all : {A : Type 0} (s : State) (places : List terms.Place) (r : Result A BaseFault) → OnOk r (All (SetsAt (AsksFor attempt follows form spot asked a b array) s) places) → OnOk r (All (λ place. IsPut attempt asked follows form spot a b array s place.entity) places)
  put-all s places (Ok x) h = all-map (SetsAt (AsksFor attempt follows form spot asked a b array) s) (λ place. IsPut attempt asked follows form spot a b array s place.entity) places (set-put s) h
  put-all s places (Err fault) h = tt

  -- ---- how full pages are

  fits-of : {A : Type 0} (room : P → Option Room) → ((x : P) → IsSound (attempt x)) → ((x y : P) → follows x y → IsNoMore (room x) (room y)) → ((x : P) → IsAllRoom (attempt x) (room x)) → follows a.pages b.pages
      → Agrees (attempt b.pages) array → (changes : Bool) (result : Result A BaseFault) → ForSome (fault_behind result) (IsStopped (attempt b.pages) (room b.pages)) → (uses : Uses attempt asked a b array p statement changes)
      → Fits (room a.pages) (attempt a.pages) (attempt b.pages) uses.calls result
  fits-of room is_sound room_stays is_all_room ab agrees changes result stops uses =
      let A = attempt a.pages in
      let B = attempt b.pages in
      let used : ℕ → Bool = may_use p.state.schema p.variables statement B (over A array) in
      let told = laws.asked_tells a.pages b.pages used (λ page. changes && used page) (17 * rows_drawn uses.calls) ab uses.asks in
      let stays = laws.seen_stays a.pages b.pages ab in
      let drawn = laws.drawn_stays a.pages b.pages ab in
      let put : (page : ℕ) → (B.written page ≡ A.written page) ⊎ ((B.drawn page ≡ true) ⊎ (2 ≤ kind_of (over A array page))) = λ page.
      elim (told.put_only page) [
        | inl same ↦ inl same
        | inr h ↦ inr (elim (or-cases (is_used p.state.schema p.variables statement (over A array page)) (B.drawn page) (right changes (used page) h)) [
          | inl k ↦ inr (from-two (kind_of (over A array page)) (left (nat_le 2 (kind_of (over A array page))) (nat_le (kind_of (over A array page)) 4) (left (nat_le 2 (kind_of (over A array page)) && nat_le (kind_of (over A array page)) 4) (is_in_footprint p.state.schema p.variables statement (store_of (over A array page))) k)))
          | inr d ↦ inl d
        ])
      ] in
      let changed_most = changed-most A B array (is_sound a.pages) (is_sound b.pages) agrees stays (34 * rows_put uses.calls) uses.few in
      let taken_most = taken-most A B array (is_sound a.pages) (is_sound b.pages) agrees stays drawn put (17 * rows_drawn uses.calls) told.drew_most in
      record {
        changed_most = changed_most;
        taken_most = taken_most;
        many = λ w few less. not-many B (room b.pages) result stops w (rows_put uses.calls) (changed A) changed_most few less;
        full = λ r few. not-full B (room b.pages) result stops (room a.pages) (rows_drawn uses.calls) r (taken A) (room_stays a.pages b.pages ab) (is_all_room b.pages) taken_most few;
      }

  -- ---- a step, by the clauses of a base

  module _ {A : Type 0} (right : A → Type 0) (states : (q : Present) → IsLegal q.state → (s : Statement) → IsTrue (is_written s) → refusal q s ≡ None → IsLegal (does q s).state)
      (footprints : (asked : List ℕ) → AreAmong asked (touched p.state.schema p.variables statement) → IsTrue (list_all (is_in_footprint p.state.schema p.variables statement) asked)) where
    pub step-in-pages : (room : P → Option Room) → ((x y : P) → follows x y → IsNoMore (room x) (room y)) → ((x : P) → IsAllRoom (attempt x) (room x)) → Agrees (attempt b.pages) array → follows a.pages b.pages
        → (result : Result A BaseFault) → ForSome (fault_behind result) (IsStopped (attempt b.pages) (room b.pages)) → IsLegal p.state → IsTrue (is_written statement)
        → Steps p statement (StandsIn attempt form b array) (AsksFor attempt follows form spot asked a b array) (λ e n. IsReached attempt b array e) right result → StepsInPages attempt asked follows form spot room a b array p statement right result
    step-in-pages room room_stays is_all_room agrees ab result stops legal written steps =
        let uses = uses-of ab (may_put statement) footprints steps.asked in
        record {
          concludes = steps.concludes;
          full = whole result steps.concludes;
          uses = uses;
          fits = fits-of room laws.is_sound room_stays is_all_room ab agrees (may_put statement) result stops uses;
          reached = steps.reached;
          first = elim steps.first [
            | inl got ↦ inl got
            | inr looked ↦ inr (uses-of ab false footprints looked)
          ];
          put = put-all p.state (first_place p statement) result steps.sets;
        }
      where
        whole : (r : Result A BaseFault) → Concludes (refusal p statement) (StandsIn attempt form b array) p.state (does p statement).state right r → OnOk r (StandsFor form (over (attempt b.pages) array) (does p statement).state)
        whole (Ok x) h = record { legal = states p legal statement written h.0; nearly = (b.places, h.2.nearly) }
        whole (Err fault) h = tt
