-- The steps of a deletion, one after another.
use Rattle.std.proofs.Common.{◌≡◌, ℕ, ◌+◌, ◌*◌, ◌≤◌, ◌==◌, Bool, true, false, List, [], ◌++◌, Result, Ok, Err, sym, ◌∙◌, subst, inl, inr, arith, true≢false}
use Rattle.std.specs.Prelude.{IfOk}
use Rattle.std.proofs.lemmas.List.Folds.{list_any-append}
use Rattle.st_page.specs.declared.fault.PageFault.{PageFault}
use Rattle.st_page.specs.declared.fault.PageFault.TheVariants.{Memory}
use Rattle.st_values.specs.declared.value.EntityId.{EntityId}
use Rattle.st_lattice.specs.Outline.{Outline}
use Rattle.st_lattice.specs.Stores.{deleted}
use Rattle.st_pages.specs.declared.places.Place.{Place}
use Rattle.st_pages.specs.Attempt.{Array, Attempt, over}
use Rattle.st_store.specs.Stores.{among}
use Rattle.st_state.specs.State.{State, entity_deleted}
use Rattle.st_index.proofs.Called.{PageLaws}
use Rattle.st_index.proofs.Counted.{or-cases}
use Rattle.st_database.specs.Touches.{Touches}
use Rattle.st_database.proofs.Touching.{AreAmong, touches-more, touches-nothing, touches-then}
use Rattle.st_standing.specs.Standing.{NearlyStandsAt}
use Rattle.st_lookups.specs.Looks.{Finds}
use Rattle.st_removals.specs.Clears.{Clears, IsLess, Removes, tally}
use Rattle.st_removals.proofs.Fewer.{less-itself, less-then}

-- stores in front of others that they are among
among-both : (stores others : List ℕ) → AreAmong stores others → AreAmong (stores ++ others) others
among-both stores others more t h = elim (or-cases (among stores t) (among others t) (sym (list_any-append (λ s. s == t) stores others) ∙ h)) [
  | inl k ↦ more t k
  | inr k ↦ k
]

module _ {Self : Type 0} (attempt : Self → Attempt) (follows : Self → Self → Type 0) (asked : Self → Self → (ℕ → Bool) → (ℕ → Bool) → ℕ → Type 0) (page_laws : PageLaws attempt follows asked) (form : Place → Array → List ℕ → List (List ℕ) → Type 0)
    (array : Array) (places : List Place) (e : EntityId) where
  -- a look in front of what touches the stores of a deletion
  pub touches-behind : (x y z : Self) → follows x y → follows y z → (stores others : List ℕ) (n : ℕ) → AreAmong stores others → Touches (asked x y) (attempt x) (attempt y) array stores false 0 0
      → Touches (asked y z) (attempt y) (attempt z) array others true 0 n → Touches (asked x z) (attempt x) (attempt z) array others true 0 n
  touches-behind x y z xy yz stores others n some first second =
      touches-more attempt follows asked page_laws x z array (stores ++ others) others true true (0 + 0) 0 (0 + n) n (among-both stores others some) (λ h. h) (omega arith) (omega arith)
      (touches-then attempt follows asked page_laws x y z xy yz array stores others false true 0 0 0 n first second)

  -- a look alone
  pub touches-alone : (x y : Self) → (stores others : List ℕ) (n : ℕ) → AreAmong stores others → Touches (asked x y) (attempt x) (attempt y) array stores false 0 0 → Touches (asked x y) (attempt x) (attempt y) array others true 0 n
  touches-alone x y stores others n some first = touches-more attempt follows asked page_laws x y array stores others false true 0 0 0 n some (λ h. absurd (true≢false (sym h))) (omega arith) (omega arith) first

  -- two steps in a row
  touches-both : (x y z : Self) → follows x y → follows y z → (stores : List ℕ) (m n : ℕ) → Touches (asked x y) (attempt x) (attempt y) array stores true 0 m → Touches (asked y z) (attempt y) (attempt z) array stores true 0 n
      → Touches (asked x z) (attempt x) (attempt z) array stores true 0 (m + n)
  touches-both x y z xy yz stores m n first second =
      touches-more attempt follows asked page_laws x z array (stores ++ stores) stores true true (0 + 0) 0 (m + n) (m + n) (among-both stores stores (λ t h. h)) (λ h. h) (omega arith) (omega arith)
      (touches-then attempt follows asked page_laws x y z xy yz array stores stores true true 0 0 m n first second)

  untouched : ((x : Self) (got put : ℕ → Bool) → asked x x got put 0) → (x : Self) (others : List ℕ) → Touches (asked x x) (attempt x) (attempt x) array others true 0 (34 * 0)
  untouched nothing x others = touches-more attempt follows asked page_laws x x array [] others false true 0 0 0 (34 * 0) (λ t h. absurd (true≢false (sym h))) (λ h. absurd (true≢false (sym h))) (omega arith) (omega arith) (touches-nothing attempt follows asked nothing x array)

  -- nothing is to be done
  pub clears-begin : {A : Type 0} → ((x : Self) (got put : ℕ → Bool) → asked x x got put 0) → (x : Self) (s : State) (right : State → Type 0) (done : A) → NearlyStandsAt form (over (attempt x) array) places s → right s
      → Clears {A = A} form (asked x x) (attempt x) (attempt x) array places e s right (Ok done)
  clears-begin nothing x s right done stands holds = record {
    spent = 0;
    within = omega arith;
    touches = untouched nothing x (deleted s.schema e.ty);
    sound = tt;
    answers = (s, less-itself e s, stands, omega arith, holds);
  }

  -- memory wants
  pub clears-memory : {A : Type 0} → ((x : Self) (got put : ℕ → Bool) → asked x x got put 0) → (x : Self) (s : State) (right : State → Type 0) → Clears {A = A} form (asked x x) (attempt x) (attempt x) array places e s right (Err Memory)
  clears-memory nothing x s right = record {
    spent = 0;
    within = omega arith;
    touches = untouched nothing x (deleted s.schema e.ty);
    sound = tt;
    answers = tt;
  }

  module _ (x y : Self) (s : State) where
    -- a fault ends what a step is a part of
    pub clears-fail : {A B : Type 0} (right other : State → Type 0) (fault : PageFault) → Clears {A = A} form (asked x y) (attempt x) (attempt y) array places e s right (Err fault) → Clears {A = B} form (asked x y) (attempt x) (attempt y) array places e s other (Err fault)
    clears-fail right other fault c = record { spent = c.spent; within = c.within; touches = c.touches; sound = c.sound; answers = tt }

    -- more is said of what is left
    pub clears-less : {A : Type 0} (right other : State → Type 0) (result : Result A PageFault) → ((t : State) → IsLess e s t → NearlyStandsAt form (over (attempt y) array) places t → right t → other t)
        → Clears form (asked x y) (attempt x) (attempt y) array places e s right result → Clears form (asked x y) (attempt x) (attempt y) array places e s other result
    clears-less {A} right other result more c = record { spent = c.spent; within = c.within; touches = c.touches; sound = c.sound; answers = by result c.answers }
      where
        by : (r : Result A PageFault) → IfOk r (λ _. (t : State) × IsLess e s t × NearlyStandsAt form (over (attempt y) array) places t × (c.spent + tally t e ≤ tally s e) × right t)
            → IfOk r (λ _. (t : State) × IsLess e s t × NearlyStandsAt form (over (attempt y) array) places t × (c.spent + tally t e ≤ tally s e) × other t)
        by (Ok done) h = (h.0, h.1, h.2, h.3, more h.0 h.1 h.2 h.4)
        by (Err fault) h = tt

  module _ (x y z : Self) (xy : follows x y) (yz : follows y z) (s : State) where
    -- a look in front of a step
    pub looks-then : {A : Type 0} (stores : List ℕ) (right : State → Type 0) (result : Result A PageFault) → AreAmong stores (deleted s.schema e.ty) → Touches (asked x y) (attempt x) (attempt y) array stores false 0 0
        → Clears form (asked y z) (attempt y) (attempt z) array places e s right result → Clears form (asked x z) (attempt x) (attempt z) array places e s right result
    looks-then stores right result some first c = record {
      spent = c.spent;
      within = c.within;
      touches = touches-behind x y z xy yz stores (deleted s.schema e.ty) (34 * c.spent) some first c.touches;
      sound = c.sound;
      answers = c.answers;
    }

    -- two steps in a row
    pub clears-then : {A B : Type 0} (first second right : State → Type 0) (done : A) (result : Result B PageFault) → Clears form (asked x y) (attempt x) (attempt y) array places e s first (Ok done)
        → ((t : State) → IsLess e s t → NearlyStandsAt form (over (attempt y) array) places t → first t → Clears form (asked y z) (attempt y) (attempt z) array places e t second result)
        → ((t u : State) → IsLess e s t → first t → IsLess e t u → second u → right u)
        → Clears form (asked x z) (attempt x) (attempt z) array places e s right result
    clears-then {A} {B} first second right done result c next both =
        let t = c.answers.0 in
        let less = c.answers.1 in
        let d = next t less c.answers.2 c.answers.4 in
        let falls = c.answers.3 in
        let low = d.within in
        record {
          spent = c.spent + d.spent;
          within = omega (arith, falls, low);
          touches = subst (λ n. Touches (asked x z) (attempt x) (attempt z) array (deleted s.schema e.ty) true 0 n) (times c.spent d.spent)
              (touches-both x y z xy yz (deleted s.schema e.ty) (34 * c.spent) (34 * d.spent) c.touches (subst (λ (o : Outline). Touches (asked y z) (attempt y) (attempt z) array (deleted o e.ty) true 0 (34 * d.spent)) less.schema d.touches));
          sound = d.sound;
          answers = by result d.answers;
        }
      where
        times : (m n : ℕ) → 34 * m + 34 * n ≡ 34 * (m + n)
        times m n = omega arith

        by : let t = c.answers.0 in let less = c.answers.1 in let d = next t less c.answers.2 c.answers.4 in
            (r : Result B PageFault) → IfOk r (λ _. (u : State) × IsLess e t u × NearlyStandsAt form (over (attempt z) array) places u × (d.spent + tally u e ≤ tally t e) × second u)
            → IfOk r (λ _. (u : State) × IsLess e s u × NearlyStandsAt form (over (attempt z) array) places u × ((c.spent + d.spent) + tally u e ≤ tally s e) × right u)
        by (Ok answer) h =
            let falls = c.answers.3 in
            let more = h.3 in
            (h.0, less-then e s c.answers.0 h.0 c.answers.1 h.1, h.2, omega (arith, falls, more), both c.answers.0 h.0 c.answers.1 c.answers.4 h.1 h.4)
        by (Err fault) h = tt

  -- a look that fails
  pub looks-fail : {A B : Type 0} (x y : Self) (s : State) (found : A → Type 0) (stores : List ℕ) (right : State → Type 0) (fault : PageFault) → AreAmong stores (deleted s.schema e.ty) → Finds {A = A} (asked x y) (attempt x) (attempt y) array found stores (Err fault)
      → Clears {A = B} form (asked x y) (attempt x) (attempt y) array places e s right (Err fault)
  looks-fail x y s found stores right fault some f = record {
    spent = 0;
    within = omega arith;
    touches = touches-alone x y stores (deleted s.schema e.ty) (34 * 0) some f.touches;
    sound = f.sound;
    answers = tt;
  }

  -- the end of a deletion, behind its steps
  pub removes-then : {A B : Type 0} (x y z : Self) → follows x y → follows y z → (s : State) (first : State → Type 0) (done : A) (result : Result B PageFault) → Clears form (asked x y) (attempt x) (attempt y) array places e s first (Ok done)
      → ((t : State) → IsLess e s t → NearlyStandsAt form (over (attempt y) array) places t → first t → Removes form (asked y z) (attempt y) (attempt z) array places e t result)
      → Removes form (asked x z) (attempt x) (attempt z) array places e s result
  removes-then {A} {B} x y z xy yz s first done result c next =
      let t = c.answers.0 in
      let less = c.answers.1 in
      let d = next t less c.answers.2 c.answers.4 in
      let falls = c.answers.3 in
      record {
        answers = by result d.answers;
        sound = d.sound;
        touches = touches-more attempt follows asked page_laws x z array (deleted s.schema e.ty) (deleted s.schema e.ty) true true 0 0 (34 * c.spent + 34 * (1 + tally t e)) (34 * (1 + tally s e)) (λ n h. h) (λ h. h) (omega arith) (omega (arith, falls))
            (touches-both x y z xy yz (deleted s.schema e.ty) (34 * c.spent) (34 * (1 + tally t e)) c.touches (subst (λ (o : Outline). Touches (asked y z) (attempt y) (attempt z) array (deleted o e.ty) true 0 (34 * (1 + tally t e))) less.schema d.touches));
      }
    where
      by : (r : Result B PageFault) → IfOk r (λ _. NearlyStandsAt form (over (attempt z) array) places (entity_deleted c.answers.0 e)) → IfOk r (λ _. NearlyStandsAt form (over (attempt z) array) places (entity_deleted s e))
      by (Ok answer) h = subst (NearlyStandsAt form (over (attempt z) array) places) c.answers.1.deleted h
      by (Err fault) h = tt

  -- a fault in its steps ends it
  pub removes-fail : {A B : Type 0} (x y : Self) (s : State) (first : State → Type 0) (fault : PageFault) → Clears {A = A} form (asked x y) (attempt x) (attempt y) array places e s first (Err fault) → Removes {A = B} form (asked x y) (attempt x) (attempt y) array places e s (Err fault)
  removes-fail x y s first fault c =
      let low = c.within in
      record {
        answers = tt;
        sound = c.sound;
        touches = touches-more attempt follows asked page_laws x y array (deleted s.schema e.ty) (deleted s.schema e.ty) true true 0 0 (34 * c.spent) (34 * (1 + tally s e)) (λ n h. h) (λ h. h) (omega arith) (omega (arith, low)) c.touches;
      }
