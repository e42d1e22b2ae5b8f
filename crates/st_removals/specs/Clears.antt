-- What the steps of a deletion give: each takes triples out that speak of the entity, and changes no more pages than these allow.
use Rattle.std.specs.Prelude.{◌≡◌, ℕ, ◌+◌, ◌*◌, ◌≤◌, Bool, true, List, Result, IsTrue, IfOk, IfErr}
use Rattle.std.specs.List.{list_all}
use Rattle.st_page.specs.declared.fault.PageFault.{PageFault}
use Rattle.st_values.specs.declared.value.EntityId.{EntityId}
use Rattle.st_lattice.specs.Stores.{deleted}
use Rattle.st_pages.specs.declared.places.Place.{Place}
use Rattle.st_pages.specs.Attempt.{Array, Attempt, over}
use Rattle.st_pages.specs.Reading.{OfDamage}
use Rattle.st_database.specs.Touches.{Touches}
use Rattle.st_state.specs.declared.triple.Triple.{Triple}
use Rattle.st_state.specs.State.{State, entity_deleted}
use Rattle.st_counts.specs.Counts.{referring_rows, spoken_rows}
use Rattle.st_standing.specs.Standing.{NearlyStandsAt}

-- How many rows speak of an entity: those of sets, indexes and inverses, and the rows of other entities that have it as a single
-- value.
abbrev pub tally : State → EntityId → ℕ
tally s e = spoken_rows s e + referring_rows s e

-- A state is another one in which some triples that speak of an entity may be gone: nothing else differs, and with the entity
-- deleted both are the same.
pub record IsLess (e : EntityId) (s t : State) : Type 0 where
  pub schema : t.schema ≡ s.schema
  pub live : t.live ≡ s.live
  pub last : t.last ≡ s.last
  pub deleted : entity_deleted t e ≡ entity_deleted s e
  pub fewer : (test : Triple → Bool) → IsTrue (list_all test s.triples) → IsTrue (list_all test t.triples)

-- What a step of a deletion gives of a state: a state that is less, and in which what was to be done is done; no page is bad. Only
-- pages of the stores of a deletion are asked for, and none is drawn. For the pages that change, as many rows stand as are
-- `spent`; by so many fewer rows speak of the entity behind the step, and it is never more than speak of it in front.
pub record Clears {A : Type 0} (form : Place → Array → List ℕ → List (List ℕ) → Type 0) (asked : (ℕ → Bool) → (ℕ → Bool) → ℕ → Type 0) (a b : Attempt) (array : Array) (places : List Place)
    (e : EntityId) (s : State) (right : State → Type 0) (result : Result A PageFault) : Type 0 where
  pub spent : ℕ
  pub within : spent ≤ tally s e
  pub touches : Touches asked a b array (deleted s.schema e.ty) true 0 (34 * spent)
  pub sound : IfErr result (OfDamage (λ page at. ⊥))
  pub answers : IfOk result (λ _. (t : State) × IsLess e s t × NearlyStandsAt form (over b array) places t × (spent + tally t e ≤ tally s e) × right t)

-- What the end of a deletion gives of a state: the state without the entity; no page is bad. Only pages of the stores of a deletion
-- are asked for, and none is drawn.
pub record Removes {A : Type 0} (form : Place → Array → List ℕ → List (List ℕ) → Type 0) (asked : (ℕ → Bool) → (ℕ → Bool) → ℕ → Type 0) (a b : Attempt) (array : Array) (places : List Place)
    (e : EntityId) (s : State) (result : Result A PageFault) : Type 0 where
  pub answers : IfOk result (λ _. NearlyStandsAt form (over b array) places (entity_deleted s e))
  pub sound : IfErr result (OfDamage (λ page at. ⊥))
  pub touches : Touches asked a b array (deleted s.schema e.ty) true 0 (34 * (1 + tally s e))
