-- What calls in a row leave of stores.
use Rattle.std.specs.Prelude.{◌≡◌, ℕ, ◌⊎◌, ◌||◌, List, [], ◌∷◌, ◌++◌, Option, Some, None, IsTrue, Bool}
use Rattle.std.specs.List.{All}
use Rattle.st_values.specs.declared.value.Kind.{Kind}
use Rattle.st_image.specs.Fields.{blank}
use Rattle.st_rows.specs.Rows.{pair_width}
use Rattle.st_pages.specs.declared.places.Place.{Place}
use Rattle.st_pages.specs.Attempt.{Array, Attempt}
use Rattle.st_store.specs.Stores.{IsPlace, drew_between}
use Rattle.st_index.specs.Noted.{Rewritten, reach_any}

-- a place, if there is one
abbrev pub one_place : Option Place → List Place
one_place None = []
one_place (Some place) = place ∷ []

-- the places of an index and of an inverse, of which there may be none
abbrev pub two_places : Option Place → Option Place → List Place
two_places index inverse = one_place index ++ one_place inverse

-- a store of rows of a value and an entity may stand at a place: all of a row is its key
pub record IsTurned (kind : Kind) (place : Place) : Type 0 where
  pub is_place : IsPlace place
  pub key : place.key ≡ pair_width kind
  pub width : place.width ≡ pair_width kind

-- two places are those of different stores
abbrev pub AreApart : List Place → List Place → Type 0
AreApart ps qs = All (λ p. All (λ q. p.store ≡ q.store → ⊥) qs) ps

module _ (form : Place → Array → List ℕ → List (List ℕ) → Type 0) (reach : Place → Array → ℕ → Bool) where
  -- what calls on stores at places leave, where each one's rows change in the same way
  pub record Moved (places : List Place) (change : List (List ℕ) → List (List ℕ)) (a b : Attempt) (before after : Array) : Type 0 where
    pub each : All (λ place. (pages : List ℕ) (rows : List (List ℕ)) → form place before pages rows → Rewritten form reach place a b before after pages (change rows)) places
    pub others : (page : ℕ) → IsTrue (reach_any form reach places before page || drew_between a b page) ⊎ (after page ≡ before page)
    pub drawn : (page : ℕ) → IsTrue (drew_between a b page) → before page ≡ blank
    pub used : (page : ℕ) → IsTrue (drew_between a b page) → IsTrue (reach_any form reach places after page) ⊎ (after page ≡ blank)
