-- What a change of an entity's value leaves in an attribute's index and inverse.
use Rattle.std.specs.Prelude.{◌≡◌, ℕ, ◌⊎◌, ◌||◌, not, Bool, List, IsTrue}
use Rattle.std.specs.List.{All, list_any}
use Rattle.std.specs.Str.{bytes_eq}
use Rattle.st_values.specs.declared.value.EntityId.{EntityId}
use Rattle.st_values.specs.declared.value.Kind.{Kind}
use Rattle.st_values.specs.declared.value.Value.{Value}
use Rattle.st_values.specs.declared.value.Value.TheVariants.{Null}
use Rattle.st_image.specs.Fields.{blank, last_serial_of}
use Rattle.st_pages.specs.declared.places.Place.{Place}
use Rattle.st_pages.specs.Attempt.{Array, Attempt, how_many, page_count}
use Rattle.st_store.specs.Stores.{among, drew_between}
use Rattle.st_index.specs.Turned.{noted, turned_places}

-- how many rows a value has in an index or inverse
abbrev pub rows_for : Value → ℕ
rows_for Null = 0
rows_for value = 1

-- how many bytes differ: pages with other bytes
abbrev pub differences : Array → Array → ℕ
differences before after = how_many (λ page. not (bytes_eq (before page) (after page))) page_count

module _ (form : Place → Array → List ℕ → List (List ℕ) → Type 0) (reach : Place → Array → ℕ → Bool) where
  -- an array has a store at each place
  abbrev pub AllHold : List Place → Array → Type 0
  AllHold places array = All (λ place. (pages : List ℕ) × (rows : List (List ℕ)) × form place array pages rows) places

  -- whether a page is one that calls on stores at places may ask for
  abbrev pub reach_any : List Place → Array → ℕ → Bool
  reach_any places array page = list_any (λ place. reach place array page) places

  -- a store of several has other rows: in pages that it had or that were drawn; each that it had and that isn't its own now is
  -- blank, and the last serial of the first one is as it was
  pub record Rewritten (place : Place) (a b : Attempt) (before after : Array) (pages : List ℕ) (rows : List (List ℕ)) : Type 0 where
    pub pages_now : List ℕ
    pub has : form place after pages_now rows
    pub taken : (page : ℕ) → IsTrue (among pages_now page) → IsTrue (among pages page || drew_between a b page)
    pub left : (page : ℕ) → IsTrue (among pages page) → IsTrue (among pages_now page) ⊎ (after page ≡ blank)
    pub serial : last_serial_of (after place.first) ≡ last_serial_of (before place.first)

  -- The index and the inverse of an attribute lost an entity's old value and gained the new one. All other pages are as they
  -- were; those that were drawn were blank, and are theirs or blank again.
  pub record IsNoted (places : List Place) (number : ℕ) (kind : Kind) (entity : EntityId) (old new : Value) (a b : Attempt) (before after : Array) : Type 0 where
    pub each : All (λ place. (pages : List ℕ) (rows : List (List ℕ)) → form place before pages rows → Rewritten place a b before after pages (noted kind entity old new rows)) (turned_places number places)
    pub others : (page : ℕ) → IsTrue (reach_any (turned_places number places) before page || drew_between a b page) ⊎ (after page ≡ before page)
    pub drawn : (page : ℕ) → IsTrue (drew_between a b page) → before page ≡ blank
    pub used : (page : ℕ) → IsTrue (drew_between a b page) → IsTrue (reach_any (turned_places number places) after page) ⊎ (after page ≡ blank)
