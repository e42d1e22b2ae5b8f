use Rattle.std.proofs.Common.{ℕ, ◌<◌}
use Rattle.std.specs.Prelude.{slice_index_or}
use Rattle.st_pages.specs.declared.places.Place.{Place}
use Rattle.st_store.specs.Stores.{IsPlace}
use Rattle.st_store_tables.proofs.schemas.are_places.Given as goal

-- all places so far may be those of stores
abbrev pub invariant-loop-place : goal.invariant-loop-place
invariant-loop-place l = (k : ℕ) (d : Place) → k < l.place-index → IsPlace (slice_index_or l.place-items k d)
