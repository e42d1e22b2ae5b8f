-- The form of stores that src/form.rt names: what it is for contracts, and its laws.
use Rattle.std.specs.Prelude.{ℕ, List}
use Rattle.st_pages.specs.declared.places.Place.{Place}
use Rattle.st_pages.specs.Attempt.{Array}
use Rattle.st_store.specs.Chain.{IsChainOf, IsSpot}
use Rattle.st_chain.specs.Laws as chain
use Rattle.st_paged.proofs.Reaching.{SpotLaws}

abbrev pub form : Place → Array → List ℕ → List (List ℕ) → Type 0
form = IsChainOf

abbrev pub spot : Place → Array → List ℕ → ℕ → Type 0
spot = IsSpot

pub spots : SpotLaws form spot
spots = record {
  bear = chain.bear;
  one_spot = chain.one-spot;
  spot_of_key = chain.spot-of-key;
  stands_there = λ p a pages rows row page index held here low at. chain.stands-there p a pages rows row page index held here at;
}
