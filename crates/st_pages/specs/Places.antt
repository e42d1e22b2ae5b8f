-- Where stores stand: their first pages.
use Rattle.std.specs.Prelude.{ℕ, ◌==◌, nat_lt, List, Option, find, IsTrue}
use Rattle.std.specs.List.{list_all}
use Rattle.st_values.specs.Arranged.{ascends}
use Rattle.st_pages.specs.declared.places.Place.{Place}

-- places in the order of their stores, with no store twice
abbrev pub AscendByStore : List Place → Type 0
AscendByStore places = IsTrue (ascends (λ a b. nat_lt a.store b.store) places)

-- the stores of all places are below one
abbrev pub AreBelow : ℕ → List Place → Type 0
AreBelow store places = IsTrue (list_all (λ p. nat_lt p.store store) places)

-- the place of a store, if there is one
abbrev pub place_of : ℕ → List Place → Option Place
place_of store places = find (λ p. p.store == store) places
