use Rattle.std.proofs.Common.{◌≡◌, true, Some, Ok, take}
use Rattle.std.specs.List.{All}
use Rattle.st_lattice.specs.Outline.{attribute}
use Rattle.st_state.specs.State.{is_live}
use Rattle.st_lookups.specs.Looks.{OfState}
use Rattle.st_edits.specs.Edits.{PutsStores}
use Rattle.st_removals.specs.Clears.{Clears}
use Rattle.st_deletes.specs.Cleared.{AreCleared}
use Rattle.st_deletes.proofs.clearing.clear_some.Given as goal

-- those so far were cleared
abbrev pub invariant-loop-attribute : goal.invariant-loop-attribute
invariant-loop-attribute g l =
    let attempt = g.P.Pages.attempt in
    record {
      follows : g.P.Pages.follows l.fn.pages l.pages;
      kinds : PutsStores (attempt l.fn.pages) (attempt l.pages);
      clears : OfState g.S.Store.holds (attempt l.fn.pages) (attempt l.pages) l.schema l.places (λ array s. is_live s l.entity ≡ true → All (λ a. attribute s.schema a.number ≡ Some a) l.attributes →
          Clears {A = Unit {0}} g.S.Store.holds (g.P.Pages.asked l.fn.pages l.pages) (attempt l.fn.pages) (attempt l.pages) array l.places l.entity s (AreCleared l.entity (take l.attribute-index l.attributes)) (Ok (tt {0})));
    }
