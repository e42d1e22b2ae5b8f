use Rattle.std.proofs.Common.{◌≡◌, true, Some, drop}
use Rattle.std.specs.Prelude.{map, false}
use Rattle.std.specs.List.{All}
use Rattle.st_lattice.specs.Outline.{attribute}
use Rattle.st_lattice.specs.Stores.{deleted}
use Rattle.st_state.specs.State.{is_live}
use Rattle.st_state.specs.Bases.{needed}
use Rattle.st_state.specs.Refusals.{first_of}
use Rattle.st_database.specs.Touches.{Touches}
use Rattle.st_lookups.specs.Looks.{OfState}
use Rattle.st_deletes.proofs.needs.needed_by_some.Given as goal

-- nothing refers to it by the attributes so far
abbrev pub invariant-loop-attribute : goal.invariant-loop-attribute
invariant-loop-attribute g l =
    let attempt = g.P.Pages.attempt in
    record {
      follows : g.P.Pages.follows l.fn.pages l.pages;
      written : (attempt l.pages).written ≡ (attempt l.fn.pages).written;
      found : OfState g.S.Store.holds (attempt l.fn.pages) (attempt l.pages) l.schema l.places (λ array s. is_live s l.entity ≡ true → All (λ a. attribute s.schema a.number ≡ Some a) l.attributes →
          Touches (g.P.Pages.asked l.fn.pages l.pages) (attempt l.fn.pages) (attempt l.pages) array (deleted l.schema l.entity.ty) false 0 0
          × (first_of (map (needed s l.entity) l.attributes) ≡ first_of (map (needed s l.entity) (drop l.attribute-index l.attributes))));
    }
