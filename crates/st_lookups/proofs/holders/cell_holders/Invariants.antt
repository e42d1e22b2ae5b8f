use Rattle.std.proofs.Common.{◌≡◌, Some}
use Rattle.std.specs.Prelude.{filter, nat_lt, ◌&&◌, false}
use Rattle.st_values.specs.Order.{same_value}
use Rattle.st_lattice.specs.Lattice.{isa}
use Rattle.st_lattice.specs.Outline.{attribute}
use Rattle.st_lattice.specs.Stores.{extents}
use Rattle.st_state.specs.State.{value_at}
use Rattle.st_database.specs.Touches.{Touches}
use Rattle.st_lookups.specs.Looks.{OfState}
use Rattle.st_lookups.proofs.holders.cell_holders.Given as goal

-- the entities of the types so far
abbrev pub invariant-loop-other : goal.invariant-loop-other
invariant-loop-other g l =
    let attempt = g.P.Pages.attempt in
    let x = l.attribute in
    record {
      follows : g.P.Pages.follows l.fn.pages l.pages;
      written : (attempt l.pages).written ≡ (attempt l.fn.pages).written;
      found : OfState g.S.Store.holds (attempt l.fn.pages) (attempt l.pages) l.schema l.places (λ array s. attribute s.schema x.number ≡ Some x → x.many ≡ false →
          Touches (g.P.Pages.asked l.fn.pages l.pages) (attempt l.fn.pages) (attempt l.pages) array (extents l.schema x.owner) false 0 0
          × (l.entities ≡ filter (λ e. nat_lt e.ty l.other && (isa s.schema e.ty x.owner && same_value (value_at x.number e s.triples) l.value)) s.live));
    }
