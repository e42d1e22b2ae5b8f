use Rattle.std.proofs.Common.{◌≡◌}
use Rattle.std.specs.Prelude.{filter, nat_lt, ◌&&◌, false}
use Rattle.st_lattice.specs.Lattice.{isa}
use Rattle.st_lattice.specs.Stores.{extents}
use Rattle.st_known.specs.Known.{AreKnown}
use Rattle.st_database.specs.Touches.{Touches}
use Rattle.st_lookups.specs.Looks.{OfState}
use Rattle.st_listings.proofs.listing.list_known.Given as goal

-- what is known of the entities of the types so far
abbrev pub invariant-loop-other : goal.invariant-loop-other
invariant-loop-other g l =
    let attempt = g.P.Pages.attempt in
    record {
      follows : g.P.Pages.follows l.fn.pages l.pages;
      written : (attempt l.pages).written ≡ (attempt l.fn.pages).written;
      found : OfState g.S.Store.holds (attempt l.fn.pages) (attempt l.pages) l.schema l.places (λ array s.
          Touches (g.P.Pages.asked l.fn.pages l.pages) (attempt l.fn.pages) (attempt l.pages) array (extents l.schema l.ty) false 0 0
          × AreKnown s (filter (λ e. nat_lt e.ty l.other && isa s.schema e.ty l.ty) s.live) l.known);
    }
