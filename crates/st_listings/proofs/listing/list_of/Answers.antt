use Rattle.std.proofs.Common.{◌≡◌, ◌==◌, true, false, List, [], ◌∷◌, sym, ap, ◌∙◌}
use Rattle.std.specs.Prelude.{filter, ◌&&◌}
use Rattle.st_lattice.specs.declared.stores.StoreKind.TheVariants.{Extent}
use Rattle.st_lattice.specs.Lattice.{isa}
use Rattle.st_lattice.specs.Outline.{Outline}
use Rattle.st_lattice.specs.Stores.{extents, store}
use Rattle.st_index.proofs.Called.{PageLaws}
use Rattle.st_known.specs.declared.known.Known.{Known}
use Rattle.st_lookups.proofs.Listed.{all-of-type, extent-among, none-of-type}
use Rattle.st_lookups.proofs.Lived.{finds-nothing}
use Rattle.st_lookups.proofs.Rowed.{finds-more}
use Rattle.st_listings.specs.Listings.{AlsoKnown}
use Rattle.st_listings.proofs.Reading.{also-as, also-none}
use Rattle.st_listings.proofs.listing.list_of.Given as given
use Rattle.st_listings.proofs.listing.list_of.Goals as goal

laws : (g : given.Over) → PageLaws g.P.Pages.attempt g.P.Pages.follows g.P.Pages.asked
laws g = record {
  is_sound = g.met.P.Pages.is_sound;
  seen_stays = g.met.P.Pages.seen_stays;
  drawn_stays = g.met.P.Pages.drawn_stays;
  drawn_unwritten = g.met.P.Pages.drawn_unwritten;
  follows_on = g.met.P.Pages.follows_on;
  asked_more = g.met.P.Pages.asked_more;
  asked_on = g.met.P.Pages.asked_on;
  asked_tells = g.met.P.Pages.asked_tells;
}

pub returns-then-isa-clause-finds : goal.returns-then-isa-clause-finds
returns-then-isa-clause-finds g c = λ array s agrees same stands.
    let known : List Known = c.args.known in
    let other = c.args.other in
    let ty = c.args.ty in
    let exact = filter (λ e. e.ty == other) s.live in
    let of = filter (λ e. (e.ty == other) && isa s.schema other ty) s.live in
    let is : isa c.args.schema.now other ty ≡ true = sym c.isa.ensures ∙ c.if-isa.true in
    finds-more g.P.Pages.attempt g.P.Pages.follows g.P.Pages.asked (laws g) c.args.pages.now c.list_exact.new.pages array (AlsoKnown s known exact) (AlsoKnown s known of) (store Extent other ∷ []) (extents c.args.schema.now ty) c.list_exact.result
    (extent-among c.args.schema.now ty other c.requires.known is) (λ more. also-as s known more exact of (all-of-type other (isa s.schema other ty) s.live (ap (λ (o : Outline). isa o other ty) same ∙ is)))
    (c.list_exact.ensures.finds array s agrees same stands)

pub returns-else-isa-clause-finds : goal.returns-else-isa-clause-finds
returns-else-isa-clause-finds g c = λ array s agrees same stands.
    let known : List Known = c.args.known in
    let other = c.args.other in
    let ty = c.args.ty in
    let of = filter (λ e. (e.ty == other) && isa s.schema other ty) s.live in
    let is : isa c.args.schema.now other ty ≡ false = sym c.isa.ensures ∙ c.if-isa.false in
    finds-nothing (g.P.Pages.asked c.args.pages.now c.args.pages.now) (g.P.Pages.attempt c.args.pages.now) array (g.met.P.Pages.asked_nothing c.args.pages.now) (AlsoKnown s known of) (extents c.args.schema.now ty) known
    (also-none s known of (none-of-type other (isa s.schema other ty) s.live (ap (λ (o : Outline). isa o other ty) same ∙ is)))
