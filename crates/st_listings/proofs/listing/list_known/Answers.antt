use Rattle.std.proofs.Common.{◌≡◌, ℕ, ◌+◌, ◌==◌, refl, sym, ap, ◌∙◌, inl, arith, length}
use Rattle.std.specs.Prelude.{filter, nat_lt, ◌&&◌}
use Rattle.st_values.specs.declared.value.EntityId.{EntityId}
use Rattle.st_lattice.specs.Lattice.{isa}
use Rattle.st_lattice.specs.Outline.{Outline}
use Rattle.st_lattice.specs.Stores.{extents}
use Rattle.st_pages.specs.Attempt.{over}
use Rattle.st_pages.proofs.Carried.{Stays}
use Rattle.st_state.specs.State.{entities_of}
use Rattle.st_index.proofs.Called.{PageLaws, earlier}
use Rattle.st_index.proofs.Counted.{differences-none}
use Rattle.st_lookups.proofs.Listed.{all-types, none-yet, one-more}
use Rattle.st_lookups.proofs.Rowed.{stands-still, touches-both}
use Rattle.st_listings.proofs.Reading.{also-then, known-as, known-none}
use Rattle.st_listings.proofs.listing.list_known.Given as given
use Rattle.st_listings.proofs.listing.list_known.Goals as goal

laws : (g : given.Over) → PageLaws g.P.Pages.attempt g.P.Pages.follows g.P.Pages.asked
laws g = record {
  is_sound = g.met.P.Pages.is_sound;
  seen_stays = g.met.P.Pages.seen_stays;
  drawn_stays = g.met.P.Pages.drawn_stays;
  drawn_unwritten = g.met.P.Pages.drawn_unwritten;
  follows_on = g.met.P.Pages.follows_on;
  asked_more = g.met.P.Pages.asked_more;
  asked_on = g.met.P.Pages.asked_on;
  asked_tells = g.met.P.Pages.asked_tells;
}

pub loop-other-init : goal.loop-other-init
loop-other-init g c = record {
  follows = g.met.P.Pages.follows_itself c.args.pages.now;
  written = refl;
  found = λ array s agrees same stands. (
    record { asks = g.met.P.Pages.asked_nothing c.args.pages.now _ _; numbers = λ store page k. inl k; few = differences-none (over (g.P.Pages.attempt c.args.pages.now) array) 0 },
    known-none s c.new-known.result (filter (λ e. nat_lt e.ty 0 && isa s.schema e.ty c.args.ty) s.live) c.new-known.ensures (none-yet s.schema c.args.ty s.live),
  );
}

pub loop-other-preserved : goal.loop-other-preserved
loop-other-preserved g c =
    let page-laws = g.met.P.Pages in
    let A = g.P.Pages.attempt c.args.pages.now in
    let B = g.P.Pages.attempt c.loop-other.pages in
    let C = g.P.Pages.attempt c.list_of.new.pages in
    let on = c.list_of.ensures.keeps.below in
    let stays : Stays B C = page-laws.seen_stays c.loop-other.pages c.list_of.new.pages on in
    record {
      follows = page-laws.follows_on c.args.pages.now c.loop-other.pages c.list_of.new.pages c.loop-other.invariant.follows on;
      written = c.list_of.ensures.keeps.written ∙ c.loop-other.invariant.written;
      found = λ array s agrees same stands.
          let far = c.loop-other.invariant.found array s (earlier B C array stays agrees) same stands in
          let next = c.in-Ok.ensures.finds array s agrees same (stands-still g.S.Store.holds A B array c.args.places.now s c.loop-other.invariant.written stands) in
          let k = c.loop-other.other in (
            touches-both g.P.Pages.attempt g.P.Pages.follows g.P.Pages.asked (laws g) c.args.pages.now c.loop-other.pages c.list_of.new.pages c.loop-other.invariant.follows on array (extents c.args.schema.now c.args.ty) far.0 next.touches,
            also-then s c.loop-other.known c.in-Ok.more (filter (λ e. nat_lt e.ty k && isa s.schema e.ty c.args.ty) s.live) (filter (λ e. (e.ty == k) && isa s.schema k c.args.ty) s.live) (filter (λ e. nat_lt e.ty (k + 1) && isa s.schema e.ty c.args.ty) s.live)
                (one-more s c.args.ty k stands.legal) far.1 next.answers,
          );
    }

pub returns-in-Err-clause-finds : goal.returns-in-Err-clause-finds
returns-in-Err-clause-finds g c =
    let page-laws = g.met.P.Pages in
    let A = g.P.Pages.attempt c.args.pages.now in
    let B = g.P.Pages.attempt c.loop-other.pages in
    let C = g.P.Pages.attempt c.list_of.new.pages in
    let on = c.list_of.ensures.keeps.below in
    let stays : Stays B C = page-laws.seen_stays c.loop-other.pages c.list_of.new.pages on in
    λ array s agrees same stands.
    let far = c.loop-other.invariant.found array s (earlier B C array stays agrees) same stands in
    let next = c.in-Err.ensures.finds array s agrees same (stands-still g.S.Store.holds A B array c.args.places.now s c.loop-other.invariant.written stands) in
    record {
      answers = tt;
      sound = next.sound;
      touches = touches-both g.P.Pages.attempt g.P.Pages.follows g.P.Pages.asked (laws g) c.args.pages.now c.loop-other.pages c.list_of.new.pages c.loop-other.invariant.follows on array (extents c.args.schema.now c.args.ty) far.0 next.touches;
    }

pub returns-clause-finds : goal.returns-clause-finds
returns-clause-finds g c = λ array s agrees same stands.
    let far = c.loop-other.invariant.found array s agrees same stands in
    let count : length c.args.schema.now.names ≡ c.type_count-other-end.result = sym c.type_count-other-end.ensures in
    let end : c.loop-other.other ≡ length c.args.schema.now.names = omega (arith, count) in
    record {
      answers = known-as s (filter (λ e. nat_lt e.ty c.loop-other.other && isa s.schema e.ty c.args.ty) s.live) (entities_of s c.args.ty) c.loop-other.known
          (ap (λ (n : ℕ). filter (λ (e : EntityId). nat_lt e.ty n && isa s.schema e.ty c.args.ty) s.live) (end ∙ ap (λ (o : Outline). length o.names) (sym same)) ∙ all-types s c.args.ty stands.legal) far.1;
      sound = tt;
      touches = far.0;
    }
