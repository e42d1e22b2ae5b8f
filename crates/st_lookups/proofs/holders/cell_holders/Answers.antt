use Rattle.std.proofs.Common.{◌≡◌, ℕ, ◌==◌, ◌++◌, Bool, List, refl, sym, ap, ◌∙◌, inl, arith, length}
use Rattle.std.specs.Prelude.{filter, nat_lt, ◌&&◌}
use Rattle.st_values.specs.declared.value.EntityId.{EntityId}
use Rattle.st_values.specs.Order.{same_value}
use Rattle.st_lattice.specs.Lattice.{isa}
use Rattle.st_lattice.specs.Outline.{Outline}
use Rattle.st_lattice.specs.Stores.{extents}
use Rattle.st_pages.specs.Attempt.{over}
use Rattle.st_pages.proofs.Carried.{Stays}
use Rattle.st_state.specs.State.{value_at}
use Rattle.st_index.proofs.Called.{PageLaws, earlier}
use Rattle.st_index.proofs.Counted.{differences-none}
use Rattle.st_lookups.proofs.Picked.{each-type, none-before, not-null, type-more}
use Rattle.st_lookups.proofs.Rowed.{stands-still, touches-both}
use Rattle.st_lookups.proofs.Single.{turned-live}
use Rattle.st_lookups.proofs.holders.cell_holders.Given as given
use Rattle.st_lookups.proofs.holders.cell_holders.Goals as goal

laws : (g : given.Over) → PageLaws g.P.Pages.attempt g.P.Pages.follows g.P.Pages.asked
laws g = record {
  is_sound = g.met.P.Pages.is_sound;
  seen_stays = g.met.P.Pages.seen_stays;
  drawn_stays = g.met.P.Pages.drawn_stays;
  drawn_unwritten = g.met.P.Pages.drawn_unwritten;
  follows_on = g.met.P.Pages.follows_on;
  asked_more = g.met.P.Pages.asked_more;
  asked_on = g.met.P.Pages.asked_on;
  asked_tells = g.met.P.Pages.asked_tells;
}

pub loop-other-init : goal.loop-other-init
loop-other-init g c = record {
  follows = g.met.P.Pages.follows_itself c.args.pages.now;
  written = refl;
  found = λ array s agrees same stands there single. (
    record { asks = g.met.P.Pages.asked_nothing c.args.pages.now _ _; numbers = λ store page k. inl k; few = differences-none (over (g.P.Pages.attempt c.args.pages.now) array) 0 },
    c.new-entities.ensures ∙ sym (none-before (λ e. isa s.schema e.ty c.args.attribute.now.owner && same_value (value_at c.args.attribute.now.number e s.triples) c.args.value.now) s.live),
  );
}

pub loop-other-preserved : goal.loop-other-preserved
loop-other-preserved g c =
    let page-laws = g.met.P.Pages in
    let A = g.P.Pages.attempt c.args.pages.now in
    let B = g.P.Pages.attempt c.loop-other.pages in
    let C = g.P.Pages.attempt c.having_of.new.pages in
    let on = c.having_of.ensures.keeps.below in
    let x = c.args.attribute.now in
    let v = c.args.value.now in
    let stays : Stays B C = page-laws.seen_stays c.loop-other.pages c.having_of.new.pages on in
    record {
      follows = page-laws.follows_on c.args.pages.now c.loop-other.pages c.having_of.new.pages c.loop-other.invariant.follows on;
      written = c.having_of.ensures.keeps.written ∙ c.loop-other.invariant.written;
      found = λ array s agrees same stands there single.
          let far = c.loop-other.invariant.found array s (earlier B C array stays agrees) same stands there single in
          let next = c.in-Ok.ensures.finds array s agrees same (stands-still g.S.Store.holds A B array c.args.places.now s c.loop-other.invariant.written stands) there single in
          let held : EntityId → Bool = λ e. isa s.schema e.ty x.owner && same_value (value_at x.number e s.triples) v in (
            touches-both g.P.Pages.attempt g.P.Pages.follows g.P.Pages.asked (laws g) c.args.pages.now c.loop-other.pages c.having_of.new.pages c.loop-other.invariant.follows on array (extents c.args.schema.now x.owner) far.0 next.touches,
            next.answers ∙ ap (λ (l : List EntityId). l ++ filter (λ e. (e.ty == c.loop-other.other) && held e) s.live) far.1 ∙ type-more held s c.loop-other.other stands.legal,
          );
    }

pub returns-in-Err-clause-finds : goal.returns-in-Err-clause-finds
returns-in-Err-clause-finds g c =
    let page-laws = g.met.P.Pages in
    let A = g.P.Pages.attempt c.args.pages.now in
    let B = g.P.Pages.attempt c.loop-other.pages in
    let C = g.P.Pages.attempt c.having_of.new.pages in
    let on = c.having_of.ensures.keeps.below in
    let stays : Stays B C = page-laws.seen_stays c.loop-other.pages c.having_of.new.pages on in
    λ array s agrees same stands there single can.
    let far = c.loop-other.invariant.found array s (earlier B C array stays agrees) same stands there single in
    let next = c.in-Err.ensures.finds array s agrees same (stands-still g.S.Store.holds A B array c.args.places.now s c.loop-other.invariant.written stands) there single in
    record {
      answers = tt;
      sound = next.sound;
      touches = touches-both g.P.Pages.attempt g.P.Pages.follows g.P.Pages.asked (laws g) c.args.pages.now c.loop-other.pages c.having_of.new.pages c.loop-other.invariant.follows on array (extents c.args.schema.now c.args.attribute.now.owner) far.0 next.touches;
    }

pub returns-clause-finds : goal.returns-clause-finds
returns-clause-finds g c = λ array s agrees same stands there single can.
    let far = c.loop-other.invariant.found array s agrees same stands there single in
    let x = c.args.attribute.now in
    let v = c.args.value.now in
    let count : length c.args.schema.now.names ≡ c.type_count-other-end.result = sym c.type_count-other-end.ensures in
    let end : c.loop-other.other ≡ length c.args.schema.now.names = omega (arith, count) in
    let held : EntityId → Bool = λ e. isa s.schema e.ty x.owner && same_value (value_at x.number e s.triples) v in
    record {
      answers = far.1 ∙ ap (λ (n : ℕ). filter (λ (e : EntityId). nat_lt e.ty n && held e) s.live) (end ∙ ap (λ (o : Outline). length o.names) (sym same)) ∙ each-type held s stands.legal
          ∙ turned-live s stands.legal x.number x there single v (not-null s x.number v can);
      sound = tt;
      touches = far.0;
    }
