use Rattle.std.proofs.Common.{refl, ◌≡◌}
use Rattle.std.specs.Prelude.{is_ok, not}
use Rattle.st_state.specs.Calls.{Add}
use Rattle.st_state.specs.State.{has_value}
use Rattle.st_index.proofs.Called.{PageLaws}
use Rattle.st_paged.proofs.Calling.{edited-asks, edited-continues, edited-gives, stood}
use Rattle.st_paged.proofs.OfForm.{form, spot, spots}
use Rattle.st_paged.proofs.base.PagedBase.add.Given as given
use Rattle.st_paged.proofs.base.PagedBase.add.Goals as goal

laws : (g : given.Over) → PageLaws g.P.Pages.attempt g.P.Pages.follows g.P.Pages.asked
laws g = record {
  is_sound = g.met.P.Pages.is_sound;
  seen_stays = g.met.P.Pages.seen_stays;
  drawn_stays = g.met.P.Pages.drawn_stays;
  drawn_unwritten = g.met.P.Pages.drawn_unwritten;
  follows_on = g.met.P.Pages.follows_on;
  asked_more = g.met.P.Pages.asked_more;
  asked_on = g.met.P.Pages.asked_on;
  asked_tells = g.met.P.Pages.asked_tells;
}

pub returns-clause-follows : goal.returns-clause-follows
returns-clause-follows g c =
    edited-continues g.P.Pages.attempt g.P.Pages.follows g.P.Pages.asked (laws g) form spot spots c.self.inside.schema c.self.inside.places c.self.inside.pages c.add_member.new.pages c.args.self.now c.self.view_is
    (g.P.Pages.met c.self.inside.pages) (g.P.Pages.met c.add_member.new.pages) (Add c.args.entity c.args.attribute c.args.value.now) c.add_member.result c.add_member.ensures.behaves c.add_member.ensures.kinds

pub returns-clause-gives : goal.returns-clause-gives
returns-clause-gives g c = λ w s agrees stands admits.
    let near = stood g.P.Pages.attempt g.P.Pages.follows g.P.Pages.asked (laws g) form spot spots c.self.inside.schema c.self.inside.places c.self.inside.pages c.add_member.new.pages c.args.self.now c.self.view_is w s stands in
    edited-gives g.P.Pages.attempt g.P.Pages.follows g.P.Pages.asked (laws g) form spot spots c.self.inside.schema c.self.inside.places c.self.inside.pages c.add_member.new.pages c.args.self.now c.self.view_is w s stands
    c.add_member.result (Add c.args.entity c.args.attribute c.args.value.now) (λ changed. changed ≡ not (has_value s c.args.attribute c.args.entity c.args.value.now)) (c.add_member.ensures.edits w s agrees near.of_schema near.nearly admits)

pub returns-clause-asks : goal.returns-clause-asks
returns-clause-asks g c = λ w s agrees stands admits.
    let near = stood g.P.Pages.attempt g.P.Pages.follows g.P.Pages.asked (laws g) form spot spots c.self.inside.schema c.self.inside.places c.self.inside.pages c.add_member.new.pages c.args.self.now c.self.view_is w s stands in
    edited-asks g.P.Pages.attempt g.P.Pages.follows g.P.Pages.asked (laws g) form spot spots c.self.inside.schema c.self.inside.places c.self.inside.pages c.add_member.new.pages c.args.self.now c.self.view_is w s stands
    c.add_member.result (Add c.args.entity c.args.attribute c.args.value.now) (is_ok c.add_member.result) (λ changed. changed ≡ not (has_value s c.args.attribute c.args.entity c.args.value.now)) refl (c.add_member.ensures.edits w s agrees near.of_schema near.nearly admits) tt
