use Rattle.st_state.specs.State.{next_entity, entity_made}
use Rattle.st_makes.specs.Makes.{makes_refused, makes_stores, givens_set, CanMake}
use Rattle.st_makes.proofs.Checked.{next-changes}
use Rattle.std.specs.Prelude.{◌≡◌, None}
use Rattle.st_makes.proofs.making.make_of.Goals as goal

pub returns-clause-changes : goal.returns-clause-changes
returns-clause-changes g c = λ w s agrees stands admits can.
    let laws = g.met.B.Base in
    let ty = c.args.ty in
    let on = c.make_given.ensures.keeps.below in
    let first = c.in_ok-givens.ensures in
    next-changes _ _ _ _ _ _ s (makes_refused s ty None) (λ z. givens_set (next_entity s ty) z (entity_made s ty)) (λ _ made. made ≡ next_entity s ty) (makes_stores s ty None) (CanMake s ty None) _ _ _ _ _
    (λ k h. laws.asks_on _ _ _ w k h first.keeps.below on) c.as_slice.ensures (first.looks w s (laws.seen_stays _ _ w on agrees) stands admits) (λ stood at. c.make_given.ensures.changes w s agrees stood at) can
