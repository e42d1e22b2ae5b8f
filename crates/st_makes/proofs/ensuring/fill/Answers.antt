use Rattle.std.proofs.Common.{Some, None, sym, ◌∙◌, ap, subst}
use Rattle.std.specs.Prelude.{All}
use Rattle.st_state.specs.Calls.{HasAttribute}
use Rattle.st_makes.specs.declared.filling.Filling.{Filling}
use Rattle.st_makes.specs.Makes.{given_fillings}
use Rattle.st_makes.proofs.Checked.{checked-then, rules-at}
use Rattle.st_makes.proofs.Fillings.{given-there}
use Rattle.st_makes.proofs.ensuring.fill.Goals as goal

pub refused-requires-clause-there : goal.refused-requires-clause-there
refused-requires-clause-there g c =
    subst (λ o. All (λ (f : Filling). HasAttribute o f.attribute.number) c.as_slice.result.now) c.requires
    (subst (λ fs. All (λ (f : Filling). HasAttribute c.args.schema.now f.attribute.number) fs) (sym (c.as_slice.ensures ∙ c.in_ok-fillings.ensures)) (given-there c.args.schema.now c.args.ty c.args.givens.now))

pub returns-clause-changes : goal.returns-clause-changes
returns-clause-changes g c = λ w s agrees stands can.
    let laws = g.met.B.Base in
    let same = laws.stands_with_schema _ w s stands ∙ sym c.requires in
    let is = c.as_slice.ensures ∙ c.in_ok-fillings.ensures ∙ ap (λ o. given_fillings o c.args.ty c.args.givens.now) (sym same) in
    let on = c.set_all.ensures.keeps.below in
    let first = c.in_ok-refusal.ensures in
    checked-then _ _ _ _ _ _ _ _ None _ _ s _ _ c.in_ok-refusal.field-0 _ (λ k h. laws.asks_on _ _ _ w k h first.keeps.below on) c.in-None.is (λ e. e)
    (rules-at s (Some c.args.entity) _ _ is _ _ _ _ (first.looks w s (laws.seen_stays _ _ w on agrees) stands can.nearly) can.meant)
    (λ free stood. c.set_all.ensures.changes w s agrees stood (can.admits free))
