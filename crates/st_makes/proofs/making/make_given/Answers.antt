use Rattle.std.proofs.Common.{None, sym, ◌∙◌, ap, subst}
use Rattle.std.specs.Prelude.{All}
use Rattle.st_state.specs.Bases.{spent}
use Rattle.st_state.specs.Calls.{HasAttribute}
use Rattle.st_terms.proofs.Looking.{among-left}
use Rattle.st_makes.specs.declared.filling.Filling.{Filling}
use Rattle.st_makes.specs.Makes.{new_fillings, IsOfState}
use Rattle.st_makes.proofs.Checked.{refused-now, keeps-refused, checked-then, rules-at, first-some, first-later}
use Rattle.st_makes.proofs.Fillings.{new-there}
use Rattle.st_makes.proofs.making.make_given.Goals as goal

pub refused-requires-clause-there : goal.refused-requires-clause-there
refused-requires-clause-there g c =
    subst (λ o. All (λ (f : Filling). HasAttribute o f.attribute.number) c.as_slice.result.now) c.requires.schema
    (subst (λ fs. All (λ (f : Filling). HasAttribute c.args.schema.now f.attribute.number) fs) (sym (c.as_slice.ensures ∙ c.in_ok-fillings.ensures)) (new-there c.args.schema.now c.args.ty c.args.key c.args.givens.now))

pub returns-in-Some-clause-changes : goal.returns-in-Some-clause-changes
returns-in-Some-clause-changes g c = λ w s agrees stands can.
    let same = g.met.B.Base.stands_with_schema _ w s stands ∙ sym c.requires.schema in
    let is = c.as_slice.ensures ∙ c.in_ok-fillings.ensures ∙ ap (λ o. new_fillings o c.args.ty c.args.key c.args.givens.now) (sym same) in
    refused-now _ _ _ _ _ _ _ s _ _ c.in_ok-refusal.field-0 c.in-Some.refusal c.in-Some.is (subst IsOfState c.in-Some.is c.in_ok-refusal.ensures.own) (λ e. first-some _ (spent s c.args.ty) c.in-Some.refusal e)
    (among-left _ _) (rules-at s None _ _ is _ _ _ _ (c.in_ok-refusal.ensures.looks w s agrees stands can.nearly) can.meant)

pub returns-in-Some-clause-keeps : goal.returns-in-Some-clause-keeps
returns-in-Some-clause-keeps g c = keeps-refused _ _ _ c.in_ok-refusal.field-0 c.in-Some.refusal (subst IsOfState c.in-Some.is c.in_ok-refusal.ensures.own) c.in_ok-refusal.ensures.keeps

pub returns-clause-changes : goal.returns-clause-changes
returns-clause-changes g c = λ w s agrees stands can.
    let laws = g.met.B.Base in
    let same = laws.stands_with_schema _ w s stands ∙ sym c.requires.schema in
    let is = c.as_slice.ensures ∙ c.in_ok-fillings.ensures ∙ ap (λ o. new_fillings o c.args.ty c.args.key c.args.givens.now) (sym same) in
    let on = c.make_filled.ensures.keeps.below in
    let first = c.in_ok-refusal.ensures in
    checked-then _ _ _ _ _ _ _ _ (spent s c.args.ty) _ _ s _ _ c.in_ok-refusal.field-0 _ (λ k h. laws.asks_on _ _ _ w k h first.keeps.below on) c.in-None.is (λ e. first-later _ (spent s c.args.ty) e)
    (rules-at s None _ _ is _ _ _ _ (first.looks w s (laws.seen_stays _ _ w on agrees) stands can.nearly) can.meant)
    (λ free stood. c.make_filled.ensures.changes w s agrees stood (can.admits free))
