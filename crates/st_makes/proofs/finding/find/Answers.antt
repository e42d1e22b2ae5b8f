use Rattle.std.proofs.Common.{sym, ◌∙◌, ap, subst}
use Rattle.st_state.specs.Calls.{HasAttribute}
use Rattle.std.specs.Option.{option_copied}
use Rattle.st_makes.proofs.Holding.{there-by-name}
use Rattle.st_makes.proofs.Finds.{find-as}
use Rattle.st_makes.proofs.finding.find.Goals as goal

pub find_by-requires-clause-there : goal.find_by-requires-clause-there
find_by-requires-clause-there g c =
    subst (λ o. HasAttribute o c.in-Some-attribute_of.key.now.number) c.requires
    (there-by-name c.args.schema.now c.in-Some.ty c.args.key.now c.in-Some-attribute_of.key.now (sym c.attribute_of.ensures ∙ ap option_copied c.in-Some-attribute_of.is))

pub returns-in-Some-attribute_of-clause-looks : goal.returns-in-Some-attribute_of-clause-looks
returns-in-Some-attribute_of-clause-looks g c = λ w s agrees stands var checked.
    let same = g.met.B.Base.stands_with_schema _ w s stands ∙ sym c.requires in
    find-as s c.args.schema.now c.args.variables.now var c.args.ty.now c.args.key.now c.args.value.now c.in-Some.ty c.in-Some-attribute_of.key.now same
    (sym c.type_named.ensures.value ∙ c.in-Some.is) (sym c.attribute_of.ensures ∙ ap option_copied c.in-Some-attribute_of.is) _ _ _ _
    (λ near admits meant. c.find_by.ensures.looks w s agrees stands near admits meant) checked
