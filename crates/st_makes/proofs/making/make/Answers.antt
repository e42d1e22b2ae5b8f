use Rattle.std.proofs.Common.{sym, ◌∙◌}
use Rattle.st_makes.proofs.Makes.{make-as}
use Rattle.st_makes.proofs.making.make.Goals as goal

pub returns-in-Some-clause-changes : goal.returns-in-Some-clause-changes
returns-in-Some-clause-changes g c = λ w s agrees stands var checked.
    make-as s c.args.schema.now c.args.variables.now var c.args.ty.now c.args.cells.now c.in-Some.ty (g.met.B.Base.stands_with_schema _ w s stands ∙ sym c.requires) (sym c.type_named.ensures.value ∙ c.in-Some.is) _ _ _
    (λ admits can. c.make_of.ensures.changes w s agrees stands admits can) checked
