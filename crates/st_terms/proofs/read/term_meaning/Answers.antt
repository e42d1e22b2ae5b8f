use Rattle.std.proofs.Common.{sym, ◌∙◌}
use Rattle.st_terms.proofs.Routes.{looked-up}
use Rattle.st_terms.proofs.read.term_meaning.Goals as goal

pub returns-clause-looks : goal.returns-clause-looks
returns-clause-looks g c = λ w s agrees stands.
    looked-up s c.args.schema.now c.args.variables.now c.args.term.now c.in_ok-route.route (g.met.B.Base.stands_with_schema _ w s stands ∙ sym c.requires) c.in_ok-route.ensures.value _ _ _ _
    (c.evaluate.ensures.looks w s agrees stands)
