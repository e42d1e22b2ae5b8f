use Rattle.std.proofs.Common.{sym, ◌∙◌}
use Rattle.std.proofs.lemmas.List.Elements.{All-nil}
use Rattle.st_terms.proofs.Looking.{at-nothing}
use Rattle.st_makes.proofs.Holding.{no-holder}
use Rattle.st_makes.proofs.holders.holder.Goals as goal

pub returns-else-may_have-clause-looks : goal.returns-else-may_have-clause-looks
returns-else-may_have-clause-looks g c = λ w s agrees stands near meant. record {
  answers = (no-holder s near c.args.ty c.args.attribute.now c.args.value.now meant.there (sym c.may_have.ensures ∙ c.if-may_have.false), stands);
  asked = at-nothing _ _ _ (g.met.B.Base.asks_nothing _ w);
  reached = All-nil _;
}
