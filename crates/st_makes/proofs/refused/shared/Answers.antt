use Rattle.std.proofs.Common.{sym, ◌∙◌}
use Rattle.std.proofs.lemmas.List.Elements.{All-nil}
use Rattle.st_terms.proofs.Looking.{at-nothing}
use Rattle.st_makes.proofs.Shares.{no-share, no-share-unless}
use Rattle.st_makes.proofs.refused.shared.Goals as goal
use Rattle.st_makes.proofs.refused.shared.Goals.{else-attribute-via-then-attribute+else-may_have, else-attribute-via-else-attribute}

pub returns-else-attribute-clause-looks : goal.returns-else-attribute-clause-looks
returns-else-attribute-clause-looks g c = λ w s agrees stands near meant. record {
  answers = (
    elim c.else-attribute.branch [
      | else-attribute-via-then-attribute+else-may_have w ↦ no-share s near c.args.filled c.args.filling.now.attribute c.args.filling.now.value meant (sym w.may_have.ensures ∙ w.if-may_have.false)
      | else-attribute-via-else-attribute w ↦ no-share-unless s c.args.filled c.args.filling.now.attribute c.args.filling.now.value w.if-attribute.false
    ],
    stands,
  );
  asked = at-nothing _ _ _ (g.met.B.Base.asks_nothing _ w);
  reached = All-nil _;
}
