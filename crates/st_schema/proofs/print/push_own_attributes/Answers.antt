use Rattle.std.proofs.Common.{◌≡◌, ◌∷◌, ◌+◌, ◌==◌, drop, ap, sym, ◌∙◌, eq-eqb, ne_eqb}
use Rattle.st_schema.specs.Canonical.{attribute_text}
use Rattle.st_schema.proofs.Printing.{drop_next, passing_step, other_step}
use Rattle.st_schema.proofs.print.push_own_attributes.Goals as goal
use Rattle.st_schema.proofs.print.push_own_attributes.Goals.{then-attribute-ty+in_ok-push_own_attribute, else-attribute-ty}

pub loop-attribute-preserved : goal.loop-attribute-preserved
loop-attribute-preserved c =
    let attributes = c.attributes-attribute-items.result.now in
    let i = c.loop-attribute.attribute-index in
    let a = c.attribute-item.result in
    let f = attribute_text c.args.schema.now in
    let here : drop i attributes ≡ a ∷ drop (i + 1) attributes = drop_next attributes i a c.loop-attribute-test.true ∙ ap (λ first. first ∷ drop (i + 1) attributes) (sym c.attribute-item.is) in
    elim c.if-attribute-ty.branch [
      | then-attribute-ty+in_ok-push_own_attribute w ↦
          passing_step f (λ a. a.owner == c.args.ty) c.loop-attribute.later c.if-attribute-ty.later c.loop-attribute.into w.push_own_attribute.new.into c.if-attribute-ty.into attributes i a here (eq-eqb a.owner c.args.ty w.if-attribute-ty.true) w.in_ok-push_own_attribute.ensures w.into-is w.later-is
          ∙ c.loop-attribute.invariant
      | else-attribute-ty w ↦
          other_step f (λ a. a.owner == c.args.ty) c.loop-attribute.later c.if-attribute-ty.later c.loop-attribute.into c.if-attribute-ty.into attributes i a here (ne_eqb a.owner c.args.ty w.if-attribute-ty.false) w.into-is w.later-is
          ∙ c.loop-attribute.invariant
    ]
