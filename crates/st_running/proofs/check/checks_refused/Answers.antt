use Rattle.std.proofs.Common.{◌≡◌, ◌∙◌, [], sym, subst}
use Rattle.std.specs.Prelude.{flat_map}
use Rattle.st_query.specs.Written.{starts_of}
use Rattle.st_query.specs.Footprint.{start_stores}
use Rattle.st_terms.specs.Looks.{Looks}
use Rattle.st_running.proofs.Checks.{late-said}
use Rattle.st_running.proofs.check.checks_refused.Goals as goal

pub returns-clause-looks : goal.returns-clause-looks
returns-clause-looks g c = λ w s agrees stands.
    subst (λ rule. Looks (g.B.Base.stands c.dead_refused.new.base w s) (g.B.Base.asks c.args.base.now c.dead_refused.new.base w) (g.B.Base.reached c.dead_refused.new.base w) (λ refused. refused ≡ rule) (flat_map (start_stores s.schema c.args.variables.now) (starts_of c.args.statement.now)) [] c.dead_refused.result)
    (late-said s c.args.schema.now c.args.variables.now c.args.statement.now c.in_ok-refused.refused (g.met.B.Base.stands_with_schema _ w s stands ∙ sym c.requires) c.in_ok-refused.ensures.value (sym c.is_some.ensures ∙ c.if-is_some.false))
    (c.dead_refused.ensures.looks w s agrees stands)
