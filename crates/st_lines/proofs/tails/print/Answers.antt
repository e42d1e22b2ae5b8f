use Rattle.std.proofs.Common.{◌∙◌, ◌<◌, [], ◌∷◌, length, Ok, arith, sym}
use Rattle.st_meaning.specs.Terms.{term_meaning}
use Rattle.st_terms.specs.Looks.{Looks}
use Rattle.st_terms.specs.Routes.{AdmitsTerm, term_stores, term_places}
use Rattle.st_terms.proofs.Looking.{keeps-then}
use Rattle.st_terms.proofs.Loops.{item-holds, loop-next, loop-fail, handed}
use Rattle.st_lines.proofs.Next.{tail-next}
use Rattle.st_lines.proofs.tails.print.Goals as goal

pub returns-in_err-push_term-clause-looks : goal.returns-in_err-push_term-clause-looks
returns-in_err-push_term-clause-looks g c = λ w s agrees stands admits.
    let laws = g.met.B.Base in
    let on = c.push_term.ensures.keeps.below in
    let within : c.loop-term.term-index < length c.args.terms.now = omega arith in
    let before = c.loop-term.invariant.0 w s (laws.seen_stays _ _ w on agrees) stands admits in
    handed (Looks _ _ _ _ _ _) c.in_err-push_term.field-0.0 _ c.from_residual-in_err-push_term.ensures
    (loop-fail c.args.terms.now c.loop-term.term-index c.term-item.result within c.term-item.is (term_stores s.schema c.args.variables.now) (term_places s c.args.variables.now) _ _ _ _ _ _ _ _ _ _ _
    (λ f h. laws.asks_on _ _ _ w f h c.loop-term.invariant.1.below on) (λ e n. laws.reached_stays _ _ w e n on) before
    (c.in_err-push_term.ensures.looks w s agrees before.answers.1 (item-holds (AdmitsTerm s c.args.variables.now) c.args.terms.now c.loop-term.term-index c.term-item.result within c.term-item.is admits)))

pub loop-term-preserved : goal.loop-term-preserved
loop-term-preserved g c =
    let laws = g.met.B.Base in
    let on = c.push_term.ensures.keeps.below in
    let within : c.loop-term.term-index < length c.args.terms.now = omega arith in (
      λ w s agrees stands admits.
          let before = c.loop-term.invariant.0 w s (laws.seen_stays _ _ w on agrees) stands admits in
          loop-next c.args.terms.now c.loop-term.term-index c.term-item.result within c.term-item.is (term_stores s.schema c.args.variables.now) (term_places s c.args.variables.now) _ _ _ _ _ _ _ _ _ _
          (λ f h. laws.asks_on _ _ _ w f h c.loop-term.invariant.1.below on) (λ e n. laws.reached_stays _ _ w e n on)
          (tail-next s.schema.names (term_meaning s c.args.variables.now) c.args.terms.now c.loop-term.term-index c.term-item.result (61 ∷ []) _ _ within c.term-item.is) before
          (c.in_ok-push_term.ensures.looks w s agrees before.answers.1 (item-holds (AdmitsTerm s c.args.variables.now) c.args.terms.now c.loop-term.term-index c.term-item.result within c.term-item.is admits)),
      keeps-then _ _ _ _ _ _ tt (Ok tt) (laws.follows_on _ _ _) c.loop-term.invariant.1 c.in_ok-push_term.ensures.keeps,
      c.loop-term.invariant.2 ∙ sym (laws.schema_stays _ _ on),
    )
