use Rattle.std.proofs.Common.{◌≡◌, ◌<◌, map, length, Ok, arith, sym, subst}
use Rattle.std.specs.Prelude.{All, Some}
use Rattle.st_terms.specs.Looks.{Looks}
use Rattle.st_terms.specs.Routes.{IsReadingOf, AdmitsRoute}
use Rattle.st_terms.proofs.Looking.{keeps-then}
use Rattle.st_terms.proofs.Loops.{item-holds, loop-next, loop-fail, loop-done, handed, read-at}
use Rattle.st_lines.specs.Shown.{shown_tail, shown_stores, shown_places}
use Rattle.st_lines.proofs.Next.{lines-next}
use Rattle.st_lines.proofs.lines.push_entities.Goals as goal

pub returns-in_err-push_entity-clause-looks : goal.returns-in_err-push_entity-clause-looks
returns-in_err-push_entity-clause-looks g c = λ w s agrees stands admits.
    let laws = g.met.B.Base in
    let on = c.push_entity.ensures.keeps.below in
    let within : c.loop-entity.entity-index < length c.args.entities.now = omega arith in
    let before = c.loop-entity.invariant.0 w s (laws.seen_stays _ _ w on agrees) stands admits in
    handed (Looks _ _ _ _ _ _) c.in_err-push_entity.field-0.0 _ c.from_residual.ensures
    (loop-fail c.args.entities.now c.loop-entity.entity-index _ within (read-at c.args.entities.now c.loop-entity.entity-index _ within) (λ e. shown_stores s c.args.shown.now) (shown_places s c.args.shown.now) _ _ _ _ _ _ _ _ _ _ _
    (λ f h. laws.asks_on _ _ _ w f h c.loop-entity.invariant.1.below on) (λ e n. laws.reached_stays _ _ w e n on) before
    (c.in_err-push_entity.ensures.looks w s agrees before.answers.1 (item-holds (λ e. All (λ route. AdmitsRoute s route (Some e)) c.args.shown.now) c.args.entities.now c.loop-entity.entity-index _ within (read-at c.args.entities.now c.loop-entity.entity-index _ within) admits)))

pub loop-entity-preserved : goal.loop-entity-preserved
loop-entity-preserved g c =
    let laws = g.met.B.Base in
    let on = c.push_entity.ensures.keeps.below in
    let within : c.loop-entity.entity-index < length c.args.entities.now = omega arith in (
      λ w s agrees stands admits.
          let before = c.loop-entity.invariant.0 w s (laws.seen_stays _ _ w on agrees) stands admits in
          loop-next c.args.entities.now c.loop-entity.entity-index _ within (read-at c.args.entities.now c.loop-entity.entity-index _ within) (λ e. shown_stores s c.args.shown.now) (shown_places s c.args.shown.now) _ _ _ _ _ _ _ _ _ _
          (λ f h. laws.asks_on _ _ _ w f h c.loop-entity.invariant.1.below on) (λ e n. laws.reached_stays _ _ w e n on)
          (lines-next (shown_tail s c.args.names.now c.args.shown.now) c.args.entities.now c.loop-entity.entity-index _ _ _ within (read-at c.args.entities.now c.loop-entity.entity-index _ within)) before
          (c.in_ok-push_entity.ensures.looks w s agrees before.answers.1 (item-holds (λ e. All (λ route. AdmitsRoute s route (Some e)) c.args.shown.now) c.args.entities.now c.loop-entity.entity-index _ within (read-at c.args.entities.now c.loop-entity.entity-index _ within) admits)),
      keeps-then _ _ _ _ _ _ tt (Ok tt) (laws.follows_on _ _ _) c.loop-entity.invariant.1 c.in_ok-push_entity.ensures.keeps,
      subst (λ o. All (λ route. All (IsReadingOf o) route.readings) c.args.shown.now) (sym (laws.schema_stays _ _ on)) c.loop-entity.invariant.2,
    )

pub returns-clause-looks : goal.returns-clause-looks
returns-clause-looks g c = λ w s agrees stands admits.
    loop-done c.args.entities.now c.loop-entity.entity-index (omega arith) (λ e. shown_stores s c.args.shown.now) (shown_places s c.args.shown.now) _ _ _
    (λ es. c.loop-entity.lines ≡ map (shown_tail s c.args.names.now c.args.shown.now) es) _ _ (λ e. e)
    (c.loop-entity.invariant.0 w s agrees stands admits)
