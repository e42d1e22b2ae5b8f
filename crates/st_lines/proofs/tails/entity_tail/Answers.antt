use Rattle.std.proofs.Common.{◌≡◌, ◌<◌, ◌∷◌, map, length, Ok, arith, sym, subst}
use Rattle.std.specs.Prelude.{All, Some}
use Rattle.st_values.specs.declared.value.Value.TheVariants.{Entity}
use Rattle.st_meaning.specs.declared.meaning.Meaning.TheVariants.{Single}
use Rattle.st_meaning.specs.Statements.{tail}
use Rattle.st_values.specs.Print.{printed_entity}
use Rattle.st_terms.specs.Looks.{Looks}
use Rattle.st_terms.specs.Routes.{IsReadingOf, AdmitsRoute, route_meaning, route_stores, route_places}
use Rattle.st_terms.proofs.Looking.{keeps-then}
use Rattle.st_terms.proofs.Loops.{item-holds, loop-next, loop-fail, loop-done, handed}
use Rattle.st_lines.proofs.Next.{tail-next}
use Rattle.st_lines.proofs.tails.entity_tail.Goals as goal

pub returns-in_err-push_route-clause-looks : goal.returns-in_err-push_route-clause-looks
returns-in_err-push_route-clause-looks g c = λ w s agrees stands admits.
    let laws = g.met.B.Base in
    let on = c.push_route.ensures.keeps.below in
    let within : c.loop-route.route-index < length c.args.shown.now = omega arith in
    let before = c.loop-route.invariant.0 w s (laws.seen_stays _ _ w on agrees) stands admits in
    handed (Looks _ _ _ _ _ _) c.in_err-push_route.field-0.0 _ c.from_residual-in_err-push_route.ensures
    (loop-fail c.args.shown.now c.loop-route.route-index c.route-item.result within c.route-item.is (route_stores s.schema) (λ route. route_places s route (Some c.args.entity)) _ _ _ _ _ _ _ _ _ _ _
    (λ f h. laws.asks_on _ _ _ w f h c.loop-route.invariant.1.below on) (λ e n. laws.reached_stays _ _ w e n on) before
    (c.in_err-push_route.ensures.looks w s agrees before.answers.1 (item-holds (λ route. AdmitsRoute s route (Some c.args.entity)) c.args.shown.now c.loop-route.route-index c.route-item.result within c.route-item.is admits)))

pub loop-route-preserved : goal.loop-route-preserved
loop-route-preserved g c =
    let laws = g.met.B.Base in
    let on = c.push_route.ensures.keeps.below in
    let within : c.loop-route.route-index < length c.args.shown.now = omega arith in (
      λ w s agrees stands admits.
          let before = c.loop-route.invariant.0 w s (laws.seen_stays _ _ w on agrees) stands admits in
          loop-next c.args.shown.now c.loop-route.route-index c.route-item.result within c.route-item.is (route_stores s.schema) (λ route. route_places s route (Some c.args.entity)) _ _ _ _ _ _ _ _ _ _
          (λ f h. laws.asks_on _ _ _ w f h c.loop-route.invariant.1.below on) (λ e n. laws.reached_stays _ _ w e n on)
          (tail-next c.args.names.now (λ route. route_meaning s route (Some c.args.entity)) c.args.shown.now c.loop-route.route-index c.route-item.result (42 ∷ 32 ∷ printed_entity c.args.names.now c.args.entity) _ _ within c.route-item.is) before
          (c.in_ok-push_route.ensures.looks w s agrees before.answers.1 (item-holds (λ route. AdmitsRoute s route (Some c.args.entity)) c.args.shown.now c.loop-route.route-index c.route-item.result within c.route-item.is admits)),
      keeps-then _ _ _ _ _ _ tt (Ok tt) (laws.follows_on _ _ _) c.loop-route.invariant.1 c.in_ok-push_route.ensures.keeps,
      subst (λ o. All (λ route. All (IsReadingOf o) route.readings) c.args.shown.now) (sym (laws.schema_stays _ _ on)) c.loop-route.invariant.2,
    )

pub returns-clause-looks : goal.returns-clause-looks
returns-clause-looks g c = λ w s agrees stands admits.
    loop-done c.args.shown.now c.loop-route.route-index (omega arith) (route_stores s.schema) (λ route. route_places s route (Some c.args.entity)) _ _ _
    (λ routes. c.loop-route.text ≡ tail c.args.names.now 42 (Single (Entity c.args.entity) ∷ map (λ route. route_meaning s route (Some c.args.entity)) routes)) _ _ (λ e. e)
    (c.loop-route.invariant.0 w s agrees stands admits)
