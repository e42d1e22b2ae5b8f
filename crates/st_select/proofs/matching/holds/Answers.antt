use Rattle.std.proofs.Common.{ap, ◌∙◌}
use Rattle.std.proofs.lemmas.Result.{err_from_is_err_and}
use Rattle.st_terms.proofs.Looking.{among-left, among-right, looks-more}
use Rattle.st_select.specs.Search.{answer, test_stores}
use Rattle.st_terms.specs.Routes.{route_stores}
use Rattle.st_select.proofs.Steps.{looks-step, looks-stop}
use Rattle.st_select.proofs.matching.holds.Goals as goal

pub returns-in_err-right-clause-looks : goal.returns-in_err-right-clause-looks
returns-in_err-right-clause-looks g c = λ w s agrees stands holds admits.
    let laws = g.met.B.Base in
    let test = c.args.test.now in
    let first = c.in_ok-left.ensures in
    let now = c.in_err-right.ensures in
    let f = first.looks w s (laws.seen_stays _ _ w now.keeps.below agrees) stands holds admits.0 in
    looks-stop _ _ _ _ _ _ _ _ _ (λ f h. laws.asks_on _ _ _ w f h first.keeps.below now.keeps.below) (among-right (route_stores s.schema test.left) (route_stores s.schema test.right))
    _ _ _ c.in_ok-left.left c.in_err-right.field-0.0 c.from_residual-in_err-right.result (err_from_is_err_and c.from_residual-in_err-right.result c.from_residual-in_err-right.ensures.1)
    (looks-more _ _ _ _ (route_stores s.schema test.left) (test_stores s.schema test) _ _ (among-left (route_stores s.schema test.left) (route_stores s.schema test.right)) f) (now.looks w s agrees f.answers.1 holds admits.1)

pub returns-clause-looks : goal.returns-clause-looks
returns-clause-looks g c = λ w s agrees stands holds admits.
    let laws = g.met.B.Base in
    let test = c.args.test.now in
    let first = c.in_ok-left.ensures in
    let now = c.in_ok-right.ensures in
    let f = first.looks w s (laws.seen_stays _ _ w now.keeps.below agrees) stands holds admits.0 in
    looks-step _ _ _ _ _ _ _ _ _ (λ f h. laws.asks_on _ _ _ w f h first.keeps.below now.keeps.below) (among-right (route_stores s.schema test.left) (route_stores s.schema test.right))
    _ _ _ c.in_ok-left.left c.in_ok-right.right c.answer.result
    (looks-more _ _ _ _ (route_stores s.schema test.left) (test_stores s.schema test) _ _ (among-left (route_stores s.schema test.left) (route_stores s.schema test.right)) f) (now.looks w s agrees f.answers.1 holds admits.1)
    (λ a b. c.answer.ensures ∙ ap (λ m. answer test.ask m c.in_ok-right.right) a ∙ ap (answer test.ask _) b)
