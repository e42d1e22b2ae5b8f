use Rattle.std.proofs.Common.{true, false}
use Rattle.std.proofs.lemmas.Result.{err_from_is_err_and}
use Rattle.st_select.specs.Search.{IsTestOf, AdmitsTest, test_stores, test_holds}
use Rattle.st_terms.proofs.Loops.{item-holds}
use Rattle.st_select.proofs.Steps.{looks-step, looks-stop, keeps-step, among-item, all-item-of, all-but-here, all-so-far}
use Rattle.st_select.proofs.matching.all_hold.Goals as goal

pub holds-requires : goal.holds-requires
holds-requires g c =
    all-item-of IsTestOf _ _ c.args.tests.now c.loop-test.test-index c.test-item.result (g.met.B.Base.schema_stays _ _ c.loop-test.invariant.keeps.below) c.loop-test-test.true c.test-item.is c.requires

pub returns-in_err-holds-clause-looks : goal.returns-in_err-holds-clause-looks
returns-in_err-holds-clause-looks g c = λ w s agrees stands holds admits.
    let laws = g.met.B.Base in
    let sofar = c.loop-test.invariant in
    let now = c.in_err-holds.ensures in
    let f = sofar.looks w s (laws.seen_stays _ _ w now.keeps.below agrees) stands holds admits in
    looks-stop _ _ _ _ _ _ _ _ _ (λ f h. laws.asks_on _ _ _ w f h sofar.keeps.below now.keeps.below)
    (among-item (test_stores s.schema) c.args.tests.now c.loop-test.test-index c.test-item.result c.loop-test-test.true c.test-item.is)
    _ _ _ true c.in_err-holds.field-0.0 c.from_residual.result (err_from_is_err_and c.from_residual.result c.from_residual.ensures.1) f
    (now.looks w s agrees f.answers.1 holds (item-holds (AdmitsTest s c.args.known.now.entity) c.args.tests.now _ _ c.loop-test-test.true c.test-item.is admits))

pub returns-then-not-branch-clause-looks : goal.returns-then-not-branch-clause-looks
returns-then-not-branch-clause-looks g c = λ w s agrees stands holds admits.
    let laws = g.met.B.Base in
    let sofar = c.loop-test.invariant in
    let now = c.in_ok-holds.ensures in
    let f = sofar.looks w s (laws.seen_stays _ _ w now.keeps.below agrees) stands holds admits in
    looks-step _ _ _ _ _ _ _ _ _ (λ f h. laws.asks_on _ _ _ w f h sofar.keeps.below now.keeps.below)
    (among-item (test_stores s.schema) c.args.tests.now c.loop-test.test-index c.test-item.result c.loop-test-test.true c.test-item.is)
    _ _ _ true c.in_ok-holds.field-0 false f
    (now.looks w s agrees f.answers.1 holds (item-holds (AdmitsTest s c.args.known.now.entity) c.args.tests.now _ _ c.loop-test-test.true c.test-item.is admits))
    (λ _ k. all-but-here (test_holds s c.args.known.now.entity) c.args.tests.now c.loop-test.test-index c.test-item.result c.in_ok-holds.field-0 c.loop-test-test.true c.test-item.is k c.if-not-branch.true)

pub loop-test-preserved : goal.loop-test-preserved
loop-test-preserved g c = record {
  looks = λ w s agrees stands holds admits.
      let laws = g.met.B.Base in
      let sofar = c.loop-test.invariant in
      let now = c.in_ok-holds.ensures in
      let f = sofar.looks w s (laws.seen_stays _ _ w now.keeps.below agrees) stands holds admits in
      looks-step _ _ _ _ _ _ _ _ _ (λ f h. laws.asks_on _ _ _ w f h sofar.keeps.below now.keeps.below)
      (among-item (test_stores s.schema) c.args.tests.now c.loop-test.test-index c.test-item.result c.loop-test-test.true c.test-item.is)
      _ _ _ true c.in_ok-holds.field-0 true f
      (now.looks w s agrees f.answers.1 holds (item-holds (AdmitsTest s c.args.known.now.entity) c.args.tests.now _ _ c.loop-test-test.true c.test-item.is admits))
      (all-so-far (test_holds s c.args.known.now.entity) c.args.tests.now c.loop-test.test-index c.test-item.result c.in_ok-holds.field-0 c.loop-test-test.true c.test-item.is c.if-not-branch.false);
  keeps =
      keeps-step _ _ _ _ _ _ true c.in_ok-holds.field-0 true (g.met.B.Base.follows_on _ _ _) c.loop-test.invariant.keeps c.in_ok-holds.ensures.keeps;
}
