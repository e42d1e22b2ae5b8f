use Rattle.std.proofs.Common.{◌≡◌, take}
use Rattle.std.specs.Prelude.{Ok, [], true}
use Rattle.st_state.specs.State.{State}
use Rattle.st_known.specs.Known.{IsKnown}
use Rattle.st_terms.specs.Looks.{Looks, Keeps}
use Rattle.st_select.specs.Search.{AdmitsTests, all_hold, tests_stores}
use Rattle.st_select.proofs.matching.all_hold.Given as goal

abbrev pub invariant-loop-test : goal.invariant-loop-test
invariant-loop-test g l = record {
  looks : (w : g.B.Base.Witness) (s : State) → g.B.Base.agrees l.base w → g.B.Base.stands l.fn.base w s → IsKnown s l.known → AdmitsTests s l.tests l.known.entity →
      Looks (g.B.Base.stands l.base w s) (g.B.Base.asks l.fn.base l.base w) (g.B.Base.reached l.base w) (λ truth. truth ≡ all_hold s (take l.test-index l.tests) l.known.entity) (tests_stores s.schema l.tests) [] (Ok true);
  keeps : Keeps (g.B.Base.follows l.fn.base l.base) (g.B.Base.met l.fn.base) (g.B.Base.met l.base) (Ok true);
}
