use Rattle.std.proofs.Common.{take, drop, Ok}
use Rattle.st_state.specs.State.{State}
use Rattle.st_terms.specs.Looks.{Keeps}
use Rattle.st_makes.specs.Makes.{AdmitsGivens}
use Rattle.st_makes.proofs.Sets.{SetSoFar}
use Rattle.st_makes.proofs.making.set_givens.Given as goal

-- the state so far, and what is still to be set
abbrev pub invariant-loop-given : goal.invariant-loop-given
invariant-loop-given g l = record {
  changes : (w : g.B.Base.Witness) (s : State) → g.B.Base.agrees l.base w → g.B.Base.stands l.initial.base w s → AdmitsGivens l.entity l.givens s →
      SetSoFar (g.B.Base.stands l.base w) (g.B.Base.asks l.initial.base l.base w) l.entity l.givens (take l.given-index l.givens) (drop l.given-index l.givens) s;
  keeps : Keeps {A = Unit {0}} (g.B.Base.follows l.initial.base l.base) (g.B.Base.met l.initial.base) (g.B.Base.met l.base) (Ok tt);
}
