use Rattle.std.proofs.Common.{◌≡◌, List, [], take, Ok}
use Rattle.std.specs.Prelude.{flat_map, All}
use Rattle.st_state.specs.State.{State}
use Rattle.st_terms.specs.Looks.{Looks, Keeps}
use Rattle.st_terms.specs.Routes.{AdmitsTerm, term_stores}
use Rattle.st_makes.specs.declared.given.Given.{Given}
use Rattle.st_makes.specs.Makes.{givens_of}
use Rattle.st_makes.proofs.given.givens_of.Given as goal

-- what the cells so far give, and what was asked for them
abbrev pub invariant-loop-cell : goal.invariant-loop-cell
invariant-loop-cell g l = record {
  looks : (w : g.B.Base.Witness) (s : State) → g.B.Base.agrees l.base w → g.B.Base.stands l.initial.base w s → All (λ c. AdmitsTerm s l.variables c.value) l.cells →
      Looks {A = List Given} (g.B.Base.stands l.base w s) (g.B.Base.asks l.initial.base l.base w) (g.B.Base.reached l.base w)
      (λ givens. givens ≡ givens_of s l.variables l.ty (take l.cell-index l.cells)) (flat_map (λ c. term_stores s.schema l.variables c.value) (take l.cell-index l.cells)) [] (Ok l.givens);
  keeps : Keeps {A = List Given} (g.B.Base.follows l.initial.base l.base) (g.B.Base.met l.initial.base) (g.B.Base.met l.base) (Ok l.givens);
}
