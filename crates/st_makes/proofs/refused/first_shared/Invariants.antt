use Rattle.std.proofs.Common.{◌≡◌, [], take, drop, map, Ok}
use Rattle.std.specs.Prelude.{flat_map, All}
use Rattle.st_lattice.specs.Stores.{aside}
use Rattle.st_state.specs.State.{State}
use Rattle.st_state.specs.Legal.{IsNearlyLegal}
use Rattle.st_state.specs.Refusals.{first_of}
use Rattle.st_meaning.specs.Rules.{shared}
use Rattle.st_terms.specs.Looks.{Looks, Keeps}
use Rattle.st_makes.specs.declared.filling.Filling.{Filling}
use Rattle.st_makes.specs.Makes.{rule_of, IsMeant}
use Rattle.st_makes.proofs.refused.first_shared.Given as goal

-- none so far refuses
abbrev pub invariant-loop-filling : goal.invariant-loop-filling
invariant-loop-filling g l = record {
  looks : (w : g.B.Base.Witness) (s : State) → g.B.Base.agrees l.base w → g.B.Base.stands l.initial.base w s → IsNearlyLegal s → All (λ (f : Filling). IsMeant s f.attribute f.value) l.fillings →
      Looks {A = Unit {0}} (g.B.Base.stands l.base w s) (g.B.Base.asks l.initial.base l.base w) (g.B.Base.reached l.base w)
      (λ _. first_of (map (shared s l.filled) (map rule_of (drop l.filling-index l.fillings))) ≡ first_of (map (shared s l.filled) (map rule_of l.fillings)))
      (flat_map (λ (f : Filling). aside f.attribute) (take l.filling-index l.fillings)) [] (Ok tt);
  keeps : Keeps {A = Unit {0}} (g.B.Base.follows l.initial.base l.base) (g.B.Base.met l.initial.base) (g.B.Base.met l.base) (Ok tt);
}
