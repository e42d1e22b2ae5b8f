use Rattle.std.proofs.Common.{◌≡◌, map, take, Ok}
use Rattle.std.specs.Prelude.{flat_map, All}
use Rattle.st_state.specs.State.{State}
use Rattle.st_meaning.specs.Terms.{term_meaning}
use Rattle.st_meaning.specs.Statements.{tail}
use Rattle.st_terms.specs.Looks.{Looks, Keeps}
use Rattle.st_terms.specs.Routes.{AdmitsTerm, term_stores, term_places}
use Rattle.st_lines.proofs.tails.print.Given as goal

abbrev pub invariant-loop-term : goal.invariant-loop-term
invariant-loop-term g l =
    ((w : g.B.Base.Witness) (s : State) → g.B.Base.agrees l.base w → g.B.Base.stands l.fn.base w s → All (AdmitsTerm s l.variables) l.terms →
    Looks (g.B.Base.stands l.base w s) (g.B.Base.asks l.fn.base l.base w) (g.B.Base.reached l.base w)
    (λ (_ : Unit {0}). l.text ≡ tail s.schema.names 61 (map (term_meaning s l.variables) (take l.term-index l.terms)))
    (flat_map (term_stores s.schema l.variables) (take l.term-index l.terms)) (flat_map (term_places s l.variables) (take l.term-index l.terms)) (Ok tt))
    × Keeps {A = Unit {0}} (g.B.Base.follows l.fn.base l.base) (g.B.Base.met l.fn.base) (g.B.Base.met l.base) (Ok tt)
    × (l.schema ≡ g.B.Base.schema l.base)
