use Rattle.std.proofs.Common.{◌≡◌, map, take, Ok}
use Rattle.std.specs.Prelude.{flat_map, All, Some}
use Rattle.st_state.specs.State.{State}
use Rattle.st_terms.specs.Looks.{Looks, Keeps}
use Rattle.st_terms.specs.Routes.{IsReadingOf, AdmitsRoute}
use Rattle.st_lines.specs.Shown.{shown_tail, shown_stores, shown_places}
use Rattle.st_lines.proofs.lines.push_entities.Given as goal

abbrev pub invariant-loop-entity : goal.invariant-loop-entity
invariant-loop-entity g l =
    ((w : g.B.Base.Witness) (s : State) → g.B.Base.agrees l.base w → g.B.Base.stands l.fn.base w s → All (λ e. All (λ route. AdmitsRoute s route (Some e)) l.shown) l.entities →
    Looks (g.B.Base.stands l.base w s) (g.B.Base.asks l.fn.base l.base w) (g.B.Base.reached l.base w)
    (λ (_ : Unit {0}). l.lines ≡ map (shown_tail s l.names l.shown) (take l.entity-index l.entities))
    (flat_map (λ e. shown_stores s l.shown) (take l.entity-index l.entities)) (flat_map (shown_places s l.shown) (take l.entity-index l.entities)) (Ok tt))
    × Keeps {A = Unit {0}} (g.B.Base.follows l.fn.base l.base) (g.B.Base.met l.fn.base) (g.B.Base.met l.base) (Ok tt)
    × All (λ route. All (IsReadingOf (g.B.Base.schema l.base)) route.readings) l.shown
