use Rattle.std.proofs.Common.{◌≡◌, ◌∷◌, map, take, Ok}
use Rattle.std.specs.Prelude.{flat_map, All, Some}
use Rattle.st_values.specs.declared.value.Value.TheVariants.{Entity}
use Rattle.st_state.specs.State.{State}
use Rattle.st_meaning.specs.declared.meaning.Meaning.TheVariants.{Single}
use Rattle.st_meaning.specs.Statements.{tail}
use Rattle.st_terms.specs.Looks.{Looks, Keeps}
use Rattle.st_terms.specs.Routes.{IsReadingOf, AdmitsRoute, route_meaning, route_stores, route_places}
use Rattle.st_lines.proofs.tails.entity_tail.Given as goal

abbrev pub invariant-loop-route : goal.invariant-loop-route
invariant-loop-route g l =
    ((w : g.B.Base.Witness) (s : State) → g.B.Base.agrees l.base w → g.B.Base.stands l.fn.base w s → All (λ route. AdmitsRoute s route (Some l.entity)) l.shown →
    Looks (g.B.Base.stands l.base w s) (g.B.Base.asks l.fn.base l.base w) (g.B.Base.reached l.base w)
    (λ (_ : Unit {0}). l.text ≡ tail l.names 42 (Single (Entity l.entity) ∷ map (λ route. route_meaning s route (Some l.entity)) (take l.route-index l.shown)))
    (flat_map (route_stores s.schema) (take l.route-index l.shown)) (flat_map (λ route. route_places s route (Some l.entity)) (take l.route-index l.shown)) (Ok tt))
    × Keeps {A = Unit {0}} (g.B.Base.follows l.fn.base l.base) (g.B.Base.met l.fn.base) (g.B.Base.met l.base) (Ok tt)
    × All (λ route. All (IsReadingOf (g.B.Base.schema l.base)) route.readings) l.shown
