use Rattle.std.proofs.Common.{◌≡◌, map, take}
use Rattle.std.specs.Prelude.{All, Some}
use Rattle.st_query.specs.Ways.{way}
use Rattle.st_terms.specs.Routes.{IsReadingOf, route_of}
use Rattle.st_lines.proofs.lines.shown_routes.Given as goal

abbrev pub invariant-loop-term : goal.invariant-loop-term
invariant-loop-term l =
    (l.routes.items ≡ map (λ term. route_of l.schema l.variables (Some l.subject) (way term)) (take l.term-index l.shown))
    × All (λ route. All (IsReadingOf l.schema) route.readings) l.routes.items
