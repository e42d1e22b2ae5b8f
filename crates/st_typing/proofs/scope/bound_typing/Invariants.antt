use Rattle.std.proofs.Common.{◌≡◌, drop}
use Rattle.std.specs.Prelude.{find}
use Rattle.std.specs.Str.{bytes_eq}
use Rattle.st_query.specs.Kinds.{known}
use Rattle.st_typing.proofs.scope.bound_typing.Given as goal

-- none so far has the name
abbrev pub invariant-loop-variable : goal.invariant-loop-variable
invariant-loop-variable l =
    find (λ k. bytes_eq k.name l.name) (known (drop l.variable-index l.variables)) ≡ find (λ k. bytes_eq k.name l.name) (known l.variables)
