use Rattle.std.proofs.Common.{◌≡◌, drop, map}
use Rattle.st_query.specs.declared.kind.Expected.TheVariants.{AnyValue}
use Rattle.st_state.specs.Refusals.{first_of}
use Rattle.st_meaning.specs.Checks.{term_refused}
use Rattle.st_typing.specs.Scope.{names_of}
use Rattle.st_typing.proofs.query.keys_refused.Given as goal

-- none so far is refused
abbrev pub invariant-loop-key : goal.invariant-loop-key
invariant-loop-key l =
    first_of (map (λ key. term_refused l.schema (names_of l.scope) AnyValue key.term) (drop l.key-index l.keys))
    ≡ first_of (map (λ key. term_refused l.schema (names_of l.scope) AnyValue key.term) l.keys)
