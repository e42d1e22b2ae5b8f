use Rattle.std.proofs.Common.{◌≡◌, drop, map}
use Rattle.st_query.specs.declared.kind.Expected.TheVariants.{Anything}
use Rattle.st_state.specs.Refusals.{first_of}
use Rattle.st_meaning.specs.Checks.{term_refused}
use Rattle.st_typing.specs.Scope.{names_of}
use Rattle.st_typing.proofs.query.shown_refused.Given as goal

-- none so far is refused
abbrev pub invariant-loop-term : goal.invariant-loop-term
invariant-loop-term l =
    first_of (map (term_refused l.schema (names_of l.scope) Anything) (drop l.term-index l.terms)) ≡ first_of (map (term_refused l.schema (names_of l.scope) Anything) l.terms)
