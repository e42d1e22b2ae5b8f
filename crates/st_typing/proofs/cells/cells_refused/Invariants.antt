use Rattle.std.proofs.Common.{◌≡◌, drop}
use Rattle.st_meaning.specs.Checks.{cells_refused}
use Rattle.st_typing.specs.Scope.{names_of}
use Rattle.st_typing.proofs.cells.cells_refused.Given as goal

-- none so far is refused
abbrev pub invariant-loop-cell : goal.invariant-loop-cell
invariant-loop-cell l = cells_refused l.schema (names_of l.scope) l.ty (drop l.cell-index l.cells) ≡ cells_refused l.schema (names_of l.scope) l.ty l.cells
