use Rattle.std.proofs.Common.{◌≡◌, length}
use Rattle.st_statements.specs.Reading.{read_behind}
use Rattle.st_statements.specs.Statements.{statement_at}
use Rattle.st_reader.specs.Scripts.{statements_in}
use Rattle.st_reader.proofs.script.statements_in.Given as goal

abbrev pub invariant-loop-item : goal.invariant-loop-item
invariant-loop-item l = read_behind (λ before. statement_at) l.statements l.items ≡ statements_in l.fn.items

abbrev pub decreases-loop-item : goal.decreases-loop-item
decreases-loop-item l = length l.items
