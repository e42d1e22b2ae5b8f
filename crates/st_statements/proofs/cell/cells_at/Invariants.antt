use Rattle.std.proofs.Common.{◌≡◌, length}
use Rattle.std.specs.BTreeSet.{contains_text}
use Rattle.st_values.specs.Names.{has}
use Rattle.st_statements.specs.Reading.{read_behind}
use Rattle.st_statements.specs.Statements.{names_of, cell_behind, cells_at}
use Rattle.st_statements.proofs.cell.cells_at.Given as goal

abbrev pub invariant-loop-form : goal.invariant-loop-form
invariant-loop-form l = record {
  read : read_behind cell_behind l.cells l.forms ≡ cells_at l.fn.forms;
  seen : contains_text l.names ≡ has (names_of l.cells);
}

abbrev pub decreases-loop-form : goal.decreases-loop-form
decreases-loop-form l = length l.forms
