use Rattle.std.proofs.Common.{◌∙◌, ap, sym}
use Rattle.std.specs.BTreeSet.{contains_text}
use Rattle.st_values.specs.Names.{has}
use Rattle.st_statements.specs.Reading.{read_behind}
use Rattle.st_statements.specs.Statements.{names_of, cell_behind, cells_at}
use Rattle.st_statements.proofs.Cells.{one_cell, seen_more}
use Rattle.st_statements.proofs.cell.cells_at.Goals as goal

pub loop-form-preserved : goal.loop-form-preserved
loop-form-preserved c = record {
  read = ap (λ cells. read_behind cell_behind cells c.next.new.self) c.in_ok-push.ensures.ok
      ∙ one_cell (contains_text c.loop-form.names) c.loop-form.cells c.loop-form.forms c.next.new.self c.in-Some.form c.in_ok-cell.cell (cells_at c.args.forms) c.loop-form.invariant.seen c.loop-form.invariant.read c.in-Some.ensures c.in_ok-cell.ensures;
  seen = seen_more (contains_text c.loop-form.names) (contains_text c.see.new.names) c.loop-form.cells c.in_ok-cell.cell c.as_str.result.now c.as_str.ensures.value c.loop-form.invariant.seen c.in_ok-see.ensures
      ∙ ap (λ cells. has (names_of cells)) (sym c.in_ok-push.ensures.ok);
}
