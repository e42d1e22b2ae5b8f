use Rattle.std.proofs.Common.{arith}
use Rattle.std.proofs.lemmas.Result.{err_from_is_err_and}
use Rattle.st_rows.proofs.Walk.{cells-end}
use Rattle.st_rows.proofs.Reading.{reads-next, reads-as, reads-fail, reads-end}
use Rattle.st_rows.proofs.entity_row.read_cells.Goals as goal
use Rattle.st_rows.proofs.entity_row.read_cells.Goals.{in-Some+in_ok-place, in_default}

pub returns-in_err-place-clause-cause : goal.returns-in_err-place-clause-cause
returns-in_err-place-clause-cause c =
    let p = err_from_is_err_and c.from_residual.result c.from_residual.ensures.1 in
    rw (p.1, p.2) (reads-fail _ _ _ _ _ _ _ _ c.loop-position.invariant c.in-Some.ensures c.in_err-place.ensures.cause)

pub loop-position-preserved : goal.loop-position-preserved
loop-position-preserved c =
    elim c.match-cell_at.branch [
      | in-Some+in_ok-place w ↦ rw (w.place-is, w.cells-is, w.in_ok-place.ensures.ok) (reads-next _ _ _ _ _ _ _ _ c.loop-position.invariant w.in-Some.ensures w.in_ok-place.ensures.value)
      | in_default w ↦ rw (w.place-is, w.cells-is) (reads-as _ _ _ _ _ _ c.loop-position.invariant w.in_default.ensures)
    ]

pub returns-clause-held : goal.returns-clause-held
returns-clause-held c = (reads-end _ _ _ _ _ (cells-end c.args.schema.now c.args.ty c.loop-position.position (omega arith)) c.loop-position.invariant).0

pub returns-clause-bytes : goal.returns-clause-bytes
returns-clause-bytes c = (reads-end _ _ _ _ _ (cells-end c.args.schema.now c.args.ty c.loop-position.position (omega arith)) c.loop-position.invariant).1
