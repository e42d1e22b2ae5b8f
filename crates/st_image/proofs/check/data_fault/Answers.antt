use Rattle.std.proofs.Common.{ℕ, ◌/◌, false, subst}
use Rattle.std.proofs.Math.Nat.{div-mul-le_self}
use Rattle.st_image.specs.Grammar.{rows_header}
use Rattle.st_image.specs.Parts.{Finds, RowPage}
use Rattle.st_image.proofs.PageKinds.{Limits, data-finds}
use Rattle.st_image.proofs.check.data_fault.Goals as goal

pub returns : goal.returns
returns c =
    let most : ℕ = c.most_rows.result in
    let limits : Limits c.args.key c.args.width most (4080 / c.args.width) = record {
      within = c.requires.fair.within;
      fits = c.most_rows.ensures.fits;
      room = div-mul-le_self 4080 c.args.width;
      at_most = c.most_rows.ensures.room;
      greatest = c.most_rows.ensures.greatest;
    } in
    data-finds (rows_header c.args.kind c.args.store c.args.width) c.args.key c.args.width most limits c.args.bytes.now c.row_page_fault.result
    (subst (λ (last : ℕ). Finds (RowPage c.args.kind 0 most c.args.store 65535 last false c.args.key c.args.width false) c.args.bytes.now c.row_page_fault.result) c.last_serial.ensures c.row_page_fault.ensures)
