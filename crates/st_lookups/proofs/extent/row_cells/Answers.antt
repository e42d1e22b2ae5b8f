use Rattle.std.proofs.Common.{◌≡◌, Bool, [], ◌∷◌, Some, subst}
use Rattle.std.specs.Int.{w32, to_be_bytes}
use Rattle.st_pages.proofs.Carried.{Stays}
use Rattle.st_index.proofs.Called.{earlier}
use Rattle.st_store.specs.Rows.{row_with}
use Rattle.st_store.specs.Stores.{Found}
use Rattle.st_standing.proofs.Fitting.{found-holds}
use Rattle.st_lookups.specs.Looks.{AreCellsIn, IsSoundRow}
use Rattle.st_lookups.proofs.Memory.{finds-memory}
use Rattle.st_lookups.proofs.extent.row_cells.Goals as goal

pub returns-in-Ok-clause-finds : goal.returns-in-Ok-clause-finds
returns-in-Ok-clause-finds g c = λ array outline places view agrees d at sound.
    let x = c.in-Ok-true.ensures.finds array outline places view agrees d at in
    let key = to_be_bytes w32 c.args.entity.serial in
    let found : row_with 4 key (view.rows c.args.place.store) ≡ Some c.find_entity.new.row = subst (λ (b : Bool). Found 4 key (view.rows c.args.place.store) b c.find_entity.new.row) c.in-Ok-true.field-0-test x.answers in
    record { answers = (c.find_entity.new.row, c.in-Ok.field-0-0, found, c.in-Ok.ensures.held, c.in-Ok.ensures.bytes); sound = tt; touches = x.touches }

pub returns-in-Err-cells_in-clause-finds : goal.returns-in-Err-cells_in-clause-finds
returns-in-Err-cells_in-clause-finds g c = λ array outline places view agrees d at sound.
    let B = g.P.Pages.attempt c.find_entity.new.pages in
    let C = g.P.Pages.attempt c.row_fault.new.pages in
    let stays : Stays B C = g.met.P.Pages.seen_stays c.find_entity.new.pages c.row_fault.new.pages c.row_fault.ensures.keeps.below in
    let x = c.in-Ok-true.ensures.finds array outline places view (earlier B C array stays agrees) d at in
    let key = to_be_bytes w32 c.args.entity.serial in
    let rows = view.rows c.args.place.store in
    let found : row_with 4 key rows ≡ Some c.find_entity.new.row = subst (λ (b : Bool). Found 4 key rows b c.find_entity.new.row) c.in-Ok-true.field-0-test x.answers in
    let right : IsSoundRow c.args.schema.now c.args.entity.ty c.find_entity.new.row = found-holds (IsSoundRow c.args.schema.now c.args.entity.ty) _ rows c.find_entity.new.row sound found in
    let both = c.row_fault.ensures.memory (c.in-Err-cells_in.ensures.refused right) in
    finds-memory g.P.Pages.attempt g.P.Pages.asked c.args.pages.now c.find_entity.new.pages c.row_fault.new.pages array (λ cells. AreCellsIn c.args.schema.now c.args.entity.ty c.args.entity.serial rows cells) (c.args.place.store ∷ []) c.row_fault.result both.0 both.1 x.touches

pub returns-in-Ok-false-clause-finds : goal.returns-in-Ok-false-clause-finds
returns-in-Ok-false-clause-finds g c = λ array outline places view agrees d at sound.
    let x = c.in-Ok-false.ensures.finds array outline places view agrees d at in
    let key = to_be_bytes w32 c.args.entity.serial in
    record { answers = subst (λ (b : Bool). Found 4 key (view.rows c.args.place.store) b c.find_entity.new.row) c.in-Ok-false.field-0-test x.answers; sound = tt; touches = x.touches }

pub returns-in-Err-clause-finds : goal.returns-in-Err-clause-finds
returns-in-Err-clause-finds g c = λ array outline places view agrees d at sound.
    let x = c.in-Err.ensures.finds array outline places view agrees d at in
    record { answers = tt; sound = x.sound; touches = x.touches }
