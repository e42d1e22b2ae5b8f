use Rattle.std.proofs.Common.{◌∙◌, Some, refl, sym, ap, subst, arith}
use Rattle.st_image.specs.Fields.{rows_of}
use Rattle.st_page_rows.specs.PageRows.{IsAbsent, IsThere}
use Rattle.st_page_rows.proofs.Standing.{absent-none, there-found, there-within}
use Rattle.st_chain.proofs.Walks.{count-rows}
use Rattle.st_chain.proofs.chain.copy_found.Goals as goal

pub row_at-requires-clause-within : goal.row_at-requires-clause-within
row_at-requires-clause-within c =
    let rows = rows_of c.args.place.width c.args.page.now in
    let key = c.args.key.now in
    let within = there-within c.args.place.key key key rows c.in-Ok.index refl (subst (λ n. IsThere n key rows c.in-Ok.index) c.requires.key c.in-Ok.ensures.there) in
    let size = count-rows c.args.place c.args.page.now in
    omega (arith, within, size)

pub returns-in-Ok : goal.returns-in-Ok
returns-in-Ok c =
    let rows = rows_of c.args.place.width c.args.page.now in
    let key = c.args.key.now in
    there-found c.args.place.key key key rows c.in-Ok.index refl (subst (λ n. IsThere n key rows c.in-Ok.index) c.requires.key c.in-Ok.ensures.there)
    ∙ c.row_at.ensures.row
    ∙ ap Some (sym c.copy_from_slice.ensures.after)

pub returns-in-Err : goal.returns-in-Err
returns-in-Err c =
    let rows = rows_of c.args.place.width c.args.page.now in
    let key = c.args.key.now in
    absent-none c.args.place.key key key rows c.in-Err.field-0 refl (subst (λ n. IsAbsent n key rows c.in-Err.field-0) c.requires.key c.in-Err.ensures.absent)
