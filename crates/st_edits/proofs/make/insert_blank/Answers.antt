use Rattle.std.proofs.Common.{ℕ, List, [], ◌∷◌, take, true, ap, ◌∙◌, subst}
use Rattle.std.specs.Prelude.{⊤}
use Rattle.st_store.specs.Rows.{with_row}
use Rattle.st_database.specs.Database.{with_last, with_rows}
use Rattle.st_database.specs.Touches.{Leads, WithStore}
use Rattle.st_edits.proofs.Blank.{front-is}
use Rattle.st_edits.proofs.make.insert_blank.Goals as goal

pub returns-clause-leads : goal.returns-clause-leads
returns-clause-leads g c =
    let place = c.args.place in
    let A = g.P.Pages.attempt c.args.pages.now in
    let B = g.P.Pages.attempt c.insert_new.new.pages in
    subst (λ (row : List ℕ). WithStore g.S.Store.holds A B place (λ array schema places view.
    Leads g.S.Store.holds (g.P.Pages.asked c.args.pages.now c.insert_new.new.pages) A B array schema places
    (with_last place.store c.args.serial (with_rows place.store (with_row place.key row (view.rows place.store)) view)) (λ done. ⊤) (place.store ∷ []) true 17 34 c.insert_new.result))
    (ap (take place.width) c.blank_row-row.ensures ∙ front-is place.width c.args.serial c.requires.wide c.requires.is.fair.short) c.insert_new.ensures.leads
