use Rattle.std.proofs.Common.{◌≡◌, ℕ, ◌*◌, List, [], ◌∷◌, true, subst}
use Rattle.std.specs.Prelude.{is_some}
use Rattle.st_store.specs.Rows.{row_with, with_row}
use Rattle.st_database.specs.Database.{with_rows}
use Rattle.st_database.specs.Touches.{Leads, WithStore, added_by, changed_by}
use Rattle.st_edits.proofs.members.put_pair.Goals as goal

pub returns-clause-leads : goal.returns-clause-leads
returns-clause-leads g c =
    let place = c.args.place in
    let A = g.P.Pages.attempt c.args.pages.now in
    let B = g.P.Pages.attempt c.insert_row.new.pages in
    subst (λ (row : List ℕ). WithStore g.S.Store.holds A B place (λ array schema places view.
    Leads g.S.Store.holds (g.P.Pages.asked c.args.pages.now c.insert_row.new.pages) A B array schema places
    (with_rows place.store (with_row place.key row (view.rows place.store)) view) (λ was. was ≡ is_some (row_with place.key row (view.rows place.store)))
    (place.store ∷ []) true (17 * added_by place.key row (view.rows place.store)) (34 * changed_by place.key row (view.rows place.store)) c.insert_row.result)) c.pair_row.ensures c.insert_row.ensures.leads
