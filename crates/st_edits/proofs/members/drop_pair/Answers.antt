use Rattle.std.proofs.Common.{◌≡◌, ℕ, ◌*◌, List, [], ◌∷◌, true, subst}
use Rattle.std.specs.Prelude.{is_some}
use Rattle.st_store.specs.Rows.{row_with, without_row}
use Rattle.st_database.specs.Database.{with_rows}
use Rattle.st_database.specs.Touches.{Leads, WithStore, removed_by}
use Rattle.st_edits.proofs.members.drop_pair.Goals as goal

pub returns-clause-leads : goal.returns-clause-leads
returns-clause-leads g c =
    let place = c.args.place in
    let A = g.P.Pages.attempt c.args.pages.now in
    let B = g.P.Pages.attempt c.remove_row.new.pages in
    subst (λ (row : List ℕ). WithStore g.S.Store.holds A B place (λ array schema places view.
    Leads g.S.Store.holds (g.P.Pages.asked c.args.pages.now c.remove_row.new.pages) A B array schema places
    (with_rows place.store (without_row place.key row (view.rows place.store)) view) (λ was. was ≡ is_some (row_with place.key row (view.rows place.store)))
    (place.store ∷ []) true 0 (34 * removed_by place.key row (view.rows place.store)) c.remove_row.result)) c.pair_row.ensures c.remove_row.ensures.leads
