use Rattle.std.proofs.Common.{◌≡◌, ℕ, ◌<◌, ◌^◌, if◌then◌else◌, Bool, [], ◌∷◌, Some, None, arith, sym, ap, subst}
use Rattle.std.specs.Prelude.{IsSome}
use Rattle.std.specs.Int.{w32, to_be_bytes}
use Rattle.std.specs.List.{All}
use Rattle.st_lattice.specs.declared.stores.StoreKind.TheVariants.{Extent}
use Rattle.st_lattice.specs.Outline.{Outline}
use Rattle.st_lattice.specs.Stores.{store}
use Rattle.st_pages.specs.Attempt.{over}
use Rattle.st_state.specs.Rows.{entity_row}
use Rattle.st_standing.specs.Standing.{extent_rows}
use Rattle.st_standing.proofs.RowLaws.{RowLaws}
use Rattle.st_lookups.specs.Looks.{AreCellsIn, Finds, IsSoundRow, cells_of}
use Rattle.st_lookups.proofs.Lived.{finds-less, finds-nothing, names-most, of-extent, type-dead}
use Rattle.st_lookups.proofs.Sound.{cells-are, extent-sound}
use Rattle.st_lookups.proofs.Memory.{seen-extent}
use Rattle.st_lookups.proofs.extent.cells_at.Goals as goal

pub returns-in-None-clause-finds : goal.returns-in-None-clause-finds
returns-in-None-clause-finds g c = λ array s agrees same stands.
    finds-nothing (g.P.Pages.asked c.args.pages.now c.args.pages.now) (g.P.Pages.attempt c.args.pages.now) array (g.met.P.Pages.asked_nothing c.args.pages.now) (λ cells. cells ≡ cells_of s c.args.entity) (store Extent c.args.entity.ty ∷ []) _
    (sym (ap (λ (b : Bool). if b then Some (entity_row s c.args.entity).cells else None) (type-dead s stands.legal c.args.entity (names-most s.schema c.args.schema.now c.args.entity.ty same (c.extent_of.ensures.none c.in-None.is)))))

pub returns-in-Some-clause-finds : goal.returns-in-Some-clause-finds
returns-in-Some-clause-finds g c =
    let laws : RowLaws = record {
      key_width = c.laws_of_keys.ensures.width;
      key_order = c.laws_of_keys.ensures.order;
      width = c.laws_of_rows.ensures.width;
      pair_width = c.laws_of_rows.ensures.pair_width;
      pairs = c.laws_of_rows.ensures.pairs;
      serials = c.laws_of_rows.ensures.serials;
    } in
    let A = g.P.Pages.attempt c.args.pages.now in
    let B = g.P.Pages.attempt c.row_cells.new.pages in
    let asked = g.P.Pages.asked c.args.pages.now c.row_cells.new.pages in
    let e = c.args.entity in
    let place = c.in-Some.place in
    let is = c.in-Some.ensures.laid.store_is in
    let schema = c.args.schema.now in
    let serial-small : e.serial < 2 ^ 32 = omega arith in
    let type-small : e.ty < 65536 = omega arith in
    λ array s agrees same stands.
    finds-less asked A B array (λ cells. AreCellsIn schema e.ty e.serial (extent_rows s e.ty) cells) (λ cells. cells ≡ cells_of s e) (place.store ∷ []) (store Extent e.ty ∷ []) c.row_cells.result (ap (λ (n : ℕ). n ∷ []) is)
    (λ cells h. cells-are s stands.legal stands.program laws c.laws_of_rows.ensures.one_spelling e serial-small type-small cells (subst (λ (o : Outline). AreCellsIn o e.ty e.serial (extent_rows s e.ty) cells) (sym same) h))
    (of-extent g.S.Store.holds A B schema c.args.places.now e.ty place (λ array rows. All (IsSoundRow schema e.ty) rows → Finds asked A B array (λ cells. AreCellsIn schema e.ty e.serial rows cells) (place.store ∷ []) c.row_cells.result) type-small
    c.in-Some.ensures.value is c.row_cells.ensures.finds array s agrees same stands (subst (λ (o : Outline). All (IsSoundRow o e.ty) (extent_rows s e.ty)) same (extent-sound s stands.legal stands.program e.ty)))

pub returns-in-Some-clause-seen : goal.returns-in-Some-clause-seen
returns-in-Some-clause-seen g c =
    let A = g.P.Pages.attempt c.args.pages.now in
    let B = g.P.Pages.attempt c.row_cells.new.pages in
    let e = c.args.entity in
    seen-extent g.S.Store.holds A B c.args.schema.now c.args.places.now e.ty c.in-Some.place (λ place array. (page : ℕ) × g.S.Store.spot place (over A array) (to_be_bytes w32 e.serial) page × IsSome (B.seen page)) c.in-Some.ensures.value c.in-Some.ensures.laid.store_is
    c.row_cells.result c.row_cells.ensures.seen
