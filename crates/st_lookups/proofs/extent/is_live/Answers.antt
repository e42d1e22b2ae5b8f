use Rattle.std.proofs.Common.{◌≡◌, ℕ, ◌<◌, ◌^◌, arith, [], ◌∷◌, sym, ap}
use Rattle.std.specs.Int.{w32, to_be_bytes}
use Rattle.st_lattice.specs.declared.stores.StoreKind.TheVariants.{Extent}
use Rattle.st_lattice.specs.Stores.{store}
use Rattle.st_state.specs.State.{is_live}
use Rattle.st_store.specs.Stores.{Found}
use Rattle.st_standing.specs.Standing.{entity_bytes, extent_rows}
use Rattle.st_standing.proofs.RowLaws.{RowLaws}
use Rattle.st_lookups.specs.Looks.{Finds}
use Rattle.st_lookups.proofs.Lived.{entity-row, finds-less, finds-nothing, found-live, names-most, of-extent, type-dead}
use Rattle.st_lookups.proofs.extent.is_live.Goals as goal

pub returns-in_default-clause-finds : goal.returns-in_default-clause-finds
returns-in_default-clause-finds g c = λ array s agrees same stands.
    finds-nothing (g.P.Pages.asked c.args.pages.now c.args.pages.now) (g.P.Pages.attempt c.args.pages.now) array (g.met.P.Pages.asked_nothing c.args.pages.now) (λ live. live ≡ is_live s c.args.entity) (store Extent c.args.entity.ty ∷ []) _
    (sym (type-dead s stands.legal c.args.entity (names-most s.schema c.args.schema.now c.args.entity.ty same (c.extent_of.ensures.none c.in_default.is))))

pub returns-clause-finds : goal.returns-clause-finds
returns-clause-finds g c =
    let laws : RowLaws = record {
      key_width = c.laws_of_keys.ensures.width;
      key_order = c.laws_of_keys.ensures.order;
      width = c.laws_of_rows.ensures.width;
      pair_width = c.laws_of_rows.ensures.pair_width;
      pairs = c.laws_of_rows.ensures.pairs;
      serials = c.laws_of_rows.ensures.serials;
    } in
    let A = g.P.Pages.attempt c.args.pages.now in
    let B = g.P.Pages.attempt c.find_entity.new.pages in
    let asked = g.P.Pages.asked c.args.pages.now c.find_entity.new.pages in
    let e = c.args.entity in
    let place = c.in-Some.place in
    let is = c.in-Some.ensures.laid.store_is in
    let key = to_be_bytes w32 e.serial in
    let serial-small : e.serial < 2 ^ 32 = omega arith in
    let type-small : e.ty < 65536 = omega arith in
    λ array s agrees same stands.
    finds-less asked A B array (λ found. Found 4 key (extent_rows s e.ty) found c.find_entity.new.row) (λ live. live ≡ is_live s e) (place.store ∷ []) (store Extent e.ty ∷ []) c.find_entity.result (ap (λ (n : ℕ). n ∷ []) is)
    (λ found h. found-live key (extent_rows s e.ty) (entity_bytes s e) c.find_entity.new.row (is_live s e) found (entity-row laws s stands.legal stands.program e serial-small type-small) h)
    (of-extent g.S.Store.holds A B c.args.schema.now c.args.places.now e.ty place (λ array rows. Finds asked A B array (λ found. Found 4 key rows found c.find_entity.new.row) (place.store ∷ []) c.find_entity.result) type-small
    c.in-Some.ensures.value is c.find_entity.ensures.finds array s agrees same stands)
