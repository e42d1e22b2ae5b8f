use Rattle.std.proofs.Common.{◌≡◌, ℕ, ◌==◌, ◌++◌, true, false, Err, Ok, List, [], ◌∷◌, refl, sym, ap, subst, append-nil}
use Rattle.std.specs.Prelude.{filter}
use Rattle.std.specs.List.{All}
use Rattle.st_lattice.specs.declared.stores.StoreKind.TheVariants.{Extent}
use Rattle.st_lattice.specs.Outline.{Outline}
use Rattle.st_lattice.specs.Stores.{store}
use Rattle.st_known.specs.declared.known.Known.{Known}
use Rattle.st_store.specs.Rows.{rows_from}
use Rattle.st_database.specs.Touches.{Touches}
use Rattle.st_standing.specs.Standing.{extent_rows}
use Rattle.st_standing.proofs.RowLaws.{RowLaws}
use Rattle.st_lookups.specs.Looks.{Finds, IsSoundRow, taken_from}
use Rattle.st_lookups.proofs.Listed.{none-of}
use Rattle.st_lookups.proofs.Lived.{finds-nothing, names-most, of-extent}
use Rattle.st_lookups.proofs.Sound.{extent-sound}
use Rattle.st_lookups.proofs.Walked.{TookRows}
use Rattle.st_listings.specs.declared.listing.Listing.{Listing}
use Rattle.st_listings.specs.Listings.{AlsoKnown, AreRead}
use Rattle.st_listings.proofs.Reading.{also-none, also-read, extent-tells}
use Rattle.st_listings.proofs.listing.list_exact.Goals as goal

pub returns-in_default-clause-finds : goal.returns-in_default-clause-finds
returns-in_default-clause-finds g c = λ array s agrees same stands.
    let known : List Known = c.args.known in
    finds-nothing (g.P.Pages.asked c.args.pages.now c.args.pages.now) (g.P.Pages.attempt c.args.pages.now) array (g.met.P.Pages.asked_nothing c.args.pages.now) (AlsoKnown s known (filter (λ e. e.ty == c.args.ty) s.live)) (store Extent c.args.ty ∷ []) known
    (also-none s known (filter (λ e. e.ty == c.args.ty) s.live) (none-of s c.args.ty stands.legal (names-most s.schema c.args.schema.now c.args.ty same (c.extent_of.ensures.none c.in_default.is))))

Told : Listing → Listing → List (List ℕ) → Type 0
Told before after rows = (after.schema.now ≡ before.schema.now) × (after.ty ≡ before.ty) × ((read : List Known) × AreRead before.schema.now before.ty rows read × (after.known ≡ before.known ++ read))

pub returns-in-Ok-clause-finds : goal.returns-in-Ok-clause-finds
unfolding Told
returns-in-Ok-clause-finds g c =
    let laws : RowLaws = record {
      key_width = c.laws_of_keys.ensures.width;
      key_order = c.laws_of_keys.ensures.order;
      width = c.laws_of_rows.ensures.width;
      pair_width = c.laws_of_rows.ensures.pair_width;
      pairs = c.laws_of_rows.ensures.pairs;
      serials = c.laws_of_rows.ensures.serials;
    } in
    let A = g.P.Pages.attempt c.args.pages.now in
    let B = g.P.Pages.attempt c.walk.new.pages in
    let asked = g.P.Pages.asked c.args.pages.now c.walk.new.pages in
    let ty = c.args.ty in
    let schema = c.args.schema.now in
    let place = c.in-Some.place in
    let is = c.in-Some.ensures.laid.store_is in
    let key : List ℕ = c.serial_key.result in
    let begun : Listing = record { schema = c.args.schema; ty = ty; known = c.args.known } in
    let T : List (List ℕ) → Type 0 = TookRows Told begun c.walk.new.visit in
    λ array s agrees same stands.
    let found = of-extent g.S.Store.holds A B schema c.args.places.now ty place (λ array rows. All (IsSoundRow schema ty) rows → Finds {A = Unit {0}} asked A B array (λ _. T (taken_from (λ row. true) (rows_from place.key key rows))) (place.store ∷ []) (Ok c.in-Ok.field-0)) c.ranges.ty.fits
    c.in-Some.ensures.value is c.in-Ok.ensures.finds array s agrees same stands
    (subst (λ (o : Outline). All (IsSoundRow o ty) (extent_rows s ty)) same (extent-sound s stands.legal stands.program ty)) in
    let told = found.answers begun [] (refl, refl, ([], tt, sym (append-nil begun.known))) in
    record {
      answers = also-read s c.args.known told.2.0 c.walk.new.visit.known (filter (λ e. e.ty == ty) s.live) told.2.2
          (extent-tells c.laws_of_rows.ensures.one_spelling s stands.legal stands.program laws ty schema same place.key key c.in-Some.ensures.laid.key c.serial_key.ensures told.2.0 told.2.1);
      sound = tt;
      touches = subst (λ (l : List ℕ). Touches asked A B array l false 0 0) (ap (λ (n : ℕ). n ∷ []) is) found.touches;
    }

pub returns-in-Err-clause-finds : goal.returns-in-Err-clause-finds
unfolding Told
returns-in-Err-clause-finds g c =
    let A = g.P.Pages.attempt c.args.pages.now in
    let B = g.P.Pages.attempt c.walk.new.pages in
    let asked = g.P.Pages.asked c.args.pages.now c.walk.new.pages in
    let ty = c.args.ty in
    let schema = c.args.schema.now in
    let place = c.in-Some.place in
    let is = c.in-Some.ensures.laid.store_is in
    let key : List ℕ = c.serial_key.result in
    let begun : Listing = record { schema = c.args.schema; ty = ty; known = c.args.known } in
    let T : List (List ℕ) → Type 0 = TookRows Told begun c.walk.new.visit in
    λ array s agrees same stands.
    let found = of-extent g.S.Store.holds A B schema c.args.places.now ty place (λ array rows. All (IsSoundRow schema ty) rows → Finds {A = Unit {0}} asked A B array (λ _. T (taken_from (λ row. true) (rows_from place.key key rows))) (place.store ∷ []) (Err c.in-Err.fault)) c.ranges.ty.fits
    c.in-Some.ensures.value is c.in-Err.ensures.finds array s agrees same stands
    (subst (λ (o : Outline). All (IsSoundRow o ty) (extent_rows s ty)) same (extent-sound s stands.legal stands.program ty)) in
    record {
      answers = tt;
      sound = found.sound;
      touches = subst (λ (l : List ℕ). Touches asked A B array l false 0 0) (ap (λ (n : ℕ). n ∷ []) is) found.touches;
    }
