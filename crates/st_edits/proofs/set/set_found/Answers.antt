use Rattle.std.proofs.Common.{◌≡◌, ℕ, [], ◌∷◌, Some, None, Ok, sym, ◌∙◌, subst, inl, inr}
use Rattle.std.specs.Prelude.{IsSome}
use Rattle.std.specs.Int.{w32, to_be_bytes}
use Rattle.st_lattice.specs.declared.stores.StoreKind.TheVariants.{Extent}
use Rattle.st_lattice.specs.Stores.{store}
use Rattle.st_pages.specs.declared.places.Place.{Place}
use Rattle.st_pages.specs.Attempt.{Array, over}
use Rattle.st_pages.specs.Places.{place_of}
use Rattle.st_pages.proofs.Carried.{Stays, over-same}
use Rattle.st_state.specs.Calls.{Admits, Set}
use Rattle.st_index.proofs.Called.{PageLaws, earlier}
use Rattle.st_standing.specs.Standing.{NearlyStandsAt}
use Rattle.st_lookups.specs.Looks.{OfState}
use Rattle.st_lookups.proofs.Valued.{cells-dead, cells-live}
use Rattle.st_edits.specs.Steps.{IsSettled}
use Rattle.st_edits.proofs.Putting.{on-ok}
use Rattle.st_edits.proofs.StoresPut.{puts-looked}
use Rattle.st_edits.proofs.Settling.{extent-called, stays-seen, turns-early, turns-later}
use Rattle.st_edits.proofs.set.set_found.Given as given
use Rattle.st_edits.proofs.set.set_found.Goals as goal

laws : (g : given.Over) → PageLaws g.P.Pages.attempt g.P.Pages.follows g.P.Pages.asked
laws g = record {
  is_sound = g.met.P.Pages.is_sound;
  seen_stays = g.met.P.Pages.seen_stays;
  drawn_stays = g.met.P.Pages.drawn_stays;
  drawn_unwritten = g.met.P.Pages.drawn_unwritten;
  follows_on = g.met.P.Pages.follows_on;
  asked_more = g.met.P.Pages.asked_more;
  asked_on = g.met.P.Pages.asked_on;
  asked_tells = g.met.P.Pages.asked_tells;
}

pub returns-in-Ok-Some-clause-kinds : goal.returns-in-Ok-Some-clause-kinds
returns-in-Ok-Some-clause-kinds g c = λ puts.
    c.set_cells.ensures.kinds (puts-looked g.P.Pages.attempt g.P.Pages.follows g.P.Pages.asked (laws g) c.args.pages.now c.cells_at.new.pages c.cells_at.ensures.keeps.below c.cells_at.ensures.keeps.written puts)

pub returns-in-Ok-Some-clause-turns : goal.returns-in-Ok-Some-clause-turns
returns-in-Ok-Some-clause-turns g c = λ array s agrees same stands admits.
    let X = g.P.Pages.attempt c.args.pages.now in
    let Y = g.P.Pages.attempt c.cells_at.new.pages in
    let Z = g.P.Pages.attempt c.set_cells.new.pages in
    let e = c.args.entity in
    let stays : Stays Y Z = g.met.P.Pages.seen_stays c.cells_at.new.pages c.set_cells.new.pages c.set_cells.ensures.follows in
    let found = c.in-Ok-Some.ensures.finds array s (earlier Y Z array stays agrees) same stands in
    let cells = cells-live s e c.in-Ok-Some.cells admits.0.live (sym c.in-Ok-Some.field-0-is ∙ found.answers) in
    let here = subst (λ (x : Array). NearlyStandsAt g.S.Store.holds x c.args.places.now s) (sym (over-same X Y array c.cells_at.ensures.keeps.written)) stands in
    let call = Set e c.args.number c.args.value.now in
    turns-later g.P.Pages.attempt g.P.Pages.follows g.P.Pages.asked (laws g) array s call (store Extent e.ty ∷ []) (extent-called s e c.args.number c.args.value.now) (IsSettled g.S.Store.holds Z array c.args.places.now s call) c.set_cells.result
    c.args.pages.now c.cells_at.new.pages c.set_cells.new.pages c.cells_at.ensures.keeps.below c.set_cells.ensures.follows found.touches (c.set_cells.ensures.turns array s agrees same here admits cells)

pub returns-in-Ok-Some-clause-first : goal.returns-in-Ok-Some-clause-first
returns-in-Ok-Some-clause-first g c = λ array s agrees same stands admits place at.
    let Y = g.P.Pages.attempt c.cells_at.new.pages in
    let Z = g.P.Pages.attempt c.set_cells.new.pages in
    let stays : Stays Y Z = g.met.P.Pages.seen_stays c.cells_at.new.pages c.set_cells.new.pages c.set_cells.ensures.follows in
    let seen = c.in-Ok-Some.ensures.seen array s (earlier Y Z array stays agrees) same stands place at in
    inl (seen.0, seen.1, stays-seen Y Z seen.0 stays seen.2)

pub returns-in-Ok-Some-clause-put : goal.returns-in-Ok-Some-clause-put
returns-in-Ok-Some-clause-put g c =
    let X = g.P.Pages.attempt c.args.pages.now in
    let Y = g.P.Pages.attempt c.cells_at.new.pages in
    let Z = g.P.Pages.attempt c.set_cells.new.pages in
    let e = c.args.entity in
    let key = to_be_bytes w32 e.serial in
    let places = c.args.places.now in
    let stays : Stays Y Z = g.met.P.Pages.seen_stays c.cells_at.new.pages c.set_cells.new.pages c.set_cells.ensures.follows in
    on-ok (OfState g.S.Store.holds Y Z c.args.schema.now places (λ array s. Admits s (Set e c.args.number c.args.value.now) → c.set_cells.result ≡ Ok None → (place : Place) → place_of (store Extent e.ty) places ≡ Some place → (page : ℕ) × g.S.Store.spot place (over Y array) key page × IsSome (Z.written page)))
    (OfState g.S.Store.holds X Z c.args.schema.now places (λ array s. Admits s (Set e c.args.number c.args.value.now) → c.set_cells.result ≡ Ok None → (place : Place) → place_of (store Extent e.ty) places ≡ Some place → (page : ℕ) × g.S.Store.spot place (over X array) key page × IsSome (Z.written page)))
    c.set_cells.result
    (λ h array s agrees same stands admits settled place at.
    let overs = over-same X Y array c.cells_at.ensures.keeps.written in
    let here = subst (λ (x : Array). NearlyStandsAt g.S.Store.holds x places s) (sym overs) stands in
    let put = h array s agrees same here admits settled place at in
    (put.0, subst (λ (x : Array). g.S.Store.spot place x key put.0) overs put.1, put.2))
    c.set_cells.ensures.put

pub returns-in-Ok-None-clause-turns : goal.returns-in-Ok-None-clause-turns
returns-in-Ok-None-clause-turns g c = λ array s agrees same stands admits.
    absurd (cells-dead s c.args.entity admits.0.live (sym c.in-Ok-None.field-0-is ∙ (c.in-Ok-None.ensures.finds array s agrees same stands).answers))

pub returns-in-Ok-None-clause-first : goal.returns-in-Ok-None-clause-first
returns-in-Ok-None-clause-first g c = λ array s agrees same stands admits place at.
    absurd (cells-dead s c.args.entity admits.0.live (sym c.in-Ok-None.field-0-is ∙ (c.in-Ok-None.ensures.finds array s agrees same stands).answers))

pub returns-in-Ok-None-clause-put : goal.returns-in-Ok-None-clause-put
returns-in-Ok-None-clause-put g c = λ array s agrees same stands admits settled place at.
    absurd (cells-dead s c.args.entity admits.0.live (sym c.in-Ok-None.field-0-is ∙ (c.in-Ok-None.ensures.finds array s agrees same stands).answers))

pub returns-in-Err-clause-turns : goal.returns-in-Err-clause-turns
returns-in-Err-clause-turns g c = λ array s agrees same stands admits.
    let e = c.args.entity in
    let call = Set e c.args.number c.args.value.now in
    let found = c.in-Err.ensures.finds array s agrees same stands in
    turns-early g.P.Pages.attempt g.P.Pages.follows g.P.Pages.asked (laws g) array s call (store Extent e.ty ∷ []) (extent-called s e c.args.number c.args.value.now)
    (IsSettled g.S.Store.holds (g.P.Pages.attempt c.cells_at.new.pages) array c.args.places.now s call) c.in-Err.fault c.args.pages.now c.cells_at.new.pages found.sound c.in-Err.ensures.keeps.looks found.touches

pub returns-in-Err-clause-first : goal.returns-in-Err-clause-first
returns-in-Err-clause-first g c = λ array s agrees same stands admits place at.
    let found = c.in-Err.ensures.finds array s agrees same stands in
    inr (c.in-Err.ensures.keeps.looks, found.touches)
