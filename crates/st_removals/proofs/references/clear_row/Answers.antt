use Rattle.std.proofs.Common.{◌≡◌, ℕ, true, false, Some, IsTrue, refl, sym, ap, ◌∙◌, subst, arith, true≢false}
use Rattle.std.specs.List.{list_all, list_any}
use Rattle.st_lattice.specs.Outline.{Outline}
use Rattle.st_pages.specs.Attempt.{over}
use Rattle.st_pages.specs.Places.{place_of}
use Rattle.st_index.proofs.Called.{PageLaws}
use Rattle.st_standing.proofs.OfKind.{live-entity}
use Rattle.st_lookups.proofs.Lived.{names-most, type-dead}
use Rattle.st_removals.specs.Taken.{goes, is_unreferring}
use Rattle.st_removals.proofs.Emptying.{clears-nothing, none-there}
use Rattle.st_removals.proofs.references.clear_row.Given as given
use Rattle.st_removals.proofs.references.clear_row.Goals.{then-not-refers-via-then-not-refers, then-not-refers-via-else-not-refers+then-other-eq0}
use Rattle.st_removals.proofs.references.clear_row.Goals as goal

laws : (g : given.Over) → PageLaws g.P.Pages.attempt g.P.Pages.follows g.P.Pages.asked
laws g = record {
  is_sound = g.met.P.Pages.is_sound;
  seen_stays = g.met.P.Pages.seen_stays;
  drawn_stays = g.met.P.Pages.drawn_stays;
  drawn_unwritten = g.met.P.Pages.drawn_unwritten;
  follows_on = g.met.P.Pages.follows_on;
  asked_more = g.met.P.Pages.asked_more;
  asked_on = g.met.P.Pages.asked_on;
  asked_tells = g.met.P.Pages.asked_tells;
}

pub returns-then-not-refers-clause-clears : goal.returns-then-not-refers-clause-clears
returns-then-not-refers-clause-clears g c = λ array s agrees same stands live living apart cells_are.
    elim c.then-not-refers.branch [
      | then-not-refers-via-then-not-refers w ↦
          let none : list_any (goes (Some c.args.entity)) c.args.cells.now ≡ false = sym c.refers.ensures ∙ w.if-not-refers.true in
          clears-nothing g.P.Pages.attempt g.P.Pages.follows g.P.Pages.asked (laws g) g.S.Store.holds array c.args.places.now s g.met.P.Pages.asked_nothing c.args.pages.now c.args.entity _ stands
          (subst (λ (o : Outline). IsTrue (list_all (is_unreferring o c.args.other c.args.entity) s.triples)) same
          (none-there s stands.legal (c.laws_of_places.ensures.in_rows (over (g.P.Pages.attempt c.args.pages.now) array) s.schema c.args.places.now stands.database.has) c.args.other c.args.entity
          (sym (ap (list_any (goes (Some c.args.entity))) cells_are) ∙ none))) tt
      | then-not-refers-via-else-not-refers+then-other-eq0 w ↦
          let some = (live-entity s stands.program.entities c.args.other living).0 in absurd (omega (arith, some, w.if-other-eq0.true))
    ]

pub returns-in_default-clause-clears : goal.returns-in_default-clause-clears
returns-in_default-clause-clears g c = λ array s agrees same stands live living apart cells_are.
    absurd (true≢false (sym living ∙ type-dead s stands.legal c.args.other (names-most s.schema c.args.schema.now c.args.other.ty same (c.in_default.ensures.none refl))))

pub returns-clause-clears : goal.returns-clause-clears
returns-clause-clears g c = λ array s agrees same stands live living apart cells_are.
    let at = ap (λ (n : ℕ). place_of n c.args.places.now) c.in-Some.ensures.laid.store_is ∙ sym c.in-Some.ensures.value in
    c.empty_row.ensures.clears array s agrees same stands at live living apart cells_are (sym c.refers.ensures ∙ c.if-not-refers.false)
