use Rattle.std.proofs.Common.{◌≡◌, Bool, Ok, Err, sym, refl, subst}
use Rattle.st_index.proofs.Called.{PageLaws}
use Rattle.st_state.specs.State.{has_value, member_taken}
use Rattle.st_state.specs.Rows.{rows_changed}
use Rattle.st_state.specs.Calls.{Take}
use Rattle.st_edits.specs.Edits.{Edits}
use Rattle.st_edits.specs.Steps.{Left}
use Rattle.st_edits.proofs.Membering.{taken-most, taken-turns}
use Rattle.st_edits.proofs.Telling.{edits-left, edits-told}
use Rattle.st_edits.proofs.members.take_member.Given as given
use Rattle.st_edits.proofs.members.take_member.Goals as goal

laws : (g : given.Over) → PageLaws g.P.Pages.attempt g.P.Pages.follows g.P.Pages.asked
laws g = record {
  is_sound = g.met.P.Pages.is_sound;
  seen_stays = g.met.P.Pages.seen_stays;
  drawn_stays = g.met.P.Pages.drawn_stays;
  drawn_unwritten = g.met.P.Pages.drawn_unwritten;
  follows_on = g.met.P.Pages.follows_on;
  asked_more = g.met.P.Pages.asked_more;
  asked_on = g.met.P.Pages.asked_on;
  asked_tells = g.met.P.Pages.asked_tells;
}

pub returns-in-Ok-clause-edits : goal.returns-in-Ok-clause-edits
returns-in-Ok-clause-edits g c = λ array s agrees same stands admits.
    edits-left g.S.Store.holds (g.P.Pages.asked c.args.pages.now c.drop_member.new.pages) (g.P.Pages.attempt c.args.pages.now) (g.P.Pages.attempt c.drop_member.new.pages) array c.args.places.now s (Take c.args.entity c.args.number c.args.value.now)
    (has_value s c.args.number c.args.entity c.args.value.now) c.in-Ok.changed refl
    (taken-turns g.P.Pages.attempt g.P.Pages.follows g.P.Pages.asked (laws g) g.S.Store.holds c.args.pages.now c.drop_member.new.pages array c.args.places.now s c.args.entity c.args.number c.args.value.now (Ok c.in-Ok.changed)
    (c.in-Ok.ensures.takes array s agrees same stands admits (rows_changed s (member_taken s c.args.number c.args.entity c.args.value.now))
    (taken-most c.laws_of_members.ensures.taken_changes s stands.legal stands.database.has.spells.readable c.args.entity c.args.number c.args.value.now admits.0.many)))

pub returns-in-Err-clause-edits : goal.returns-in-Err-clause-edits
returns-in-Err-clause-edits g c = λ array s agrees same stands admits.
    let asked = g.P.Pages.asked c.args.pages.now c.drop_member.new.pages in
    let A = g.P.Pages.attempt c.args.pages.now in
    let B = g.P.Pages.attempt c.drop_member.new.pages in
    let call = Take c.args.entity c.args.number c.args.value.now in
    subst (λ fault. Edits {A = Bool} g.S.Store.holds asked A B array c.args.places.now s call (λ changed. changed ≡ has_value s c.args.number c.args.entity c.args.value.now) (Err fault)) (sym c.told.ensures)
    (edits-told g.S.Store.holds asked A B array c.args.places.now s call (λ changed. changed ≡ has_value s c.args.number c.args.entity c.args.value.now) (Left g.S.Store.holds B array c.args.places.now s call (has_value s c.args.number c.args.entity c.args.value.now)) c.in-Err.fault
    (taken-turns g.P.Pages.attempt g.P.Pages.follows g.P.Pages.asked (laws g) g.S.Store.holds c.args.pages.now c.drop_member.new.pages array c.args.places.now s c.args.entity c.args.number c.args.value.now (Err c.in-Err.fault)
    (c.in-Err.ensures.takes array s agrees same stands admits (rows_changed s (member_taken s c.args.number c.args.entity c.args.value.now))
    (taken-most c.laws_of_members.ensures.taken_changes s stands.legal stands.database.has.spells.readable c.args.entity c.args.number c.args.value.now admits.0.many))))
