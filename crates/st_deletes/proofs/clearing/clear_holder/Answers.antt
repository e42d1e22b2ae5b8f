use Rattle.std.proofs.Common.{◌≡◌, ◌==◌, true, false, IsTrue, sym, ap, ◌∙◌, subst, true≢false}
use Rattle.std.specs.List.{list_all}
use Rattle.st_values.specs.declared.value.Value.TheVariants.{Entity}
use Rattle.st_values.specs.Order.{same_entity, same_value}
use Rattle.st_values.proofs.Entities.{same_value-itself}
use Rattle.st_values.proofs.Tests.{one-of}
use Rattle.st_lattice.specs.declared.stores.StoreKind.TheVariants.{Extent}
use Rattle.st_lattice.specs.Outline.{Outline, attribute}
use Rattle.st_lattice.specs.Stores.{deleted, store}
use Rattle.st_store.specs.Stores.{among}
use Rattle.st_state.specs.State.{State, member_taken}
use Rattle.st_state.proofs.Members.{find-member}
use Rattle.st_index.proofs.Called.{PageLaws}
use Rattle.st_removals.specs.Taken.{is_unreferring}
use Rattle.st_removals.proofs.Among.{can-hold-may, live-known, referring-extent}
use Rattle.st_deletes.specs.Cleared.{is_unheld}
use Rattle.st_deletes.specs.Needs.{names_type}
use Rattle.st_deletes.proofs.Lasting.{can-name, hold-named, set-of}
use Rattle.st_deletes.proofs.Holders.{taken-unheld, unreferring-unheld}
use Rattle.st_deletes.proofs.Stepwise.{clears-begin, clears-less}
use Rattle.st_deletes.proofs.clearing.clear_holder.Given as given
use Rattle.st_deletes.proofs.clearing.clear_holder.Goals as goal

laws : (g : given.Over) → PageLaws g.P.Pages.attempt g.P.Pages.follows g.P.Pages.asked
laws g = record {
  is_sound = g.met.P.Pages.is_sound;
  seen_stays = g.met.P.Pages.seen_stays;
  drawn_stays = g.met.P.Pages.drawn_stays;
  drawn_unwritten = g.met.P.Pages.drawn_unwritten;
  follows_on = g.met.P.Pages.follows_on;
  asked_more = g.met.P.Pages.asked_more;
  asked_on = g.met.P.Pages.asked_on;
  asked_tells = g.met.P.Pages.asked_tells;
}

pub returns-then-is_same_entity-clause-clears : goal.returns-then-is_same_entity-clause-clears
returns-then-is_same_entity-clause-clears g c = λ array s agrees same stands live f names holds.
    let e = c.args.entity in
    let h = c.args.holder in
    clears-begin g.P.Pages.attempt g.P.Pages.follows g.P.Pages.asked (laws g) g.S.Store.holds array c.args.places.now e g.met.P.Pages.asked_nothing c.args.pages.now s
    (λ t. same_entity h e ≡ false → IsTrue (list_all (is_unheld c.args.attribute.now.number e h) t.triples)) (tt {0}) stands (λ other. absurd (true≢false (sym (sym c.is_same_entity.ensures ∙ c.if-is_same_entity.true) ∙ other)))

pub returns-then-attribute-clause-clears : goal.returns-then-attribute-clause-clears
returns-then-attribute-clause-clears g c = λ array s agrees same stands live f names holds.
    let e = c.args.entity in
    let h = c.args.holder in
    let a = c.args.attribute.now in
    let n = a.number in
    let named : names_type s.schema e.ty a.kind ≡ true = ap (λ (o : Outline). names_type o e.ty a.kind) same ∙ names in
    clears-less g.P.Pages.attempt g.P.Pages.follows g.P.Pages.asked (laws g) g.S.Store.holds array c.args.places.now e c.args.pages.now c.forget.new.pages s
    (λ t. t ≡ member_taken s n h (Entity e)) (λ t. same_entity h e ≡ false → IsTrue (list_all (is_unheld n e h) t.triples)) c.forget.result
    (λ t less nearly is other. subst (λ (u : State). list_all (is_unheld n e h) u.triples ≡ true) (sym is) (taken-unheld n e h s))
    (c.forget.ensures.clears array s agrees same stands (set-of s h n a f holds.live holds.owner c.if-attribute.true, hold-named s e n a f named live) e live
    (one-of (same_entity h e) (same_value (Entity e) (Entity e)) (same_value-itself (Entity e))))

pub returns-else-attribute-clause-clears : goal.returns-else-attribute-clause-clears
returns-else-attribute-clause-clears g c = λ array s agrees same stands live f names holds.
    let e = c.args.entity in
    let h = c.args.holder in
    let a = c.args.attribute.now in
    let n = a.number in
    let named : names_type s.schema e.ty a.kind ≡ true = ap (λ (o : Outline). names_type o e.ty a.kind) same ∙ names in
    let may = can-hold-may s a e stands.legal (can-name s e a.kind named live) in
    let extent = referring-extent s.schema e.ty a h.ty (find-member (λ b. b.number == n) a s.schema.attributes f) may holds.owner (live-known s h stands.legal holds.live) in
    clears-less g.P.Pages.attempt g.P.Pages.follows g.P.Pages.asked (laws g) g.S.Store.holds array c.args.places.now e c.args.pages.now c.unrefer.new.pages s
    (λ t. IsTrue (list_all (is_unreferring c.args.schema.now h e) t.triples)) (λ t. same_entity h e ≡ false → IsTrue (list_all (is_unheld n e h) t.triples)) c.unrefer.result
    (λ t less nearly unreferring other. unreferring-unheld n a e h c.args.schema.now (sym (ap (λ (o : Outline). attribute o n) same) ∙ f) c.if-attribute.false t.triples unreferring)
    (c.unrefer.ensures.clears array s agrees same stands live holds.live (sym c.is_same_entity.ensures ∙ c.if-is_same_entity.false) (subst (λ (o : Outline). IsTrue (among (deleted o e.ty) (store Extent h.ty))) same extent))
