use Rattle.std.proofs.Common.{◌≡◌, ℕ, ◌==◌, ◌||◌, Bool, true, false, List, ◌++◌, Option, Some, IsTrue, sym, ap, ◌∙◌, subst}
use Rattle.std.specs.Prelude.{is_some, if◌then◌else◌}
use Rattle.std.specs.List.{All, list_all}
use Rattle.st_values.specs.declared.value.EntityId.{EntityId}
use Rattle.st_values.specs.declared.value.Value.TheVariants.{Entity}
use Rattle.st_lattice.specs.declared.attribute.Attribute.{Attribute}
use Rattle.st_lattice.specs.Outline.{Outline, attribute}
use Rattle.st_lattice.specs.Stores.{cell, index_of, inverse_of, whole}
use Rattle.st_pages.specs.Attempt.{Array}
use Rattle.st_pages.proofs.Carried.{Stays, over-same}
use Rattle.st_store.specs.Stores.{among}
use Rattle.st_state.specs.State.{turned}
use Rattle.st_state.specs.Calls.{found_in, stores_by}
use Rattle.st_state.proofs.Members.{find-member}
use Rattle.st_index.proofs.Called.{PageLaws, earlier}
use Rattle.st_database.proofs.Touching.{AreAmong, among-first, among-second}
use Rattle.st_standing.specs.Standing.{NearlyStandsAt}
use Rattle.st_edits.proofs.StoresPut.{puts-looked}
use Rattle.st_removals.proofs.Among.{can-hold-may, referring-among}
use Rattle.st_deletes.specs.Cleared.{AreUnheld, IsHolder, is_unreferred}
use Rattle.st_deletes.specs.Needs.{names_type}
use Rattle.st_deletes.proofs.Lasting.{can-name, hold-named}
use Rattle.st_deletes.proofs.Holders.{holders-are, never-refers, unheld-unreferred}
use Rattle.st_deletes.proofs.Stepwise.{clears-begin, clears-less, looks-fail, looks-then}
use Rattle.st_deletes.proofs.clearing.clear_references.Given as given
use Rattle.st_deletes.proofs.clearing.clear_references.Goals as goal

laws : (g : given.Over) → PageLaws g.P.Pages.attempt g.P.Pages.follows g.P.Pages.asked
laws g = record {
  is_sound = g.met.P.Pages.is_sound;
  seen_stays = g.met.P.Pages.seen_stays;
  drawn_stays = g.met.P.Pages.drawn_stays;
  drawn_unwritten = g.met.P.Pages.drawn_unwritten;
  follows_on = g.met.P.Pages.follows_on;
  asked_more = g.met.P.Pages.asked_more;
  asked_on = g.met.P.Pages.asked_on;
  asked_tells = g.met.P.Pages.asked_tells;
}

found-whole : (schema : Outline) (n : ℕ) (a : Attribute) → attribute schema n ≡ Some a → AreAmong (stores_by (found_in schema) (attribute schema n)) (whole schema a)
found-whole schema n a f t h =
    inside (is_some a.inverse) (a.index || a.unique) (subst (λ (o : Option Attribute). among (stores_by (found_in schema) o) t ≡ true) f h)
  where
    inside : (v i : Bool) → among (if v then inverse_of a else if i then index_of a else cell schema a) t ≡ true → among (whole schema a) t ≡ true
    inside true i k = among-second (cell schema a ++ index_of a) (inverse_of a) t k
    inside false true k = among-first (cell schema a ++ index_of a) (inverse_of a) t (among-second (cell schema a) (index_of a) t k)
    inside false false k = among-first (cell schema a ++ index_of a) (inverse_of a) t (among-first (cell schema a) (index_of a) t k)

pub returns-then-not-names_type-clause-clears : goal.returns-then-not-names_type-clause-clears
returns-then-not-names_type-clause-clears g c = λ array s agrees same stands live f.
    let e = c.args.entity in
    let a = c.args.attribute.now in
    clears-begin g.P.Pages.attempt g.P.Pages.follows g.P.Pages.asked (laws g) g.S.Store.holds array c.args.places.now e g.met.P.Pages.asked_nothing c.args.pages.now s
    (λ t. IsTrue (list_all (is_unreferred a.number e) t.triples)) (tt {0}) stands
    (never-refers s e a.number a stands.legal f (ap (λ (o : Outline). names_type o e.ty a.kind) same ∙ sym c.names_type.ensures ∙ c.if-not-names_type.true))

pub returns-in-Ok-clause-kinds : goal.returns-in-Ok-clause-kinds
returns-in-Ok-clause-kinds g c = λ puts.
    c.clear_holders.ensures.kinds (puts-looked g.P.Pages.attempt g.P.Pages.follows g.P.Pages.asked (laws g) c.args.pages.now c.turned.new.pages c.turned.ensures.keeps.below c.turned.ensures.keeps.written puts)

pub returns-in-Ok-clause-clears : goal.returns-in-Ok-clause-clears
returns-in-Ok-clause-clears g c = λ array s agrees same stands live f.
    let e = c.args.entity in
    let a = c.args.attribute.now in
    let n = a.number in
    let A = g.P.Pages.attempt c.args.pages.now in
    let B = g.P.Pages.attempt c.turned.new.pages in
    let C = g.P.Pages.attempt c.clear_holders.new.pages in
    let stays : Stays B C = g.met.P.Pages.seen_stays c.turned.new.pages c.clear_holders.new.pages c.clear_holders.ensures.follows in
    let names : names_type c.args.schema.now e.ty a.kind ≡ true = sym c.names_type.ensures ∙ c.if-not-names_type.false in
    let named : names_type s.schema e.ty a.kind ≡ true = ap (λ (o : Outline). names_type o e.ty a.kind) same ∙ names in
    let may = can-hold-may s a e stands.legal (can-name s e a.kind named live) in
    let found = c.in-Ok.ensures.finds array s (earlier B C array stays agrees) same stands (hold-named s e n a f named live) in
    let here = subst (λ (x : Array). NearlyStandsAt g.S.Store.holds x c.args.places.now s) (sym (over-same A B array c.turned.ensures.keeps.written)) stands in
    let hs : List EntityId = c.as_slice.result.now in
    let are : hs ≡ turned n (Entity e) s.triples = c.as_slice.ensures ∙ found.answers in
    looks-then g.P.Pages.attempt g.P.Pages.follows g.P.Pages.asked (laws g) g.S.Store.holds array c.args.places.now e c.args.pages.now c.turned.new.pages c.clear_holders.new.pages c.turned.ensures.keeps.below c.clear_holders.ensures.follows s
    (stores_by (found_in c.args.schema.now) (attribute c.args.schema.now n)) (λ t. IsTrue (list_all (is_unreferred n e) t.triples)) c.clear_holders.result
    (λ t h. referring-among s.schema e.ty a (find-member (λ b. b.number == n) a s.schema.attributes f) may t
    (found-whole s.schema n a f t (subst (λ (o : Outline). among (stores_by (found_in o) (attribute o n)) t ≡ true) (sym same) h)))
    found.touches
    (clears-less g.P.Pages.attempt g.P.Pages.follows g.P.Pages.asked (laws g) g.S.Store.holds array c.args.places.now e c.turned.new.pages c.clear_holders.new.pages s (AreUnheld n e hs) (λ t. IsTrue (list_all (is_unreferred n e) t.triples)) c.clear_holders.result
    (λ t less nearly all. unheld-unreferred n e s t less (subst (λ (l : List EntityId). AreUnheld n e l t) are all))
    (c.clear_holders.ensures.clears array s agrees same here live f names (subst (All (IsHolder s a)) (sym are) (holders-are s n a (Entity e) stands.legal f))))

pub returns-clause-clears : goal.returns-clause-clears
returns-clause-clears g c = λ array s agrees same stands live f.
    let e = c.args.entity in
    let a = c.args.attribute.now in
    let n = a.number in
    let names : names_type c.args.schema.now e.ty a.kind ≡ true = sym c.names_type.ensures ∙ c.if-not-names_type.false in
    let named : names_type s.schema e.ty a.kind ≡ true = ap (λ (o : Outline). names_type o e.ty a.kind) same ∙ names in
    let may = can-hold-may s a e stands.legal (can-name s e a.kind named live) in
    looks-fail g.P.Pages.attempt g.P.Pages.follows g.P.Pages.asked (laws g) g.S.Store.holds array c.args.places.now e c.args.pages.now c.turned.new.pages s (λ entities. entities ≡ turned n (Entity e) s.triples)
    (stores_by (found_in c.args.schema.now) (attribute c.args.schema.now n)) (λ t. IsTrue (list_all (is_unreferred n e) t.triples)) c.in-Err.fault
    (λ t h. referring-among s.schema e.ty a (find-member (λ b. b.number == n) a s.schema.attributes f) may t
    (found-whole s.schema n a f t (subst (λ (o : Outline). among (stores_by (found_in o) (attribute o n)) t ≡ true) (sym same) h)))
    (c.in-Err.ensures.finds array s agrees same stands (hold-named s e n a f named live))
