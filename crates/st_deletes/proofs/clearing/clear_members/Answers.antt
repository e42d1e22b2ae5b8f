use Rattle.std.proofs.Common.{◌≡◌, ℕ, ◌==◌, ◌||◌, true, false, List, [], ◌∷◌, Some, IsTrue, refl, sym, ap, ◌∙◌, subst, inl, inr, true≢false}
use Rattle.std.specs.List.{All, list_all}
use Rattle.st_values.specs.declared.value.Value.{Value}
use Rattle.st_values.proofs.Tests.{first-of}
use Rattle.st_lattice.specs.declared.attribute.Attribute.{Attribute}
use Rattle.st_lattice.specs.declared.stores.StoreKind.TheVariants.{Column, Index, Inverse, Set}
use Rattle.st_lattice.specs.Lattice.{isa}
use Rattle.st_lattice.specs.Outline.{Outline, attribute}
use Rattle.st_lattice.specs.Stores.{deleted, store}
use Rattle.st_pages.specs.Attempt.{Array}
use Rattle.st_pages.proofs.Carried.{Stays, over-same}
use Rattle.st_store.specs.Stores.{among}
use Rattle.st_state.specs.State.{values_at}
use Rattle.st_state.specs.Calls.{CanHold}
use Rattle.st_state.proofs.Members.{find-member}
use Rattle.st_index.proofs.Called.{PageLaws, earlier}
use Rattle.st_index.proofs.Counted.{or-cases}
use Rattle.st_database.proofs.Touching.{AreAmong}
use Rattle.st_standing.specs.Standing.{NearlyStandsAt}
use Rattle.st_edits.proofs.StoresPut.{puts-looked}
use Rattle.st_removals.proofs.Among.{own-among}
use Rattle.st_deletes.specs.Cleared.{AreWithout, is_memberless}
use Rattle.st_deletes.proofs.Lasting.{set-of}
use Rattle.st_deletes.proofs.Holders.{never-many, never-owned, values-held, without-memberless}
use Rattle.st_deletes.proofs.Stepwise.{clears-begin, clears-less, looks-fail, looks-then}
use Rattle.st_deletes.proofs.clearing.clear_members.Given as given
use Rattle.st_deletes.proofs.clearing.clear_members.Goals as goal
use Rattle.st_deletes.proofs.clearing.clear_members.Goals.{then-not-attribute-via-then-not-attribute, then-not-attribute-via-else-not-attribute+then-not-isa}

laws : (g : given.Over) → PageLaws g.P.Pages.attempt g.P.Pages.follows g.P.Pages.asked
laws g = record {
  is_sound = g.met.P.Pages.is_sound;
  seen_stays = g.met.P.Pages.seen_stays;
  drawn_stays = g.met.P.Pages.drawn_stays;
  drawn_unwritten = g.met.P.Pages.drawn_unwritten;
  follows_on = g.met.P.Pages.follows_on;
  asked_more = g.met.P.Pages.asked_more;
  asked_on = g.met.P.Pages.asked_on;
  asked_tells = g.met.P.Pages.asked_tells;
}

-- the set of an attribute that an entity's type has is among the stores of a deletion
set-among : (schema : Outline) (ty n : ℕ) (a : Attribute) → attribute schema n ≡ Some a → a.number ≡ n → isa schema ty a.owner ≡ true → AreAmong (store Set n ∷ []) (deleted schema ty)
set-among schema ty n a f is owner t h =
    own-among schema ty a (find-member (λ b. b.number == n) a schema.attributes f) owner t
    (elim (or-cases (store Set n == t) false h) [
      | inl k ↦ subst (λ (m : ℕ). (store Set m == t || among (store Column m ∷ store Index m ∷ store Inverse m ∷ []) t) ≡ true) (sym is) (first-of (store Set n == t) (among (store Column n ∷ store Index n ∷ store Inverse n ∷ []) t) k)
      | inr k ↦ absurd (true≢false (sym k))
    ])

pub returns-then-not-attribute-clause-clears : goal.returns-then-not-attribute-clause-clears
returns-then-not-attribute-clause-clears g c = λ array s agrees same stands live f.
    let e = c.args.entity in
    let a = c.args.attribute.now in
    clears-begin g.P.Pages.attempt g.P.Pages.follows g.P.Pages.asked (laws g) g.S.Store.holds array c.args.places.now e g.met.P.Pages.asked_nothing c.args.pages.now s
    (λ t. IsTrue (list_all (is_memberless a e) t.triples)) (tt {0}) stands
    (elim c.then-not-attribute.branch [
      | then-not-attribute-via-then-not-attribute w ↦ never-many a e w.if-not-attribute.true s.triples
      | then-not-attribute-via-else-not-attribute+then-not-isa w ↦ never-owned s a e stands.legal f (ap (λ (o : Outline). isa o e.ty a.owner) same ∙ sym w.isa.ensures ∙ w.if-not-isa.true)
    ])

pub returns-in-Ok-clause-kinds : goal.returns-in-Ok-clause-kinds
returns-in-Ok-clause-kinds g c = λ puts.
    c.forget_members.ensures.kinds (puts-looked g.P.Pages.attempt g.P.Pages.follows g.P.Pages.asked (laws g) c.args.pages.now c.members.new.pages c.members.ensures.keeps.below c.members.ensures.keeps.written puts)

pub returns-in-Ok-clause-clears : goal.returns-in-Ok-clause-clears
returns-in-Ok-clause-clears g c = λ array s agrees same stands live f.
    let e = c.args.entity in
    let a = c.args.attribute.now in
    let n = a.number in
    let A = g.P.Pages.attempt c.args.pages.now in
    let B = g.P.Pages.attempt c.members.new.pages in
    let C = g.P.Pages.attempt c.forget_members.new.pages in
    let stays : Stays B C = g.met.P.Pages.seen_stays c.members.new.pages c.forget_members.new.pages c.forget_members.ensures.follows in
    let many : a.many ≡ true = c.if-not-attribute.false in
    let owner : isa s.schema e.ty a.owner ≡ true = ap (λ (o : Outline). isa o e.ty a.owner) same ∙ sym c.isa.ensures ∙ c.if-not-isa.false in
    let has = set-of s e n a f live owner many in
    let found = c.in-Ok.ensures.finds array s (earlier B C array stays agrees) same stands has in
    let here = subst (λ (x : Array). NearlyStandsAt g.S.Store.holds x c.args.places.now s) (sym (over-same A B array c.members.ensures.keeps.written)) stands in
    let vs : List Value = c.as_slice.result.now in
    let are : vs ≡ values_at n e s.triples = c.as_slice.ensures ∙ found.answers in
    looks-then g.P.Pages.attempt g.P.Pages.follows g.P.Pages.asked (laws g) g.S.Store.holds array c.args.places.now e c.args.pages.now c.members.new.pages c.forget_members.new.pages c.members.ensures.keeps.below c.forget_members.ensures.follows s
    (store Set n ∷ []) (λ t. IsTrue (list_all (is_memberless a e) t.triples)) c.forget_members.result (set-among s.schema e.ty n a f refl owner) found.touches
    (clears-less g.P.Pages.attempt g.P.Pages.follows g.P.Pages.asked (laws g) g.S.Store.holds array c.args.places.now e c.members.new.pages c.forget_members.new.pages s (AreWithout n e vs) (λ t. IsTrue (list_all (is_memberless a e) t.triples)) c.forget_members.result
    (λ t less nearly all. without-memberless a n e s t refl less (subst (λ (l : List Value). AreWithout n e l t) are all))
    (c.forget_members.ensures.clears array s agrees same here live has (subst (All (CanHold s n)) (sym are) (values-held s n e stands.legal))))

pub returns-in-Err-clause-clears : goal.returns-in-Err-clause-clears
returns-in-Err-clause-clears g c = λ array s agrees same stands live f.
    let e = c.args.entity in
    let a = c.args.attribute.now in
    let n = a.number in
    let many : a.many ≡ true = c.if-not-attribute.false in
    let owner : isa s.schema e.ty a.owner ≡ true = ap (λ (o : Outline). isa o e.ty a.owner) same ∙ sym c.isa.ensures ∙ c.if-not-isa.false in
    looks-fail g.P.Pages.attempt g.P.Pages.follows g.P.Pages.asked (laws g) g.S.Store.holds array c.args.places.now e c.args.pages.now c.members.new.pages s (λ values. values ≡ values_at n e s.triples)
    (store Set n ∷ []) (λ t. IsTrue (list_all (is_memberless a e) t.triples)) c.in-Err.fault (set-among s.schema e.ty n a f refl owner)
    (c.in-Err.ensures.finds array s agrees same stands (set-of s e n a f live owner many))
