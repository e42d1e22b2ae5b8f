use Rattle.std.proofs.Common.{◌≡◌, true, List, Some, IsTrue, sym, ap, ◌∙◌, subst}
use Rattle.std.specs.List.{All, list_all}
use Rattle.st_lattice.specs.declared.attribute.Attribute.{Attribute}
use Rattle.st_lattice.specs.Outline.{Outline, attribute}
use Rattle.st_index.proofs.Called.{PageLaws}
use Rattle.st_standing.proofs.Fitting.{each-found}
use Rattle.st_removals.specs.Taken.{is_own_or_strange}
use Rattle.st_deletes.specs.Cleared.{AreCleared}
use Rattle.st_deletes.proofs.Holders.{all-cleared}
use Rattle.st_deletes.proofs.Stepwise.{clears-less}
use Rattle.st_deletes.proofs.clearing.clear_attributes.Given as given
use Rattle.st_deletes.proofs.clearing.clear_attributes.Goals as goal

laws : (g : given.Over) → PageLaws g.P.Pages.attempt g.P.Pages.follows g.P.Pages.asked
laws g = record {
  is_sound = g.met.P.Pages.is_sound;
  seen_stays = g.met.P.Pages.seen_stays;
  drawn_stays = g.met.P.Pages.drawn_stays;
  drawn_unwritten = g.met.P.Pages.drawn_unwritten;
  follows_on = g.met.P.Pages.follows_on;
  asked_more = g.met.P.Pages.asked_more;
  asked_on = g.met.P.Pages.asked_on;
  asked_tells = g.met.P.Pages.asked_tells;
}

pub returns-clause-clears : goal.returns-clause-clears
returns-clause-clears g c = λ array s agrees same stands live.
    let e = c.args.entity in
    let schema = c.args.schema.now in
    let xs : List Attribute = c.attributes.result.now in
    let is : xs ≡ schema.attributes = c.attributes.ensures.value in
    let found : All (λ a. attribute s.schema a.number ≡ Some a) s.schema.attributes = each-found s.schema.attributes stands.legal.consistent.numbers in
    clears-less g.P.Pages.attempt g.P.Pages.follows g.P.Pages.asked (laws g) g.S.Store.holds array c.args.places.now e c.args.pages.now c.clear_some.new.pages s
    (AreCleared e xs) (λ t. IsTrue (list_all (is_own_or_strange schema e) t.triples)) c.clear_some.result
    (λ t less nearly all. subst (λ (o : Outline). list_all (is_own_or_strange o e) t.triples ≡ true) (less.schema ∙ same)
    (all-cleared e t nearly.legal (subst (λ (l : List Attribute). AreCleared e l t) (is ∙ ap (λ (o : Outline). o.attributes) (sym (less.schema ∙ same))) all)))
    (c.clear_some.ensures.clears array s agrees same stands live (subst (All (λ a. attribute s.schema a.number ≡ Some a)) (ap (λ (o : Outline). o.attributes) same ∙ sym is) found))
