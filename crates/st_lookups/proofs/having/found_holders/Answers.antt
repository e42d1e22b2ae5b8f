use Rattle.std.proofs.Common.{◌≡◌, ℕ, false, Some, List, [], ◌∷◌, sym, ap, ◌∙◌, subst}
use Rattle.std.specs.Prelude.{IfSome}
use Rattle.std.specs.List.{All}
use Rattle.st_values.specs.declared.value.EntityId.{EntityId}
use Rattle.st_lattice.specs.declared.attribute.Attribute.{Attribute}
use Rattle.st_lattice.specs.Outline.{Outline, attribute}
use Rattle.st_pages.specs.declared.places.Place.{Place}
use Rattle.st_pages.specs.Attempt.{over}
use Rattle.st_state.specs.State.{Pair, converse, turned}
use Rattle.st_index.proofs.Looked.{ok-weaken}
use Rattle.st_index.specs.Bad.{IsNamed}
use Rattle.st_index.specs.Turned.{AreOfPairs, entities_with, found_place}
use Rattle.st_database.specs.Database.{IsDatabase}
use Rattle.st_database.specs.Touches.{Leads}
use Rattle.st_standing.specs.Standing.{turned_rows, view_of}
use Rattle.st_standing.proofs.Turning.{entities-turned, of-pairs}
use Rattle.st_lookups.proofs.Indexed.{of-some, pairs-named, rows-found, there-is}
use Rattle.st_lookups.proofs.Membered.{its-number}
use Rattle.st_lookups.proofs.having.found_holders.Goals as goal

pub returns-clause-finds : goal.returns-clause-finds
returns-clause-finds g c =
    let A = g.P.Pages.attempt c.args.pages.now in
    let B = g.P.Pages.attempt c.look_up.new.pages in
    let asked = g.P.Pages.asked c.args.pages.now c.look_up.new.pages in
    let schema = c.args.schema.now in
    let places = c.args.places.now in
    let n = c.args.number in
    let v = c.args.value.now in
    λ place at array s agrees same stands has.
    let some = there-is (attribute s.schema n) has in
    let a : Attribute = some.0 in
    let f : attribute s.schema n ≡ Some a = some.1 in
    let here : attribute schema n ≡ Some a = sym (ap (λ (o : Outline). attribute o n) same) ∙ f in
    let view = view_of s in
    let pairs = converse n s.triples in
    let number : a.number ≡ n = its-number s.schema n a (sym f) in
    let rows = rows-found s n a f c.ranges.number.fits places place at ∙ ap (λ (m : ℕ). turned_rows a.kind (converse m s.triples)) number in
    let are : AreOfPairs a.kind (view.rows place.store) pairs = subst (λ (l : List (List ℕ)). AreOfPairs a.kind l pairs) (sym rows) (of-pairs s n a f stands.legal stands.program) in
    let named : All (IsNamed schema a) pairs = subst (λ (o : Outline). All (IsNamed o a) pairs) same (pairs-named s stands.legal n a f) in
    let Right : Attribute → Place → Type 0 = λ x p.
    (ps : List Pair) → AreOfPairs x.kind (view.rows p.store) ps → All (IsNamed schema x) ps → Leads g.S.Store.holds asked A B array schema places view (λ entities. entities ≡ entities_with v ps) (p.store ∷ []) false 0 0 c.look_up.result in
    let database = subst (λ (o : Outline). IsDatabase g.S.Store.holds (over A array) o places view) same stands.database in
    let leads = of-some (Right a) (found_place n places) place at (of-some (λ x. IfSome (found_place n places) (Right x)) (attribute schema n) a here (c.look_up.ensures.leads array view agrees database)) pairs are named in
    record {
      answers = ok-weaken (λ entities. (entities ≡ entities_with v pairs) × IsDatabase g.S.Store.holds (over B array) schema places view) (λ (entities : List EntityId). entities ≡ turned n v s.triples) c.look_up.result
          (λ entities h. h.0 ∙ entities-turned s stands.legal n v) leads.answers;
      sound = leads.sound;
      touches = leads.touches;
    }
