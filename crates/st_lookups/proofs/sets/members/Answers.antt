use Rattle.std.proofs.Common.{◌≡◌, ℕ, Some, List, [], ◌∷◌, sym, ap, ◌∙◌, subst}
use Rattle.std.specs.Prelude.{◌&&◌}
use Rattle.st_values.specs.declared.value.Value.{Value}
use Rattle.st_values.proofs.Tests.{right}
use Rattle.st_lattice.specs.declared.attribute.Attribute.{Attribute}
use Rattle.st_lattice.specs.declared.stores.StoreKind.TheVariants.{Set}
use Rattle.st_lattice.specs.Lattice.{isa}
use Rattle.st_lattice.specs.Outline.{Outline, attribute}
use Rattle.st_lattice.specs.Stores.{passes, store}
use Rattle.st_state.specs.State.{values_at}
use Rattle.st_state.specs.Calls.{HasSet}
use Rattle.st_lookups.specs.Looks.{Finds}
use Rattle.st_lookups.proofs.Membered.{found-again, its-number, set-there}
use Rattle.st_lookups.proofs.sets.members.Goals as goal

pub set_place-requires-clause-there : goal.set_place-requires-clause-there
set_place-requires-clause-there g c = found-again c.args.schema.now c.args.number c.in-Some.attribute.now c.in-Some.ensures

pub returns-in_default-set_place-clause-finds : goal.returns-in_default-set_place-clause-finds
returns-in_default-set_place-clause-finds g c = λ array s agrees same stands has.
    let x = c.in-Some.attribute.now in
    let test : Attribute → _ = λ a. isa s.schema c.args.entity.ty a.owner && a.many in
    let there : attribute s.schema x.number ≡ Some x = ap (λ (o : Outline). attribute o x.number) same ∙ found-again c.args.schema.now c.args.number x c.in-Some.ensures in
    let here = ap (attribute s.schema) (its-number c.args.schema.now c.args.number x c.in-Some.ensures) in
    let many = right (isa s.schema c.args.entity.ty x.owner) x.many (sym (ap (passes test) (sym here ∙ there)) ∙ has.many) in
    absurd (set-there s.schema c.args.places.now x.number x stands.database.has.spells.readable stands.database.has.names.of there many (sym c.set_place.ensures.value ∙ c.in_default-set_place.is))

pub members_at-requires-clause-there : goal.members_at-requires-clause-there
members_at-requires-clause-there g c = found-again c.args.schema.now c.args.number c.in-Some.attribute.now c.in-Some.ensures

pub returns-clause-finds : goal.returns-clause-finds
returns-clause-finds g c = λ array s agrees same stands.
    let x = c.in-Some.attribute.now in
    let asked = g.P.Pages.asked c.args.pages.now c.members_at.new.pages in
    subst (λ (n : ℕ). HasSet s c.args.entity n → Finds asked (g.P.Pages.attempt c.args.pages.now) (g.P.Pages.attempt c.members_at.new.pages) array (λ (values : List Value). values ≡ values_at n c.args.entity s.triples) (store Set n ∷ []) c.members_at.result)
    (its-number c.args.schema.now c.args.number x c.in-Some.ensures)
    (c.members_at.ensures.finds c.args.places.now (sym c.in-Some-set_place.ensures.value) array s agrees same stands)
