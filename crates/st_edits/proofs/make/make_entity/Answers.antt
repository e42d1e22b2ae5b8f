use Rattle.std.proofs.Common.{◌≡◌, Option, Err, refl, sym, ap, ◌∙◌, subst}
use Rattle.st_values.specs.declared.value.EntityId.{EntityId}
use Rattle.st_lattice.specs.Outline.{Outline, type_name}
use Rattle.st_state.specs.Calls.{Make}
use Rattle.st_state.specs.declared.refusal.Refusal.TheVariants.{NumbersSpent}
use Rattle.st_state.specs.State.{next_entity}
use Rattle.st_edits.specs.Edits.{Behaves, Edits}
use Rattle.st_edits.specs.Steps.{Made}
use Rattle.st_edits.proofs.Telling.{behaves-told, edits-told}
use Rattle.st_edits.proofs.Making.{edits-made, edits-spent, edits-unsaid}
use Rattle.st_edits.proofs.make.make_entity.Goals as goal

pub returns-in-Ok-Some-clause-edits : goal.returns-in-Ok-Some-clause-edits
returns-in-Ok-Some-clause-edits g c = λ array s agrees same stands.
    edits-made g.S.Store.holds (g.P.Pages.asked c.args.pages.now c.make_next.new.pages) (g.P.Pages.attempt c.args.pages.now) (g.P.Pages.attempt c.make_next.new.pages) array s c.args.places.now c.args.ty c.in-Ok-Some.field-0 c.in-Ok-Some.entity
    c.in-Ok-Some.field-0-is (c.in-Ok-Some.ensures.turns array s agrees same stands)

pub returns-in-Ok-clause-edits : goal.returns-in-Ok-clause-edits
returns-in-Ok-clause-edits g c = λ array s agrees same stands.
    edits-spent g.S.Store.holds (g.P.Pages.asked c.args.pages.now c.make_next.new.pages) (g.P.Pages.attempt c.args.pages.now) (g.P.Pages.attempt c.make_next.new.pages) array s c.args.places.now c.args.ty c.in-Ok-None.field-0 c.in-Ok.refusal
    c.in-Ok-None.field-0-is (c.in-Ok.ensures ∙ ap (λ (o : Outline). NumbersSpent (type_name o c.args.ty)) (sym same)) (c.in-Ok-None.ensures.turns array s agrees same stands)

pub returns-in-Err-spent-clause-edits : goal.returns-in-Err-spent-clause-edits
returns-in-Err-spent-clause-edits g c = λ array s agrees same stands.
    edits-unsaid g.S.Store.holds (g.P.Pages.asked c.args.pages.now c.make_next.new.pages) (g.P.Pages.attempt c.args.pages.now) (g.P.Pages.attempt c.make_next.new.pages) array s c.args.places.now c.args.ty c.in-Ok-None.field-0
    (c.in-Ok-None.ensures.turns array s agrees same stands)

pub returns-in-Err-clause-behaves : goal.returns-in-Err-clause-behaves
returns-in-Err-clause-behaves g c =
    let old = g.P.Pages.met c.args.pages.now in
    let new = g.P.Pages.met c.make_next.new.pages in
    subst (λ fault. Behaves {A = EntityId} (g.P.Pages.follows c.args.pages.now c.make_next.new.pages) old new (Make c.args.ty) (Err fault)) (sym c.told.ensures)
    (behaves-told (Option EntityId) (g.P.Pages.follows c.args.pages.now c.make_next.new.pages) old new (Make c.args.ty) c.in-Err.fault refl refl c.make_next.ensures.follows
    (g.met.P.Pages.met_never_falls c.args.pages.now c.make_next.new.pages c.make_next.ensures.follows) c.in-Err.ensures.met)

pub returns-in-Err-clause-edits : goal.returns-in-Err-clause-edits
returns-in-Err-clause-edits g c = λ array s agrees same stands.
    let asked = g.P.Pages.asked c.args.pages.now c.make_next.new.pages in
    let A = g.P.Pages.attempt c.args.pages.now in
    let B = g.P.Pages.attempt c.make_next.new.pages in
    subst (λ fault. Edits {A = EntityId} g.S.Store.holds asked A B array c.args.places.now s (Make c.args.ty) (λ entity. entity ≡ next_entity s c.args.ty) (Err fault)) (sym c.told.ensures)
    (edits-told g.S.Store.holds asked A B array c.args.places.now s (Make c.args.ty) (λ entity. entity ≡ next_entity s c.args.ty) (Made g.S.Store.holds B array c.args.places.now s c.args.ty) c.in-Err.fault
    (c.in-Err.ensures.turns array s agrees same stands))
