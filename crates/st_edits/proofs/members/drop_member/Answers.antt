use Rattle.std.proofs.Common.{◌≡◌, Some, sym, ap, ◌∙◌, true≢false}
use Rattle.st_values.proofs.Tests.{right}
use Rattle.st_lattice.specs.Lattice.{isa}
use Rattle.st_lattice.specs.Outline.{Outline, attribute}
use Rattle.st_standing.proofs.OfKind.{live-entity}
use Rattle.st_lookups.proofs.Membered.{set-there}
use Rattle.st_edits.proofs.Membering.{has-set-there}
use Rattle.st_edits.proofs.members.drop_member.Goals as goal

pub returns-in_default-set_place-clause-takes : goal.returns-in_default-set_place-clause-takes
returns-in_default-set_place-clause-takes g c = λ array s agrees same stands admits most changes.
    let e = c.args.entity in
    let a = c.in-Some.attribute.now in
    let f : attribute s.schema c.args.number ≡ Some a = ap (λ (o : Outline). attribute o c.args.number) same ∙ sym c.in-Some.ensures in
    let many = right (isa s.schema e.ty a.owner) a.many (has-set-there s e c.args.number c.args.value.now a f admits.0.many) in
    absurd (set-there s.schema c.args.places.now c.args.number a stands.database.has.spells.readable stands.database.has.names.of f many (sym c.set_place.ensures.value ∙ c.in_default-set_place.is))

pub returns-then-not-has_serial-clause-takes : goal.returns-then-not-has_serial-clause-takes
returns-then-not-has_serial-clause-takes g c = λ array s agrees same stands admits most changes.
    absurd (true≢false (sym (c.has_serial.ensures.all (live-entity s stands.program.entities c.args.entity admits.0.live)) ∙ c.if-not-has_serial.true))

pub returns-clause-takes : goal.returns-clause-takes
returns-clause-takes g c = λ array s agrees same stands admits most changes.
    let a = c.in-Some.attribute.now in
    let f : attribute s.schema c.args.number ≡ Some a = ap (λ (o : Outline). attribute o c.args.number) same ∙ sym c.in-Some.ensures in
    c.take_at.ensures.takes array s agrees same stands admits most (changes a f)
