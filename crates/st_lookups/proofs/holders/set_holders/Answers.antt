use Rattle.std.proofs.Common.{ap, sym, ◌∙◌}
use Rattle.st_lattice.specs.Outline.{Outline, attribute}
use Rattle.st_lookups.proofs.Membered.{set-there}
use Rattle.st_lookups.proofs.holders.set_holders.Goals as goal

pub returns-in_default-clause-finds : goal.returns-in_default-clause-finds
returns-in_default-clause-finds g c = λ many array s agrees same stands.
    let x = c.args.attribute.now in
    absurd (set-there s.schema c.args.places.now x.number x stands.database.has.spells.readable stands.database.has.names.of (ap (λ (o : Outline). attribute o x.number) same ∙ c.requires.there) many (sym c.set_place.ensures.value ∙ c.in_default.is))

pub returns-clause-finds : goal.returns-clause-finds
returns-clause-finds g c = λ many array s agrees same stands. c.holders_at.ensures.finds c.args.places.now (sym c.in-Some.ensures.value) array s agrees same stands
