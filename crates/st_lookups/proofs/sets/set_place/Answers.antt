use Rattle.std.proofs.Common.{ℕ, ◌<◌, ap, ◌∙◌, arith}
use Rattle.st_pages.specs.Places.{place_of}
use Rattle.st_lookups.proofs.Membered.{set-laid}
use Rattle.st_lookups.proofs.sets.set_place.Goals as goal

pub returns-clause-laid : goal.returns-clause-laid
returns-clause-laid c =
    let a = c.args.attribute.now in
    let small : a.number < 65536 = omega arith in
    set-laid c.args.schema.now c.args.places.now a.number a c.find.result c.requires.of c.requires.fair small c.requires.there (c.find.ensures.place ∙ ap (λ (n : ℕ). place_of n c.args.places.now) c.store.ensures)
