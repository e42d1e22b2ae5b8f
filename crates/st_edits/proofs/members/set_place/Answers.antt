use Rattle.std.proofs.Common.{ap, ◌∙◌}
use Rattle.st_pages.specs.Places.{place_of}
use Rattle.st_edits.proofs.Behind.{set-laid}
use Rattle.st_edits.proofs.members.set_place.Goals as goal

pub returns-clause-laid : goal.returns-clause-laid
returns-clause-laid c = set-laid c.args.schema.now c.args.places.now c.args.number c.args.attribute.now c.find.result c.requires.of c.requires.fair c.ranges.number.fits c.requires.there (c.find.ensures.place ∙ ap (λ n. place_of n c.args.places.now) c.store.ensures)
