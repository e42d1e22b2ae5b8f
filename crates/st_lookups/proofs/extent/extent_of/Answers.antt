use Rattle.std.proofs.Common.{sym, ◌∙◌}
use Rattle.st_lookups.proofs.Placed.{extent-there, laid-found}
use Rattle.st_lookups.proofs.extent.extent_of.Goals as goal

pub returns-clause-laid : goal.returns-clause-laid
returns-clause-laid c = laid-found c.args.schema.now c.args.places.now c.args.ty c.extent_place.result c.requires.of c.requires.fair c.ranges.ty.fits c.extent_place.ensures

pub returns-clause-none : goal.returns-clause-none
returns-clause-none c = λ none. extent-there c.args.schema.now c.args.places.now c.args.ty c.requires.of (sym c.extent_place.ensures ∙ none)
