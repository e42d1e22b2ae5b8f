use Rattle.std.proofs.Common.{◌∙◌, sym}
use Rattle.st_lattice.proofs.Found.{found_some, found_none}
use Rattle.st_lattice.proofs.schema.attribute_in.Goals as goal

pub returns-in-Some : goal.returns-in-Some
returns-in-Some c = λ number e. c.item_at.ensures ∙ found_some number c.args.attributes.now c.in-Some.position (sym c.in-Some.is ∙ e)

pub returns-in-None : goal.returns-in-None
returns-in-None c = λ number e. found_none number c.args.attributes.now (sym c.in-None.is ∙ e)
