use Rattle.std.proofs.Common.{◌≡◌, drop}
use Rattle.st_lookups.specs.Looks.{are_named}
use Rattle.st_lookups.proofs.Celled.{cells_among}
use Rattle.st_lookups.proofs.extent.misnamed.Given as goal

-- the cells that are left decide
abbrev pub invariant-loop-attribute : goal.invariant-loop-attribute
invariant-loop-attribute l = are_named l.schema (cells_among l.schema l.ty l.attributes) l.cells ≡ are_named l.schema (cells_among l.schema l.ty (drop l.attribute-index l.attributes)) l.rest
