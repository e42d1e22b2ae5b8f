use Rattle.std.proofs.Common.{◌≤◌, length}
use Rattle.st_listings.proofs.Numbering.{Numbers}
use Rattle.st_listings.proofs.listing.numbered_cells.Given as goal

-- the values so far, and those of the attributes that are left
abbrev pub invariant-loop-left : goal.invariant-loop-left
invariant-loop-left l = record {
  within : l.left ≤ length l.attributes;
  numbers : Numbers l.schema l.ty l.attributes l.fn.cells l.values l.left l.cells;
}

abbrev pub decreases-loop-left : goal.decreases-loop-left
decreases-loop-left l = l.left
