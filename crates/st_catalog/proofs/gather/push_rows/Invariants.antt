use Rattle.std.proofs.Common.{◌≡◌, ◌++◌, ◌*◌, ◌-◌, map, drop}
use Rattle.st_image.specs.Fields.{pieces}
use Rattle.st_catalog.specs.Catalog.{root_of}
use Rattle.st_catalog.proofs.gather.push_rows.Given as goal

-- the roots so far, and those of the rows that are left
abbrev pub invariant-loop-index : goal.invariant-loop-index
invariant-loop-index l = l.roots.items ++ map root_of (pieces (l.count - l.index) 8 (drop (8 * l.index) l.body)) ≡ l.fn.roots.items ++ map root_of (pieces l.count 8 l.body)
