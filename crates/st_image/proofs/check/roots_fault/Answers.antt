use Rattle.std.proofs.Common.{arith}
use Rattle.st_image.specs.Grammar.{roots_header}
use Rattle.st_image.proofs.PageKinds.{Limits, entries-finds}
use Rattle.st_image.proofs.check.roots_fault.Goals as goal

limits : Limits 4 8 510 510
limits = record { within = omega arith; fits = omega arith; room = omega arith; at_most = omega arith; greatest = λ n h k. h }

pub returns : goal.returns
returns c = entries-finds roots_header 4 510 limits c.args.bytes.now c.row_page_fault.result c.row_page_fault.ensures
