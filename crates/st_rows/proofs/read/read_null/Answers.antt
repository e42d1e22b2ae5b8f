use Rattle.st_keys.specs.Keys.{width}
use Rattle.st_rows.proofs.Cells.{null-read}
use Rattle.st_rows.proofs.read.read_null.Goals as goal

pub returns-in-None-clause-bytes : goal.returns-in-None-clause-bytes
returns-in-None-clause-bytes c = null-read (width c.args.kind) c.args.bytes.now c.requires.width c.in-None.ensures.value
