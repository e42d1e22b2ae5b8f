use Rattle.std.proofs.Common.{arith}
use Rattle.st_image.specs.Grammar.{schema_header}
use Rattle.st_image.proofs.PageKinds.{text-finds}
use Rattle.st_image.proofs.check.schema_fault.Goals as goal

pub returns : goal.returns
returns c = text-finds schema_header (omega arith) c.args.bytes.now c.text_page_fault.result c.text_page_fault.ensures
