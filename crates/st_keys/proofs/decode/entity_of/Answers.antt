use Rattle.std.proofs.Common.{arith}
use Rattle.st_keys.proofs.Reading.{entity-read}
use Rattle.st_keys.proofs.decode.entity_of.Goals as goal

pub returns-clause-some : goal.returns-clause-some
returns-clause-some c = (
  (omega arith, c.read_u32-serial.type_inv, c.read_u16-ty.type_inv),
  entity-read c.args.bytes.now c.read_u16-ty.result c.read_u32-serial.result c.requires c.type_inv.bytes c.read_u16-ty.ensures c.read_u32-serial.ensures,
)
