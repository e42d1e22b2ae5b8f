use Rattle.st_keys.proofs.Reading.{integer-read}
use Rattle.st_keys.proofs.decode.decode_integer.Goals as goal

pub returns : goal.returns
returns c =
    integer-read c.args.bytes.now c.read_u64.result c.wrapping_add_unsigned.result c.requires c.type_inv.bytes c.read_u64.ensures c.read_u64.type_inv c.wrapping_add_unsigned.ensures
    c.wrapping_add_unsigned.type_inv
