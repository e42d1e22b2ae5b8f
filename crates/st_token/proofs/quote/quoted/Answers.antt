use Rattle.std.proofs.Common.{arith}
use Rattle.st_token.proofs.Quotes.{IsUtf8-content}
use Rattle.st_token.proofs.quote.quoted.Goals as goal

pub from_utf8-requires : goal.from_utf8-requires
from_utf8-requires c =
    IsUtf8-content _ c.args.from c.loop-i.content.items c.args.bytes.now c.loop-i.i c.loop-i.in_escape c.requires.utf8 c.requires.at c.requires.quote (omega arith) (omega arith) c.if-in_escape.false c.loop-i.invariant
