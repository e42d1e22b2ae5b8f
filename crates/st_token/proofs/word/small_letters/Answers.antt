use Rattle.std.proofs.Common.{◌≡◌, map, rules}
use Rattle.std.specs.Char.{to_ascii_lowercase}
use Rattle.st_token.proofs.Names.{IsUtf8-small_name}
use Rattle.st_token.proofs.word.small_letters.Goals as goal

pub from_utf8-requires : goal.from_utf8-requires
from_utf8-requires c =
    let is : c.in_ok-small.small.items ≡ map to_ascii_lowercase c.args.name.now = search rules in
    rw is (IsUtf8-small_name c.args.name.now c.requires)
