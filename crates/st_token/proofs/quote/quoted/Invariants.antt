use Rattle.std.proofs.Common.{◌≡◌, ◌+◌, false, length, drop}
use Rattle.st_token.specs.Scan.{quoted}
use Rattle.st_token.proofs.Quotes.{after_content}
use Rattle.st_token.proofs.quote.quoted.Given as goal

abbrev pub invariant-loop-i : goal.invariant-loop-i
invariant-loop-i l =
    after_content l.content.items (quoted (length l.bytes) l.fn.from l.in_escape (drop l.i l.bytes)) ≡ quoted (length l.bytes) l.fn.from false (drop (l.fn.from + 1) l.bytes)
