use Rattle.std.proofs.Common.{arith}
use Rattle.st_sexp.proofs.NestLemmas.{places-push, opens-below, nesting_fault-above}
use Rattle.st_sexp.proofs.nest.Nest.open.Goals as goal

pub returns-then-len-ge-MAX_DEPTH-clause-fault : goal.returns-then-len-ge-MAX_DEPTH-clause-fault
returns-then-len-ge-MAX_DEPTH-clause-fault c = nesting_fault-above c.args.self.now.levels c.args.from (omega arith)

pub returns-clause-opens : goal.returns-clause-opens
returns-clause-opens c =
    rw (c.in_ok-push.ensures.ok, places-push) (opens-below c.args.self.now.levels c.args.from (omega arith))
