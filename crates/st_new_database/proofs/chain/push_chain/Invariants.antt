use Rattle.std.proofs.Common.{◌≡◌, ◌+◌, ◌<◌, ◌^◌, ◌++◌, length}
use Rattle.st_new_database.specs.New.{chain_of}
use Rattle.st_new_database.proofs.chain.push_chain.Given as goal

-- what was added, and the chain of what is left, are the whole chain
abbrev pub invariant-loop-rest : goal.invariant-loop-rest
invariant-loop-rest l =
    (l.pages.items ++ chain_of l.kind l.unit l.next l.rest ≡ l.initial.pages.items ++ chain_of l.kind l.unit l.second l.bytes)
    × (l.next + length l.rest < 2 ^ 32)

abbrev pub decreases-loop-rest : goal.decreases-loop-rest
decreases-loop-rest l = length l.rest
