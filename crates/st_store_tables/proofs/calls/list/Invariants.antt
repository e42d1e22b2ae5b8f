use Rattle.st_store.specs.Stores.{Fits}
use Rattle.st_store.specs.Chain.{left_in_chain}
use Rattle.st_store_tables.proofs.calls.list.Given as goal

-- the cursor stands on a page of the store's rows
abbrev pub invariant-loop : goal.invariant-loop
invariant-loop l = Fits l.asked l.cursor

-- fewer rows may come each time
abbrev pub decreases-loop : goal.decreases-loop
decreases-loop l = left_in_chain l.asked l.cursor
