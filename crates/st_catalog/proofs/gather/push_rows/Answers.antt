use Rattle.std.proofs.Common.{ℕ, ◌*◌, take, drop, ap, arith}
use Rattle.st_catalog.proofs.Rooted.{next-row}
use Rattle.st_catalog.proofs.gather.push_rows.Goals as goal

pub loop-index-preserved : goal.loop-index-preserved
loop-index-preserved c = next-row c.loop-index.roots.items c.push.new.self.items _ c.args.body.now _ c.root_of.result c.args.count c.loop-index.index c.loop-index-test.true c.loop-index.invariant c.root_of.ensures (ap (λ (n : ℕ). take n (drop (8 * c.loop-index.index) c.args.body.now)) {y = 8} (omega arith)) c.in_ok-push.ensures.items
