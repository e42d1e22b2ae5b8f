use Rattle.st_changes.proofs.Running.{set-asked}
use Rattle.st_changes.proofs.single.set_at.Goals as goal

pub returns-clause-sets : goal.returns-clause-sets
returns-clause-sets g c = λ w s agrees stands admits.
    set-asked _ s c.args.entity c.args.number c.args.value.now c.set.result (c.set.ensures.asks w s agrees stands admits)
