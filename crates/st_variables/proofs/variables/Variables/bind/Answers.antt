use Rattle.st_variables.proofs.Bound.{still-differ}
use Rattle.st_variables.proofs.variables.Variables.bind.Goals as goal

pub invariant_of-self : goal.invariant_of-self
invariant_of-self c = still-differ c.args.name.now c.args.value c.bind.result _ _ c.bind.ensures.ok c.bind.ensures.err c.self.invariant
