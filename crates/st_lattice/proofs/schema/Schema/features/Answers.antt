use Rattle.st_lattice.proofs.Within.{all_within}
use Rattle.st_lattice.proofs.schema.Schema.features.Goals as goal

pub returns-clause-within : goal.returns-clause-within
returns-clause-within c =
    let made = c.self.invariant in
    rw (c.as_slice.ensures, made.features_are, ← c.self.view_is) (all_within _ _ made.orderly.owners made.orderly.kinds)
