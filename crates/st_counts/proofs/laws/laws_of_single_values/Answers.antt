use Rattle.st_counts.proofs.Set.{set-added, set-changed}
use Rattle.st_counts.proofs.laws.laws_of_single_values.Goals as goal

pub returns-clause-added : goal.returns-clause-added
returns-clause-added c = λ s number e v n low a f single changes. set-added s number e v n low a f single changes

pub returns-clause-changed : goal.returns-clause-changed
returns-clause-changed c = λ s number e v n low a f single column live has changes. set-changed s number e v n low a f single changes column live has
