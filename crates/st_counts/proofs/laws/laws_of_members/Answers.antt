use Rattle.st_counts.proofs.Members.{added-added, added-changed, taken-changed}
use Rattle.st_counts.proofs.laws.laws_of_members.Goals as goal

pub returns-clause-added : goal.returns-clause-added
returns-clause-added c = λ s number e v n low a f many fresh. added-added s number e v n low a f many fresh

pub returns-clause-added_changes : goal.returns-clause-added_changes
returns-clause-added_changes c = λ s number e v n low a f many fresh. added-changed s number e v n low a f many fresh

pub returns-clause-taken_changes : goal.returns-clause-taken_changes
returns-clause-taken_changes c = λ s number e v n low a f many has. taken-changed s number e v n low a f many has
