use Rattle.st_counts.proofs.Deleted.{deleted-changed}
use Rattle.st_counts.proofs.laws.laws_of_deleted.Goals as goal

pub returns : goal.returns
returns c = record { changed = λ s e n low live. deleted-changed s e n low live }
