use Rattle.st_keys.proofs.KeyLaws.{no-text-of}
use Rattle.st_keys.proofs.laws.rows_of_keys.Goals as goal

pub returns-clause-no_text : goal.returns-clause-no_text
returns-clause-no_text c = no-text-of
