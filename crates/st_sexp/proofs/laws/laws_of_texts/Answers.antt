use Rattle.st_sexp.proofs.OneAnswer.{same_answer}
use Rattle.st_sexp.proofs.SomeAnswer.{some_answer}
use Rattle.st_sexp.proofs.laws.laws_of_texts.Goals as goal

pub returns : goal.returns
returns c = record { no_other = same_answer; some_answer = some_answer }
