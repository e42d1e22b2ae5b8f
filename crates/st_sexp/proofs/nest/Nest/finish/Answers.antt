use Rattle.std.proofs.Common.{refl}
use Rattle.st_sexp.proofs.NestLemmas.{places-push}
use Rattle.st_sexp.proofs.nest.Nest.finish.Goals as goal

pub returns-clause-fault : goal.returns-clause-fault
returns-clause-fault c = rw (c.in-Some.ensures, places-push) refl
