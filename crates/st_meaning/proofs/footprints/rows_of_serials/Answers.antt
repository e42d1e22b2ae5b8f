use Rattle.std.proofs.Common.{refl, sym}
use Rattle.std.specs.Fmt.{digits}
use Rattle.st_query.specs.Ways.{way}
use Rattle.st_query.proofs.Ways.{path-built}
use Rattle.st_meaning.specs.Terms.{term_meaning}
use Rattle.st_meaning.specs.Checks.{term_refused}
use Rattle.st_meaning.specs.Rules.{refusal}
use Rattle.st_meaning.specs.Runs.{runs, runs_statement}
use Rattle.st_meaning.specs.Lines.{client_lines}
use Rattle.st_meaning.proofs.footprints.rows_of_serials.Goals as goal

pub returns-clause-spent : goal.returns-clause-spent
unfolding client_lines runs runs_statement refusal term_refused term_meaning way digits
returns-clause-spent c = refl

pub returns-clause-paths : goal.returns-clause-paths
returns-clause-paths c = λ feature inner. sym (path-built feature inner)
