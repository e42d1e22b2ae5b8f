use Rattle.std.proofs.Common.{◌*◌}
use Rattle.st_pages.specs.Attempt.{over}
use Rattle.st_index.specs.Noted.{rows_for}
use Rattle.st_index.proofs.Counted.{differences-none}
use Rattle.st_index.proofs.noting.forget.Goals as goal

pub returns-in-Null-clause-few : goal.returns-in-Null-clause-few
returns-in-Null-clause-few g c = λ pages agrees. differences-none (over (g.P.Pages.attempt c.args.pages.now) pages) (34 * rows_for c.args.value.now)
