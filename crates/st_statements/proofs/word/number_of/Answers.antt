use Rattle.std.proofs.Common.{◌∙◌}
use Rattle.st_statements.proofs.Numbers.{number_of-parse}
use Rattle.st_statements.proofs.word.number_of.Goals as goal

pub returns : goal.returns
returns c = c.ok.ensures.value ∙ number_of-parse c.args.digits.now c.parse.result c.requires c.parse.ensures.value.0
