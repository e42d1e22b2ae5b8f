use Rattle.std.proofs.Common.{◌∙◌, sym}
use Rattle.st_token.proofs.Numbers.{number_of-parse, number_of-no_text}
use Rattle.st_token.proofs.word.number_of.Goals as goal

pub returns-in_default : goal.returns-in_default
returns-in_default c = sym (number_of-no_text c.args.word.now c.in_default.ensures.cases.0)

pub returns : goal.returns
returns c =
    c.ok.ensures.value ∙ number_of-parse c.args.word.now c.parse.result c.requires (rw c.in-Ok.ensures.cases.0 at c.parse.ensures.value.0)
