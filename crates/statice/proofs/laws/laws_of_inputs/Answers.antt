use Rattle.statice.proofs.OneAnswer.{never_both, one_line, one_program, some_outcome}
use Rattle.statice.proofs.laws.laws_of_inputs.Goals as goal

pub returns : goal.returns
returns c = record {
  some_outcome = some_outcome c.laws_of_texts.ensures.some_answer c.laws_of_schemas.ensures.told;
  never_both = never_both c.laws_of_texts.ensures.no_other;
  one_program = one_program c.laws_of_texts.ensures.no_other;
  one_line = one_line c.laws_of_texts.ensures.no_other;
}
