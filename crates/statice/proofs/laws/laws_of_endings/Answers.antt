use Rattle.statice.proofs.Endings.{ends_program, ends_faulty, ends_long}
use Rattle.statice.proofs.laws.laws_of_endings.Goals as goal

pub returns : goal.returns
returns c =
    let one = c.laws_of_inputs.ensures.one_program in
    let never = c.laws_of_inputs.ensures.never_both in
    record {
      program = ends_program one never;
      faulty = ends_faulty one never;
      too_long = ends_long;
    }
