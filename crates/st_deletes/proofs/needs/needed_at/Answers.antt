use Rattle.std.proofs.Common.{Some, ap, ◌∙◌}
use Rattle.std.specs.Prelude.{find}
use Rattle.st_state.specs.Bases.{is_other}
use Rattle.st_deletes.proofs.needs.needed_at.Goals as goal

pub returns-in-Ok-clause-finds : goal.returns-in-Ok-clause-finds
returns-in-Ok-clause-finds g c = λ array s agrees same stands can.
    let x = c.in-Ok.ensures.finds array s agrees same stands can in
    record {
      answers = c.first_other.ensures ∙ ap (find (is_other (Some c.args.entity))) (c.as_slice.ensures ∙ x.answers);
      sound = tt;
      touches = x.touches;
    }

pub returns-clause-finds : goal.returns-clause-finds
returns-clause-finds g c = λ array s agrees same stands can.
    let x = c.in-Err.ensures.finds array s agrees same stands can in
    record { answers = tt; sound = x.sound; touches = x.touches }
