use Rattle.std.proofs.Common.{Bool, sym, subst}
use Rattle.st_terms.specs.Checked.{present}
use Rattle.st_meaning.specs.Runs.{runs_statement}
use Rattle.st_serial.specs.Turns.{IsTurned}
use Rattle.st_serial.proofs.Stepping.{turned}
use Rattle.st_serial.proofs.turn.take_turn.Goals as goal

pub returns-clause-turned : goal.returns-clause-turned
returns-clause-turned g c = λ statement is.
    let o = runs_statement (present c.args.plain.now.state c.args.running.now.variables) statement in
    let P : Bool → Type 0 = λ b. IsTurned o c.args.running.now c.step.new.running c.step.new.plain.state b in
    subst P (sym c.went-went.ensures) (turned o c.args.running.now c.step.new.running c.step.new.plain.state c.in_ok-stepped.stepped (c.in_ok-stepped.ensures.steps statement is))
