use Rattle.std.proofs.Common.{ap, subst}
use Rattle.std.specs.Prelude.{OnErr}
use Rattle.st_edge.specs.States.{TakesFront}
use Rattle.st_state.specs.State.{State, empty_state}
use Rattle.st_meaning.specs.Lines.{client_lines}
use Rattle.st_serial.specs.Serial.{statements_of}
use Rattle.st_serial.proofs.Pieces.{on_err, front_of_nothing}
use Rattle.st_serial.proofs.script.run_script.Goals as goal

pub returns-in_err-plain-clause-err : goal.returns-in_err-plain-clause-err
returns-in_err-plain-clause-err g c = on_err _ (front_of_nothing (g.K.Sink.state c.args.sink.now) (client_lines (empty_state c.args.schema) (statements_of c.args.script)))

pub returns-clause-err : goal.returns-clause-err
returns-clause-err g c =
    let P : State → Type 0 = λ state. OnErr c.run_over.result (TakesFront (g.K.Sink.state c.args.sink.now) (g.K.Sink.state c.run_over.new.sink) (client_lines state (statements_of c.args.script))) in
    subst P (ap (λ held. held.state) c.in_ok-plain.ensures) c.run_over.ensures.err
