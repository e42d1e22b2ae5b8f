use Rattle.std.proofs.Common.{◌≡◌, ◌+◌, ◌≤◌}
use Rattle.st_state.specs.Legal.{IsLegal}
use Rattle.st_serial.proofs.Ongoing.{Ongoing}
use Rattle.st_serial.proofs.transaction.run_transaction.Given as goal

-- so many statements were run as the counter says
abbrev pub invariant-loop : goal.invariant-loop
invariant-loop g l =
    let sink = g.K.Sink in
    record {
      schema : l.schema ≡ l.plain.state.schema;
      legal : IsLegal l.plain.state;
      mark : l.plain.mark ≡ l.fn.plain.state;
      statements : l.running.statements ≡ l.fn.transaction.statements;
      ran : l.running.ran ≡ l.counter;
      turn : l.turn ≡ record l.fn.first { number = l.fn.first.number + l.counter };
      on : Ongoing l.fn.plain.state l.fn.first l.fn.commits l.fn.transaction.statements l.turn.number l.plain.state l.running (sink.state l.fn.sink).taken (sink.state l.sink).taken;
      faults : (sink.state l.fn.sink).faults ≤ (sink.state l.sink).faults;
    }
