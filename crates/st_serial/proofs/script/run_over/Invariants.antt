use Rattle.std.proofs.Common.{◌≡◌, ◌+◌, ◌*◌, ◌≤◌, ◌^◌, length}
use Rattle.std.specs.Prelude.{IsTrue}
use Rattle.st_state.specs.Legal.{IsLegal}
use Rattle.st_serial.specs.Serial.{are_written}
use Rattle.st_serial.proofs.Serving.{Serving}
use Rattle.st_serial.proofs.script.run_over.Given as goal

-- those transactions were run that aren't ahead
abbrev pub invariant-loop-transaction : goal.invariant-loop-transaction
invariant-loop-transaction g l =
    let sink = g.K.Sink in
    record {
      schema : l.schema ≡ l.plain.state.schema;
      legal : IsLegal l.plain.state;
      written : IsTrue (are_written l.ahead);
      client : l.turn.client ≡ 1;
      counted : l.turn.transaction + length l.ahead ≡ length l.fn.script + 1;
      commits : l.commits + 1 ≤ l.turn.transaction;
      turns : l.turn.number + length l.ahead * 2 ^ 64 ≤ length l.fn.script * 2 ^ 64 + 1;
      on : Serving l.fn.plain.state l.fn.script l.turn.number l.turn.transaction l.commits l.plain.state l.ahead l.served (sink.state l.fn.sink).taken (sink.state l.sink).taken;
      faults : (sink.state l.fn.sink).faults ≤ (sink.state l.sink).faults;
    }

abbrev pub decreases-loop-transaction : goal.decreases-loop-transaction
decreases-loop-transaction g l = length l.ahead
