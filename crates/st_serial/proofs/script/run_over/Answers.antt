use Rattle.std.proofs.Common.{◌∙◌, ℕ, length, refl, sym, ap, subst, arith}
use Rattle.std.specs.List.{list_all}
use Rattle.st_values.proofs.Tests.{left, right}
use Rattle.st_edge.specs.States.{TakesAll, TakesFront}
use Rattle.st_query.specs.Written.{is_written}
use Rattle.st_state.specs.Legal.{IsLegal}
use Rattle.st_meaning.specs.Lines.{run_lines}
use Rattle.st_meaning.specs.Runs.{runs}
use Rattle.st_serial.specs.Serial.{are_written}
use Rattle.st_serial.proofs.Pieces.{on_err}
use Rattle.st_serial.proofs.Serving.{started, on_commit, on_refusal, front}
use Rattle.st_serial.proofs.script.run_over.Goals as goal

pub loop-transaction-init : goal.loop-transaction-init
loop-transaction-init g c =
    let same = c.in_ok-ahead.ensures in
    let size = ap length same in
    record {
      schema = c.requires.schema;
      legal = c.requires.legal;
      written = rw same c.requires.written;
      client = refl;
      counted = omega (arith, size);
      commits = omega arith;
      turns = omega (arith, size);
      on = started _ _ _ _ same;
      faults = omega arith;
    }

pub returns-in_err-end-clause-err : goal.returns-in_err-end-clause-err
returns-in_err-end-clause-err g c =
    let l = c.loop-transaction in
    let on = rw c.in-Some.ensures at l.invariant.on in
    let P : ℕ → Type 0 = λ client. TakesFront (g.K.Sink.state l.sink) (g.K.Sink.state c.run_transaction.new.sink) (run_lines l.turn.number client l.turn.transaction l.commits (runs l.plain.state c.in-Some.transaction.statements)) in
    on_err _ (front _ _ _ _ _ _ c.in-Some.transaction c.next.new.self _ _ _ _ on (subst P l.invariant.client c.in_err-end.ensures.err))

pub loop-transaction-preserved-then-end : goal.loop-transaction-preserved-then-end
loop-transaction-preserved-then-end g c =
    let l = c.loop-transaction in
    let t = c.in-Some.transaction in
    let on = rw c.in-Some.ensures at l.invariant.on in
    let written = rw c.in-Some.ensures at l.invariant.written in
    let each = list_all is_written t.statements in
    let size = ap length c.in-Some.ensures in
    let P : ℕ → Type 0 = λ client. TakesAll (g.K.Sink.state l.sink) (g.K.Sink.state c.run_transaction.new.sink) (run_lines l.turn.number client l.turn.transaction l.commits (runs l.plain.state t.statements)) in
    let took = subst P l.invariant.client c.in_ok-end.ensures.ok in
    let ended = c.in_ok-end.ensures.ended in
    let bound = ended.2 in
    let counted = l.invariant.counted in
    let commits = l.invariant.commits in
    let turns = l.invariant.turns in
    let one = l.invariant.faults in
    let two = c.in_ok-end.ensures.never_falls in
    record {
      schema = l.invariant.schema ∙ sym c.in_ok-end.ensures.schema;
      legal = subst IsLegal (sym c.in_ok-end.ensures.state) (c.laws_of_states.ensures.run l.plain.state t.statements l.invariant.legal (left each (are_written c.next.new.self) written));
      written = right each (are_written c.next.new.self) written;
      client = l.invariant.client;
      counted = omega (arith, size, counted);
      commits = omega (arith, commits);
      turns = omega (arith, size, bound, turns);
      on = on_commit _ _ _ _ _ _ _ _ t c.next.new.self _ _ _ _ _ on took c.in_ok-end.ensures.state (ended.0) (ended.1) c.if-end.true;
      faults = omega (arith, one, two);
    }

pub loop-transaction-preserved : goal.loop-transaction-preserved
loop-transaction-preserved g c =
    let l = c.loop-transaction in
    let t = c.in-Some.transaction in
    let on = rw c.in-Some.ensures at l.invariant.on in
    let written = rw c.in-Some.ensures at l.invariant.written in
    let each = list_all is_written t.statements in
    let size = ap length c.in-Some.ensures in
    let P : ℕ → Type 0 = λ client. TakesAll (g.K.Sink.state l.sink) (g.K.Sink.state c.run_transaction.new.sink) (run_lines l.turn.number client l.turn.transaction l.commits (runs l.plain.state t.statements)) in
    let took = subst P l.invariant.client c.in_ok-end.ensures.ok in
    let ended = c.in_ok-end.ensures.ended in
    let bound = ended.2 in
    let counted = l.invariant.counted in
    let commits = l.invariant.commits in
    let turns = l.invariant.turns in
    let one = l.invariant.faults in
    let two = c.in_ok-end.ensures.never_falls in
    record {
      schema = l.invariant.schema ∙ sym c.in_ok-end.ensures.schema;
      legal = subst IsLegal (sym c.in_ok-end.ensures.state) (c.laws_of_states.ensures.run l.plain.state t.statements l.invariant.legal (left each (are_written c.next.new.self) written));
      written = right each (are_written c.next.new.self) written;
      client = l.invariant.client;
      counted = omega (arith, size, counted);
      commits = omega (arith, commits);
      turns = omega (arith, size, bound, turns);
      on = on_refusal _ _ _ _ _ _ _ _ t c.next.new.self _ _ _ _ _ on took c.in_ok-end.ensures.state (ended.0) (ended.1) c.if-end.false;
      faults = omega (arith, one, two);
    }
