use Rattle.std.proofs.Common.{◌≡◌, ◌+◌, ◌<◌, ◌∙◌, ℕ, Bool, List, [], length, drop, sym, ap, subst, arith}
use Rattle.st_query.specs.Written.{is_written}
use Rattle.st_state.specs.Legal.{IsLegal}
use Rattle.st_terms.specs.Checked.{present}
use Rattle.st_edge.specs.States.{TakesAll, TakesFront}
use Rattle.st_meaning.specs.Runs.{runs_statement}
use Rattle.st_meaning.specs.Lines.{commit_tail}
use Rattle.st_serial.specs.Turns.{IsTurned}
use Rattle.st_serial.proofs.Pieces.{on_err}
use Rattle.st_serial.proofs.Stepping.{at_place, stays_legal}
use Rattle.st_serial.proofs.Ongoing.{started, next_of, none_left, front_of_turn, more, refused, committed, front_of_commit, in_turn, commit_in_turn, first_turn, next_turn, ran_on}
use Rattle.st_serial.proofs.transaction.run_transaction.Goals as goal

pub loop-init : goal.loop-init
loop-init g c = record {
  schema = c.requires.schema ∙ sym (ap (λ held. held.state.schema) c.set_mark.ensures);
  legal = subst IsLegal (sym (ap (λ held. held.state) c.set_mark.ensures)) c.requires.legal;
  mark = ap (λ held. held.mark) c.set_mark.ensures;
  statements = ap (λ r. r.statements) c.begin-running.ensures;
  ran = ap (λ r. r.ran) c.begin-running.ensures;
  turn = first_turn c.args.first;
  on = started _ _ _ _ _ _ _ (ap (λ held. held.state) c.set_mark.ensures) c.begin-running.ensures;
  faults = omega arith;
}

pub take_turn-requires-clause-left : goal.take_turn-requires-clause-left
take_turn-requires-clause-left g c =
    let count = rw c.begin-running.ensures at c.left-end.ensures in
    let test = c.loop-test.true in
    rw (c.loop.invariant.ran, c.loop.invariant.statements) (omega (arith, count, test))

pub take_turn-requires-clause-written : goal.take_turn-requires-clause-written
take_turn-requires-clause-written g c = rw c.loop.invariant.statements c.requires.written

pub returns-in_err-went-clause-err : goal.returns-in_err-went-clause-err
returns-in_err-went-clause-err g c =
    let r = c.loop.running in
    let left : r.ran < length r.statements =
    (let count = rw c.begin-running.ensures at c.left-end.ensures in
    let test = c.loop-test.true in
    rw (c.loop.invariant.ran, c.loop.invariant.statements) (omega (arith, count, test))) in
    let next = next_of r.statements r.ran left in
    let o = runs_statement (present c.loop.plain.state r.variables) (next.0) in
    let names = ap (λ schema. schema.names) c.requires.schema in
    let same = in_turn c.args.first c.loop.turn _ c.args.schema.now.names c.args.plain.now.state.schema.names c.args.commits o c.loop.invariant.turn names in
    let P : List ℕ → Type 0 = λ x. TakesFront (g.K.Sink.state c.loop.sink) (g.K.Sink.state c.take_turn.new.sink) x in
    let front = subst P same (c.in_err-went.ensures.err (next.0) (next.1)) in
    on_err _ (front_of_turn c.args.plain.now.state c.args.first c.args.commits c.args.transaction.statements c.loop.turn.number c.loop.plain.state r (next.0) _ _ _ _ c.loop.invariant.on (next.2) front)

pub returns-then-not-went-clause-ok : goal.returns-then-not-went-clause-ok
returns-then-not-went-clause-ok g c =
    let r = c.loop.running in
    let left : r.ran < length r.statements =
    (let count = rw c.begin-running.ensures at c.left-end.ensures in
    let test = c.loop-test.true in
    rw (c.loop.invariant.ran, c.loop.invariant.statements) (omega (arith, count, test))) in
    let next = next_of r.statements r.ran left in
    let o = runs_statement (present c.loop.plain.state r.variables) (next.0) in
    let names = ap (λ schema. schema.names) c.requires.schema in
    let same = in_turn c.args.first c.loop.turn _ c.args.schema.now.names c.args.plain.now.state.schema.names c.args.commits o c.loop.invariant.turn names in
    let P : List ℕ → Type 0 = λ x. TakesAll (g.K.Sink.state c.loop.sink) (g.K.Sink.state c.take_turn.new.sink) x in
    let took = subst P same (c.in_ok-went.ensures.ok (next.0) (next.1)) in
    let Q : Bool → Type 0 = λ b. IsTurned o r c.take_turn.new.running c.take_turn.new.plain.state b in
    let turned = subst Q c.if-not-went.true (c.in_ok-went.ensures.turned (next.0) (next.1)) in
    let ended = refused c.args.plain.now.state c.args.first c.args.commits c.args.transaction.statements c.loop.turn.number c.loop.plain.state c.take_turn.new.plain.state r c.take_turn.new.running (next.0) _ _ _ c.loop.invariant.on (next.2) took turned in
    ended.taken

pub returns-then-not-went-clause-state : goal.returns-then-not-went-clause-state
returns-then-not-went-clause-state g c =
    let r = c.loop.running in
    let left : r.ran < length r.statements =
    (let count = rw c.begin-running.ensures at c.left-end.ensures in
    let test = c.loop-test.true in
    rw (c.loop.invariant.ran, c.loop.invariant.statements) (omega (arith, count, test))) in
    let next = next_of r.statements r.ran left in
    let o = runs_statement (present c.loop.plain.state r.variables) (next.0) in
    let names = ap (λ schema. schema.names) c.requires.schema in
    let same = in_turn c.args.first c.loop.turn _ c.args.schema.now.names c.args.plain.now.state.schema.names c.args.commits o c.loop.invariant.turn names in
    let P : List ℕ → Type 0 = λ x. TakesAll (g.K.Sink.state c.loop.sink) (g.K.Sink.state c.take_turn.new.sink) x in
    let took = subst P same (c.in_ok-went.ensures.ok (next.0) (next.1)) in
    let Q : Bool → Type 0 = λ b. IsTurned o r c.take_turn.new.running c.take_turn.new.plain.state b in
    let turned = subst Q c.if-not-went.true (c.in_ok-went.ensures.turned (next.0) (next.1)) in
    let ended = refused c.args.plain.now.state c.args.first c.args.commits c.args.transaction.statements c.loop.turn.number c.loop.plain.state c.take_turn.new.plain.state r c.take_turn.new.running (next.0) _ _ _ c.loop.invariant.on (next.2) took turned in
    ap (λ held. held.state) c.roll_back.ensures ∙ c.in_ok-went.ensures.keeps.1 ∙ c.loop.invariant.mark ∙ ended.leaves

pub returns-then-not-went-clause-ended : goal.returns-then-not-went-clause-ended
returns-then-not-went-clause-ended g c =
    let r = c.loop.running in
    let left : r.ran < length r.statements =
    (let count = rw c.begin-running.ensures at c.left-end.ensures in
    let test = c.loop-test.true in
    rw (c.loop.invariant.ran, c.loop.invariant.statements) (omega (arith, count, test))) in
    let next = next_of r.statements r.ran left in
    let o = runs_statement (present c.loop.plain.state r.variables) (next.0) in
    let names = ap (λ schema. schema.names) c.requires.schema in
    let same = in_turn c.args.first c.loop.turn _ c.args.schema.now.names c.args.plain.now.state.schema.names c.args.commits o c.loop.invariant.turn names in
    let P : List ℕ → Type 0 = λ x. TakesAll (g.K.Sink.state c.loop.sink) (g.K.Sink.state c.take_turn.new.sink) x in
    let took = subst P same (c.in_ok-went.ensures.ok (next.0) (next.1)) in
    let Q : Bool → Type 0 = λ b. IsTurned o r c.take_turn.new.running c.take_turn.new.plain.state b in
    let turned = subst Q c.if-not-went.true (c.in_ok-went.ensures.turned (next.0) (next.1)) in
    let ended = refused c.args.plain.now.state c.args.first c.args.commits c.args.transaction.statements c.loop.turn.number c.loop.plain.state c.take_turn.new.plain.state r c.take_turn.new.running (next.0) _ _ _ c.loop.invariant.on (next.2) took turned in
    let at = ap (λ turn. turn.number) c.loop.invariant.turn in
    let count = rw c.begin-running.ensures at c.left-end.ensures in
    let bound = c.left-end.type_inv in
    let test = c.loop-test.true in
    (ended.commits_or_not, ended.counted, omega (arith, at, bound, test))

pub loop-preserved : goal.loop-preserved
loop-preserved g c =
    let r = c.loop.running in
    let left : r.ran < length r.statements =
    (let count = rw c.begin-running.ensures at c.left-end.ensures in
    let test = c.loop-test.true in
    rw (c.loop.invariant.ran, c.loop.invariant.statements) (omega (arith, count, test))) in
    let next = next_of r.statements r.ran left in
    let o = runs_statement (present c.loop.plain.state r.variables) (next.0) in
    let names = ap (λ schema. schema.names) c.requires.schema in
    let same = in_turn c.args.first c.loop.turn _ c.args.schema.now.names c.args.plain.now.state.schema.names c.args.commits o c.loop.invariant.turn names in
    let P : List ℕ → Type 0 = λ x. TakesAll (g.K.Sink.state c.loop.sink) (g.K.Sink.state c.take_turn.new.sink) x in
    let took = subst P same (c.in_ok-went.ensures.ok (next.0) (next.1)) in
    let Q : Bool → Type 0 = λ b. IsTurned o r c.take_turn.new.running c.take_turn.new.plain.state b in
    let goes = subst Q c.if-not-went.false (c.in_ok-went.ensures.turned (next.0) (next.1)) in
    let all = rw (sym c.loop.invariant.statements) at c.requires.written in
    let written = at_place is_written r.statements r.ran (next.0) all (next.1) in
    let one = c.loop.invariant.faults in
    let two = c.in_ok-went.ensures.never_falls in
    record {
      schema = c.loop.invariant.schema ∙ sym (c.in_ok-went.ensures.keeps.0);
      legal = stays_legal c.laws_of_states.ensures.statement (present c.loop.plain.state r.variables) (next.0) r c.take_turn.new.running c.take_turn.new.plain.state c.loop.invariant.legal written goes;
      mark = c.in_ok-went.ensures.keeps.1 ∙ c.loop.invariant.mark;
      statements = c.in_ok-went.ensures.statements ∙ c.loop.invariant.statements;
      ran = ran_on o r c.take_turn.new.running c.take_turn.new.plain.state goes ∙ ap (λ n. n + 1) c.loop.invariant.ran;
      turn = next_turn c.args.first c.loop.turn c.loop.counter c.loop.invariant.turn;
      on = more c.args.plain.now.state c.args.first c.args.commits c.args.transaction.statements c.loop.turn.number c.loop.plain.state c.take_turn.new.plain.state r c.take_turn.new.running (next.0) _ _ _ c.loop.invariant.on (next.2) took goes;
      faults = omega (arith, one, two);
    }

pub returns-in_err-commit-clause-err : goal.returns-in_err-commit-clause-err
returns-in_err-commit-clause-err g c =
    let r = c.loop.running in
    let none : drop r.ran r.statements ≡ [] =
    (let count = rw c.begin-running.ensures at c.left-end.ensures in
    let test = c.loop-test.false in
    let past = c.loop.auto.counter-end in
    none_left r.statements r.ran (rw (c.loop.invariant.ran, c.loop.invariant.statements) (omega (arith, count, test, past)))) in
    let same = commit_in_turn c.args.first c.loop.turn _ (commit_tail (c.args.commits + 1)) c.loop.invariant.turn in
    let P : List ℕ → Type 0 = λ x. TakesFront (g.K.Sink.state c.loop.sink) (g.K.Sink.state c.commit.new.sink) x in
    let front = subst P same c.in_err-commit.ensures.err in
    on_err _ (front_of_commit c.args.plain.now.state c.args.first c.args.commits c.args.transaction.statements c.loop.turn.number c.loop.plain.state r _ _ _ c.loop.invariant.on none front)

pub returns-clause-ok : goal.returns-clause-ok
returns-clause-ok g c =
    let r = c.loop.running in
    let none : drop r.ran r.statements ≡ [] =
    (let count = rw c.begin-running.ensures at c.left-end.ensures in
    let test = c.loop-test.false in
    let past = c.loop.auto.counter-end in
    none_left r.statements r.ran (rw (c.loop.invariant.ran, c.loop.invariant.statements) (omega (arith, count, test, past)))) in
    let same = commit_in_turn c.args.first c.loop.turn _ (commit_tail (c.args.commits + 1)) c.loop.invariant.turn in
    let P : List ℕ → Type 0 = λ x. TakesAll (g.K.Sink.state c.loop.sink) (g.K.Sink.state c.commit.new.sink) x in
    let took = subst P same c.in_ok-commit.ensures.ok in
    let ended = committed c.args.plain.now.state c.args.first c.args.commits c.args.transaction.statements c.loop.turn.number c.loop.plain.state r _ _ _ c.loop.invariant.on none took in
    ended.taken

pub returns-clause-state : goal.returns-clause-state
returns-clause-state g c =
    let r = c.loop.running in
    let none : drop r.ran r.statements ≡ [] =
    (let count = rw c.begin-running.ensures at c.left-end.ensures in
    let test = c.loop-test.false in
    let past = c.loop.auto.counter-end in
    none_left r.statements r.ran (rw (c.loop.invariant.ran, c.loop.invariant.statements) (omega (arith, count, test, past)))) in
    let same = commit_in_turn c.args.first c.loop.turn _ (commit_tail (c.args.commits + 1)) c.loop.invariant.turn in
    let P : List ℕ → Type 0 = λ x. TakesAll (g.K.Sink.state c.loop.sink) (g.K.Sink.state c.commit.new.sink) x in
    let took = subst P same c.in_ok-commit.ensures.ok in
    let ended = committed c.args.plain.now.state c.args.first c.args.commits c.args.transaction.statements c.loop.turn.number c.loop.plain.state r _ _ _ c.loop.invariant.on none took in
    ended.leaves

pub returns-clause-ended : goal.returns-clause-ended
returns-clause-ended g c =
    let r = c.loop.running in
    let none : drop r.ran r.statements ≡ [] =
    (let count = rw c.begin-running.ensures at c.left-end.ensures in
    let test = c.loop-test.false in
    let past = c.loop.auto.counter-end in
    none_left r.statements r.ran (rw (c.loop.invariant.ran, c.loop.invariant.statements) (omega (arith, count, test, past)))) in
    let same = commit_in_turn c.args.first c.loop.turn _ (commit_tail (c.args.commits + 1)) c.loop.invariant.turn in
    let P : List ℕ → Type 0 = λ x. TakesAll (g.K.Sink.state c.loop.sink) (g.K.Sink.state c.commit.new.sink) x in
    let took = subst P same c.in_ok-commit.ensures.ok in
    let ended = committed c.args.plain.now.state c.args.first c.args.commits c.args.transaction.statements c.loop.turn.number c.loop.plain.state r _ _ _ c.loop.invariant.on none took in
    let at = ap (λ turn. turn.number) c.loop.invariant.turn in
    let bound = c.left-end.type_inv in
    let past = c.loop.auto.counter-end in
    (ended.commits_or_not, ended.counted, omega (arith, at, bound, past))

pub returns-then-not-went-clause-schema : goal.returns-then-not-went-clause-schema
returns-then-not-went-clause-schema g c =
    ap (λ held. held.state.schema) c.roll_back.ensures ∙ ap (λ state. state.schema) (c.in_ok-went.ensures.keeps.1 ∙ c.loop.invariant.mark)

pub returns-clause-schema : goal.returns-clause-schema
returns-clause-schema g c = sym c.loop.invariant.schema ∙ c.requires.schema
