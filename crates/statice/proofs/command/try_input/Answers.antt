use Rattle.std.proofs.Common.{◌≤◌, length, arith}
use Rattle.statice.proofs.Finding.{ends_answered, wanted}
use Rattle.statice.proofs.Taking.{some_input}
use Rattle.statice.proofs.command.try_input.Goals as goal

pub returns-in-Ok : goal.returns-in-Ok
returns-in-Ok g c =
    let short : length c.in-Ok.input.items ≤ 1048576 = omega (arith, c.in-Ok.ensures.size) in
    let answers = rw c.deref.ensures.value at c.answer.ensures.answers in
    record {
      ends = ends_answered (g.S.Source.state c.args.source.now) (g.S.Source.state c.read_input.new.source) (g.K.Sink.state c.args.sink.now) (g.K.Sink.state c.answer.new.sink) c.in-Ok.input.items c.answer.result c.in-Ok.ensures.bytes short answers;
      reads = c.read_input.ensures.reads;
      source_never_falls = c.read_input.ensures.never_falls;
      sink_never_falls = c.answer.ensures.never_falls;
    }

pub returns-in-Err-Memory : goal.returns-in-Err-Memory
returns-in-Err-Memory g c =
    let input = some_input (g.S.Source.state c.args.source.now).left in
    record {
      ends = (input.0, input.1, wanted (input.0) (g.K.Sink.state c.args.sink.now) (g.K.Sink.state c.tell-in-Err-Memory.new.sink) c.tell-in-Err-Memory.ensures.line);
      reads = c.read_input.ensures.reads;
      source_never_falls = c.read_input.ensures.never_falls;
      sink_never_falls = c.tell-in-Err-Memory.ensures.never_falls;
    }
