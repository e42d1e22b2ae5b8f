use Rattle.statice.proofs.Finding.{printed}
use Rattle.statice.proofs.command.answer.Goals as goal

pub returns-in-Ok-Program-clause-answers : goal.returns-in-Ok-Program-clause-answers
returns-in-Ok-Program-clause-answers g c =
    let found = rw c.in-Ok-Program.field-0-is at c.in-Ok-Program.ensures in
    printed c.args.input.now (c.in-Ok-Program.schema, c.in-Ok-Program.script) (g.K.Sink.state c.args.sink.now) (g.K.Sink.state c.run_program.new.sink) c.run_program.result c.requires (found.0) c.run_program.ensures.prints
