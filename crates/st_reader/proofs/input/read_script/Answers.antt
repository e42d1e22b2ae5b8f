use Rattle.std.specs.List.{list_all}
use Rattle.st_reader.specs.Scripts.{script}
use Rattle.st_reader.specs.Inputs.{is_transaction}
use Rattle.st_reader.proofs.Written.{script_good}
use Rattle.st_reader.proofs.Promises.{due_good}
use Rattle.st_reader.proofs.input.read_script.Goals as goal

pub returns-clause-written : goal.returns-clause-written
returns-clause-written c = due_good (list_all is_transaction) script script_good c.args.bytes.now c.script_of.result c.script_of.ensures
