use Rattle.st_reader.specs.Scripts.{transaction_at, one_form}
use Rattle.st_reader.specs.Inputs.{is_transaction}
use Rattle.st_reader.proofs.Written.{one_good}
use Rattle.st_reader.proofs.Promises.{due_good}
use Rattle.st_reader.proofs.input.read_transaction.Goals as goal

pub returns-clause-written : goal.returns-clause-written
returns-clause-written c = due_good is_transaction (one_form transaction_at) one_good c.args.bytes.now c.transaction_of.result c.transaction_of.ensures
