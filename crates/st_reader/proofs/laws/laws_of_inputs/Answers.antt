use Rattle.st_statements.specs.Queries.{query_at}
use Rattle.st_reader.specs.Scripts.{script, transaction_at, one_form}
use Rattle.st_reader.proofs.OneAnswer.{some_answer, no_other}
use Rattle.st_reader.proofs.laws.laws_of_inputs.Goals as goal

pub returns : goal.returns
returns c =
    let texts = c.laws_of_texts.ensures in
    record {
      some_script = some_answer texts.some_answer script;
      one_script = no_other texts.no_other script;
      some_query = some_answer texts.some_answer (one_form query_at);
      one_query = no_other texts.no_other (one_form query_at);
      some_transaction = some_answer texts.some_answer (one_form transaction_at);
      one_transaction = no_other texts.no_other (one_form transaction_at);
    }
