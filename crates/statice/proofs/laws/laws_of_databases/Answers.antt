use Rattle.statice.proofs.Legality.{all_legal}
use Rattle.statice.proofs.laws.laws_of_databases.Goals as goal

pub returns : goal.returns
returns c =
    let orderly = c.laws_of_schemas.ensures.orderly in
    let consistent = c.laws_of_schemas.ensures.consistent in
    let empty = c.laws_of_states.ensures.empty in
    record {
      new = λ forms schema is. empty schema (orderly forms schema is) (consistent forms schema is);
      later = λ forms schema is transactions written.
          all_legal c.laws_of_states.ensures.run _ transactions (empty schema (orderly forms schema is) (consistent forms schema is)) written;
    }
