use Rattle.st_new_database.proofs.Named.{new-has}
use Rattle.st_new_database.proofs.laws.laws_of_new_databases.Goals as goal

pub returns : goal.returns
returns c schema firsts pages readable same low has =
    let orderly = c.laws_of_schemas.ensures.orderly readable.0 schema readable.1 in
    let due = c.laws_of_canonical_texts.ensures.same readable.0 schema readable.1 in
    new-has schema firsts pages readable orderly (due.1).0 (c.laws_of_canonical_texts.ensures.short readable.0 schema readable.1) (c.laws_of_stores.ensures schema orderly) same low has
