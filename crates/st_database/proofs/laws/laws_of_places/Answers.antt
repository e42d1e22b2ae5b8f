use Rattle.st_database.proofs.Brief.{lone-sets, plain-attributes, short-keys}
use Rattle.st_database.proofs.Fair.{fair-places}
use Rattle.st_database.proofs.laws.laws_of_places.Goals as goal

pub returns-clause-fair : goal.returns-clause-fair
returns-clause-fair c = λ array schema places has.
    let readable = has.spells.readable in
    fair-places schema (c.laws_of_schemas.ensures.orderly readable.0 schema readable.1) (c.laws_of_schema_bytes.ensures.narrow schema readable) (short-keys readable.0 schema readable.1) places has.names.of

pub returns-clause-in_rows : goal.returns-clause-in_rows
returns-clause-in_rows c = λ array schema places has. let all = plain-attributes has.spells.readable.0 schema has.spells.readable.1 in λ i d within. (all i d within).in_rows

pub returns-clause-indexed : goal.returns-clause-indexed
returns-clause-indexed c = λ array schema places has. let all = plain-attributes has.spells.readable.0 schema has.spells.readable.1 in λ i d within. (all i d within).indexed

pub returns-clause-sets : goal.returns-clause-sets
returns-clause-sets c = λ array schema places has. lone-sets has.spells.readable.0 schema has.spells.readable.1
