use Rattle.st_schema_bytes.proofs.ByteLaws.{one-schema, short-bytes}
use Rattle.st_schema_bytes.proofs.Narrow.{narrow}
use Rattle.st_schema_bytes.specs.SchemaBytes.{schema_text}
use Rattle.st_schema_bytes.proofs.laws.laws_of_schema_bytes.Goals as goal

pub returns-clause-same : goal.returns-clause-same
returns-clause-same c = one-schema c.laws_of_canonical_texts.ensures.same c.laws_of_texts.ensures.no_other c.laws_of_canonical_texts.ensures.short

pub returns-clause-short : goal.returns-clause-short
unfolding schema_text
returns-clause-short c = λ schema readable.
    short-bytes schema (c.laws_of_canonical_texts.ensures.short readable.0 schema readable.1) (c.laws_of_schemas.ensures.orderly readable.0 schema readable.1).few_attributes

pub returns-clause-narrow : goal.returns-clause-narrow
returns-clause-narrow c = λ schema readable. narrow readable.0 schema readable.1
