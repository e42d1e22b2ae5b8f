use Rattle.st_edit_tables.proofs.Short.{found-short}
use Rattle.st_edit_tables.proofs.schemas.short_schema.Goals as goal

pub returns : goal.returns
returns c = found-short c.laws_of_canonical_texts.ensures.short c.schema_from.result c.args.forms.now c.schema_from.ensures
