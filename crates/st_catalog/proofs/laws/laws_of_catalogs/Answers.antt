use Rattle.st_catalog.proofs.Catalogs.{one-catalog, none-broken}
use Rattle.st_catalog.proofs.laws.laws_of_catalogs.Goals as goal

pub returns-clause-one : goal.returns-clause-one
returns-clause-one c = one-catalog c.laws_of_schema_bytes.ensures.same

pub returns-clause-none : goal.returns-clause-none
returns-clause-none c = none-broken c.laws_of_pages.ensures.wrong c.laws_of_schema_bytes.ensures.same
