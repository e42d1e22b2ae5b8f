use Rattle.st_schema.proofs.Known.{read_orderly, read_consistent}
use Rattle.st_schema.proofs.Memoryless.{never_memory}
use Rattle.st_schema.proofs.laws.laws_of_schemas.Goals as goal

pub returns : goal.returns
returns c = record { orderly = read_orderly; consistent = read_consistent; told = never_memory }
