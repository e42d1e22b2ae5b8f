use Rattle.st_schema.proofs.RoundTrip.{canonical_reads, canonical_short}
use Rattle.st_schema.proofs.laws.laws_of_canonical_texts.Goals as goal

pub returns : goal.returns
returns c = record { same = canonical_reads; short = canonical_short }
