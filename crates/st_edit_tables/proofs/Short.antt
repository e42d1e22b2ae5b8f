-- The canonical text of a schema that was read is short.
use Rattle.std.proofs.Common.{◌≡◌, ◌≤◌, List, length, Result, Ok, Err, IfOk}
use Rattle.st_sexp.specs.declared.form.Form.{Form}
use Rattle.st_lattice.specs.Outline.{Outline}
use Rattle.st_schema.specs.declared.fault.SchemaFault.{SchemaFault}
use Rattle.st_schema.specs.Meaning.{schema_of}
use Rattle.st_schema.specs.Canonical.{canonical}
use Rattle.st_schema_bytes.specs.SchemaBytes.{schema_text, IsShort}

abbrev Short : Type 0
Short = (forms : List Form) (schema : Outline) → schema_of forms ≡ Ok schema → length (canonical schema) ≤ 1048576

pub found-short : Short → (found : Result Outline SchemaFault) (forms : List Form) → IfOk found (λ s. schema_of forms ≡ Ok s) → IfOk found IsShort
unfolding schema_text
found-short short (Ok s) forms is = short forms s is
found-short short (Err fault) forms is = tt
