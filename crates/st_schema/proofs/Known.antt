-- What is known of a schema that was read.
use Rattle.std.proofs.Common.{◌≡◌, List, None, Ok, sym, subst}
use Rattle.st_sexp.specs.declared.form.Form.{Form}
use Rattle.st_lattice.specs.Outline.{Outline, IsOrderly}
use Rattle.st_lattice.specs.Consistent.{IsConsistent}
use Rattle.st_schema.specs.Meaning.{schema_of, schema_fault}
use Rattle.st_schema.proofs.RoundTrip.{was_read}
use Rattle.st_schema.proofs.Orderly.{resolved_orderly}
use Rattle.st_schema.proofs.Apart.{resolved_consistent}

pub read_orderly : (forms : List Form) (schema : Outline) → schema_of forms ≡ Ok schema → IsOrderly schema
read_orderly forms schema is = let was = was_read forms schema is in subst IsOrderly was.same (resolved_orderly was.w was.fits)

pub read_consistent : (forms : List Form) (schema : Outline) → schema_of forms ≡ Ok schema → IsConsistent schema
read_consistent forms schema is =
    let was = was_read forms schema is in
    subst IsConsistent was.same (resolved_consistent was.w was.fits (resolved_orderly was.w was.fits) (subst (λ s. schema_fault s ≡ None) (sym was.same) was.right))
