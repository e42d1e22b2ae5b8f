-- The canonical text of a schema that was read is read as that schema.
use Rattle.std.proofs.Common.{◌≡◌, ◌≤◌, length, List, [], ◌∷◌, ◌++◌, Option, Some, None, Ok, refl, ap, sym, ◌∙◌, subst}
use Rattle.st_sexp.specs.declared.form.Form.{Form}
use Rattle.st_sexp.specs.Reading.{Due}
use Rattle.st_sexp.proofs.Steps.{step}
use Rattle.st_lattice.specs.Outline.{Outline}
use Rattle.st_schema.specs.declared.fault.SchemaFault.{SchemaFault}
use Rattle.st_schema.specs.declared.written.Written.{Written}
use Rattle.st_sexp.specs.Items.{and_then}
use Rattle.st_schema.specs.Written.{written}
use Rattle.st_schema.specs.Checks.{unless, written_fault}
use Rattle.st_schema.specs.Resolved.{resolved}
use Rattle.st_schema.specs.Meaning.{schema_of, schema_fault}
use Rattle.st_schema.specs.Canonical.{canonical}
use Rattle.st_schema.proofs.Text.{text_of}
use Rattle.st_schema.proofs.Whole.{ReadsWritten, whole_reads}
use Rattle.st_schema.proofs.Content.{no_fault, same_fault, same_resolved}
use Rattle.st_schema.proofs.Grammar.{written_good}
use Rattle.st_schema.proofs.Canon.{canonical-resolved}
use Rattle.st_schema.proofs.Size.{text_short}

unless_ok : {A : Type 0} (fault : Option SchemaFault) (x y : A) → unless fault x ≡ Ok y → (fault ≡ None) × (x ≡ y)
unless_ok None x y is = (refl, cc)
unless_ok (Some fault) x y is = absurd (cc)

-- how a schema was read
pub record WasRead (forms : List Form) (schema : Outline) : Type 0 where
  pub w : Written
  pub reads : written forms ≡ Ok w
  pub fits : written_fault w.types ≡ None
  pub same : resolved w ≡ schema
  pub right : schema_fault schema ≡ None

pub was_read : (forms : List Form) (schema : Outline) → schema_of forms ≡ Ok schema → WasRead forms schema
was_read forms schema is =
    let one = step (written forms) (λ w. and_then (unless (written_fault w.types) (resolved w)) (λ schema. unless (schema_fault schema) schema)) schema is in
    let two = step (unless (written_fault one.value.types) (resolved one.value)) (λ schema. unless (schema_fault schema) schema) schema one.then in
    let fits = unless_ok (written_fault one.value.types) (resolved one.value) two.value two.was in
    let right = unless_ok (schema_fault two.value) two.value schema two.then in
    record {
      w = one.value;
      reads = one.was;
      fits = fits.0;
      same = fits.1 ∙ right.1;
      right = subst (λ schema. schema_fault schema ≡ None) right.1 right.0;
    }

-- forms of a written schema that no check refuses are the schema that it means
is_schema : (forms : List Form) (w : Written) (schema : Outline) → written forms ≡ Ok w → written_fault w.types ≡ None → resolved w ≡ schema → schema_fault schema ≡ None → schema_of forms ≡ Ok schema
is_schema forms w schema reads fits same right =
    ap (λ read. and_then read (λ w. and_then (unless (written_fault w.types) (resolved w)) (λ schema. unless (schema_fault schema) schema))) reads
    ∙ ap (λ fault. and_then (unless fault (resolved w)) (λ schema. unless (schema_fault schema) schema)) fits
    ∙ ap (λ schema. unless (schema_fault schema) schema) same
    ∙ ap (λ fault. unless fault schema) right

reads_again : (w : Written) (schema : Outline) (again : List Form) → written_fault w.types ≡ None → resolved w ≡ schema → schema_fault schema ≡ None → ReadsWritten w again → schema_of again ≡ Ok schema
reads_again w schema again fits same right found =
    is_schema again found.again schema found.read (same_fault w.types found.again.types found.same.types fits) (same_resolved w found.again found.same ∙ same) right

pub canonical_reads : (forms : List Form) (schema : Outline) → schema_of forms ≡ Ok schema → (again : List Form) × Due (canonical schema) (Ok again) × (schema_of again ≡ Ok schema)
canonical_reads forms schema is =
    let was = was_read forms schema is in
    let found = whole_reads was.w (written_good forms was.w was.reads) in
    let text : text_of was.w ++ 10 ∷ [] ≡ canonical schema = sym (canonical-resolved was.w (no_fault was.w.types was.fits)) ∙ ap canonical was.same in
    (found.0, subst (λ text. Due text (Ok found.0)) text found.1, reads_again was.w schema found.0 was.fits was.same was.right found.2)

-- the canonical text of a schema that was read has no more bytes than a text may have
pub canonical_short : (forms : List Form) (schema : Outline) → schema_of forms ≡ Ok schema → length (canonical schema) ≤ 1048576
canonical_short forms schema is =
    let was = was_read forms schema is in
    let known = no_fault was.w.types was.fits in
    let text : text_of was.w ++ 10 ∷ [] ≡ canonical schema = sym (canonical-resolved was.w known) ∙ ap canonical was.same in
    subst (λ text. length text ≤ 1048576) text (text_short was.w (written_good forms was.w was.reads) known)
