-- A schema that was read is the one whose text it is.
use Rattle.std.proofs.Common.{◌≡◌, ◌≢◌, ◌⊎◌, ◌≤◌, ℕ, List, length, Result, Ok, Err, IfOk, sym, ap, ◌∙◌, subst, inl, inr}
use Rattle.st_token.specs.declared.fault.SexpFault.{SexpFault}
use Rattle.st_token.specs.declared.fault.SexpFault.TheVariants.{Memory}
use Rattle.st_sexp.specs.declared.form.Form.{Form}
use Rattle.st_sexp.specs.Reading.{Due, WantsMemory}
use Rattle.st_lattice.specs.Outline.{Outline}
use Rattle.st_schema.specs.Meaning.{schema_of}
use Rattle.st_schema.specs.Canonical.{canonical}
use Rattle.st_schema_bytes.specs.SchemaBytes.{schema_text, IsReadable, IsShort}
use Rattle.st_schema_bytes.specs.declared.fault.StoredFault.{StoredFault}

-- exactly one answer is due for a text; a canonical text reads as its schema
abbrev pub NoOther : Type 0
NoOther = (text : List ℕ) (a b : Result (List Form) SexpFault) → Due text a → Due text b → WantsMemory a ⊎ WantsMemory b ⊎ (a ≡ b)

abbrev pub Same : Type 0
Same = (forms : List Form) (schema : Outline) → schema_of forms ≡ Ok schema → (again : List Form) × Due (canonical schema) (Ok again) × (schema_of again ≡ Ok schema)

ok-is : {A E : Type 0} (x y : A) → ◌≡◌ {A = Result A E} (Ok x) (Ok y) → x ≡ y
ok-is x y e = cc

ok-err : (forms : List Form) (fault : SexpFault) → ◌≡◌ {A = Result (List Form) SexpFault} (Ok forms) (Err fault) → ⊥
ok-err forms fault e = cc

-- forms that are due for a text are those that it spells, and no fault is due for such a text
forms-are : NoOther → (text : List ℕ) (a b : List Form) → Due text (Ok a) → Due text (Ok b) → a ≡ b
forms-are no_other text a b first second =
    elim (no_other text (Ok a) (Ok b) first second) [
      | inl wants ↦ absurd (ok-err a Memory wants)
      | inr (inl wants) ↦ absurd (ok-err b Memory wants)
      | inr (inr one) ↦ ok-is a b one
    ]

no-fault : NoOther → (text : List ℕ) (fault : SexpFault) (b : List Form) → Due text (Err fault) → Due text (Ok b) → fault ≢ Memory → ⊥
no-fault no_other text fault b first second other =
    elim (no_other text (Err fault) (Ok b) first second) [
      | inl wants ↦ other (err-is fault Memory wants)
      | inr (inl wants) ↦ absurd (ok-err b Memory wants)
      | inr (inr one) ↦ ok-err b fault (sym one)
    ]
  where
    err-is : (x y : SexpFault) → ◌≡◌ {A = Result (List Form) SexpFault} (Err x) (Err y) → x ≡ y
    err-is x y e = cc

-- the forms of a schema's text are read as the schema
pub again : Same → NoOther → (text : List ℕ) (schema : Outline) (forms : List Form) → IsReadable schema → text ≡ schema_text schema → Due text (Ok forms) → schema_of forms ≡ Ok schema
unfolding schema_text
again same no_other text schema forms readable e due =
    let law = same readable.0 schema readable.1 in
    ap schema_of (forms-are no_other (canonical schema) forms law.0 (subst (λ (t : List ℕ). Due t (Ok forms)) e due) law.1) ∙ law.2

-- a schema's text has no fault
pub sound : Same → NoOther → (text : List ℕ) (schema : Outline) (fault : SexpFault) → IsReadable schema → text ≡ schema_text schema → Due text (Err fault) → fault ≢ Memory → ⊥
unfolding schema_text
sound same no_other text schema fault readable e due other =
    let law = same readable.0 schema readable.1 in
    no-fault no_other (canonical schema) fault law.0 (subst (λ (t : List ℕ). Due t (Err fault)) e due) law.1 other

-- schemas with one text are one
pub one-text : Same → NoOther → (a b : Outline) → IsReadable a → IsReadable b → schema_text a ≡ schema_text b → a ≡ b
unfolding schema_text
one-text same no_other a b first second e =
    let law = same (first.0) a (first.1) in
    let other = again same no_other (canonical a) b law.0 second e law.1 in
    ok-is a b (sym law.2 ∙ other)

-- what was found is the schema whose forms these are
pub found-is : (found : Result Outline StoredFault) (forms : List Form) (schema : Outline) → IfOk found (λ s. schema_of forms ≡ Ok s) → schema_of forms ≡ Ok schema → IfOk found (λ s. s ≡ schema)
found-is (Ok s) forms schema is e = ok-is s schema (sym is ∙ e)
found-is (Err fault) forms schema is e = tt

-- what was found has a short text
abbrev pub Short : Type 0
Short = (forms : List Form) (schema : Outline) → schema_of forms ≡ Ok schema → length (canonical schema) ≤ 1048576

pub found-short : Short → (found : Result Outline StoredFault) (forms : List Form) → IfOk found (λ s. schema_of forms ≡ Ok s) → IfOk found IsShort
unfolding schema_text
found-short short (Ok s) forms is = short forms s is
found-short short (Err fault) forms is = tt

-- where forms are refused, the text is that of no schema
pub refused : Same → NoOther → (text : List ℕ) → ((fault : SexpFault) × Due text (Err fault) × (fault ≢ Memory)) → (schema : Outline) → IsReadable schema → text ≢ schema_text schema
refused same no_other text due schema readable e = sound same no_other text schema due.0 readable e due.1 due.2

-- the same fault, whatever is asked for
fault-is : {A : Type 0} (x y : StoredFault) → ◌≡◌ {A = Result A StoredFault} (Err x) (Err y) → x ≡ y
fault-is x y e = cc

pub other-err : {A B : Type 0} (x y : StoredFault) → ◌≡◌ {A = Result A StoredFault} (Err x) (Err y) → ◌≡◌ {A = Result B StoredFault} (Err x) (Err y)
other-err {A} {B} x y e = ap (λ (z : StoredFault). Err z) (fault-is {A = A} x y e)
