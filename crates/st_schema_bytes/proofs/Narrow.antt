-- The rows of a schema that was read have at most 1,000 bytes.
use Rattle.std.proofs.Common.{◌≡◌, ℕ, zero, suc, ◌+◌, ◌<◌, ◌≤◌, Bool, true, false, if◌then◌else◌, nat_lt, List, length, Option, Some, None, Result, Ok, Err, refl, ap, ◌∙◌, subst, arith, ◌==◌}
use Rattle.std.proofs.lemmas.Bool.Decides.{nat_tests}
use Rattle.std.specs.List.{range_with_len}
use Rattle.std.specs.Option.{option_or}
use Rattle.st_sexp.specs.declared.form.Form.{Form}
use Rattle.st_sexp.specs.Items.{and_then}
use Rattle.st_lattice.specs.Outline.{Outline, type_name}
use Rattle.st_lattice.specs.Lattice.{below}
use Rattle.st_lattice.specs.Features.{features}
use Rattle.st_lattice.specs.Stores.{row_width}
use Rattle.st_schema.specs.declared.fault.SchemaFault.{SchemaFault}
use Rattle.st_schema.specs.declared.fault.SchemaFault.TheVariants.{RowTooWide}
use Rattle.st_schema.specs.declared.written.Written.{Written}
use Rattle.st_schema.specs.Written.{written}
use Rattle.st_schema.specs.Checks.{unless, written_fault}
use Rattle.st_schema.specs.Resolved.{resolved}
use Rattle.st_schema.specs.Meaning.{schema_of, schema_fault, first_of, wide_at, ambiguous_at, repeated_feature}

none-of : (a b : Option SchemaFault) → option_or a b ≡ None → (a ≡ None) × (b ≡ None)
none-of None b e = (refl, e)
none-of (Some x) b e = cc

split : (b : Bool) (A : Type 0) → (b ≡ true → A) → (b ≡ false → A) → A
split true A f g = f refl
split false A f g = g refl

-- a test that finds no fault in a range finds none at a number of it
no-fault : (fault : ℕ → Option SchemaFault) (from count : ℕ) → first_of fault (range_with_len from count) ≡ None → (n : ℕ) → from ≤ n → n < from + count → fault n ≡ None
no-fault fault from zero e n low high = absurd (omega (arith, low, high))
no-fault fault from (suc count) e n low high =
    let both = none-of (fault from) (first_of fault (range_with_len (from + 1) count)) e in
    split (n == from) (fault n ≡ None)
    (λ same. let is : n ≡ from = grind (arith, nat_tests) in ap fault is ∙ both.0)
    (λ other. let above : from + 1 ≤ n = grind (arith, nat_tests) in no-fault fault (from + 1) count both.1 n above (omega (arith, high)))

narrow-if : (b : Bool) (schema : Outline) (ty : ℕ) (x : SchemaFault) → nat_lt 1000 (row_width schema ty) ≡ b → (if b then Some x else None) ≡ None → row_width schema ty ≤ 1000
narrow-if true schema ty x is e = cc
narrow-if false schema ty x is e = grind (arith, nat_tests)

unless-is : (fault : Option SchemaFault) (s schema : Outline) → unless fault s ≡ Ok schema → (fault ≡ None) × (s ≡ schema)
unless-is None s schema e = (refl, cc)
unless-is (Some f) s schema e = cc

checked : (w : Written) (fault : Option SchemaFault) (s schema : Outline) → and_then (unless fault s) (λ t. unless (schema_fault t) t) ≡ Ok schema → schema_fault schema ≡ None
checked w None s schema e =
    let both = unless-is (schema_fault s) s schema e in
    subst (λ t. schema_fault t ≡ None) both.1 both.0
checked w (Some f) s schema e = cc

sound : (read : Result Written SchemaFault) (schema : Outline) → and_then read (λ w. and_then (unless (written_fault w.types) (resolved w)) (λ t. unless (schema_fault t) t)) ≡ Ok schema → schema_fault schema ≡ None
sound (Ok w) schema e = checked w (written_fault w.types) (resolved w) schema e
sound (Err f) schema e = cc

pub narrow : (forms : List Form) (schema : Outline) → schema_of forms ≡ Ok schema → (ty : ℕ) → ty < length schema.names → row_width schema ty ≤ 1000
narrow forms schema e ty known =
    let types = below (length schema.names) in
    let all = none-of (repeated_feature schema) (option_or (first_of (ambiguous_at schema (features schema)) types) (first_of (wide_at schema) types)) (sound (written forms) schema e) in
    let last = none-of (first_of (ambiguous_at schema (features schema)) types) (first_of (wide_at schema) types) all.1 in
    narrow-if (nat_lt 1000 (row_width schema ty)) schema ty (RowTooWide (type_name schema ty) (row_width schema ty)) refl (no-fault (wide_at schema) 0 (length schema.names) last.1 ty (omega arith) (omega (arith, known)))
