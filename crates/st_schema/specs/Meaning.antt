-- The schema that forms are, or the first fault in them.
use Rattle.std.specs.Prelude.{ℕ, Bool, true, not, ◌&&◌, ◌==◌, nat_lt, if◌then◌else◌, List, [], ◌∷◌, ◌++◌, length, Option, Some, None}
use Rattle.std.specs.List.{list_any}
use Rattle.std.specs.Option.{option_or, option_map}
use Rattle.std.specs.Str.{bytes_eq}
use Rattle.std.specs.Ordering.{nat_cmp, is_lt}
use Rattle.std.specs.Cmp.Lexicographic.{slice_cmp}
use Rattle.st_sexp.specs.declared.form.Form.{Form}
use Rattle.st_sexp.specs.Items.{and_then}
use Rattle.st_lattice.specs.declared.feature.Named.{Named}
use Rattle.st_lattice.specs.Outline.{Outline, type_name}
use Rattle.st_lattice.specs.Lattice.{isa, below}
use Rattle.st_lattice.specs.Features.{features}
use Rattle.st_lattice.specs.Stores.{row_width}
use Rattle.st_schema.specs.declared.fault.SchemaFault.{SchemaFault}
use Rattle.st_schema.specs.declared.fault.SchemaFault.TheVariants.{Repeated, AmbiguousName, RowTooWide}
use Rattle.st_schema.specs.Written.{Reading, written}
use Rattle.st_schema.specs.Checks.{unless, written_fault}
use Rattle.st_schema.specs.Resolved.{resolved}

-- whether two features are the same type's, with one name
abbrev pub same_place : Named → Named → Bool
same_place f other = (other.ty == f.ty) && bytes_eq other.name f.name

-- the first feature that clashes with one before it; an attribute's own name stands before its inverse's
abbrev pub clash_after : List Named → List Named → Option (List ℕ)
clash_after before [] = None
clash_after before (f ∷ more) = if list_any (same_place f) before then Some f.name else clash_after (before ++ f ∷ []) more

-- the features of one type have different names
abbrev pub repeated_feature : Outline → Option SchemaFault
repeated_feature schema = option_map Repeated (clash_after [] (features schema))

-- whether a feature has the name of another one, and both come to a type from different types
abbrev pub clashes : Outline → ℕ → Named → Named → Bool
clashes schema ty f other = isa schema ty other.ty && not (other.ty == f.ty) && bytes_eq other.name f.name

abbrev pub is_ambiguous : Outline → ℕ → List Named → Named → Bool
is_ambiguous schema ty fs f = isa schema ty f.ty && list_any (clashes schema ty f) fs

-- whether a text stands before another by bytes
abbrev pub is_before : List ℕ → List ℕ → Bool
is_before a b = is_lt (slice_cmp nat_cmp a b)

-- whether a feature's name is less than the least so far
abbrev pub is_lesser : Option Named → Named → Bool
is_lesser None f = true
is_lesser (Some least) f = is_before f.name least.name

-- of a type's ambiguous features the first one whose name is the least by bytes
abbrev pub least_ambiguous : Outline → ℕ → List Named → Option Named → List Named → Option Named
least_ambiguous schema ty fs least [] = least
least_ambiguous schema ty fs least (f ∷ more) =
    least_ambiguous schema ty fs (if is_ambiguous schema ty fs f && is_lesser least f then Some f else least) more

abbrev pub ambiguous_at : Outline → List Named → ℕ → Option SchemaFault
ambiguous_at schema fs ty = option_map (λ f. AmbiguousName (type_name schema ty) f.name) (least_ambiguous schema ty fs None fs)

-- a row has at most 1,000 bytes
abbrev pub wide_at : Outline → ℕ → Option SchemaFault
wide_at schema ty = if nat_lt 1000 (row_width schema ty) then Some (RowTooWide (type_name schema ty) (row_width schema ty)) else None

-- the first fault of types
abbrev pub first_of : (ℕ → Option SchemaFault) → List ℕ → Option SchemaFault
first_of fault [] = None
first_of fault (ty ∷ types) = option_or (fault ty) (first_of fault types)

-- the first fault of the checks that come once types and attributes have numbers, check by check
abbrev pub schema_fault : Outline → Option SchemaFault
schema_fault schema =
    let types = below (length schema.names) in
    option_or (repeated_feature schema) (option_or (first_of (ambiguous_at schema (features schema)) types) (first_of (wide_at schema) types))

-- the schema of forms, or their first fault: their grammar, then the checks in their order
abbrev pub schema_of : List Form → Reading Outline
schema_of forms =
    and_then (written forms) (λ w. and_then (unless (written_fault w.types) (resolved w)) (λ schema. unless (schema_fault schema) schema))
