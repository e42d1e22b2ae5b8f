-- How the forms of a schema's text are written: the grammar, with the place of what does not fit, in one pass in text order.
-- What stands at a place and does not fit is `fault.Form` of it.
use Rattle.std.specs.Prelude.{ℕ, ℤ, pos, Bool, true, false, ◌&&◌, nat_le, if◌then◌else◌, List, [], ◌∷◌, ◌++◌, Option, Some, None, Result, Ok, Err, codes}
use Rattle.std.specs.List.{list_any}
use Rattle.std.specs.Option.{option_and_then, option_map, ok_or}
use Rattle.std.specs.Str.{bytes_eq}
use Rattle.st_sexp.specs.declared.form.Form.{Form}
use Rattle.st_sexp.specs.Views.{as_name, as_number, is_word}
use Rattle.st_sexp.specs.Names.{is_name}
use Rattle.st_sexp.specs.Items.{and_then, only_if, identifier, behind, name_at, forms_at, next_at, end_of}
use Rattle.st_schema.specs.declared.fault.SchemaFault.{SchemaFault}
use Rattle.st_schema.specs.declared.fault.SchemaFault.TheVariants as fault
use Rattle.st_schema.specs.declared.written.Setting.{Setting}
use Rattle.st_schema.specs.declared.written.Setting.TheVariants as setting
use Rattle.st_schema.specs.declared.written.Choice.{Choice}
use Rattle.st_schema.specs.declared.written.Worded.{Worded}
use Rattle.st_schema.specs.declared.written.Worded.TheVariants as worded
use Rattle.st_schema.specs.declared.written.AttributeForm.{AttributeForm}
use Rattle.st_schema.specs.declared.written.TypeForm.{TypeForm}
use Rattle.st_schema.specs.declared.written.Written.{Written}

-- what is read of something, or a fault
abbrev pub Reading : Type 0 → Type 0
Reading A = Result A SchemaFault

-- what a fault tells of the forms; want of memory tells nothing
abbrev pub told : SchemaFault → Option SchemaFault
told fault.Memory = None
told f = Some f

-- (string N), N from 1 to 200
abbrev pub size_of : Option ℤ → Option ℕ
size_of (Some (pos n)) = only_if (nat_le 1 n && nat_le n 200) n
size_of _ = None

abbrev pub size_at : Form → Reading ℕ
size_at form = ok_or (size_of (as_number form)) (fault.Form form.from)

abbrev pub sized_string : ℕ → List Form → Reading Worded
sized_string place parts = and_then (next_at fault.Form place parts) (λ p. and_then (size_at (p.0)) (λ size. end_of fault.Form (p.1) (worded.Text size)))

-- the type of single values, by its word: `string` has at most 80 bytes
abbrev pub type_word : List ℕ → Option Worded
type_word word =
    if bytes_eq word (codes "integer") then Some worded.Int
    else (if bytes_eq word (codes "boolean") then Some worded.Bool
    else (if bytes_eq word (codes "string") then Some (worded.Text 80)
    else only_if (is_name word) (worded.Entity word)))

abbrev pub worded_at : Form → Option (List Form) → Reading Worded
worded_at form (Some parts) = sized_string form.from parts
worded_at form None = ok_or (option_and_then type_word (as_name form)) (fault.Form form.from)

-- integer, boolean, string, (string N), or the name of a type
abbrev pub single_type : Form → Reading Worded
single_type form = worded_at form (behind (codes "string") form)

-- (set-of TYPE)
abbrev pub set_type : ℕ → List Form → Reading (Worded × Bool)
set_type place parts = and_then (next_at fault.Form place parts) (λ p. and_then (single_type (p.0)) (λ w. end_of fault.Form (p.1) (w, true)))

abbrev pub type_at : Form → Option (List Form) → Reading (Worded × Bool)
type_at form (Some parts) = set_type form.from parts
type_at form None = and_then (single_type form) (λ w. Ok (w, false))

-- the type of an attribute's values, and whether it has sets of them
abbrev pub value_type : Form → Reading (Worded × Bool)
value_type form = type_at form (behind (codes "set-of") form)

-- t or nil
abbrev pub truth : Form → Option Bool
truth form = if is_word form (codes "t") then Some true else (if is_word form (codes "nil") then Some false else None)

-- the word of an option
abbrev pub word_of : Setting → List ℕ
word_of (setting.Inverse name) = codes ":inverse"
word_of (setting.Unique on) = codes ":unique"
word_of (setting.NoNulls on) = codes ":no-nulls"
word_of (setting.Index on) = codes ":index"

-- an option by its word and its value
abbrev pub setting_of : List ℕ → Form → Option Setting
setting_of word value =
    if bytes_eq word (codes ":inverse") then option_map setting.Inverse (identifier value)
    else (if bytes_eq word (codes ":unique") then option_map setting.Unique (truth value)
    else (if bytes_eq word (codes ":no-nulls") then option_map setting.NoNulls (truth value)
    else (if bytes_eq word (codes ":index") then option_map setting.Index (truth value) else None)))

-- whether an option of this word was given
abbrev pub is_given : List ℕ → List Choice → Bool
is_given word choices = list_any (λ c. bytes_eq (word_of c.setting) word) choices

-- an option that was not given before
abbrev pub new_choice : List Choice → ℕ → List ℕ → Form → Option Choice
new_choice before place word value =
    if is_given word before then None else option_map (λ s. record { setting = s; place = place }) (setting_of word value)

-- the word of an option: any name
abbrev pub option_word : Form → Reading (List ℕ)
option_word form = ok_or (as_name form) (fault.Form form.from)

-- an option: a word and its value
abbrev pub choice_at : List Choice → Form → Form → Reading Choice
choice_at before word value =
    and_then (option_word word) (λ letters. ok_or (new_choice before word.from letters value) (fault.BadOption word.from))

-- options with one more behind them
abbrev pub choices_with : List Choice → Form → Form → Reading (List Choice)
choices_with before word value = and_then (choice_at before word value) (λ choice. Ok (before ++ choice ∷ []))

-- Options behind others, each a word and its value. An unknown or repeated word, and a wrong or missing value, are a
-- bad option at the word.
abbrev pub choices_after : List Choice → List Form → Reading (List Choice)
choices_after before [] = Ok before
choices_after before (word ∷ []) = and_then (option_word word) (λ letters. Err (fault.BadOption word.from))
choices_after before (word ∷ value ∷ more) = and_then (choices_with before word value) (λ choices. choices_after choices more)

-- (ATTRIBUTE TYPE OPTION ..)
abbrev pub attribute_parts : ℕ → List Form → Reading AttributeForm
attribute_parts place parts =
    and_then (next_at fault.Form place parts) (λ p. and_then (name_at fault.Form (p.0)) (λ name. and_then (next_at fault.Form place (p.1)) (λ q. and_then (value_type (q.0)) (λ ty.
    and_then (choices_after [] (q.1)) (λ choices. Ok (record { name = name; worded = ty.0; many = ty.1; choices = choices }))))))

abbrev pub attribute_form : Form → Reading AttributeForm
attribute_form form = and_then (forms_at fault.Form form) (λ parts. attribute_parts form.from parts)

abbrev pub attribute_forms : List Form → Reading (List AttributeForm)
attribute_forms [] = Ok []
attribute_forms (form ∷ forms) = and_then (attribute_form form) (λ a. and_then (attribute_forms forms) (λ more. Ok (a ∷ more)))

-- names, as those of parents
abbrev pub names_at : List Form → Reading (List (List ℕ))
names_at [] = Ok []
names_at (form ∷ forms) = and_then (name_at fault.Form form) (λ name. and_then (names_at forms) (λ more. Ok (name ∷ more)))

-- the attributes of a type, which end its form
abbrev pub last_attributes : ℕ → List Form → Reading (List AttributeForm)
last_attributes place parts = and_then (next_at fault.Form place parts) (λ p. and_then (forms_at fault.Form (p.0)) (λ forms. and_then (attribute_forms forms) (λ attributes. end_of fault.Form (p.1) attributes)))

-- (define-entity-type NAME (PARENT ..) (ATTRIBUTE ..))
abbrev pub type_parts : ℕ → List Form → Reading TypeForm
type_parts place parts =
    and_then (next_at fault.Form place parts) (λ p. and_then (name_at fault.Form (p.0)) (λ name. and_then (next_at fault.Form place (p.1)) (λ q. and_then (forms_at fault.Form (q.0)) (λ forms. and_then (names_at forms) (λ parents.
    and_then (last_attributes place (q.1)) (λ attributes. Ok (record { name = name; parents = parents; attributes = attributes })))))))

abbrev pub type_form : Form → Reading TypeForm
type_form form = and_then (ok_or (behind (codes "define-entity-type") form) (fault.Form form.from)) (λ parts. type_parts form.from parts)

abbrev pub type_forms : List Form → Reading (List TypeForm)
type_forms [] = Ok []
type_forms (form ∷ forms) = and_then (type_form form) (λ t. and_then (type_forms forms) (λ more. Ok (t ∷ more)))

-- (define-schema NAME)
abbrev pub schema_name : ℕ → List Form → Reading (List ℕ)
schema_name place parts = and_then (next_at fault.Form place parts) (λ p. and_then (name_at fault.Form (p.0)) (λ name. end_of fault.Form (p.1) name))

-- the first form and at least one behind it
abbrev pub schema_parts : List Form → Option (Form × List Form)
schema_parts (definition ∷ ty ∷ types) = Some (definition, ty ∷ types)
schema_parts _ = None

-- the forms behind `define-schema` in the first form, and those of the types
abbrev pub schema_front : List Form → Option (List Form × Form × List Form)
schema_front forms =
    option_and_then (λ p. option_map (λ parts. (parts, p.0, p.1)) (behind (codes "define-schema") (p.0))) (schema_parts forms)

-- A schema as it is written: its definition in front, and at least one type behind it. Where one of these is wanting
-- the misfit is at 0.
abbrev pub written : List Form → Reading Written
written forms =
    and_then (ok_or (schema_front forms) (fault.Form 0)) (λ p. and_then (schema_name (p.1.from) (p.0)) (λ name. and_then (type_forms (p.2)) (λ types.
    Ok (record { name = name; types = types }))))
