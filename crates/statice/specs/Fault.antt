-- The fault of an input that is no program, and the line that tells it.
use Rattle.std.specs.Prelude.{◌≡◌, ℕ, List, [], ◌∷◌, ◌++◌, flat_map, codes, Option, Some, None, Result, Ok, Err}
use Rattle.std.specs.Option.{option_map}
use Rattle.std.specs.Fmt.{decimal, signed_decimal}
use Rattle.st_token.specs.declared.fault.SexpFault.{SexpFault}
use Rattle.st_token.specs.declared.fault.SexpFault.TheVariants as text
use Rattle.st_sexp.specs.declared.form.Form.{Form}
use Rattle.st_sexp.specs.Reading.{Due}
use Rattle.st_schema.specs.declared.fault.Counted.{Counted}
use Rattle.st_schema.specs.declared.fault.Counted.TheVariants.{Types, Attributes}
use Rattle.st_schema.specs.declared.fault.SchemaFault.{SchemaFault}
use Rattle.st_schema.specs.declared.fault.SchemaFault.TheVariants as schema
use Rattle.st_statements.specs.declared.fault.Misread.{Misread}
use Rattle.st_statements.specs.declared.fault.Misread.TheVariants as misread
use Rattle.statice.specs.Form.{Program, Flaw, InSchema, InScript, program_in}
use Rattle.statice.specs.Output.{fault_line}

-- the number of a text's fault, and its place; want of memory is no fault of the text
abbrev pub text_fault : SexpFault → Option (ℕ × ℕ)
text_fault (text.Unclosed place) = Some (1, place)
text_fault (text.Stray place) = Some (2, place)
text_fault (text.BadNumber place) = Some (3, place)
text_fault (text.TooDeep place) = Some (4, place)
text_fault (text.NotUtf8 place) = Some (5, place)
text_fault text.Memory = None

-- the line of a text's fault, from its number and its place
abbrev pub text_line : ℕ × ℕ → List ℕ
text_line numbers = fault_line (codes "text " ++ decimal (numbers.0) ++ 32 ∷ decimal (numbers.1))

-- what there are too many of
abbrev pub counted_word : Counted → List ℕ
counted_word Types = codes "types"
counted_word Attributes = codes "attributes"

-- the number of a schema's fault, and its fields as they are printed; want of memory is no fault of the schema
abbrev pub schema_fault : SchemaFault → Option (ℕ × List (List ℕ))
schema_fault (schema.Form place) = Some (1, decimal place ∷ [])
schema_fault (schema.Repeated name) = Some (2, name ∷ [])
schema_fault (schema.UnknownParent name) = Some (3, name ∷ [])
schema_fault (schema.UnknownType name) = Some (4, name ∷ [])
schema_fault (schema.AmbiguousName ty name) = Some (5, ty ∷ name ∷ [])
schema_fault (schema.RowTooWide ty width) = Some (6, ty ∷ decimal width ∷ [])
schema_fault (schema.TooMany what count) = Some (7, counted_word what ∷ decimal count ∷ [])
schema_fault (schema.BadOption place) = Some (8, decimal place ∷ [])
schema_fault schema.Memory = None

-- the line of a schema's fault, from its number and its fields, each behind a space
abbrev pub schema_line : ℕ × List (List ℕ) → List ℕ
schema_line parts = fault_line (codes "schema " ++ decimal (parts.0) ++ flat_map (λ field. 32 ∷ field) (parts.1))

-- the number of how a script is misread, and what it tells, as it is printed
abbrev pub script_fault : Misread → ℕ × List ℕ
script_fault (misread.Form place) = (1, decimal place)
script_fault (misread.TooManyStatements count) = (2, decimal count)
script_fault (misread.BadClient number) = (3, signed_decimal number)

-- the line of a script that is misread, from its number and what it tells
abbrev pub script_line : ℕ × List ℕ → List ℕ
script_line parts = fault_line (codes "script " ++ decimal (parts.0) ++ 32 ∷ parts.1)

-- the line that tells why forms are no program
abbrev pub flaw_line : Flaw → Option (List ℕ)
flaw_line (InSchema fault) = option_map schema_line (schema_fault fault)
flaw_line (InScript misread) = Some (script_line (script_fault misread))

-- the line for what forms are: that of the first fault; none of a program
abbrev pub line_of : Result Program Flaw → Option (List ℕ)
line_of (Err flaw) = flaw_line flaw
line_of (Ok program) = None

-- the line that tells the fault of forms; none where they are a program
abbrev pub forms_line : List Form → Option (List ℕ)
forms_line forms = line_of (program_in forms)

-- the line that is due for what a text is read as: that of its fault, or of its forms
abbrev pub line_due : Result (List Form) SexpFault → Option (List ℕ)
line_due (Err fault) = option_map text_line (text_fault fault)
line_due (Ok forms) = forms_line forms

-- the input is no program, and this is the line that tells its fault: what is due for it as a text has this line
abbrev pub IsFaulty : List ℕ → List ℕ → Type 0
IsFaulty input line = (answer : Result (List Form) SexpFault) × Due input answer × (line_due answer ≡ Some line)
