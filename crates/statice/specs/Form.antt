-- Which inputs are programs.
use Rattle.std.specs.Prelude.{◌≡◌, ℕ, List, Result, Ok, Err}
use Rattle.st_sexp.specs.declared.form.Form.{Form}
use Rattle.st_sexp.specs.Reading.{Due}
use Rattle.st_sexp.specs.Items.{and_then}
use Rattle.st_lattice.specs.Outline.{Outline}
use Rattle.st_schema.specs.declared.fault.SchemaFault.{SchemaFault}
use Rattle.st_schema.specs.Meaning.{schema_of}
use Rattle.st_query.specs.declared.statement.Transaction.{Transaction}
use Rattle.st_statements.specs.declared.fault.Misread.{Misread}
use Rattle.st_reader.specs.Scripts.{script}
use Rattle.st_reader.specs.Split.{schema_part, script_part}

-- a program: a schema, and any number of transactions
abbrev pub Program : Type 0
Program = Outline × List Transaction

-- why forms are no program: the first fault of the schema, or the first misfit of the script
pub data Flaw : Type 0 where
  InSchema : SchemaFault → Flaw
  InScript : Misread → Flaw

-- what is read of a part of the forms, its fault as a flaw of that part
abbrev pub of_part : {A E : Type 0} → (E → Flaw) → Result A E → Result A Flaw
of_part flaw (Ok x) = Ok x
of_part flaw (Err fault) = Err (flaw fault)

-- the program of a schema and a script's forms, or how the script is misread
abbrev pub program_over : Outline → List Form → Result Program Flaw
program_over schema forms = and_then (of_part InScript (script forms)) (λ transactions. Ok (schema, transactions))

-- What forms are: a program, or the first fault, the schema's before the script's.
abbrev pub program_in : List Form → Result Program Flaw
program_in forms = and_then (of_part InSchema (schema_of (schema_part forms))) (λ schema. program_over schema (script_part forms))

-- the bytes are a program: they are text forms, and these are the program
abbrev pub IsProgram : List ℕ → Program → Type 0
IsProgram input program = (forms : List Form) × Due input (Ok forms) × (program_in forms ≡ Ok program)

-- the bytes are no program
abbrev pub IsNoProgram : List ℕ → Type 0
IsNoProgram input = (program : Program) → IsProgram input program → ⊥
