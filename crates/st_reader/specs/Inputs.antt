-- What is due for an input, by its bytes: it must not be too long, then it must spell forms, and these are read.
use Rattle.std.specs.Prelude.{◌≡◌, ℕ, Bool, true, false, ◌&&◌, nat_lt, nat_le, List, length, Result, Ok, Err, ⊤}
use Rattle.std.specs.List.{list_all}
use Rattle.st_token.specs.declared.fault.SexpFault.{SexpFault}
use Rattle.st_sexp.specs.declared.form.Form.{Form}
use Rattle.st_sexp.specs.Reading.{Due, WantsMemory}
use Rattle.st_query.specs.declared.statement.Transaction.{Transaction}
use Rattle.st_query.specs.Written.{is_written}
use Rattle.st_statements.specs.Reading.{Reading}
use Rattle.st_reader.specs.declared.fault.ScriptFault.{ScriptFault}
use Rattle.st_reader.specs.declared.fault.ScriptFault.TheVariants as fault
use Rattle.st_reader.specs.Faults.{in_input}
use Rattle.st_reader.specs.Scripts.{max_statements}

-- how many bytes an input may have
abbrev pub max_bytes : ℕ
max_bytes = 1048576

-- the answer to an input, by the forms that it spells or its first fault as text forms
abbrev pub answered : {A : Type 0} → (List Form → Reading A) → Result (List Form) SexpFault → Result A ScriptFault
answered reads (Ok forms) = in_input (reads forms)
answered reads (Err found) = Err (fault.Text found)

-- the answer is the one by what is due for the text
pub record IsAnswered {A : Type 0} (reads : List Form → Reading A) (bytes : List ℕ) (answer : Result A ScriptFault) : Type 0 where
  pub text : Result (List Form) SexpFault
  pub due : Due bytes text
  pub told : ¬ (WantsMemory text)
  pub is : answer ≡ answered reads text

abbrev pub DueWhere : {A : Type 0} → Bool → (List Form → Reading A) → List ℕ → Result A ScriptFault → Type 0
DueWhere true reads bytes answer = answer ≡ Err (fault.InputTooLong (length bytes))
DueWhere false reads bytes answer = IsAnswered reads bytes answer

-- the answer that is due for an input, by how forms are read; want of memory may come at any input
abbrev pub DueFor : {A : Type 0} → (List Form → Reading A) → List ℕ → Result A ScriptFault → Type 0
DueFor reads bytes (Err fault.Memory) = ⊤
DueFor reads bytes answer = DueWhere (nat_lt max_bytes (length bytes)) reads bytes answer

-- whether a transaction is one that can be written: so are its statements, and they are not too many
abbrev pub is_transaction : Transaction → Bool
is_transaction transaction = nat_le (length transaction.statements) max_statements && list_all is_written transaction.statements

-- the answer is want of memory
abbrev pub Wants : {A : Type 0} → Result A ScriptFault → Type 0
Wants answer = answer ≡ Err fault.Memory
