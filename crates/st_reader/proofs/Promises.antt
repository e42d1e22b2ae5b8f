-- What is known of what was read of an input, by what is known of its forms.
use Rattle.std.proofs.Common.{◌≡◌, ℕ, Bool, true, false, List, length, Result, Ok, Err, IfOk, IsTrue}
use Rattle.std.specs.Prelude.{nat_lt}
use Rattle.st_text.specs.Answer.{Answers}
use Rattle.st_token.specs.declared.fault.SexpFault.{SexpFault}
use Rattle.st_sexp.specs.declared.form.Form.{Form}
use Rattle.st_statements.specs.declared.fault.Misread.TheVariants as misread
use Rattle.st_statements.specs.Reading.{Reading}
use Rattle.st_reader.specs.declared.fault.ScriptFault.{ScriptFault}
use Rattle.st_reader.specs.Faults.{told, in_input}
use Rattle.st_reader.specs.Inputs.{max_bytes, answered, DueWhere, DueFor}

-- a test that holds of all that forms are read as
abbrev Holds : {A : Type 0} → (A → Bool) → (List Form → Reading A) → Type 0
Holds {A} test reads = (forms : List Form) (x : A) → reads forms ≡ Ok x → test x ≡ true

was_read : {A : Type 0} (r : Reading A) (x : A) → Ok x ≡ in_input r → r ≡ Ok x
was_read (Ok y) x is = cc
was_read (Err (misread.Form place)) x is = cc
was_read (Err (misread.TooManyStatements count)) x is = cc
was_read (Err (misread.BadClient number)) x is = cc

of_text : {A : Type 0} (test : A → Bool) (reads : List Form → Reading A) → Holds test reads → (text : Result (List Form) SexpFault) (x : A) → Ok x ≡ answered reads text → test x ≡ true
of_text test reads holds (Ok forms) x is = holds forms x (was_read (reads forms) x is)
of_text test reads holds (Err found) x is = cc

of_where : {A : Type 0} (test : A → Bool) (reads : List Form → Reading A) → Holds test reads → (b : Bool) (bytes : List ℕ) (x : A) → DueWhere b reads bytes (Ok x) → test x ≡ true
of_where test reads holds true bytes x due = cc
of_where test reads holds false bytes x due = of_text test reads holds due.text x due.is

pub due_good : {A : Type 0} (test : A → Bool) (reads : List Form → Reading A) → Holds test reads → (bytes : List ℕ) (answer : Result A ScriptFault) → DueFor reads bytes answer → IfOk answer (λ x. IsTrue (test x))
due_good test reads holds bytes (Ok x) due = of_where test reads holds (nat_lt max_bytes (length bytes)) bytes x due
due_good test reads holds bytes (Err found) due = tt

pub told_good : {A : Type 0} (test : A → Bool) (reads : List Form → Reading A) → Holds test reads → (forms : List Form) (answer : Result A ScriptFault) → Answers told answer (in_input (reads forms)) → IfOk answer (λ x. IsTrue (test x))
told_good test reads holds forms (Ok x) is = holds forms x (was_read (reads forms) x is)
told_good test reads holds forms (Err found) is = tt
