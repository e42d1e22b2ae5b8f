-- What was found tells what the input is, or its fault.
use Rattle.std.proofs.Common.{◌≡◌, ◌≤◌, ℕ, true, List, [], length, Result, Ok, Err, inl, inr, refl, ap, take, codes}
use Rattle.std.specs.Prelude.{IfOk, nat_le}
use Rattle.std.specs.List.{list_all}
use Rattle.st_values.proofs.Tests.{right, all-weaken}
use Rattle.st_sexp.specs.declared.form.Form.{Form}
use Rattle.st_sexp.specs.Items.{and_then}
use Rattle.st_lattice.specs.Outline.{Outline}
use Rattle.st_query.specs.declared.statement.Transaction.{Transaction}
use Rattle.st_query.specs.Written.{is_written}
use Rattle.st_statements.specs.declared.fault.Misread.{Misread}
use Rattle.st_reader.specs.declared.fault.ScriptFault.{ScriptFault}
use Rattle.st_reader.specs.Faults.{fault_of, in_input}
use Rattle.st_reader.specs.Scripts.{script, max_statements}
use Rattle.st_reader.specs.Inputs.{is_transaction}
use Rattle.st_serial.specs.Serial.{are_written}
use Rattle.st_edge.specs.States.{SourceState, SinkState, Takes}
use Rattle.statice.specs.declared.status.Ended.{Ended}
use Rattle.statice.specs.declared.status.Ended.TheVariants.{Done, SomeRefused, Refused, SourceFailed, SinkFailed, OutOfMemory, TooLong}
use Rattle.statice.specs.Form.{Program as ProgramOf, InScript, of_part, program_over, IsProgram}
use Rattle.statice.specs.Fault.{script_fault, script_line}
use Rattle.statice.specs.Output.{fault_line, printed_by, Prints}
use Rattle.statice.specs.Try.{IsInput, Answers, Ends}

-- transactions that can be written have statements that can be
pub all_written : (transactions : List Transaction) → list_all is_transaction transactions ≡ true → are_written transactions ≡ true
all_written transactions good =
    all-weaken is_transaction (λ t. list_all is_written t.statements) (λ t h. right (nat_le (length t.statements) max_statements) (list_all is_written t.statements) h) transactions good

-- a script that was read is that of its forms
read_is : (read : Result (List Transaction) Misread) (transactions : List Transaction) → Ok transactions ≡ in_input read → read ≡ Ok transactions
read_is (Ok other) transactions e = cc
read_is (Err found) transactions e = absurd (cc)

pub over_read : (schema : Outline) (forms : List Form) (transactions : List Transaction) → Ok transactions ≡ in_input (script forms) → program_over schema forms ≡ Ok (schema, transactions)
over_read schema forms transactions e =
    ap (λ (read : Result (List Transaction) Misread). and_then (of_part InScript read) (λ ts. Ok (schema, ts))) (read_is (script forms) transactions e)

-- the line of how a script is misread is that of its fault
pub of_misread : {E : Type 0} (fault : ScriptFault) (m : Misread) (line : Result (List ℕ) E) → fault ≡ fault_of m → IfOk line (λ text. text ≡ script_line (script_fault m))
    → IfOk line (λ text. (n : Misread) × (fault ≡ fault_of n) × (text ≡ script_line (script_fault n)))
of_misread fault m (Ok text) is e = (m, is, e)
of_misread fault m (Err error) is e = tt

-- what a program prints answers its input
pub printed : (input : List ℕ) (program : ProgramOf) (old new : SinkState) (ended : Ended) → length input ≤ 1048576 → IsProgram input program → Prints program old new ended → Answers input old new ended
printed input program old new Done short is (served, took) = (program, is, served, took)
printed input program old new SomeRefused short is (served, took) = (program, is, served, took)
printed input program old new SinkFailed short is (rose, took) = (program, is, rose, took)
printed input program old new OutOfMemory short is (n, took) = (take n (printed_by program), inr (short, program, is, n, refl), took)
printed input program old new Refused short is never = absurd never
printed input program old new SourceFailed short is never = absurd never
printed input program old new TooLong short is never = absurd never

-- the line of want of memory alone
pub wanted : (input : List ℕ) (old new : SinkState) → Takes old new (fault_line (codes "memory")) → Answers input old new OutOfMemory
wanted input old new took = ([], inl refl, took)

-- an input that was read to its end and answered
pub ends_answered : (source later : SourceState) (old new : SinkState) (input : List ℕ) (ended : Ended) → IsInput source input → length input ≤ 1048576 → Answers input old new ended → Ends source later old new ended
ends_answered source later old new input Done is short answered = (input, is, short, answered)
ends_answered source later old new input SomeRefused is short answered = (input, is, short, answered)
ends_answered source later old new input Refused is short answered = (input, is, short, answered)
ends_answered source later old new input SinkFailed is short answered = (input, is, short, answered)
ends_answered source later old new input OutOfMemory is short answered = (input, is, answered)
ends_answered source later old new input SourceFailed is short never = absurd never
ends_answered source later old new input TooLong is short never = absurd never
