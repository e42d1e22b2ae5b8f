-- What follows from there being one answer for each text.
use Rattle.std.proofs.Common.{◌≡◌, ◌≢◌, ◌⊎◌, inl, inr, ℕ, List, Option, Some, Result, Ok, Err, refl, ap, subst}
use Rattle.st_token.specs.declared.fault.SexpFault.{SexpFault}
use Rattle.st_token.specs.declared.fault.SexpFault.TheVariants.{Unclosed, Stray, BadNumber, TooDeep, NotUtf8, Memory}
use Rattle.st_sexp.specs.declared.form.Form.{Form}
use Rattle.st_sexp.specs.Reading.{Due, WantsMemory}
use Rattle.st_schema.specs.declared.fault.SchemaFault.{SchemaFault}
use Rattle.st_schema.specs.declared.fault.SchemaFault.TheVariants as schema
use Rattle.st_sexp.specs.Items.{and_then}
use Rattle.st_query.specs.declared.statement.Transaction.{Transaction}
use Rattle.st_statements.specs.declared.fault.Misread.{Misread}
use Rattle.st_lattice.specs.Outline.{Outline}
use Rattle.st_schema.specs.Meaning.{schema_of}
use Rattle.st_reader.specs.Scripts.{script}
use Rattle.st_reader.specs.Split.{schema_part, script_part}
use Rattle.statice.specs.Form.{Program, Flaw, InSchema, InScript, of_part, program_over, program_in, IsProgram, IsNoProgram}
use Rattle.statice.specs.Fault.{text_line, script_fault, script_line, flaw_line, line_of, line_due, IsFaulty}

-- no other answer is due
abbrev pub NoOther : Type 0
NoOther = (text : List ℕ) (a b : Result (List Form) SexpFault) → Due text a → Due text b → WantsMemory a ⊎ WantsMemory b ⊎ (a ≡ b)

-- some answer is
abbrev pub SomeAnswer : Type 0
SomeAnswer = (text : List ℕ) → (answer : Result (List Form) SexpFault) × Due text answer × ¬ (WantsMemory answer)

same_answer : NoOther → (text : List ℕ) (a b : Result (List Form) SexpFault) → Due text a → Due text b → ¬ (WantsMemory a) → ¬ (WantsMemory b) → a ≡ b
same_answer law text a b due other not_a not_b =
    elim (law text a b due other) [
      | inl m ↦ absurd (not_a m)
      | inr both ↦ elim both [ inl m ↦ absurd (not_b m) | inr same ↦ same ]
    ]

ok_wants_none : (forms : List Form) → ¬ (WantsMemory (Ok forms))
ok_wants_none forms m = cc m

-- what has a line isn't want of memory
faulty_wants_none : (answer : Result (List Form) SexpFault) (line : List ℕ) → line_due answer ≡ Some line → ¬ (WantsMemory answer)
faulty_wants_none (Ok forms) line e m = cc m
faulty_wants_none (Err Memory) line e m = cc e
faulty_wants_none (Err (Unclosed place)) line e m = cc m
faulty_wants_none (Err (Stray place)) line e m = cc m
faulty_wants_none (Err (BadNumber place)) line e m = cc m
faulty_wants_none (Err (TooDeep place)) line e m = cc m
faulty_wants_none (Err (NotUtf8 place)) line e m = cc m

-- a program has no line
no_line : (found : Result Program Flaw) (program : Program) (line : List ℕ) → found ≡ Ok program → line_of found ≡ Some line → ⊥
no_line (Err flaw) program line is e = cc is
no_line (Ok other) program line is e = cc e

pub never_both : NoOther → (input line : List ℕ) → IsFaulty input line → IsNoProgram input
never_both law input line faulty program is =
    let same : faulty.0 ≡ Ok (is.0) =
    same_answer law input (faulty.0) (Ok (is.0)) (faulty.1) (is.1) (faulty_wants_none (faulty.0) line (faulty.2)) (ok_wants_none (is.0)) in
    let P : Result (List Form) SexpFault → Type 0 = λ answer. line_due answer ≡ Some line in
    no_line (program_in (is.0)) program line (is.2) (subst P same (faulty.2))

equal_somes : {A : Type 0} (x y : Option A) (a b : A) → x ≡ y → x ≡ Some a → y ≡ Some b → a ≡ b
equal_somes x y a b same p q = cc

pub one_line : NoOther → (input a b : List ℕ) → IsFaulty input a → IsFaulty input b → a ≡ b
one_line law input a b faulty other =
    let same : faulty.0 ≡ other.0 =
    same_answer law input (faulty.0) (other.0) (faulty.1) (other.1) (faulty_wants_none (faulty.0) a (faulty.2)) (faulty_wants_none (other.0) b (other.2)) in
    equal_somes (line_due (faulty.0)) (line_due (other.0)) a b (ap line_due same) (faulty.2) (other.2)

same_ok : (a b : List Form) (x y : Result (List Form) SexpFault) → x ≡ Ok a → y ≡ Ok b → x ≡ y → a ≡ b
same_ok a b x y p q e = cc

same_program : (x y : Result Program Flaw) (a b : Program) → x ≡ y → x ≡ Ok a → y ≡ Ok b → a ≡ b
same_program x y a b same p q = cc

pub one_program : NoOther → (input : List ℕ) (a b : Program) → IsProgram input a → IsProgram input b → a ≡ b
one_program law input a b is other =
    let same : is.0 ≡ other.0 =
    same_ok (is.0) (other.0) _ _ refl refl (same_answer law input (Ok (is.0)) (Ok (other.0)) (is.1) (other.1) (ok_wants_none (is.0)) (ok_wants_none (other.0))) in
    same_program (program_in (is.0)) (program_in (other.0)) a b (ap program_in same) (is.2) (other.2)

-- a program, or a line
abbrev pub Outcome : List ℕ → Type 0
Outcome input = ((program : Program) × IsProgram input program) ⊎ ((line : List ℕ) × IsFaulty input line)

-- what is due for the forms of a schema is never want of memory
abbrev pub NeverMemory : Type 0
NeverMemory = (forms : List Form) → schema_of forms ≢ Err schema.Memory

-- a schema's fault has a line
told_fault : (fault : SchemaFault) → fault ≢ schema.Memory → (line : List ℕ) × (flaw_line (InSchema fault) ≡ Some line)
told_fault (schema.Form place) some = (_, refl)
told_fault (schema.Repeated name) some = (_, refl)
told_fault (schema.UnknownParent name) some = (_, refl)
told_fault (schema.UnknownType name) some = (_, refl)
told_fault (schema.AmbiguousName ty name) some = (_, refl)
told_fault (schema.RowTooWide ty width) some = (_, refl)
told_fault (schema.TooMany what count) some = (_, refl)
told_fault (schema.BadOption place) some = (_, refl)
told_fault schema.Memory some = absurd (some refl)

-- a schema and a script are a program, or there is a line for them
abbrev pub Sorted : Result Program Flaw → Type 0
Sorted found = ((program : Program) × (found ≡ Ok program)) ⊎ ((line : List ℕ) × (line_of found ≡ Some line))

sorted_script : (outline : Outline) (read : Result (List Transaction) Misread) → Sorted (and_then (of_part InScript read) (λ transactions. Ok (outline, transactions)))
sorted_script outline (Ok transactions) = inl ((outline, transactions), refl)
sorted_script outline (Err misread) = inr (script_line (script_fault misread), refl)

sorted : (read : Result Outline SchemaFault) (forms : List Form) → read ≢ Err schema.Memory → Sorted (and_then (of_part InSchema read) (λ outline. program_over outline forms))
sorted (Ok outline) forms some = sorted_script outline (script forms)
sorted (Err fault) forms some = inr (told_fault fault (λ e. some (ap Err e)))

-- a program has its forms, and anything else a line
of_sorted : (input : List ℕ) (forms : List Form) → Due input (Ok forms) → Sorted (program_in forms) → Outcome input
of_sorted input forms due (inl (program, is)) = inl (program, (forms, due, is))
of_sorted input forms due (inr (line, is)) = inr (line, (Ok forms, due, is))

of_answer : NeverMemory → (input : List ℕ) (answer : Result (List Form) SexpFault) → Due input answer → ¬ (WantsMemory answer) → Outcome input
of_answer never input (Ok forms) due some = of_sorted input forms due (sorted (schema_of (schema_part forms)) (script_part forms) (never (schema_part forms)))
of_answer never input (Err Memory) due some = absurd (some refl)
of_answer never input (Err (Unclosed place)) due some = inr (text_line (1, place), (Err (Unclosed place), due, refl))
of_answer never input (Err (Stray place)) due some = inr (text_line (2, place), (Err (Stray place), due, refl))
of_answer never input (Err (BadNumber place)) due some = inr (text_line (3, place), (Err (BadNumber place), due, refl))
of_answer never input (Err (TooDeep place)) due some = inr (text_line (4, place), (Err (TooDeep place), due, refl))
of_answer never input (Err (NotUtf8 place)) due some = inr (text_line (5, place), (Err (NotUtf8 place), due, refl))

pub some_outcome : SomeAnswer → NeverMemory → (input : List ℕ) → Outcome input
some_outcome law never input = let answer = law input in of_answer never input (answer.0) (answer.1) (answer.2)
