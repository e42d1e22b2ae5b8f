-- Each input has one answer, want of memory aside.
use Rattle.std.proofs.Common.{◌≡◌, ℕ, Bool, true, false, List, length, Result, Ok, Err, refl, sym, ap, ◌∙◌, subst, inl, inr}
use Rattle.std.specs.Prelude.{nat_lt, ◌⊎◌}
use Rattle.st_token.specs.declared.fault.SexpFault.{SexpFault}
use Rattle.st_sexp.specs.declared.form.Form.{Form}
use Rattle.st_sexp.specs.Reading.{Due, WantsMemory}
use Rattle.st_statements.specs.declared.fault.Misread.TheVariants as misread
use Rattle.st_statements.specs.Reading.{Reading}
use Rattle.st_reader.specs.declared.fault.ScriptFault.{ScriptFault}
use Rattle.st_reader.specs.declared.fault.ScriptFault.TheVariants as fault
use Rattle.st_text.specs.Answer.{Answers}
use Rattle.st_reader.specs.Faults.{told, in_input}
use Rattle.st_reader.specs.Inputs.{max_bytes, answered, DueWhere, DueFor, Wants}

-- each text has an answer, and no two
abbrev SomeText : Type 0
SomeText = (text : List ℕ) → (answer : Result (List Form) SexpFault) × Due text answer × ¬ (WantsMemory answer)

abbrev OneText : Type 0
OneText = (text : List ℕ) (a b : Result (List Form) SexpFault) → Due text a → Due text b → WantsMemory a ⊎ WantsMemory b ⊎ (a ≡ b)

stated : {A : Type 0} (reads : List Form → Reading A) (bytes : List ℕ) (answer : Result A ScriptFault) → ¬ (Wants answer) → DueWhere (nat_lt max_bytes (length bytes)) reads bytes answer → DueFor reads bytes answer
stated reads bytes (Ok x) other due = due
stated reads bytes (Err (fault.Text found)) other due = due
stated reads bytes (Err (fault.Form place)) other due = due
stated reads bytes (Err (fault.TooManyStatements count)) other due = due
stated reads bytes (Err (fault.BadClient number)) other due = due
stated reads bytes (Err (fault.InputTooLong count)) other due = due
stated reads bytes (Err fault.Memory) other due = absurd (other refl)

asked : {A : Type 0} (reads : List Form → Reading A) (bytes : List ℕ) (answer : Result A ScriptFault) → DueFor reads bytes answer → Wants answer ⊎ DueWhere (nat_lt max_bytes (length bytes)) reads bytes answer
asked reads bytes (Ok x) due = inr due
asked reads bytes (Err (fault.Text found)) due = inr due
asked reads bytes (Err (fault.Form place)) due = inr due
asked reads bytes (Err (fault.TooManyStatements count)) due = inr due
asked reads bytes (Err (fault.BadClient number)) due = inr due
asked reads bytes (Err (fault.InputTooLong count)) due = inr due
asked reads bytes (Err fault.Memory) due = inl refl

in_input_never : {A : Type 0} (r : Reading A) → ¬ (Wants (in_input r))
in_input_never (Ok x) is = cc
in_input_never (Err (misread.Form place)) is = cc
in_input_never (Err (misread.TooManyStatements count)) is = cc
in_input_never (Err (misread.BadClient number)) is = cc

never_wants : {A : Type 0} (reads : List Form → Reading A) (text : Result (List Form) SexpFault) → ¬ (Wants (answered reads text))
never_wants reads (Ok forms) is = in_input_never (reads forms) is
never_wants reads (Err found) is = cc

some_where : {A : Type 0} (b : Bool) (reads : List Form → Reading A) (bytes : List ℕ) → SomeText → (answer : Result A ScriptFault) × DueWhere b reads bytes answer × ¬ (Wants answer)
some_where true reads bytes texts = (Err (fault.InputTooLong (length bytes)), refl, λ is. cc)
some_where false reads bytes texts =
    let t = texts bytes in
    (answered reads t.0, record { text = t.0; due = t.1; told = t.2; is = refl }, never_wants reads t.0)

pub some_answer : SomeText → {A : Type 0} (reads : List Form → Reading A) (bytes : List ℕ) → (answer : Result A ScriptFault) × DueFor reads bytes answer × ¬ (Wants answer)
some_answer texts reads bytes =
    let s = some_where (nat_lt max_bytes (length bytes)) reads bytes texts in
    (s.0, stated reads bytes s.0 s.2 s.1, s.2)

one_where : {A : Type 0} (b : Bool) (reads : List Form → Reading A) (bytes : List ℕ) (x y : Result A ScriptFault) → OneText → DueWhere b reads bytes x → DueWhere b reads bytes y → x ≡ y
one_where true reads bytes x y texts p q = p ∙ sym q
one_where false reads bytes x y texts p q =
    elim (texts bytes p.text q.text p.due q.due) [
      | inl wants ↦ absurd (p.told wants)
      | inr rest ↦ elim rest [
        | inl wants ↦ absurd (q.told wants)
        | inr same ↦ p.is ∙ ap (answered reads) same ∙ sym q.is
      ]
    ]

pub no_other : OneText → {A : Type 0} (reads : List Form → Reading A) (bytes : List ℕ) (x y : Result A ScriptFault) → DueFor reads bytes x → DueFor reads bytes y → Wants x ⊎ Wants y ⊎ (x ≡ y)
no_other texts reads bytes x y p q =
    elim (asked reads bytes x p) [
      | inl wants ↦ inl wants
      | inr due ↦ elim (asked reads bytes y q) [
        | inl wants ↦ inr (inl wants)
        | inr due' ↦ inr (inr (one_where (nat_lt max_bytes (length bytes)) reads bytes x y texts due due'))
      ]
    ]

-- ---- an input's answer, by its forms

forms_told : {A : Type 0} (reads : List Form → Reading A) (forms : List Form) (text : Result (List Form) SexpFault) → (let answer : Result (List Form) ScriptFault = Ok forms in answer) ≡ answered (λ found. Ok found) text → in_input (reads forms) ≡ answered reads text
forms_told reads forms (Ok found) is = let same : forms ≡ found = cc in ap (λ fs. in_input (reads fs)) same
forms_told reads forms (Err found) is = cc

fault_told : {A : Type 0} (reads : List Form → Reading A) (found : ScriptFault) (text : Result (List Form) SexpFault) → (let answer : Result (List Form) ScriptFault = Err found in answer) ≡ answered (λ found. Ok found) text → (let answer : Result A ScriptFault = Err found in answer) ≡ answered reads text
fault_told reads found (Ok forms) is = cc
fault_told reads found (Err f) is = let same : found ≡ fault.Text f = cc in ap (λ g. Err g) same

forms_where : {A : Type 0} (b : Bool) (reads : List Form → Reading A) (bytes : List ℕ) (forms : List Form) → DueWhere b (λ found. Ok found) bytes (Ok forms) → DueWhere b reads bytes (in_input (reads forms))
forms_where true reads bytes forms due = cc
forms_where false reads bytes forms due = record { text = due.text; due = due.due; told = due.told; is = forms_told reads forms due.text due.is }

fault_where : {A : Type 0} (b : Bool) (reads : List Form → Reading A) (bytes : List ℕ) (found : ScriptFault) → DueWhere b (λ found. let r : Reading (List Form) = Ok found in r) bytes (Err found) → DueWhere b reads bytes (Err found)
fault_where true reads bytes found due = let same : found ≡ fault.InputTooLong (length bytes) = cc in ap (λ f. Err f) same
fault_where false reads bytes found due = record { text = due.text; due = due.due; told = due.told; is = fault_told reads found due.text due.is }

told_here : {A : Type 0} (due : Result A ScriptFault) (answer : Result A ScriptFault) → Answers told answer due → Wants answer ⊎ (answer ≡ due)
told_here due (Ok x) is = inr is
told_here due (Err (fault.Text found)) is = inr is
told_here due (Err (fault.Form place)) is = inr is
told_here due (Err (fault.TooManyStatements count)) is = inr is
told_here due (Err (fault.BadClient number)) is = inr is
told_here due (Err (fault.InputTooLong count)) is = inr is
told_here due (Err fault.Memory) is = inl refl

of_wants : {A : Type 0} (reads : List Form → Reading A) (bytes : List ℕ) (answer : Result A ScriptFault) → Wants answer → DueFor reads bytes answer
of_wants reads bytes answer wants = subst (DueFor reads bytes) (sym wants) tt

-- the forms of an input, read
pub of_forms : {A : Type 0} (reads : List Form → Reading A) (bytes : List ℕ) (forms : List Form) (answer : Result A ScriptFault) → DueFor (λ found. Ok found) bytes (Ok forms) → Answers told answer (in_input (reads forms)) → DueFor reads bytes answer
of_forms reads bytes forms answer due is =
    elim (told_here (in_input (reads forms)) answer is) [
      | inl wants ↦ of_wants reads bytes answer wants
      | inr same ↦ subst (DueFor reads bytes) (sym same)
          (stated reads bytes (in_input (reads forms)) (in_input_never (reads forms)) (forms_where (nat_lt max_bytes (length bytes)) reads bytes forms due))
    ]

-- a fault of an input before its forms are read
pub of_fault : {A : Type 0} (reads : List Form → Reading A) (bytes : List ℕ) (found : ScriptFault) → DueFor (λ found. let r : Reading (List Form) = Ok found in r) bytes (Err found) → DueFor reads bytes (Err found)
of_fault reads bytes fault.Memory due = tt
of_fault reads bytes (fault.Text found) due = fault_where (nat_lt max_bytes (length bytes)) reads bytes (fault.Text found) due
of_fault reads bytes (fault.Form place) due = fault_where (nat_lt max_bytes (length bytes)) reads bytes (fault.Form place) due
of_fault reads bytes (fault.TooManyStatements count) due = fault_where (nat_lt max_bytes (length bytes)) reads bytes (fault.TooManyStatements count) due
of_fault reads bytes (fault.BadClient number) due = fault_where (nat_lt max_bytes (length bytes)) reads bytes (fault.BadClient number) due
of_fault reads bytes (fault.InputTooLong count) due = fault_where (nat_lt max_bytes (length bytes)) reads bytes (fault.InputTooLong count) due
