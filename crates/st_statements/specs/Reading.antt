-- What is read of forms, or the first misfit in text order.
use Rattle.std.specs.Prelude.{ℕ, List, [], ◌∷◌, ◌++◌, Result, Ok, Err, nat_lt, length, if◌then◌else◌}
use Rattle.st_sexp.specs.declared.form.Form.{Form}
use Rattle.st_sexp.specs.Items.{and_then, name_at, next_at}
use Rattle.st_statements.specs.declared.fault.Misread.{Misread}
use Rattle.st_statements.specs.declared.fault.Misread.TheVariants as misread

-- what is read of something, or why it is not
abbrev pub Reading : Type 0 → Type 0
Reading A = Result A Misread

-- Forms are read one after another, behind what was read of those before them, which may matter to how one is read.
abbrev pub read_behind : {A : Type 0} → (List A → Form → Reading A) → List A → List Form → Reading (List A)
read_behind read before [] = Ok before
read_behind read before (form ∷ forms) = and_then (read before form) (λ x. read_behind read (before ++ x ∷ []) forms)

-- a form that may be read behind fewer than this many; one more is too much
abbrev pub at_most : {A : Type 0} → ℕ → (Form → Reading A) → List A → Form → Reading A
at_most most read before form = if nat_lt (length before) most then read form else Err (misread.Form form.from)

-- the forms of a list that begins at a place, where there is one at least
abbrev pub some_at : ℕ → List Form → Reading (List Form)
some_at place [] = Err (misread.Form place)
some_at place (form ∷ forms) = Ok (form ∷ forms)

-- the two names in front of a list's forms, a variable's and a type's, and what stands behind them
abbrev pub two_names : ℕ → List Form → Reading (List ℕ × List ℕ × List Form)
two_names place parts =
    and_then (next_at misread.Form place parts) (λ p. and_then (name_at misread.Form (p.0)) (λ var. and_then (next_at misread.Form place (p.1)) (λ q. and_then (name_at misread.Form (q.0)) (λ ty. Ok (var, ty, q.1)))))
