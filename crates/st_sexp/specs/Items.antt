-- Reading the items of lists, one after another. The first one in text order that does not fit is the reader's fault, with
-- its place: a form that is too much misfits by itself, and where one is missing its list does. `misfit` is the reader's own
-- fault of what stands at a place.
use Rattle.std.specs.Prelude.{ℕ, Bool, true, false, List, [], ◌∷◌, Option, Some, None, Result, Ok, Err}
use Rattle.std.specs.Option.{option_and_then, ok_or}
use Rattle.st_sexp.specs.declared.form.Form.{Form}
use Rattle.st_sexp.specs.Views.{as_name, as_list, as_front, is_word}
use Rattle.st_sexp.specs.Names.{is_name}

-- something is read, and then more with it; the first fault ends it
abbrev pub and_then : {A B E : Type 0} → Result A E → (A → Result B E) → Result B E
and_then (Ok x) more = more x
and_then (Err fault) more = Err fault

-- a value, where a test of it holds
abbrev pub only_if : {A : Type 0} → Bool → A → Option A
only_if true x = Some x
only_if false x = None

-- the letters of a form that is a name of a schema, a type, an attribute or a variable
abbrev pub identifier : Form → Option (List ℕ)
identifier form = option_and_then (λ word. only_if (is_name word) word) (as_name form)

-- the forms behind the head of a list, where this word is its head
abbrev pub behind_word : List ℕ → Option (Form × List Form) → Option (List Form)
behind_word word None = None
behind_word word (Some parts) = only_if (is_word (parts.0) word) (parts.1)

abbrev pub behind : List ℕ → Form → Option (List Form)
behind word form = behind_word word (option_and_then as_front (as_list form))

-- such a name
abbrev pub name_at : {E : Type 0} → (ℕ → E) → Form → Result (List ℕ) E
name_at misfit form = ok_or (identifier form) (misfit form.from)

-- the forms of a list
abbrev pub forms_at : {E : Type 0} → (ℕ → E) → Form → Result (List Form) E
forms_at misfit form = ok_or (as_list form) (misfit form.from)

-- the next of the forms of a list, which begins at a place, and those behind it
abbrev pub next_at : {E : Type 0} → (ℕ → E) → ℕ → List Form → Result (Form × List Form) E
next_at misfit place forms = ok_or (as_front forms) (misfit place)

-- a value, where the list that it was read of ends
abbrev pub end_of : {A E : Type 0} → (ℕ → E) → List Form → A → Result A E
end_of misfit [] x = Ok x
end_of misfit (form ∷ forms) x = Err (misfit form.from)
