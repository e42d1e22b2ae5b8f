-- What a form is, as one thing or another.
use Rattle.std.specs.Prelude.{ℕ, ℤ, Bool, false, List, [], ◌∷◌, Option, Some, None}
use Rattle.std.specs.Str.{bytes_eq}
use Rattle.st_sexp.specs.declared.form.Form.{Form}
use Rattle.st_sexp.specs.declared.form.Shape.{Shape, out-Shape}
use Rattle.st_sexp.specs.declared.form.Shape.TheOpen.{Shape-F}

abbrev pub shape_name : Shape-F Shape Form → Option (List ℕ)
shape_name (Shape-F.Name letters) = Some letters
shape_name _ = None

-- the letters of a name
unfoldable pub as_name : Form → Option (List ℕ)
as_name form = shape_name (out-Shape form.shape)

abbrev pub shape_number : Shape-F Shape Form → Option ℤ
shape_number (Shape-F.Number number) = Some number
shape_number _ = None

-- a number
unfoldable pub as_number : Form → Option ℤ
as_number form = shape_number (out-Shape form.shape)

abbrev pub shape_list : Shape-F Shape Form → Option (List Form)
shape_list (Shape-F.List forms) = Some forms
shape_list _ = None

-- the forms of a list
unfoldable pub as_list : Form → Option (List Form)
as_list form = shape_list (out-Shape form.shape)

-- two forms, where there are just two
abbrev pub as_pair : List Form → Option (Form × Form)
as_pair (a ∷ b ∷ []) = Some (a, b)
as_pair _ = None

-- the first of some forms, and the others
abbrev pub as_front : List Form → Option (Form × List Form)
as_front (a ∷ rest) = Some (a, rest)
as_front [] = None

-- whether a name has these letters
abbrev pub has_letters : Option (List ℕ) → List ℕ → Bool
has_letters None word = false
has_letters (Some letters) word = bytes_eq letters word

-- whether a form is this word
abbrev pub is_word : Form → List ℕ → Bool
is_word form word = has_letters (as_name form) word
