-- The forms of the schema's text are read as the schema.
use Rattle.std.proofs.Common.{ℕ, List, [], ◌∷◌}
use Rattle.std.specs.Prelude.{codes}
use Rattle.st_sexp.specs.declared.form.Form.{Form}
use Rattle.st_sexp.specs.declared.form.Shape.TheVariants as shape
use Rattle.st_sexp.specs.Names.{is_name}
use Rattle.st_sexp.proofs.Views.{as_name-name, as_list-name, as_list-list}
use Rattle.st_schema_bytes.specs.SchemaBytes.{IsReadable}
use Rattle.st_standing_example.specs.Ada.{tiny}

-- a word, and a list of forms
abbrev word : List ℕ → Form
word letters = record { shape = shape.Name letters; from = 0; to = 0 }

abbrev items : List Form → Form
items forms = record { shape = shape.List forms; from = 0; to = 0 }

-- (name string) and (age integer)
abbrev name_form : Form
name_form = items (word (codes "name") ∷ word (codes "string") ∷ [])

abbrev age_form : Form
age_form = items (word (codes "age") ∷ word (codes "integer") ∷ [])

abbrev person_form : Form
person_form = items (word (codes "define-entity-type") ∷ word (codes "person") ∷ items [] ∷ items (name_form ∷ age_form ∷ []) ∷ [])

abbrev tiny_forms : List Form
tiny_forms = items (word (codes "define-schema") ∷ word (codes "tiny") ∷ []) ∷ person_form ∷ []

pub readable : IsReadable tiny
unfolding is_name
readable = (tiny_forms, simp (as_name-name, as_list-name, as_list-list))
