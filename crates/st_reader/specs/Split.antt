-- The two parts of an input with a schema and a script.
use Rattle.std.specs.Prelude.{Bool, if◌then◌else◌, is_some, List, [], ◌∷◌, codes}
use Rattle.st_sexp.specs.declared.form.Form.{Form}
use Rattle.st_sexp.specs.Items.{behind}

-- whether a form is a list that begins with the name `with-transaction`
abbrev pub opens_script : Form → Bool
opens_script form = is_some (behind (codes "with-transaction") form)

-- the schema's forms: those before the first such list, or all where there is none
abbrev pub schema_part : List Form → List Form
schema_part [] = []
schema_part (form ∷ forms) = if opens_script form then [] else form ∷ schema_part forms

-- the script's forms: the first such list, and all behind it
abbrev pub script_part : List Form → List Form
script_part [] = []
script_part (form ∷ forms) = if opens_script form then form ∷ forms else script_part forms
