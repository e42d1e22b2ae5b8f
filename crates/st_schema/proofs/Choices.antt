-- Options are read two forms at a time.
use Rattle.std.proofs.Common.{◌≡◌, List, [], ◌∷◌, Some, Ok, arith}
use Rattle.st_text.specs.Answer.{Answers}
use Rattle.st_sexp.specs.declared.form.Form.{Form}
use Rattle.st_sexp.specs.Views.{as_front}
use Rattle.st_schema.specs.declared.written.Choice.{Choice}
use Rattle.st_schema.specs.Written.{Reading, told, choices_with, choices_after}

as_front_some : (forms rest : List Form) (word : Form) → as_front forms ≡ Some (word, rest) → forms ≡ word ∷ rest
as_front_some [] rest word p = grind (arith, p)
as_front_some (w ∷ r) rest word p = grind (arith, p)

pub choices_two : (before done : List Choice) (forms rest more : List Form) (word value : Form) (answer : Reading (List Choice)) →
    as_front forms ≡ Some (word, rest) → as_front rest ≡ Some (value, more) → Ok done ≡ choices_with before word value →
    Answers told answer (choices_after done more) → Answers told answer (choices_after before forms)
choices_two before done forms rest more word value answer p q r h = rw (as_front_some forms rest word p, as_front_some rest more value q, ← r) h
