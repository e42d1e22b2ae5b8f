-- The tokens that spell forms.
use Rattle.std.specs.Prelude.{ℕ, ◌+◌, ◌-◌, List, [], ◌∷◌, ◌++◌}
use Rattle.std.specs.List.{flat_map}
use Rattle.st_sexp.specs.declared.form.Form.{Form}
use Rattle.st_sexp.specs.declared.form.Shape.TheFolds.{fold-Shape}
use Rattle.st_sexp.specs.declared.form.Shape.TheOpen.{Shape-F, Form-F}
use Rattle.st_token.specs.declared.token.Token.{Token}
use Rattle.st_token.specs.declared.token.TokenKind.TheVariants as kind

-- The tokens of a shape at a place: one for a name, a number or a text, and for a list its parentheses round the
-- tokens of its forms.
abbrev pub shape_tokens : Shape-F (ℕ → ℕ → List Token) (List Token) → ℕ → ℕ → List Token
shape_tokens (Shape-F.Name letters) from to = record { kind = kind.Name letters; from = from; to = to } ∷ []
shape_tokens (Shape-F.Number number) from to = record { kind = kind.Number number; from = from; to = to } ∷ []
shape_tokens (Shape-F.Quoted letters) from to = record { kind = kind.Quoted letters; from = from; to = to } ∷ []
shape_tokens (Shape-F.List forms) from to =
    record { kind = kind.Open; from = from; to = from + 1 } ∷ flat_map (λ tokens. tokens) forms ++ record { kind = kind.Close; from = to - 1; to = to } ∷ []

-- a form's tokens are its shape's, from where it begins to where it ends
abbrev pub form_tokens : Form-F (ℕ → ℕ → List Token) (List Token) → List Token
form_tokens form = form.shape form.from form.to

-- the tokens of a form
unfoldable pub tokens_of : Form → List Token
tokens_of form = fold-Shape (ℕ → ℕ → List Token) (List Token) shape_tokens form_tokens form.shape form.from form.to

-- the tokens of forms, one form after another
abbrev pub all_tokens : List Form → List Token
all_tokens forms = flat_map tokens_of forms
