-- Forms are found again from their tokens, so that no two lists of forms have the same tokens.
use Rattle.std.proofs.Common.{◌≡◌, ℕ, ◌-◌, List, [], ◌∷◌, ◌++◌, refl, ap, sym, ◌∙◌, append-nil, append_assoc}
use Rattle.st_sexp.specs.declared.form.Form.{Form}
use Rattle.st_sexp.specs.declared.form.Shape.TheVariants as shape
use Rattle.st_token.specs.declared.token.Token.{Token}
use Rattle.st_token.specs.declared.token.TokenKind.{TokenKind}
use Rattle.st_token.specs.declared.token.TokenKind.TheVariants as kind
use Rattle.st_sexp.specs.Flat.{tokens_of, all_tokens}
use Rattle.st_sexp.proofs.Spelling.{tokens_of-name, tokens_of-number, tokens_of-quoted, tokens_of-list}
use Rattle.st_sexp.proofs.Induction.{Each, form_induction}

-- the forms before each open list and where it began, the innermost first, and the forms of the innermost
abbrev Built : Type 0
Built = List (List Form × ℕ) × List Form

-- what is built where the innermost open list ends
abbrev closed : List (List Form × ℕ) → List Form → ℕ → Built
closed [] forms to = ([], forms)
closed (level ∷ levels) forms to = (levels, level.0 ++ record { shape = shape.List forms; from = level.1; to = to } ∷ [])

-- what is built after one more token
abbrev after_kind : TokenKind → ℕ → ℕ → List (List Form × ℕ) → List Form → Built
after_kind kind.Open from to levels forms = ((forms, from) ∷ levels, [])
after_kind kind.Close from to levels forms = closed levels forms to
after_kind (kind.Name letters) from to levels forms = (levels, forms ++ record { shape = shape.Name letters; from = from; to = to } ∷ [])
after_kind (kind.Number number) from to levels forms = (levels, forms ++ record { shape = shape.Number number; from = from; to = to } ∷ [])
after_kind (kind.Quoted letters) from to levels forms = (levels, forms ++ record { shape = shape.Quoted letters; from = from; to = to } ∷ [])

-- the forms that are built at the end of tokens
abbrev built : List (List Form × ℕ) → List Form → List Token → List Form
built levels forms [] = forms
built levels forms (token ∷ tokens) = let now = after_kind token.kind token.from token.to levels forms in built now.0 now.1 tokens

abbrev IsRebuilt : Form → Type 0
IsRebuilt form = (levels : List (List Form × ℕ)) (forms : List Form) (tokens : List Token) → built levels forms (tokens_of form ++ tokens) ≡ built levels (forms ++ form ∷ []) tokens

all_rebuilt : (more : List Form) → Each IsRebuilt more → (levels : List (List Form × ℕ)) (forms : List Form) (tokens : List Token) → built levels forms (all_tokens more ++ tokens) ≡ built levels (forms ++ more) tokens
all_rebuilt [] each levels forms tokens = rw append-nil refl
all_rebuilt (form ∷ more) each levels forms tokens =
    ap (built levels forms) (append_assoc (tokens_of form) (all_tokens more) tokens) ∙ each.0 levels forms (all_tokens more ++ tokens) ∙ all_rebuilt more each.1 levels (forms ++ form ∷ []) tokens
    ∙ ap (λ all. built levels all tokens) (append_assoc forms (form ∷ []) more)

list_rebuilt : (more : List Form) (from to : ℕ) → Each IsRebuilt more → IsRebuilt (record { shape = shape.List more; from = from; to = to })
list_rebuilt more from to each levels forms tokens =
    rw tokens_of-list (ap (built ((forms, from) ∷ levels) []) (append_assoc (all_tokens more) (record { kind = kind.Close; from = to - 1; to = to } ∷ []) tokens)
    ∙ all_rebuilt more each ((forms, from) ∷ levels) [] (record { kind = kind.Close; from = to - 1; to = to } ∷ tokens))

is_rebuilt : (form : Form) → IsRebuilt form
is_rebuilt = form_induction IsRebuilt (record {
  name = λ letters from to levels forms tokens. rw tokens_of-name refl;
  number = λ number from to levels forms tokens. rw tokens_of-number refl;
  quoted = λ letters from to levels forms tokens. rw tokens_of-quoted refl;
  list = list_rebuilt;
})

each_rebuilt : (forms : List Form) → Each IsRebuilt forms
each_rebuilt [] = tt
each_rebuilt (form ∷ forms) = (is_rebuilt form, each_rebuilt forms)

built_all : (forms : List Form) → built [] [] (all_tokens forms) ≡ forms
built_all forms = ap (built [] []) (sym (append-nil (all_tokens forms))) ∙ all_rebuilt forms (each_rebuilt forms) [] [] []

-- no two lists of forms have the same tokens
pub same_forms : (a b : List Form) → all_tokens a ≡ all_tokens b → a ≡ b
same_forms a b same = sym (built_all a) ∙ ap (built [] []) same ∙ built_all b
