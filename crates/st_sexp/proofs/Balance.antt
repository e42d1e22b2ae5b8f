-- Behind the tokens of a form the same lists are open as before them.
use Rattle.std.proofs.Common.{◌≡◌, ℕ, ◌-◌, Bool, true, false, ltb, cond, List, [], ◌∷◌, ◌++◌, length, Option, Some, None, ap, sym, ◌∙◌, append-nil, append_assoc}
use Rattle.std.specs.Option.{option_and_then}
use Rattle.st_sexp.specs.declared.form.Form.{Form}
use Rattle.st_sexp.specs.declared.form.Shape.TheVariants as shape
use Rattle.st_token.specs.declared.token.Token.{Token}
use Rattle.st_token.specs.declared.token.TokenKind.TheVariants as kind
use Rattle.st_sexp.specs.Flat.{tokens_of, all_tokens}
use Rattle.st_sexp.specs.Reading.{open_after, max_depth}
use Rattle.st_sexp.proofs.Spelling.{tokens_of-name, tokens_of-number, tokens_of-quoted, tokens_of-list}
use Rattle.st_sexp.proofs.Induction.{Each, form_induction}

abbrev IsBalanced : Form → Type 0
IsBalanced form = (levels now : List ℕ) (tokens : List Token) → open_after levels (tokens_of form ++ tokens) ≡ Some now → open_after levels tokens ≡ Some now

all_balanced : (forms : List Form) → Each IsBalanced forms → (levels now : List ℕ) (tokens : List Token) → open_after levels (all_tokens forms ++ tokens) ≡ Some now → open_after levels tokens ≡ Some now
all_balanced [] each levels now tokens is = is
all_balanced (form ∷ forms) each levels now tokens is =
    all_balanced forms each.1 levels now tokens (each.0 levels now (all_tokens forms ++ tokens) (ap (open_after levels) (sym (append_assoc (tokens_of form) (all_tokens forms) tokens)) ∙ is))

opened : (may : Bool) (inner : List ℕ) (after : List ℕ → Option (List ℕ)) (now : List ℕ) → option_and_then after (cond may (Some inner) None) ≡ Some now → after inner ≡ Some now
opened true inner after now is = is
opened false inner after now is = cc

list_balanced : (forms : List Form) (from to : ℕ) → Each IsBalanced forms → IsBalanced (record { shape = shape.List forms; from = from; to = to })
list_balanced forms from to each levels now tokens is =
    let close : List Token = record { kind = kind.Close; from = to - 1; to = to } ∷ [] in
    let spelled = ap (λ front. open_after levels (front ++ tokens)) (sym (tokens_of-list forms from to)) ∙ is in
    let inside = opened (ltb (length levels) max_depth) (from ∷ levels) (λ inner. open_after inner ((all_tokens forms ++ close) ++ tokens)) now spelled in
    all_balanced forms each (from ∷ levels) now (close ++ tokens) (ap (open_after (from ∷ levels)) (sym (append_assoc (all_tokens forms) close tokens)) ∙ inside)

is_balanced : (form : Form) → IsBalanced form
is_balanced = form_induction IsBalanced (record {
  name = λ letters from to levels now tokens is. rw tokens_of-name at is;
  number = λ number from to levels now tokens is. rw tokens_of-number at is;
  quoted = λ letters from to levels now tokens is. rw tokens_of-quoted at is;
  list = list_balanced;
})

each_balanced : (forms : List Form) → Each IsBalanced forms
each_balanced [] = tt
each_balanced (form ∷ forms) = (is_balanced form, each_balanced forms)

-- behind forms the same lists are open as before them
pub open_after-forms : (levels now : List ℕ) (forms : List Form) → open_after levels (all_tokens forms) ≡ Some now → now ≡ levels
open_after-forms levels now forms is =
    let end = all_balanced forms (each_balanced forms) levels now [] (ap (open_after levels) (append-nil (all_tokens forms)) ∙ is) in
    let same : Some levels ≡ Some now = end in cc
