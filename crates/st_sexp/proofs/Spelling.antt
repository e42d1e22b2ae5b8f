-- The tokens of a form, by its shape.
use Rattle.std.proofs.Common.{◌≡◌, ℕ, ◌+◌, ◌-◌, List, [], ◌∷◌, ◌++◌, map, refl, ap}
use Rattle.std.specs.Prelude.{ℤ}
use Rattle.std.specs.List.{flat_map}
use Rattle.st_sexp.specs.declared.form.Form.{Form}
use Rattle.st_sexp.specs.declared.form.Shape.TheFolds.{fold-Form, fold-roll-Shape, fold_out-Form}
use Rattle.st_sexp.specs.declared.form.Shape.TheVariants.{rolls-Name, rolls-Number, rolls-Quoted, rolls-List}
use Rattle.st_sexp.specs.declared.form.Shape.TheVariants as shape
use Rattle.st_sexp.specs.Flat.{shape_tokens, form_tokens, tokens_of, all_tokens}
use Rattle.st_token.specs.declared.token.Token.{Token}
use Rattle.st_token.specs.declared.token.TokenKind.TheVariants as kind

fold_form : (form : Form) → fold-Form (ℕ → ℕ → List Token) (List Token) shape_tokens form_tokens form ≡ tokens_of form
unfolding tokens_of
fold_form form = fold_out-Form (ℕ → ℕ → List Token) (List Token) shape_tokens form_tokens form

flat_map-map : {A B : Type 0} (g f : A → List B) → ((x : A) → g x ≡ f x) → (xs : List A) → flat_map (λ ys. ys) (map g xs) ≡ flat_map f xs
flat_map-map g f e [] = refl
flat_map-map g f e (x ∷ xs) = rw (e x, flat_map-map g f e xs) refl

pub tokens_of-name : (letters : List ℕ) (from to : ℕ) → tokens_of (record { shape = shape.Name letters; from = from; to = to }) ≡ record { kind = kind.Name letters; from = from; to = to } ∷ []
unfolding tokens_of
tokens_of-name letters from to = rw (← rolls-Name letters, fold-roll-Shape) refl

pub tokens_of-number : (number : ℤ) (from to : ℕ) → tokens_of (record { shape = shape.Number number; from = from; to = to }) ≡ record { kind = kind.Number number; from = from; to = to } ∷ []
unfolding tokens_of
tokens_of-number number from to = rw (← rolls-Number number, fold-roll-Shape) refl

pub tokens_of-quoted : (letters : List ℕ) (from to : ℕ) → tokens_of (record { shape = shape.Quoted letters; from = from; to = to }) ≡ record { kind = kind.Quoted letters; from = from; to = to } ∷ []
unfolding tokens_of
tokens_of-quoted letters from to = rw (← rolls-Quoted letters, fold-roll-Shape) refl

pub tokens_of-list : (forms : List Form) (from to : ℕ) → tokens_of (record { shape = shape.List forms; from = from; to = to }) ≡ record { kind = kind.Open; from = from; to = from + 1 } ∷ all_tokens forms ++ record { kind = kind.Close; from = to - 1; to = to } ∷ []
unfolding tokens_of
tokens_of-list forms from to =
    rw (← rolls-List forms, fold-roll-Shape) (ap (λ tokens. record { kind = kind.Open; from = from; to = from + 1 } ∷ tokens ++ record { kind = kind.Close; from = to - 1; to = to } ∷ []) (flat_map-map _ tokens_of fold_form forms))
