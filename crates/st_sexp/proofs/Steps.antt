-- What is known of items that were read.
use Rattle.std.proofs.Common.{◌≡◌, ℕ, Bool, true, false, List, [], ◌∷◌, Option, Some, None, Result, Ok, Err, refl, subst}
use Rattle.std.specs.Option.{option_and_then, ok_or}
use Rattle.st_sexp.specs.declared.form.Form.{Form}
use Rattle.st_sexp.specs.Views.{as_name}
use Rattle.st_sexp.specs.Names.{is_name}
use Rattle.st_sexp.specs.Items.{and_then, only_if, identifier, name_at, end_of}

-- what was read before more was read with it
pub record Step {A B E : Type 0} (read : Result A E) (more : A → Result B E) (y : B) : Type 0 where
  pub value : A
  pub was : read ≡ Ok value
  pub then : more value ≡ Ok y

pub step : {A B E : Type 0} (read : Result A E) (more : A → Result B E) (y : B) → and_then read more ≡ Ok y → Step read more y
step (Ok x) more y is = record { value = x; was = refl; then = is }
step (Err f) more y is = absurd (cc)

pub given : {A E : Type 0} (o : Option A) (f : E) (y : A) → ok_or o f ≡ Ok y → o ≡ Some y
given (Some x) f y is = cc
given None f y is = absurd (cc)

pub passed : {A : Type 0} (b : Bool) (x y : A) → only_if b x ≡ Some y → (b ≡ true) × (x ≡ y)
passed true x y is = (refl, cc)
passed false x y is = absurd (cc)

pub identifier_name : (letters : Option (List ℕ)) (name : List ℕ) → option_and_then (λ word. only_if (is_name word) word) letters ≡ Some name → is_name name ≡ true
identifier_name None name is = absurd (cc)
identifier_name (Some word) name is = let both = passed (is_name word) word name is in subst (λ word. is_name word ≡ true) both.1 both.0

-- a name that was read is one
pub name_good : {E : Type 0} (misfit : ℕ → E) (form : Form) (name : List ℕ) → name_at misfit form ≡ Ok name → is_name name ≡ true
name_good misfit form name is = identifier_name (as_name form) name (given (identifier form) (misfit form.from) name is)

-- a value that was read to the end is the one that was there
pub end_good : {A E : Type 0} (misfit : ℕ → E) (forms : List Form) (x y : A) → end_of misfit forms x ≡ Ok y → x ≡ y
end_good misfit [] x y is = cc
end_good misfit (form ∷ forms) x y is = absurd (cc)
