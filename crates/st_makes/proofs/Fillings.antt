-- The attributes that are filled are those of the schema.
use Rattle.std.proofs.Common.{◌≡◌, ℕ, Bool, true, List, [], ◌∷◌, Option, Some, None, sym, ap, subst}
use Rattle.std.specs.Prelude.{filter_map, is_some, All}
use Rattle.std.specs.List.{list_all, cons_option}
use Rattle.std.proofs.lemmas.List.Elements.{All-nil, All-cons, All-head, All-tail, All-map, All-filter}
use Rattle.st_values.proofs.Tests.{left, right}
use Rattle.st_lattice.specs.declared.attribute.Attribute.{Attribute}
use Rattle.st_lattice.specs.Outline.{Outline, attribute}
use Rattle.st_lattice.specs.Lattice.{isa, attributes_in}
use Rattle.st_state.specs.Calls.{HasAttribute}
use Rattle.st_state.proofs.Members.{Member, all-members}
use Rattle.st_meaning.proofs.Cells.{option-cases}
use Rattle.st_makes.specs.declared.given.Given.{Given}
use Rattle.st_makes.specs.declared.filling.Filling.{Filling}
use Rattle.st_makes.specs.Makes.{given_to, new_filling, new_fillings, filling_by, given_fillings}
use Rattle.st_makes.proofs.Holding.{numbered}

pub all-from : {X : Type 0} (p : X → Bool) (xs : List X) → list_all p xs ≡ true → All (λ x. p x ≡ true) xs
all-from p [] h = All-nil (λ x. p x ≡ true)
all-from p (x ∷ xs) h = All-cons (λ y. p y ≡ true) x xs (left (p x) (list_all p xs) h) (all-from p xs (right (p x) (list_all p xs) h))

-- what is known of each of a list, and of each that is in it
pub all-with : {X : Type 0} (P Q : X → Type 0) (xs : List X) → ((x : X) → Member x xs → Q x → P x) → All Q xs → All P xs
all-with P Q [] f h = All-nil P
all-with P Q (x ∷ xs) f h =
    All-cons P x xs (f x (λ q a. left (q x) (list_all q xs) a) (All-head Q x xs h)) (all-with P Q xs (λ y m. f y (λ q a. m q (right (q x) (list_all q xs) a))) (All-tail Q x xs h))

pub all-kept : {X Y : Type 0} (F : X → Option Y) (P : Y → Type 0) (Q : X → Type 0) (xs : List X) → ((x : X) (y : Y) → Member x xs → Q x → F x ≡ Some y → P y) → All Q xs → All P (filter_map F xs)
all-kept F P Q [] f h = All-nil P
all-kept F P Q (x ∷ xs) f h =
    let rest = all-kept F P Q xs (λ z y m. f z y (λ q a. m q (right (q x) (list_all q xs) a))) (All-tail Q x xs h) in
    option-cases (F x) (λ o. All P (cons_option o (filter_map F xs))) (λ _. rest)
    (λ y e. All-cons P y (filter_map F xs) (f x y (λ q a. left (q x) (list_all q xs) a) (All-head Q x xs h) e) rest)

attributes-there : (schema : Outline) (ty : ℕ) → All (λ a. HasAttribute schema a.number) (attributes_in schema ty)
attributes-there schema ty =
    All-filter (λ a. isa schema ty a.owner) (λ a. HasAttribute schema a.number) schema.attributes
    (all-from (λ a. is_some (attribute schema a.number)) schema.attributes (all-members (λ a. is_some (attribute schema a.number)) schema.attributes (λ a m. numbered a schema.attributes m)))

pub new-there : (schema : Outline) (ty : ℕ) (key : Option ℕ) (givens : List Given) → All (λ (f : Filling). HasAttribute schema f.attribute.number) (new_fillings schema ty key givens)
new-there schema ty key givens = All-map (λ (f : Filling). HasAttribute schema f.attribute.number) (new_filling key givens) (attributes_in schema ty) (attributes-there schema ty)

pub filling-of : (a : Attribute) (o : Option Given) (f : Filling) → filling_by a o ≡ Some f → f.attribute ≡ a
filling-of a None f e = absurd (nothing e)
  where
    nothing : None ≡ Some f → ⊥
    nothing k = cc
filling-of a (Some g) f e = sym (ap (λ (z : Filling). z.attribute) (inside (record { attribute = a; value = g.value; wanted = a.no_nulls }) e))
  where
    inside : (z : Filling) → Some z ≡ Some f → z ≡ f
    inside z k = cc

pub given-there : (schema : Outline) (ty : ℕ) (givens : List Given) → All (λ (f : Filling). HasAttribute schema f.attribute.number) (given_fillings schema ty givens)
given-there schema ty givens =
    all-kept (λ a. filling_by a (given_to givens a.number)) (λ (f : Filling). HasAttribute schema f.attribute.number) (λ a. HasAttribute schema a.number) (attributes_in schema ty)
    (λ a f m h e. subst (λ z. HasAttribute schema z.number) (sym (filling-of a (given_to givens a.number) f e)) h) (attributes-there schema ty)
