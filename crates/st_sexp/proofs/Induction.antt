-- Induction over forms, by the four shapes.
use Rattle.std.proofs.Common.{◌≡◌, ℕ, List, [], ◌∷◌, map, subst, sym}
use Rattle.std.specs.Prelude.{ℤ}
use Rattle.st_sexp.specs.declared.form.Form.{Form}
use Rattle.st_sexp.specs.declared.form.Shape.{Shape}
use Rattle.st_sexp.specs.declared.form.Shape.TheFolds.{ind-Form, map-Shape}
use Rattle.st_sexp.specs.declared.form.Shape.TheOpen.{Shape-F}
use Rattle.st_sexp.specs.declared.form.Shape.TheViews.{roll-Shape, roll-Form}
use Rattle.st_sexp.specs.declared.form.Shape.TheVariants.{rolls-Name, rolls-Number, rolls-Quoted, rolls-List}
use Rattle.st_sexp.specs.declared.form.Shape.TheVariants as shape

-- a fact of each form of a list
abbrev pub Each : (Form → Type 0) → List Form → Type 0
Each P [] = Unit {0}
Each P (form ∷ forms) = P form × Each P forms

-- a fact of forms, at each shape; of a list it may rest on the fact of its forms
pub record HoldsByShape (P : Form → Type 0) : Type 0 where
  pub name : (letters : List ℕ) (from to : ℕ) → P (record { shape = shape.Name letters; from = from; to = to })
  pub number : (number : ℤ) (from to : ℕ) → P (record { shape = shape.Number number; from = from; to = to })
  pub quoted : (letters : List ℕ) (from to : ℕ) → P (record { shape = shape.Quoted letters; from = from; to = to })
  pub list : (forms : List Form) (from to : ℕ) → Each P forms → P (record { shape = shape.List forms; from = from; to = to })

-- a fact of a shape at each place
abbrev AtPlaces : (Form → Type 0) → Shape → Type 0
AtPlaces P s = (from to : ℕ) → P (record { shape = s; from = from; to = to })

Each-map : {B : Type 0} (P : Form → Type 0) (form : B → Form) → ((b : B) → P (form b)) → (bs : List B) → Each P (map form bs)
Each-map P form holds [] = tt
Each-map P form holds (b ∷ bs) = (holds b, Each-map P form holds bs)

shape_step : {A B : Type 0} (P : Form → Type 0) (shape_of : A → Shape) (form_of : B → Form) → HoldsByShape P → ((b : B) → P (form_of b)) → (y : Shape-F A B) (x : Shape-F Shape Form) → map-Shape A B Shape Form shape_of form_of y ≡ x → AtPlaces P (roll-Shape x)
shape_step P shape_of form_of cases holds (Shape-F.Name letters) x is =
    subst (λ z. AtPlaces P (roll-Shape z)) is (subst (AtPlaces P) (sym (rolls-Name letters)) (cases.name letters))
shape_step P shape_of form_of cases holds (Shape-F.Number number) x is =
    subst (λ z. AtPlaces P (roll-Shape z)) is (subst (AtPlaces P) (sym (rolls-Number number)) (cases.number number))
shape_step P shape_of form_of cases holds (Shape-F.Quoted letters) x is =
    subst (λ z. AtPlaces P (roll-Shape z)) is (subst (AtPlaces P) (sym (rolls-Quoted letters)) (cases.quoted letters))
shape_step P shape_of form_of cases holds (Shape-F.List forms) x is =
    subst (λ z. AtPlaces P (roll-Shape z)) is (subst (AtPlaces P) (sym (rolls-List (map form_of forms))) (λ from to. cases.list (map form_of forms) from to (Each-map P form_of holds forms)))

pub form_induction : (P : Form → Type 0) → HoldsByShape P → (form : Form) → P form
form_induction P cases =
    ind-Form (AtPlaces P) P (λ x y is. shape_step P (λ e. e.0) (λ e. e.0) cases (λ e. e.1) y x is) (λ x y is. subst (λ z. P (roll-Form z)) is (y.shape.1 y.from y.to))
