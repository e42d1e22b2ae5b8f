-- The attributes of a schema that was read have numbers below the one that the next new attribute gets.
use Rattle.std.proofs.Common.{◌≡◌, ℕ, ◌+◌, ◌≤◌, ◌<◌, true, List, [], ◌∷◌, length, Option, Some, None, Result, Ok, Err, refl, subst, ◌∙◌, arith}
use Rattle.std.specs.Prelude.{nat_lt}
use Rattle.std.specs.List.{list_all}
use Rattle.std.proofs.lemmas.Bool.Decides.{nat_tests}
use Rattle.std.proofs.lemmas.List.Folds.{list_all-append}
use Rattle.st_values.proofs.Tests.{both}
use Rattle.st_sexp.specs.Items.{and_then}
use Rattle.st_lattice.specs.Outline.{Outline}
use Rattle.st_schema.specs.declared.fault.SchemaFault.{SchemaFault}
use Rattle.st_schema.specs.declared.written.AttributeForm.{AttributeForm}
use Rattle.st_schema.specs.declared.written.TypeForm.{TypeForm}
use Rattle.st_schema.specs.Checks.{attribute_count, unless, written_fault}
use Rattle.st_schema.specs.Meaning.{schema_fault}
use Rattle.st_schema.specs.Resolved.{all_attributes, attributes_from, resolved}
use Rattle.st_schema.specs.Written.{written}
use Rattle.st_schema_bytes.specs.SchemaBytes.{IsReadable}

less : (m n : ℕ) → m < n → nat_lt m n ≡ true
less m n h = grind (arith, nat_tests, h)

numbers-from : (names : List (List ℕ)) (number owner : ℕ) (attributes : List AttributeForm) (most : ℕ) → number + length attributes ≤ most
    → list_all (λ a. nat_lt a.number most) (attributes_from names number owner attributes) ≡ true
numbers-from names number owner [] most h = refl
numbers-from names number owner (a ∷ attributes) most h =
    both (nat_lt number most) (list_all (λ b. nat_lt b.number most) (attributes_from names (number + 1) owner attributes)) (less number most (omega (arith, h)))
    (numbers-from names (number + 1) owner attributes most (omega (arith, h)))

numbers-all : (names : List (List ℕ)) (number owner : ℕ) (types : List TypeForm) (most : ℕ) → number + attribute_count types ≤ most
    → list_all (λ a. nat_lt a.number most) (all_attributes names number owner types) ≡ true
numbers-all names number owner [] most h = refl
numbers-all names number owner (t ∷ types) most h =
    list_all-append (λ a. nat_lt a.number most) (attributes_from names number owner t.attributes) (all_attributes names (number + length t.attributes) (owner + 1) types)
    ∙ both (list_all (λ a. nat_lt a.number most) (attributes_from names number owner t.attributes)) (list_all (λ a. nat_lt a.number most) (all_attributes names (number + length t.attributes) (owner + 1) types))
    (numbers-from names number owner t.attributes most (omega (arith, h)))
    (numbers-all names (number + length t.attributes) (owner + 1) types most (omega (arith, h)))

ok-is : {A E : Type 0} (x y : A) → ◌≡◌ {A = Result A E} (Ok x) (Ok y) → x ≡ y
ok-is x y e = cc

err-ok : {A E : Type 0} (f : E) (y : A) → ◌≡◌ {A = Result A E} (Err f) (Ok y) → ⊥
err-ok f y e = cc

-- what was right all through was right at its first step
then-ok : {A B E : Type 0} (r : Result A E) (more : A → Result B E) (y : B) → and_then r more ≡ Ok y → (x : A) × (r ≡ Ok x) × (more x ≡ Ok y)
then-ok (Ok x) more y e = (x, refl, e)
then-ok (Err f) more y e = absurd (err-ok f y e)

unless-ok : {A : Type 0} (o : Option SchemaFault) (x y : A) → unless o x ≡ Ok y → x ≡ y
unless-ok None x y e = ok-is x y e
unless-ok (Some f) x y e = absurd (err-ok f y e)

pub numbers-below : (schema : Outline) → IsReadable schema → list_all (λ a. nat_lt a.number schema.next) schema.attributes ≡ true
numbers-below schema readable =
    let first = then-ok (written readable.0) (λ w. and_then (unless (written_fault w.types) (resolved w)) (λ o. unless (schema_fault o) o)) schema readable.1 in
    let w = first.0 in
    let second = then-ok (unless (written_fault w.types) (resolved w)) (λ o. unless (schema_fault o) o) schema first.2 in
    let is : resolved w ≡ schema = unless-ok (written_fault w.types) (resolved w) second.0 second.1 ∙ unless-ok (schema_fault second.0) second.0 schema second.2 in
    subst (λ (o : Outline). list_all (λ a. nat_lt a.number o.next) o.attributes ≡ true) is
    (numbers-all (resolved w).names 0 0 w.types (attribute_count w.types) (omega arith))
