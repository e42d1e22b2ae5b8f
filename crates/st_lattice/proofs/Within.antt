-- The types of features are types of the schema.
use Rattle.std.proofs.Common.{ℕ, ◌<◌, List, [], ◌∷◌, Option, Some, None, arith, All}
use Rattle.std.specs.Prelude.{flat_map}
use Rattle.std.proofs.lemmas.List.Elements.{All-head, All-tail, All-append, All-cons}
use Rattle.st_values.specs.declared.value.Kind.{Kind}
use Rattle.st_values.specs.declared.value.Kind.TheVariants as kind
use Rattle.st_lattice.specs.declared.attribute.Attribute.{Attribute}
use Rattle.st_lattice.specs.declared.feature.Named.{Named}
use Rattle.st_lattice.specs.Outline.{IsWithin}
use Rattle.st_lattice.specs.Features.{own, inverse_by, inverse, named}

abbrev AreWithin : ℕ → List Named → Type 0
AreWithin n fs = All (λ f. f.ty < n) fs

none_within : (n : ℕ) → AreWithin n []
none_within n = λ k d h. absurd (omega (arith, h))

inverse_within : (n : ℕ) (name : Option (List ℕ)) (k : Kind) (number : ℕ) → IsWithin n k → AreWithin n (inverse_by name k number)
inverse_within n None k number h = none_within n
inverse_within n (Some name) kind.Int number h = none_within n
inverse_within n (Some name) kind.Bool number h = none_within n
inverse_within n (Some name) (kind.Text size) number h = none_within n
inverse_within n (Some name) (kind.Entity ty) number h = All-cons (λ (f : Named). f.ty < n) _ [] h (none_within n)

named_within : (n : ℕ) (a : Attribute) → a.owner < n → IsWithin n a.kind → AreWithin n (named a)
named_within n a o k = All-cons (λ (f : Named). f.ty < n) (own a) (inverse a) o (inverse_within n a.inverse a.kind a.number k)

pub all_within : (n : ℕ) (attributes : List Attribute) → All (λ a. a.owner < n) attributes → All (λ a. IsWithin n a.kind) attributes → AreWithin n (flat_map named attributes)
all_within n [] os ks = none_within n
all_within n (a ∷ attributes) os ks =
    All-append (λ (f : Named). f.ty < n) (named a) (flat_map named attributes)
    (named_within n a (All-head (λ (x : Attribute). x.owner < n) a attributes os) (All-head (λ (x : Attribute). IsWithin n x.kind) a attributes ks))
    (all_within n attributes (All-tail (λ (x : Attribute). x.owner < n) a attributes os) (All-tail (λ (x : Attribute). IsWithin n x.kind) a attributes ks))
