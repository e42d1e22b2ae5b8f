-- The checks and the numbering see no places, and of options only what they say.
use Rattle.std.proofs.Common.{◌≡◌, ℕ, suc, ◌+◌, Bool, false, List, [], ◌∷◌, ◌++◌, length, map, Option, Some, None, refl, ap, ◌∙◌}
use Rattle.std.specs.Option.{option_or}
use Rattle.st_values.specs.declared.value.Kind.{Kind}
use Rattle.st_lattice.specs.declared.attribute.Attribute.{Attribute}
use Rattle.st_lattice.specs.Outline.{Outline}
use Rattle.st_schema.specs.declared.written.AttributeForm.{AttributeForm}
use Rattle.st_schema.specs.declared.written.TypeForm.{TypeForm}
use Rattle.st_schema.specs.declared.written.Written.{Written}
use Rattle.st_schema.specs.Checks.{too_many, attribute_count, repeated_type, parents_fault, unknown_in, unknown_type, choice_fault, choices_in, bad_option, written_fault}
use Rattle.st_schema.specs.Resolved.{kind_of, place_of, attribute_of_form, attributes_from, all_attributes, resolved}
use Rattle.st_schema.proofs.Kept.{says_as, kept_goes}
use Rattle.st_schema.proofs.Same.{IsAttribute, AreAttributes, AreTypes, IsWritten}

pub option_or_none : {A : Type 0} (a b : Option A) → option_or a b ≡ None → (a ≡ None) × (b ≡ None)
option_or_none None b is = (refl, is)
option_or_none (Some x) b is = absurd (cc)

same_names : (types again : List TypeForm) → AreTypes types again → map (λ t. t.name) again ≡ map (λ t. t.name) types
same_names [] [] same = refl
same_names [] (u ∷ again) same = absurd same
same_names (t ∷ types) [] same = absurd same
same_names (t ∷ types) (u ∷ again) same = rw (same.0.name, same_names types again same.1) refl

same_length : (types again : List TypeForm) → AreTypes types again → length again ≡ length types
same_length [] [] same = refl
same_length [] (u ∷ again) same = absurd same
same_length (t ∷ types) [] same = absurd same
same_length (t ∷ types) (u ∷ again) same = ap (λ (n : ℕ). suc n) (same_length types again same.1)

attributes_length : (attributes again : List AttributeForm) → AreAttributes attributes again → length again ≡ length attributes
attributes_length [] [] same = refl
attributes_length [] (b ∷ again) same = absurd same
attributes_length (a ∷ attributes) [] same = absurd same
attributes_length (a ∷ attributes) (b ∷ again) same = ap (λ (n : ℕ). suc n) (attributes_length attributes again same.1)

same_count : (types again : List TypeForm) → AreTypes types again → attribute_count again ≡ attribute_count types
same_count [] [] same = refl
same_count [] (u ∷ again) same = absurd same
same_count (t ∷ types) [] same = absurd same
same_count (t ∷ types) (u ∷ again) same =
    let one = attributes_length t.attributes u.attributes same.0.attributes in
    let more = same_count types again same.1 in
    λ i. one i + more i

same_parents : (earlier : List (List ℕ)) (types again : List TypeForm) → AreTypes types again → parents_fault earlier again ≡ parents_fault earlier types
same_parents earlier [] [] same = refl
same_parents earlier [] (u ∷ again) same = absurd same
same_parents earlier (t ∷ types) [] same = absurd same
same_parents earlier (t ∷ types) (u ∷ again) same = rw (same.0.name, same.0.parents, same_parents (earlier ++ t.name ∷ []) types again same.1) refl

same_unknown_in : (names : List (List ℕ)) (attributes again : List AttributeForm) → AreAttributes attributes again → unknown_in names again ≡ unknown_in names attributes
same_unknown_in names [] [] same = refl
same_unknown_in names [] (b ∷ again) same = absurd same
same_unknown_in names (a ∷ attributes) [] same = absurd same
same_unknown_in names (a ∷ attributes) (b ∷ again) same = rw (same.0.worded, same_unknown_in names attributes again same.1) refl

same_unknown : (names : List (List ℕ)) (types again : List TypeForm) → AreTypes types again → unknown_type names again ≡ unknown_type names types
same_unknown names [] [] same = refl
same_unknown names [] (u ∷ again) same = absurd same
same_unknown names (t ∷ types) [] same = absurd same
same_unknown names (t ∷ types) (u ∷ again) same = rw (same_unknown_in names t.attributes u.attributes same.0.attributes, same_unknown names types again same.1) refl

choices_go : (attributes again : List AttributeForm) → AreAttributes attributes again → choices_in attributes ≡ None → choices_in again ≡ None
choices_go [] [] same none = refl
choices_go [] (b ∷ again) same none = absurd same
choices_go (a ∷ attributes) [] same none = absurd same
choices_go (a ∷ attributes) (b ∷ again) same none =
    let both = option_or_none (choice_fault a.worded a.many a.choices) (choices_in attributes) none in
    rw (same.0.worded, same.0.many, kept_goes a.worded a.many a.choices b.choices same.0.options both.0) (choices_go attributes again same.1 both.1)

options_go : (types again : List TypeForm) → AreTypes types again → bad_option types ≡ None → bad_option again ≡ None
options_go [] [] same none = refl
options_go [] (u ∷ again) same none = absurd same
options_go (t ∷ types) [] same none = absurd same
options_go (t ∷ types) (u ∷ again) same none =
    let both = option_or_none (choices_in t.attributes) (bad_option types) none in
    rw (choices_go t.attributes u.attributes same.0.attributes both.0) (options_go types again same.1 both.1)

-- what is known where no check finds a fault
pub record HasNoFault (types : List TypeForm) : Type 0 where
  pub few : too_many types ≡ None
  pub differ : repeated_type types ≡ None
  pub parents : parents_fault [] types ≡ None
  pub known : unknown_type (map (λ t. t.name) types) types ≡ None
  pub options : bad_option types ≡ None

pub no_fault : (types : List TypeForm) → written_fault types ≡ None → HasNoFault types
no_fault types none =
    let names = map (λ t. t.name) types in
    let first = option_or_none (too_many types) (option_or (repeated_type types) (option_or (parents_fault [] types) (option_or (unknown_type names types) (bad_option types)))) none in
    let second = option_or_none (repeated_type types) (option_or (parents_fault [] types) (option_or (unknown_type names types) (bad_option types))) first.1 in
    let third = option_or_none (parents_fault [] types) (option_or (unknown_type names types) (bad_option types)) second.1 in
    let fourth = option_or_none (unknown_type names types) (bad_option types) third.1 in
    record { few = first.0; differ = second.0; parents = third.0; known = fourth.0; options = fourth.1 }

pub same_fault : (types again : List TypeForm) → AreTypes types again → written_fault types ≡ None → written_fault again ≡ None
same_fault types again same none =
    let known = no_fault types none in
    let few : too_many again ≡ None = rw (same_length types again same, same_count types again same) known.few in
    let differ : repeated_type again ≡ None = rw (same_names types again same) known.differ in
    let unknown : unknown_type (map (λ t. t.name) again) again ≡ None = rw (same_names types again same) (same_unknown (map (λ t. t.name) types) types again same ∙ known.known) in
    rw (few, differ, same_parents [] types again same ∙ known.parents, unknown) (options_go types again same known.options)

-- an attribute of these parts
abbrev attribute_with : ℕ → ℕ → List ℕ → Kind → Bool → Option (List ℕ) → Bool → Bool → Bool → Attribute
attribute_with number owner name kind many inverse unique no_nulls index =
    record { number = number; owner = owner; name = name; kind = kind; many = many; inverse = inverse; unique = unique; no_nulls = no_nulls; index = index; column = false }

same_attribute : (names : List (List ℕ)) (number owner : ℕ) (a b : AttributeForm) → IsAttribute a b → attribute_of_form names number owner b ≡ attribute_of_form names number owner a
same_attribute names number owner a b same =
    let says = says_as a.choices b.choices same.options in
    λ i. attribute_with number owner (same.name i) (kind_of names (same.worded i)) (same.many i) (says.inverse i) (says.unique i) (says.no_nulls i) (says.index i)

same_attributes : (names : List (List ℕ)) (number owner : ℕ) (attributes again : List AttributeForm) → AreAttributes attributes again → attributes_from names number owner again ≡ attributes_from names number owner attributes
same_attributes names number owner [] [] same = refl
same_attributes names number owner [] (b ∷ again) same = absurd same
same_attributes names number owner (a ∷ attributes) [] same = absurd same
same_attributes names number owner (a ∷ attributes) (b ∷ again) same =
    let one = same_attribute names number owner a b same.0 in
    let more = same_attributes names (number + 1) owner attributes again same.1 in
    λ i. one i ∷ more i

same_all : (names : List (List ℕ)) (number owner : ℕ) (types again : List TypeForm) → AreTypes types again → all_attributes names number owner again ≡ all_attributes names number owner types
same_all names number owner [] [] same = refl
same_all names number owner [] (u ∷ again) same = absurd same
same_all names number owner (t ∷ types) [] same = absurd same
same_all names number owner (t ∷ types) (u ∷ again) same =
    let one = same_attributes names number owner t.attributes u.attributes same.0.attributes in
    let count = attributes_length t.attributes u.attributes same.0.attributes in
    let more = same_all names (number + length t.attributes) (owner + 1) types again same.1 in
    ap (λ (n : ℕ). attributes_from names number owner u.attributes ++ all_attributes names (number + n) (owner + 1) again) count ∙ (λ i. one i ++ more i)

same_parent_places : (names : List (List ℕ)) (types again : List TypeForm) → AreTypes types again → map (λ t. map (place_of names) t.parents) again ≡ map (λ t. map (place_of names) t.parents) types
same_parent_places names [] [] same = refl
same_parent_places names [] (u ∷ again) same = absurd same
same_parent_places names (t ∷ types) [] same = absurd same
same_parent_places names (t ∷ types) (u ∷ again) same = rw (same.0.parents, same_parent_places names types again same.1) refl

-- schemas that are the same have the same numbers
pub same_resolved : (w again : Written) → IsWritten w again → resolved again ≡ resolved w
same_resolved w again same =
    let names = same_names w.types again.types same.types in
    let parents = same_parent_places (map (λ t. t.name) w.types) w.types again.types same.types in
    let attributes = same_all (map (λ t. t.name) w.types) 0 0 w.types again.types same.types in
    let count = same_count w.types again.types same.types in
    ap (λ (names : List (List ℕ)). outline again.name names (map (λ t. map (place_of names) t.parents) again.types) (all_attributes names 0 0 again.types) (attribute_count again.types)) names
    ∙ (λ i. outline (same.name i) (map (λ t. t.name) w.types) (parents i) (attributes i) (count i))
  where
    outline : List ℕ → List (List ℕ) → List (List ℕ) → List Attribute → ℕ → Outline
    outline name names parents attributes next = record { name = name; names = names; parents = parents; attributes = attributes; next = next }
