-- The numbers of a schema whose checks were passed are in order.
use Rattle.std.proofs.Common.{◌≡◌, ℕ, zero, suc, ◌+◌, ◌<◌, ◌≤◌, Bool, true, false, not, cond, ◌||◌, List, [], ◌∷◌, ◌++◌, length, get_or, map, Option, Some, None, refl, ap, arith, All, append_assoc, append-nil}
use Rattle.std.specs.Prelude.{nat_lt}
use Rattle.std.specs.Option.{option_or}
use Rattle.std.specs.Str.{bytes_eq}
use Rattle.std.proofs.lemmas.Bool.Decides.{nat_tests}
use Rattle.std.proofs.lemmas.List.Elements.{All-cons, All-append}
use Rattle.std.proofs.lemmas.List.{length-append, length-map}
use Rattle.st_lattice.specs.declared.attribute.Attribute.{Attribute}
use Rattle.st_lattice.specs.Outline.{IsOrderly, IsWithin}
use Rattle.st_schema.specs.declared.fault.SchemaFault.{SchemaFault}
use Rattle.st_schema.specs.declared.fault.SchemaFault.TheVariants.{Repeated, UnknownParent, UnknownType}
use Rattle.st_schema.specs.declared.written.Worded.{Worded}
use Rattle.st_schema.specs.declared.written.Worded.TheVariants as worded
use Rattle.st_schema.specs.declared.written.AttributeForm.{AttributeForm}
use Rattle.st_schema.specs.declared.written.TypeForm.{TypeForm}
use Rattle.st_schema.specs.declared.written.Written.{Written}
use Rattle.st_values.specs.Names.{has}
use Rattle.st_schema.specs.Checks.{attribute_count, too_many, repeated_type, parent_fault, parents_fault, unknown_of, unknown_in, unknown_type, written_fault}
use Rattle.st_schema.specs.Resolved.{place_of, kind_of, attribute_of_form, attributes_from, all_attributes, resolved}

abbrev names_in : List TypeForm → List (List ℕ)
names_in types = map (λ t. t.name) types

-- no fault of the first of two checks, and none of the second
first_none : (a b : Option SchemaFault) → option_or a b ≡ None → a ≡ None
first_none None b e = refl
first_none (Some f) b e = e

second_none : (a b : Option SchemaFault) → option_or a b ≡ None → b ≡ None
second_none None b e = e
second_none (Some f) b e = absurd (grind (arith, e))

-- a test that refuses was passed
test_none : (test : Bool) (f : SchemaFault) (rest : Option SchemaFault) → cond test (Some f) rest ≡ None → test ≡ false
test_none true f rest e = absurd (grind (arith, e))
test_none false f rest e = refl

rest_none : (test : Bool) (f : SchemaFault) (rest : Option SchemaFault) → cond test (Some f) rest ≡ None → rest ≡ None
rest_none true f rest e = absurd (grind (arith, e))
rest_none false f rest e = e

not_false : (b : Bool) → not b ≡ false → b ≡ true
not_false true e = refl
not_false false e = absurd (grind (arith, e))

-- a name among the first ones has a place among them
abbrev Places : Bool → ℕ → ℕ → Type 0
Places here rest n = cond (not here) (1 + rest) 0 < suc n

place_either : (here : Bool) (rest n : ℕ) → (here ≡ false → rest < n) → Places here rest n
place_either true rest n h = omega arith
place_either false rest n h = let less = h refl in omega (arith, less)

other_has : (here : Bool) (rest : Bool) → (here || rest) ≡ true → here ≡ false → rest ≡ true
other_has true rest e n = absurd (grind (arith, n))
other_has false rest e n = e

place_in_front : (p : List ℕ) (front back : List (List ℕ)) → has front p ≡ true → place_of (front ++ back) p < length front
place_in_front p [] back h = absurd (grind (arith, h))
place_in_front p (x ∷ front) back h =
    place_either (bytes_eq x p) (place_of (front ++ back) p) (length front)
    (λ no. place_in_front p front back (other_has (bytes_eq x p) (has front p) h no))

none_all : {X : Type 0} (P : X → Type 0) → All P []
none_all P = λ k d h. absurd (omega (arith, h))

parents_placed : (before seen : List (List ℕ)) (parents back : List (List ℕ)) → parent_fault before seen parents ≡ None →
    All (λ p. p < length before) (map (place_of (before ++ back)) parents)
parents_placed before seen [] back e = none_all (λ p. p < length before)
parents_placed before seen (p ∷ parents) back e =
    let known = not_false (has before p) (test_none (not (has before p)) (UnknownParent p) _ e) in
    let more = rest_none (has seen p) (Repeated p) _ (rest_none (not (has before p)) (UnknownParent p) _ e) in
    All-cons (λ q. q < length before) (place_of (before ++ back) p) (map (place_of (before ++ back)) parents) (place_in_front p before back known)
    (parents_placed before (seen ++ p ∷ []) parents back more)

below_more : (n m : ℕ) (xs : List ℕ) → n ≤ m → All (λ p. p < n) xs → All (λ p. p < m) xs
below_more n m xs h all = λ k d inside. let p : get_or xs k d < n = all k d inside in omega (arith, p, h)

earlier_from : (before : List (List ℕ)) (types : List TypeForm) → parents_fault before types ≡ None → (k : ℕ) →
    All (λ p. p < length before + k) (get_or (map (λ t. map (place_of (before ++ names_in types)) t.parents) types) k [])
earlier_from before [] e k = none_all (λ p. p < length before + k)
earlier_from before (t ∷ types) e zero =
    below_more (length before) (length before + 0) _ (omega arith)
    (parents_placed before [] t.parents (names_in (t ∷ types)) (first_none (parent_fault before [] t.parents) (parents_fault (before ++ t.name ∷ []) types) e))
earlier_from before (t ∷ types) e (suc k) =
    let more = earlier_from (before ++ t.name ∷ []) types (second_none (parent_fault before [] t.parents) (parents_fault (before ++ t.name ∷ []) types) e) k in
    let same : (before ++ t.name ∷ []) ++ names_in types ≡ before ++ names_in (t ∷ types) = append_assoc before (t.name ∷ []) (names_in types) in
    let count : length (before ++ t.name ∷ []) ≡ length before + 1 = length-append before (t.name ∷ []) in
    let fewer = rw (same, count) at more in
    below_more ((length before + 1) + k) (length before + suc k) _ (omega arith) fewer

owners_from : (n : ℕ) (names : List (List ℕ)) (number owner : ℕ) (attributes : List AttributeForm) → owner < n → All (λ a. a.owner < n) (attributes_from names number owner attributes)
owners_from n names number owner [] h = none_all (λ (a : Attribute). a.owner < n)
owners_from n names number owner (a ∷ attributes) h =
    All-cons (λ (x : Attribute). x.owner < n) (attribute_of_form names number owner a) (attributes_from names (number + 1) owner attributes) h
    (owners_from n names (number + 1) owner attributes h)

owners_below : (n : ℕ) (names : List (List ℕ)) (number owner : ℕ) (types : List TypeForm) → owner + length types ≤ n → All (λ a. a.owner < n) (all_attributes names number owner types)
owners_below n names number owner [] h = none_all (λ (a : Attribute). a.owner < n)
owners_below n names number owner (t ∷ types) h =
    All-append (λ (x : Attribute). x.owner < n) (attributes_from names number owner t.attributes) (all_attributes names (number + length t.attributes) (owner + 1) types)
    (owners_from n names number owner t.attributes (omega (arith, h))) (owners_below n names (number + length t.attributes) (owner + 1) types (omega (arith, h)))

not_unknown : (b : Bool) (f : SchemaFault) → cond b None (Some f) ≡ None → b ≡ true
not_unknown true f e = refl
not_unknown false f e = absurd (grind (arith, e))

named_within : (names : List (List ℕ)) (name : List ℕ) → has names name ≡ true → place_of names name < length names
named_within names name h = let place = place_in_front name names [] h in rw (append-nil names) at place

kind_within : (names : List (List ℕ)) (w : Worded) → unknown_of names w ≡ None → IsWithin (length names) (kind_of names w)
kind_within names worded.Int e = tt
kind_within names worded.Bool e = tt
kind_within names (worded.Text size) e = tt
kind_within names (worded.Entity name) e = named_within names name (not_unknown (has names name) (UnknownType name) e)

kinds_from : (names : List (List ℕ)) (number owner : ℕ) (attributes : List AttributeForm) → unknown_in names attributes ≡ None → All (λ a. IsWithin (length names) a.kind) (attributes_from names number owner attributes)
kinds_from names number owner [] e = none_all (λ (a : Attribute). IsWithin (length names) a.kind)
kinds_from names number owner (a ∷ attributes) e =
    All-cons (λ (x : Attribute). IsWithin (length names) x.kind) (attribute_of_form names number owner a) (attributes_from names (number + 1) owner attributes)
    (kind_within names a.worded (first_none (unknown_of names a.worded) (unknown_in names attributes) e))
    (kinds_from names (number + 1) owner attributes (second_none (unknown_of names a.worded) (unknown_in names attributes) e))

kinds_within : (names : List (List ℕ)) (number owner : ℕ) (types : List TypeForm) → unknown_type names types ≡ None → All (λ a. IsWithin (length names) a.kind) (all_attributes names number owner types)
kinds_within names number owner [] e = none_all (λ (a : Attribute). IsWithin (length names) a.kind)
kinds_within names number owner (t ∷ types) e =
    All-append (λ (x : Attribute). IsWithin (length names) x.kind) (attributes_from names number owner t.attributes) (all_attributes names (number + length t.attributes) (owner + 1) types)
    (kinds_from names number owner t.attributes (first_none (unknown_in names t.attributes) (unknown_type names types) e))
    (kinds_within names (number + length t.attributes) (owner + 1) types (second_none (unknown_in names t.attributes) (unknown_type names types) e))

pub count_from : (names : List (List ℕ)) (number owner : ℕ) (attributes : List AttributeForm) → length (attributes_from names number owner attributes) ≡ length attributes
count_from names number owner [] = refl
count_from names number owner (a ∷ attributes) = ap suc (count_from names (number + 1) owner attributes)

count_all : (names : List (List ℕ)) (number owner : ℕ) (types : List TypeForm) → length (all_attributes names number owner types) ≡ attribute_count types
count_all names number owner [] = refl
count_all names number owner (t ∷ types) =
    rw (
      length-append (attributes_from names number owner t.attributes) (all_attributes names (number + length t.attributes) (owner + 1) types),
      count_from names number owner t.attributes,
      count_all names (number + length t.attributes) (owner + 1) types,
    ) refl

-- the counts of types that are not too many
pub few_types : (types : List TypeForm) → written_fault types ≡ None → length types ≤ 64
few_types types e =
    let none = first_none (too_many types) _ e in
    let few = test_none (nat_lt 64 (length types)) _ _ none in
    grind (arith, nat_tests, few)

pub few_attributes : (types : List TypeForm) → written_fault types ≡ None → attribute_count types ≤ 256
few_attributes types e =
    let none = first_none (too_many types) _ e in
    let few = test_none (nat_lt 256 (attribute_count types)) _ None (rest_none (nat_lt 64 (length types)) _ _ none) in
    grind (arith, nat_tests, few)

pub resolved_orderly : (w : Written) → written_fault w.types ≡ None → IsOrderly (resolved w)
resolved_orderly w e =
    let names = names_in w.types in
    let after_counts = second_none (too_many w.types) _ e in
    let after_names = second_none (repeated_type w.types) _ after_counts in
    let parents = first_none (parents_fault [] w.types) _ after_names in
    let kinds = first_none (unknown_type names w.types) _ (second_none (parents_fault [] w.types) _ after_names) in
    let types : length w.types ≤ 64 = few_types w.types e in
    let attributes : attribute_count w.types ≤ 256 = few_attributes w.types e in
    let count : length names ≡ length w.types = length-map w.types (λ (t : TypeForm). t.name) in
    let all : length (all_attributes names 0 0 w.types) ≡ attribute_count w.types = count_all names 0 0 w.types in
    record {
      few_types = rw count types;
      parents = rw count (length-map w.types (λ (t : TypeForm). map (place_of names) t.parents));
      earlier = λ ty. below_more (0 + ty) ty _ (omega arith) (earlier_from [] w.types parents ty);
      few_attributes = rw all attributes;
      owners = owners_below (length names) names 0 0 w.types (omega (arith, count));
      kinds = kinds_within names 0 0 w.types kinds;
      next = omega (arith, attributes);
    }
