-- The canonical text of the schema that a written one is.
use Rattle.std.proofs.Common.{◌≡◌, ℕ, suc, ◌+◌, ◌<◌, ◌≤◌, Bool, true, false, not, ◌||◌, ◌&&◌, ◌==◌, cond, List, [], ◌∷◌, ◌++◌, length, map, get_or, Option, Some, None, refl, ap, sym, ◌∙◌, subst, arith, add-zero, zero-add, append-nil, append_assoc, eq-eqb, ne_eqb}
use Rattle.std.specs.Prelude.{codes, filter, flat_map}
use Rattle.std.specs.List.{range_with_len}
use Rattle.std.specs.Str.{bytes_eq}
use Rattle.std.proofs.lemmas.List.Concat.{flat_map-append}
use Rattle.std.proofs.lemmas.List.Elements.{filter-append}
use Rattle.std.proofs.lemmas.Slice.Eq.{bytes_eq-Decides}
use Rattle.st_lattice.specs.Outline.{Outline, type_name}
use Rattle.st_lattice.specs.Lattice.{below}
use Rattle.st_sexp.proofs.Pieces.{behind}
use Rattle.st_schema.specs.declared.fault.SchemaFault.{SchemaFault}
use Rattle.st_schema.specs.declared.written.Setting.TheVariants as setting
use Rattle.st_schema.specs.declared.written.Worded.{Worded}
use Rattle.st_schema.specs.declared.written.Worded.TheVariants as worded
use Rattle.st_schema.specs.declared.written.AttributeForm.{AttributeForm}
use Rattle.st_schema.specs.declared.written.TypeForm.{TypeForm}
use Rattle.st_schema.specs.declared.written.Written.{Written}
use Rattle.st_values.specs.Names.{has}
use Rattle.st_schema.specs.Checks.{parent_fault, parents_fault, unknown_of, unknown_in, unknown_type}
use Rattle.st_schema.specs.Resolved.{place_of, kind_of, inverse_in, is_on, is_unique, is_no_nulls, is_index, attribute_of_form, attributes_from, all_attributes, resolved}
use Rattle.st_schema.specs.Canonical.{in_list, kind_text, type_text, inverse_items, option_items, attribute_text, own_attributes, type_line, canonical}
use Rattle.st_schema.proofs.Text.{worded_text, value_text, setting_items, if_given, if_on, kept, kept_of, attribute_line, text_of}
use Rattle.st_schema.proofs.Text as written
use Rattle.st_schema.proofs.Content.{HasNoFault, option_or_none}
use Rattle.st_schema.proofs.Parents.{HasAll, all_earlier, all_more}

-- a name stands at its place
place_first : (same : Bool) (x name : List ℕ) (names : List (List ℕ)) → (same ≡ true → x ≡ name) → (same ≡ false → get_or names (place_of names name) [] ≡ name) →
    get_or (x ∷ names) (cond (not same) (1 + place_of names name) 0) [] ≡ name
place_first true x name names here later = here refl
place_first false x name names here later =
    let one : 1 + place_of names name ≡ suc (place_of names name) = omega arith in
    ap (λ (i : ℕ). get_or (x ∷ names) i []) one ∙ later refl

has_later : (same : Bool) (x name : List ℕ) (names : List (List ℕ)) → same ≡ false → (same || has names name) ≡ true → has names name ≡ true
has_later true x name names is h = absurd (cc)
has_later false x name names is h = h

named_place : (names : List (List ℕ)) (name : List ℕ) → has names name ≡ true → get_or names (place_of names name) [] ≡ name
named_place [] name h = absurd (cc)
named_place (x ∷ names) name h =
    place_first (bytes_eq x name) x name names (bytes_eq-Decides x name).0 (λ other. named_place names name (has_later (bytes_eq x name) x name names other h))

-- types of values by their names
kind_is : (schema : Outline) (w : Worded) → unknown_of schema.names w ≡ None → kind_text schema (kind_of schema.names w) ≡ worded_text w
kind_is schema worded.Int known = refl
kind_is schema worded.Bool known = refl
kind_is schema (worded.Text size) known = refl
kind_is schema (worded.Entity name) known = named_place schema.names name (is_known (has schema.names name) name known)
  where
    is_known : (b : Bool) (name : List ℕ) → cond b None (Some (Rattle.st_schema.specs.declared.fault.SchemaFault.TheVariants.UnknownType name)) ≡ None → b ≡ true
    is_known true name known = refl
    is_known false name known = absurd (cc)

value_is : (schema : Outline) (many : Bool) (w : Worded) → unknown_of schema.names w ≡ None → type_text schema many (kind_of schema.names w) ≡ value_text many w
value_is schema false w known = kind_is schema w known
value_is schema true w known = ap (λ text. in_list (codes "set-of" ∷ text ∷ [])) (kind_is schema w known)

-- options
inverse_is : (inverse : Option (List ℕ)) → inverse_items inverse ≡ flat_map setting_items (if_given inverse)
inverse_is None = refl
inverse_is (Some name) = refl

unique_is : (on : Bool) → option_items (codes ":unique") on ≡ flat_map setting_items (if_on (setting.Unique true) on)
unique_is true = refl
unique_is false = refl

no_nulls_is : (on : Bool) → option_items (codes ":no-nulls") on ≡ flat_map setting_items (if_on (setting.NoNulls true) on)
no_nulls_is true = refl
no_nulls_is false = refl

index_is : (on : Bool) → option_items (codes ":index") on ≡ flat_map setting_items (if_on (setting.Index true) on)
index_is true = refl
index_is false = refl

options_are : (inverse : Option (List ℕ)) (unique no_nulls index : Bool) →
    inverse_items inverse ++ option_items (codes ":unique") unique ++ option_items (codes ":no-nulls") no_nulls ++ option_items (codes ":index") (index && not unique) ≡ flat_map setting_items (kept inverse unique no_nulls index)
options_are inverse unique no_nulls index =
    rw (flat_map-append, flat_map-append, flat_map-append, ← inverse_is inverse, ← unique_is unique, ← no_nulls_is no_nulls, ← index_is (index && not unique)) (simp append_assoc)

attribute_is : (schema : Outline) (number owner : ℕ) (a : AttributeForm) → unknown_of schema.names a.worded ≡ None → attribute_text schema (attribute_of_form schema.names number owner a) ≡ attribute_line a
attribute_is schema number owner a known =
    let value = value_is schema a.many a.worded known in
    let options = options_are (inverse_in a.choices) (is_on is_unique a.choices) (is_on is_no_nulls a.choices) (is_on is_unique a.choices || is_on is_index a.choices) in
    λ i. in_list (a.name ∷ value i ∷ options i)

attributes_are : (schema : Outline) (number owner : ℕ) (attributes : List AttributeForm) → unknown_in schema.names attributes ≡ None → map (attribute_text schema) (attributes_from schema.names number owner attributes) ≡ map attribute_line attributes
attributes_are schema number owner [] known = refl
attributes_are schema number owner (a ∷ attributes) known =
    let both = option_or_none (unknown_of schema.names a.worded) (unknown_in schema.names attributes) known in
    let one = attribute_is schema number owner a both.0 in
    let more = attributes_are schema (number + 1) owner attributes both.1 in
    λ i. one i ∷ more i

-- which attributes are of which owner
kept_own : (names : List (List ℕ)) (number owner : ℕ) (attributes : List AttributeForm) → filter (λ a. a.owner == owner) (attributes_from names number owner attributes) ≡ attributes_from names number owner attributes
kept_own names number owner [] = refl
kept_own names number owner (a ∷ attributes) = rw (eq-eqb owner owner refl, kept_own names (number + 1) owner attributes) refl

dropped_own : (names : List (List ℕ)) (number owner ty : ℕ) (attributes : List AttributeForm) → (owner ≡ ty → ⊥) → filter (λ a. a.owner == ty) (attributes_from names number owner attributes) ≡ []
dropped_own names number owner ty [] other = refl
dropped_own names number owner ty (a ∷ attributes) other = rw (ne_eqb owner ty other) (dropped_own names (number + 1) owner ty attributes other)

dropped_all : (names : List (List ℕ)) (number owner ty : ℕ) (types : List TypeForm) → ty < owner → filter (λ a. a.owner == ty) (all_attributes names number owner types) ≡ []
dropped_all names number owner ty [] earlier = refl
dropped_all names number owner ty (t ∷ types) earlier =
    filter-append (λ a. a.owner == ty) (attributes_from names number owner t.attributes) (all_attributes names (number + length t.attributes) (owner + 1) types)
    ∙ (λ i. dropped_own names number owner ty t.attributes (λ same. absurd (omega arith)) i ++ dropped_all names (number + length t.attributes) (owner + 1) ty types (omega arith) i)

-- parents by their names
parents_are : (schema : Outline) (parents : List (List ℕ)) → HasAll schema.names parents → map (type_name schema) (map (place_of schema.names) parents) ≡ parents
parents_are schema [] known = refl
parents_are schema (parent ∷ parents) known =
    let one = named_place schema.names parent known.0 in
    let more = parents_are schema parents known.1 in
    λ i. one i ∷ more i

-- a list from a place on
abbrev IsRest : List (List ℕ) → ℕ → List (List ℕ) → Type 0
IsRest all k rest = (i : ℕ) → get_or all (k + i) [] ≡ get_or rest i []

rest_first : (all : List (List ℕ)) (k : ℕ) (x : List ℕ) (rest : List (List ℕ)) → IsRest all k (x ∷ rest) → get_or all k [] ≡ x
rest_first all k x rest is = ap (λ (i : ℕ). get_or all i []) (sym (add-zero k)) ∙ is 0

rest_next : (all : List (List ℕ)) (k : ℕ) (x : List ℕ) (rest : List (List ℕ)) → IsRest all k (x ∷ rest) → IsRest all (k + 1) rest
rest_next all k x rest is i = let same : k + 1 + i ≡ k + suc i = omega arith in ap (λ (j : ℕ). get_or all j []) same ∙ is (suc i)

-- the types of a schema from a place on are these written ones
record Covers (schema : Outline) (k number : ℕ) (earlier : List (List ℕ)) (types : List TypeForm) : Type 0 where
  pub all : schema.names ≡ earlier ++ map (λ t. t.name) types
  pub named : IsRest schema.names k (map (λ t. t.name) types)
  pub parents : IsRest schema.parents k (map (λ t. map (place_of schema.names) t.parents) types)
  pub attributes : (ty : ℕ) → k ≤ ty → own_attributes schema ty ≡ filter (λ a. a.owner == ty) (all_attributes schema.names number k types)
  pub earlier_parents : parents_fault earlier types ≡ None
  pub known : unknown_type schema.names types ≡ None

covers_next : (schema : Outline) (k number : ℕ) (earlier : List (List ℕ)) (t : TypeForm) (types : List TypeForm) → Covers schema k number earlier (t ∷ types) → Covers schema (k + 1) (number + length t.attributes) (earlier ++ t.name ∷ []) types
covers_next schema k number earlier t types covers =
    let own = attributes_from schema.names number k t.attributes in
    let more = all_attributes schema.names (number + length t.attributes) (k + 1) types in
    record {
      all = covers.all ∙ sym (append_assoc earlier (t.name ∷ []) (map (λ t. t.name) types));
      named = rest_next schema.names k t.name (map (λ t. t.name) types) covers.named;
      parents = rest_next schema.parents k (map (place_of schema.names) t.parents) (map (λ t. map (place_of schema.names) t.parents) types) covers.parents;
      attributes = λ ty later.
          covers.attributes ty (omega arith) ∙ filter-append (λ a. a.owner == ty) own more
          ∙ ap (λ front. front ++ filter (λ a. a.owner == ty) more) (dropped_own schema.names number k ty t.attributes (λ same. absurd (omega arith)));
      earlier_parents = (option_or_none (parent_fault earlier [] t.parents) (parents_fault (earlier ++ t.name ∷ []) types) covers.earlier_parents).1;
      known = (option_or_none (unknown_in schema.names t.attributes) (unknown_type schema.names types) covers.known).1;
    }

first_attributes : (schema : Outline) (k number : ℕ) (earlier : List (List ℕ)) (t : TypeForm) (types : List TypeForm) → Covers schema k number earlier (t ∷ types) → own_attributes schema k ≡ attributes_from schema.names number k t.attributes
first_attributes schema k number earlier t types covers =
    let own = attributes_from schema.names number k t.attributes in
    let more = all_attributes schema.names (number + length t.attributes) (k + 1) types in
    covers.attributes k (omega arith) ∙ filter-append (λ a. a.owner == k) own more
    ∙ (λ i. kept_own schema.names number k t.attributes i ++ dropped_all schema.names (number + length t.attributes) (k + 1) k types (omega arith) i)
    ∙ append-nil own

-- the line of the first of these types
first_line : (schema : Outline) (k number : ℕ) (earlier : List (List ℕ)) (t : TypeForm) (types : List TypeForm) → Covers schema k number earlier (t ∷ types) → type_line schema k ≡ written.type_text t ++ 10 ∷ []
first_line schema k number earlier t types covers =
    let name = rest_first schema.names k t.name (map (λ t. t.name) types) covers.named in
    let known_parents : HasAll schema.names t.parents =
    subst (λ names. HasAll names t.parents) (sym covers.all) (all_more earlier (t.name ∷ map (λ t. t.name) types) t.parents (all_earlier earlier [] t.parents (option_or_none (parent_fault earlier [] t.parents) (parents_fault (earlier ++ t.name ∷ []) types) covers.earlier_parents).0)) in
    let parents = ap (map (type_name schema)) (rest_first schema.parents k (map (place_of schema.names) t.parents) (map (λ t. map (place_of schema.names) t.parents) types) covers.parents) ∙ parents_are schema t.parents known_parents in
    let known = (option_or_none (unknown_in schema.names t.attributes) (unknown_type schema.names types) covers.known).0 in
    let attributes = ap (map (attribute_text schema)) (first_attributes schema k number earlier t types covers) ∙ attributes_are schema number k t.attributes known in
    λ i. in_list (codes "define-entity-type" ∷ name i ∷ in_list (parents i) ∷ in_list (attributes i) ∷ []) ++ 10 ∷ []

lines_are : (schema : Outline) (k number : ℕ) (earlier : List (List ℕ)) (types : List TypeForm) → Covers schema k number earlier types →
    10 ∷ flat_map (type_line schema) (range_with_len k (length types)) ≡ behind 10 (map written.type_text types) ++ 10 ∷ []
lines_are schema k number earlier [] covers = refl
lines_are schema k number earlier (t ∷ types) covers =
    let text = written.type_text t in
    let more = lines_are schema (k + 1) (number + length t.attributes) (earlier ++ t.name ∷ []) types (covers_next schema k number earlier t types covers) in
    let lines = flat_map (type_line schema) (range_with_len (k + 1) (length types)) in
    ap (λ line. 10 ∷ (line ++ lines)) (first_line schema k number earlier t types covers)
    ∙ ap (λ all. 10 ∷ all) (append_assoc text (10 ∷ []) lines ∙ ap (λ all. text ++ all) more ∙ sym (append_assoc text (behind 10 (map written.type_text types)) (10 ∷ [])))

map_length : (types : List TypeForm) → length (map (λ t. t.name) types) ≡ length types
map_length [] = refl
map_length (t ∷ types) = ap (λ (n : ℕ). suc n) (map_length types)

-- the canonical text of what a written schema means
pub canonical-resolved : (w : Written) → HasNoFault w.types → canonical (resolved w) ≡ text_of w ++ 10 ∷ []
canonical-resolved w good =
    let schema = resolved w in
    let front = in_list (codes "define-schema" ∷ w.name ∷ []) in
    let lines = lines_are schema 0 0 [] w.types (record {
      all = refl;
      named = λ i. ap (λ (j : ℕ). get_or schema.names j []) (zero-add i);
      parents = λ i. ap (λ (j : ℕ). get_or schema.parents j []) (zero-add i);
      attributes = λ ty later. refl;
      earlier_parents = good.parents;
      known = good.known;
    }) in
    ap (λ (n : ℕ). front ++ 10 ∷ flat_map (type_line schema) (below n)) (map_length w.types) ∙ ap (λ all. front ++ all) lines ∙ sym (append_assoc front (behind 10 (map written.type_text w.types)) (10 ∷ []))
