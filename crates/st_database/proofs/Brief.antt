-- The texts of a schema that was read have at most 200 bytes, so that its keys have at most 201.
use Rattle.std.proofs.Common.{◌≡◌, ℕ, ◌+◌, ◌≤◌, lit≤, Bool, true, false, ◌&&◌, ◌||◌, leb, cond, List, [], ◌∷◌, Option, Some, None, Ok, refl, sym, ap, ◌∙◌, subst, arith, true≢false}
use Rattle.std.specs.Prelude.{codes, length, map, ℤ, pos, negsuc}
use Rattle.std.specs.List.{All}
use Rattle.std.specs.Option.{option_and_then, option_or, ok_or}
use Rattle.std.specs.Str.{bytes_eq}
use Rattle.std.proofs.lemmas.Bool.{and_parts, leb-true}
use Rattle.std.proofs.lemmas.List.Elements.{All-append, All-cons, All-head, All-nil, All-tail}
use Rattle.st_sexp.specs.declared.form.Form.{Form}
use Rattle.st_sexp.specs.Views.{as_name, as_number}
use Rattle.st_sexp.specs.Names.{is_name}
use Rattle.st_sexp.specs.Items.{and_then, name_at, forms_at, next_at, end_of, behind}
use Rattle.st_sexp.proofs.Steps.{step, given, passed, end_good}
use Rattle.st_lattice.specs.declared.attribute.Attribute.{Attribute}
use Rattle.st_lattice.specs.Outline.{Outline}
use Rattle.st_lattice.specs.Stores.{key_width}
use Rattle.st_schema.specs.declared.fault.SchemaFault.{SchemaFault}
use Rattle.st_schema.specs.declared.fault.SchemaFault.TheVariants as fault
use Rattle.st_schema.specs.declared.written.Worded.{Worded}
use Rattle.st_schema.specs.declared.written.Worded.TheVariants as worded
use Rattle.st_schema.specs.declared.written.AttributeForm.{AttributeForm}
use Rattle.st_schema.specs.declared.written.TypeForm.{TypeForm}
use Rattle.st_schema.specs.declared.written.Written.{Written}
use Rattle.st_schema.specs.Written.{size_of, size_at, sized_string, type_word, worded_at, single_type, set_type, type_at, value_type, choices_after, last_attributes, attribute_parts, attribute_form, attribute_forms, names_at, type_parts, type_form, type_forms, schema_name, schema_front, written}
use Rattle.st_schema.specs.Checks.{unless, written_fault, goes_with, choice_fault, choices_in, bad_option, too_many, repeated_type, parents_fault, unknown_type}
use Rattle.st_schema.specs.declared.written.Setting.{Setting}
use Rattle.st_schema.specs.declared.written.Setting.TheVariants as setting
use Rattle.st_schema.specs.declared.written.Choice.{Choice}
use Rattle.st_schema.specs.Resolved.{kind_of, is_on, is_unique, is_index, attribute_of_form, attributes_from, all_attributes, resolved}
use Rattle.st_values.proofs.Tests.{first-of}
use Rattle.st_schema.specs.Meaning.{schema_of, schema_fault}

-- a type of values has texts of at most 200 bytes, if any
abbrev IsBrief : Worded → Type 0
IsBrief (worded.Text size) = size ≤ 200
IsBrief _ = Unit {0}

size-brief : (number : Option ℤ) (n : ℕ) → size_of number ≡ Some n → n ≤ 200
size-brief None n is = absurd (cc)
size-brief (Some (pos m)) n is =
    let passes = passed (leb 1 m && leb m 200) m n is in
    let both = and_parts (leb 1 m) (leb m 200) passes.0 in
    subst (λ (n : ℕ). n ≤ 200) passes.1 (leb-true m 200 both.1)
size-brief (Some (negsuc m)) n is = absurd (cc)

sized-brief : (place : ℕ) (parts : List Form) (w : Worded) → sized_string place parts ≡ Ok w → IsBrief w
sized-brief place parts w is =
    let one = step (next_at fault.Form place parts) (λ p. and_then (size_at (p.0)) (λ size. end_of fault.Form (p.1) (worded.Text size))) w is in
    let two = step (size_at one.value.0) (λ size. end_of fault.Form (one.value.1) (worded.Text size)) w one.then in
    let size = size-brief (as_number one.value.0) two.value (given (size_of (as_number one.value.0)) _ two.value two.was) in
    subst IsBrief (end_good fault.Form one.value.1 (worded.Text two.value) w two.then) size

choose : (b : Bool) (x y : Option Worded) (w : Worded) → cond b x y ≡ Some w → (x ≡ Some w → IsBrief w) → (y ≡ Some w → IsBrief w) → IsBrief w
choose true x y w is p q = p is
choose false x y w is p q = q is

is-worded : (v w : Worded) → IsBrief v → Some v ≡ Some w → IsBrief w
is-worded v w brief is = let same : v ≡ w = cc in subst IsBrief same brief

word-brief : (word : List ℕ) (w : Worded) → type_word word ≡ Some w → IsBrief w
word-brief word w is =
    choose (bytes_eq word (codes "integer")) _ _ w is (is-worded worded.Int w tt) (λ is.
    choose (bytes_eq word (codes "boolean")) _ _ w is (is-worded worded.Bool w tt) (λ is.
    choose (bytes_eq word (codes "string")) _ _ w is (is-worded (worded.Text 80) w (lit≤ tt)) (λ is.
    let both = passed (is_name word) (worded.Entity word) w is in subst IsBrief both.1 tt)))

named-brief : (letters : Option (List ℕ)) (w : Worded) → option_and_then type_word letters ≡ Some w → IsBrief w
named-brief None w is = absurd (cc)
named-brief (Some word) w is = word-brief word w is

worded-brief : (form : Form) (parts : Option (List Form)) (w : Worded) → worded_at form parts ≡ Ok w → IsBrief w
worded-brief form (Some parts) w is = sized-brief form.from parts w is
worded-brief form None w is = named-brief (as_name form) w (given (option_and_then type_word (as_name form)) _ w is)

single-brief : (form : Form) (w : Worded) → single_type form ≡ Ok w → IsBrief w
single-brief form w is = worded-brief form (behind (codes "string") form) w is

set-brief : (place : ℕ) (parts : List Form) (ty : Worded × Bool) → set_type place parts ≡ Ok ty → IsBrief (ty.0)
set-brief place parts ty is =
    let one = step (next_at fault.Form place parts) (λ p. and_then (single_type (p.0)) (λ w. end_of fault.Form (p.1) (w, true))) ty is in
    let two = step (single_type one.value.0) (λ w. end_of fault.Form (one.value.1) (w, true)) ty one.then in
    subst (λ (ty : Worded × Bool). IsBrief (ty.0)) (end_good fault.Form one.value.1 (two.value, true) ty two.then) (single-brief one.value.0 two.value two.was)

type-brief : (form : Form) (parts : Option (List Form)) (ty : Worded × Bool) → type_at form parts ≡ Ok ty → IsBrief (ty.0)
type-brief form (Some parts) ty is = set-brief form.from parts ty is
type-brief form None ty is =
    let one = step (single_type form) (λ w. Ok (w, false)) ty is in
    let same : ◌≡◌ {A = Worded × Bool} (one.value, false) ty = (let e = one.then in cc) in
    subst (λ (ty : Worded × Bool). IsBrief (ty.0)) same (single-brief form one.value one.was)

value-brief : (form : Form) (ty : Worded × Bool) → value_type form ≡ Ok ty → IsBrief (ty.0)
value-brief form ty is = type-brief form (behind (codes "set-of") form) ty is

-- attributes and types as they are written
abbrev BriefOne : AttributeForm → Type 0
BriefOne a = IsBrief a.worded

abbrev BriefType : TypeForm → Type 0
BriefType t = All BriefOne t.attributes

parts-brief : (place : ℕ) (parts : List Form) (a : AttributeForm) → attribute_parts place parts ≡ Ok a → BriefOne a
parts-brief place parts a is =
    let one = step (next_at fault.Form place parts) _ a is in
    let two = step (name_at fault.Form one.value.0) _ a one.then in
    let three = step (next_at fault.Form place one.value.1) _ a two.then in
    let four = step (value_type three.value.0) _ a three.then in
    let five = step (choices_after [] three.value.1) (λ choices. Ok (record { name = two.value; worded = four.value.0; many = four.value.1; choices = choices })) a four.then in
    let same : ◌≡◌ {A = AttributeForm} (record { name = two.value; worded = four.value.0; many = four.value.1; choices = five.value }) a = (let e = five.then in cc) in
    subst BriefOne same (value-brief three.value.0 four.value four.was)

attribute-brief : (form : Form) (a : AttributeForm) → attribute_form form ≡ Ok a → BriefOne a
attribute-brief form a is = let one = step (forms_at fault.Form form) (λ parts. attribute_parts form.from parts) a is in parts-brief form.from one.value a one.then

attributes-brief : (forms : List Form) (attributes : List AttributeForm) → attribute_forms forms ≡ Ok attributes → All BriefOne attributes
attributes-brief [] attributes is = let same : [] ≡ attributes = cc in subst (All BriefOne) same (All-nil BriefOne)
attributes-brief (form ∷ forms) attributes is =
    let one = step (attribute_form form) (λ a. and_then (attribute_forms forms) (λ more. Ok (a ∷ more))) attributes is in
    let two = step (attribute_forms forms) (λ more. Ok (one.value ∷ more)) attributes one.then in
    let same : one.value ∷ two.value ≡ attributes = (let e = two.then in cc) in
    subst (All BriefOne) same (All-cons BriefOne one.value two.value (attribute-brief form one.value one.was) (attributes-brief forms two.value two.was))

last-brief : (place : ℕ) (parts : List Form) (attributes : List AttributeForm) → last_attributes place parts ≡ Ok attributes → All BriefOne attributes
last-brief place parts attributes is =
    let one = step (next_at fault.Form place parts) _ attributes is in
    let two = step (forms_at fault.Form one.value.0) _ attributes one.then in
    let three = step (attribute_forms two.value) (λ attributes. end_of fault.Form (one.value.1) attributes) attributes two.then in
    subst (All BriefOne) (end_good fault.Form one.value.1 three.value attributes three.then) (attributes-brief two.value three.value three.was)

type-parts-brief : (place : ℕ) (parts : List Form) (t : TypeForm) → type_parts place parts ≡ Ok t → BriefType t
type-parts-brief place parts t is =
    let one = step (next_at fault.Form place parts) _ t is in
    let two = step (name_at fault.Form one.value.0) _ t one.then in
    let three = step (next_at fault.Form place one.value.1) _ t two.then in
    let four = step (forms_at fault.Form three.value.0) _ t three.then in
    let five = step (names_at four.value) _ t four.then in
    let six = step (last_attributes place three.value.1) (λ attributes. Ok (record { name = two.value; parents = five.value; attributes = attributes })) t five.then in
    let same : ◌≡◌ {A = TypeForm} (record { name = two.value; parents = five.value; attributes = six.value }) t = (let e = six.then in cc) in
    subst BriefType same (last-brief place three.value.1 six.value six.was)

type-form-brief : (form : Form) (t : TypeForm) → type_form form ≡ Ok t → BriefType t
type-form-brief form t is = let one = step _ (λ parts. type_parts form.from parts) t is in type-parts-brief form.from one.value t one.then

types-brief : (forms : List Form) (types : List TypeForm) → type_forms forms ≡ Ok types → All BriefType types
types-brief [] types is = let same : [] ≡ types = cc in subst (All BriefType) same (All-nil BriefType)
types-brief (form ∷ forms) types is =
    let one = step (type_form form) (λ t. and_then (type_forms forms) (λ more. Ok (t ∷ more))) types is in
    let two = step (type_forms forms) (λ more. Ok (one.value ∷ more)) types one.then in
    let same : one.value ∷ two.value ≡ types = (let e = two.then in cc) in
    subst (All BriefType) same (All-cons BriefType one.value two.value (type-form-brief form one.value one.was) (types-brief forms two.value two.was))

written-brief : (forms : List Form) (w : Written) → written forms ≡ Ok w → All BriefType w.types
written-brief forms w is =
    let one = step (ok_or (schema_front forms) (fault.Form 0)) (λ p. and_then (schema_name (p.1.from) (p.0)) (λ name. and_then (type_forms (p.2)) (λ types. Ok (record { name = name; types = types })))) w is in
    let two = step (schema_name (one.value.1.from) one.value.0) (λ name. and_then (type_forms (one.value.2)) (λ types. Ok (record { name = name; types = types }))) w one.then in
    let three = step (type_forms (one.value.2)) (λ types. Ok (record { name = two.value; types = types })) w two.then in
    let same : ◌≡◌ {A = Written} (record { name = two.value; types = three.value }) w = (let e = three.then in cc) in
    subst (λ (w : Written). All BriefType w.types) same (types-brief one.value.2 three.value three.was)

-- ---- attributes with their numbers

abbrev pub HasShortKey : Attribute → Type 0
HasShortKey a = key_width a.kind ≤ 201

worded-short : (names : List (List ℕ)) (w : Worded) → IsBrief w → key_width (kind_of names w) ≤ 201
worded-short names worded.Int h = lit≤ tt
worded-short names worded.Bool h = lit≤ tt
worded-short names (worded.Text size) h = omega (arith, h)
worded-short names (worded.Entity name) h = lit≤ tt

open-head : (P : AttributeForm → Type 0) (a : AttributeForm) (attributes : List AttributeForm) → All P (a ∷ attributes) → P a × All P attributes
open-head P a attributes h = (All-head P a attributes h, All-tail P a attributes h)

from-short : (names : List (List ℕ)) (number owner : ℕ) (attributes : List AttributeForm) → All BriefOne attributes → All HasShortKey (attributes_from names number owner attributes)
from-short names number owner [] h = All-nil HasShortKey
from-short names number owner (a ∷ attributes) h =
    let parts = open-head BriefOne a attributes h in
    All-cons HasShortKey (attribute_of_form names number owner a) (attributes_from names (number + 1) owner attributes) (worded-short names a.worded parts.0) (from-short names (number + 1) owner attributes parts.1)

all-short : (names : List (List ℕ)) (number owner : ℕ) (types : List TypeForm) → All BriefType types → All HasShortKey (all_attributes names number owner types)
all-short names number owner [] h = All-nil HasShortKey
all-short names number owner (t ∷ types) h =
    All-append HasShortKey (attributes_from names number owner t.attributes) (all_attributes names (number + length t.attributes) (owner + 1) types)
    (from-short names number owner t.attributes (All-head BriefType t types h)) (all-short names (number + length t.attributes) (owner + 1) types (All-tail BriefType t types h))

-- ---- the schema of forms

unless-is : (found : Option SchemaFault) (s schema : Outline) → unless found s ≡ Ok schema → s ≡ schema
unless-is None s schema e = cc
unless-is (Some f) s schema e = absurd (cc)

pub short-keys : (forms : List Form) (schema : Outline) → schema_of forms ≡ Ok schema → All HasShortKey schema.attributes
short-keys forms schema is =
    let one = step (written forms) (λ w. and_then (unless (written_fault w.types) (resolved w)) (λ s. unless (schema_fault s) s)) schema is in
    let two = step (unless (written_fault one.value.types) (resolved one.value)) (λ s. unless (schema_fault s) s) schema one.then in
    let last : two.value ≡ schema = unless-is (schema_fault two.value) two.value schema two.then in
    let first : resolved one.value ≡ two.value = unless-is (written_fault one.value.types) (resolved one.value) two.value two.was in
    subst (λ (s : Outline). All HasShortKey s.attributes) last (subst (λ (s : Outline). All HasShortKey s.attributes) first
    (all-short (map (λ t. t.name) one.value.types) 0 0 one.value.types (written-brief forms one.value one.was)))

-- ---- no values stand apart from the rows, and each unique attribute keeps an index

pub record IsPlainOne (a : Attribute) : Type 0 where
  pub in_rows : a.column ≡ false
  pub indexed : a.unique ≡ true → a.index ≡ true

form-plain : (names : List (List ℕ)) (number owner : ℕ) (a : AttributeForm) → IsPlainOne (attribute_of_form names number owner a)
form-plain names number owner a = record { in_rows = refl; indexed = λ e. first-of (is_on is_unique a.choices) (is_on is_index a.choices) e }

from-plain : (names : List (List ℕ)) (number owner : ℕ) (attributes : List AttributeForm) → All IsPlainOne (attributes_from names number owner attributes)
from-plain names number owner [] = All-nil IsPlainOne
from-plain names number owner (a ∷ attributes) =
    All-cons IsPlainOne (attribute_of_form names number owner a) (attributes_from names (number + 1) owner attributes) (form-plain names number owner a) (from-plain names (number + 1) owner attributes)

all-plain : (names : List (List ℕ)) (number owner : ℕ) (types : List TypeForm) → All IsPlainOne (all_attributes names number owner types)
all-plain names number owner [] = All-nil IsPlainOne
all-plain names number owner (t ∷ types) =
    All-append IsPlainOne (attributes_from names number owner t.attributes) (all_attributes names (number + length t.attributes) (owner + 1) types)
    (from-plain names number owner t.attributes) (all-plain names (number + length t.attributes) (owner + 1) types)

pub plain-attributes : (forms : List Form) (schema : Outline) → schema_of forms ≡ Ok schema → All IsPlainOne schema.attributes
plain-attributes forms schema is =
    let one = step (written forms) (λ w. and_then (unless (written_fault w.types) (resolved w)) (λ s. unless (schema_fault s) s)) schema is in
    let two = step (unless (written_fault one.value.types) (resolved one.value)) (λ s. unless (schema_fault s) s) schema one.then in
    let last : two.value ≡ schema = unless-is (schema_fault two.value) two.value schema two.then in
    let first : resolved one.value ≡ two.value = unless-is (written_fault one.value.types) (resolved one.value) two.value two.was in
    subst (λ (s : Outline). All IsPlainOne s.attributes) last (subst (λ (s : Outline). All IsPlainOne s.attributes) first (all-plain (map (λ t. t.name) one.value.types) 0 0 one.value.types))

-- ---- no set is unique

abbrev pub IsLoneSet : Attribute → Type 0
IsLoneSet a = a.many ≡ true → a.unique ≡ false

-- no option that goes with a set makes it unique
not-unique : (w : Worded) (s : Setting) → goes_with w true s ≡ true → is_unique s ≡ false
not-unique w (setting.Inverse name) g = refl
not-unique w (setting.Unique true) g = absurd (true≢false (sym g))
not-unique w (setting.Unique false) g = refl
not-unique w (setting.NoNulls on) g = refl
not-unique w (setting.Index on) g = refl

none-both : {A : Type 0} (a b : Option A) → option_or a b ≡ None → (a ≡ None) × (b ≡ None)
none-both None b none = (refl, none)
none-both (Some x) b none = absurd (cc)

goes-first : (goes : Bool) (w : Worded) (many : Bool) (place : ℕ) (choices : List Choice) → cond goes (choice_fault w many choices) (Some (fault.BadOption place)) ≡ None → (goes ≡ true) × (choice_fault w many choices ≡ None)
goes-first true w many place choices is = (refl, is)
goes-first false w many place choices is = absurd (cc)

choices-alone : (w : Worded) (choices : List Choice) → choice_fault w true choices ≡ None → is_on is_unique choices ≡ false
choices-alone w [] e = refl
choices-alone w (c ∷ choices) e =
    let goes = goes-first (goes_with w true c.setting) w true c.place choices e in
    ap (λ b. b || is_on is_unique choices) (not-unique w c.setting goes.0) ∙ choices-alone w choices goes.1

form-alone : (names : List (List ℕ)) (number owner : ℕ) (a : AttributeForm) → choice_fault a.worded a.many a.choices ≡ None → IsLoneSet (attribute_of_form names number owner a)
form-alone names number owner a e = λ many. choices-alone a.worded a.choices (subst (λ b. choice_fault a.worded b a.choices ≡ None) many e)

from-alone : (names : List (List ℕ)) (number owner : ℕ) (attributes : List AttributeForm) → choices_in attributes ≡ None → All IsLoneSet (attributes_from names number owner attributes)
from-alone names number owner [] e = All-nil IsLoneSet
from-alone names number owner (a ∷ attributes) e =
    let parts = none-both (choice_fault a.worded a.many a.choices) (choices_in attributes) e in
    All-cons IsLoneSet (attribute_of_form names number owner a) (attributes_from names (number + 1) owner attributes) (form-alone names number owner a parts.0) (from-alone names (number + 1) owner attributes parts.1)

all-alone : (names : List (List ℕ)) (number owner : ℕ) (types : List TypeForm) → bad_option types ≡ None → All IsLoneSet (all_attributes names number owner types)
all-alone names number owner [] e = All-nil IsLoneSet
all-alone names number owner (t ∷ types) e =
    let parts = none-both (choices_in t.attributes) (bad_option types) e in
    All-append IsLoneSet (attributes_from names number owner t.attributes) (all_attributes names (number + length t.attributes) (owner + 1) types)
    (from-alone names number owner t.attributes parts.0) (all-alone names (number + length t.attributes) (owner + 1) types parts.1)

no-fault : (found : Option SchemaFault) (s schema : Outline) → unless found s ≡ Ok schema → found ≡ None
no-fault None s schema e = refl
no-fault (Some f) s schema e = absurd (cc)

pub lone-sets : (forms : List Form) (schema : Outline) → schema_of forms ≡ Ok schema → All IsLoneSet schema.attributes
lone-sets forms schema is =
    let one = step (written forms) (λ w. and_then (unless (written_fault w.types) (resolved w)) (λ s. unless (schema_fault s) s)) schema is in
    let two = step (unless (written_fault one.value.types) (resolved one.value)) (λ s. unless (schema_fault s) s) schema one.then in
    let last : two.value ≡ schema = unless-is (schema_fault two.value) two.value schema two.then in
    let first : resolved one.value ≡ two.value = unless-is (written_fault one.value.types) (resolved one.value) two.value two.was in
    let none = no-fault (written_fault one.value.types) (resolved one.value) two.value two.was in
    let many = none-both (too_many one.value.types) _ none in
    let repeated = none-both (repeated_type one.value.types) _ many.1 in
    let parents = none-both (parents_fault [] one.value.types) _ repeated.1 in
    let unknown = none-both (unknown_type (map (λ t. t.name) one.value.types) one.value.types) (bad_option one.value.types) parents.1 in
    subst (λ (s : Outline). All IsLoneSet s.attributes) last (subst (λ (s : Outline). All IsLoneSet s.attributes) first (all-alone (map (λ t. t.name) one.value.types) 0 0 one.value.types unknown.1))
