-- What is due for forms is never want of memory: each definition that answers faults names others alone.
use Rattle.std.proofs.Common.{◌≡◌, ◌≢◌, ℕ, Bool, true, false, not, nat_lt, cond, List, [], ◌∷◌, ◌++◌, length, map, Option, Some, None, Ok, Err, refl}
use Rattle.std.specs.Prelude.{IfErr, IfSome, codes}
use Rattle.std.specs.Option.{option_or, option_map, option_and_then, ok_or}
use Rattle.st_sexp.specs.declared.form.Form.{Form}
use Rattle.st_sexp.specs.Views.{as_name, as_number, as_list, as_front}
use Rattle.st_lattice.specs.declared.feature.Named.{Named}
use Rattle.st_lattice.specs.Outline.{Outline, type_name}
use Rattle.st_lattice.specs.Lattice.{below}
use Rattle.st_lattice.specs.Features.{features}
use Rattle.st_lattice.specs.Stores.{row_width}
use Rattle.st_schema.specs.declared.fault.SchemaFault.{SchemaFault}
use Rattle.st_schema.specs.declared.fault.SchemaFault.TheVariants as fault
use Rattle.st_schema.specs.declared.written.Choice.{Choice}
use Rattle.st_schema.specs.declared.written.Worded.{Worded}
use Rattle.st_schema.specs.declared.written.Worded.TheVariants as worded
use Rattle.st_schema.specs.declared.written.AttributeForm.{AttributeForm}
use Rattle.st_schema.specs.declared.written.TypeForm.{TypeForm}
use Rattle.st_sexp.specs.Items as items
use Rattle.st_schema.specs.Written as grammar
use Rattle.st_values.specs.Names.{has, first_repeated}
use Rattle.st_schema.specs.Checks as checks
use Rattle.st_schema.specs.Resolved.{resolved}
use Rattle.st_schema.specs.Meaning as meaning

-- a fault that is not want of memory
abbrev IsDue : SchemaFault → Type 0
IsDue f = f ≢ fault.Memory

-- what was read is no want of memory
abbrev NoWant : {A : Type 0} → grammar.Reading A → Type 0
NoWant r = IfErr r IsDue

form_due : (place : ℕ) → IsDue (fault.Form place)
form_due place e = cc e

option_due : (place : ℕ) → IsDue (fault.BadOption place)
option_due place e = cc e

after : {A B : Type 0} (r : grammar.Reading A) (more : A → grammar.Reading B) → NoWant r → ((x : A) → NoWant (more x)) → NoWant (items.and_then r more)
after (Ok x) more p q = q x
after (Err f) more p q = p

given : {A : Type 0} (o : Option A) (f : SchemaFault) → IsDue f → NoWant (ok_or o f)
given (Some x) f h = tt
given None f h = h

name_at : (form : Form) → NoWant (items.name_at fault.Form form)
name_at form = given (items.identifier form) (fault.Form form.from) (form_due form.from)

forms_at : (form : Form) → NoWant (items.forms_at fault.Form form)
forms_at form = given (as_list form) (fault.Form form.from) (form_due form.from)

next_at : (place : ℕ) (forms : List Form) → NoWant (items.next_at fault.Form place forms)
next_at place forms = given (as_front forms) (fault.Form place) (form_due place)

end_of : {A : Type 0} (forms : List Form) (x : A) → NoWant (items.end_of fault.Form forms x)
end_of [] x = tt
end_of (form ∷ forms) x = form_due form.from

size_at : (form : Form) → NoWant (grammar.size_at form)
size_at form = given (grammar.size_of (as_number form)) (fault.Form form.from) (form_due form.from)

sized_string : (place : ℕ) (parts : List Form) → NoWant (grammar.sized_string place parts)
sized_string place parts = after _ _ (next_at place parts) (λ p. after _ _ (size_at (p.0)) (λ size. end_of (p.1) (worded.Text size)))

worded_at : (form : Form) (o : Option (List Form)) → NoWant (grammar.worded_at form o)
worded_at form (Some parts) = sized_string form.from parts
worded_at form None = given (option_and_then grammar.type_word (as_name form)) (fault.Form form.from) (form_due form.from)

single_type : (form : Form) → NoWant (grammar.single_type form)
single_type form = worded_at form (items.behind (codes "string") form)

set_type : (place : ℕ) (parts : List Form) → NoWant (grammar.set_type place parts)
set_type place parts = after _ _ (next_at place parts) (λ p. after _ _ (single_type (p.0)) (λ w. end_of (p.1) (w, true)))

type_at : (form : Form) (o : Option (List Form)) → NoWant (grammar.type_at form o)
type_at form (Some parts) = set_type form.from parts
type_at form None = after _ _ (single_type form) (λ w. tt)

value_type : (form : Form) → NoWant (grammar.value_type form)
value_type form = type_at form (items.behind (codes "set-of") form)

option_word : (form : Form) → NoWant (grammar.option_word form)
option_word form = given (as_name form) (fault.Form form.from) (form_due form.from)

choice_at : (before : List Choice) (word value : Form) → NoWant (grammar.choice_at before word value)
choice_at before word value =
    after _ _ (option_word word) (λ letters. given (grammar.new_choice before word.from letters value) (fault.BadOption word.from) (option_due word.from))

choices_with : (before : List Choice) (word value : Form) → NoWant (grammar.choices_with before word value)
choices_with before word value = after _ _ (choice_at before word value) (λ choice. tt)

choices_after : (before : List Choice) (forms : List Form) → NoWant (grammar.choices_after before forms)
choices_after before [] = tt
choices_after before (word ∷ []) = after _ _ (option_word word) (λ letters. option_due word.from)
choices_after before (word ∷ value ∷ more) = after _ _ (choices_with before word value) (λ choices. choices_after choices more)

attribute_parts : (place : ℕ) (parts : List Form) → NoWant (grammar.attribute_parts place parts)
attribute_parts place parts =
    after _ _ (next_at place parts) (λ p. after _ _ (name_at (p.0)) (λ name. after _ _ (next_at place (p.1)) (λ q. after _ _ (value_type (q.0)) (λ ty.
    after _ _ (choices_after [] (q.1)) (λ choices. tt)))))

attribute_form : (form : Form) → NoWant (grammar.attribute_form form)
attribute_form form = after _ _ (forms_at form) (λ parts. attribute_parts form.from parts)

attribute_forms : (forms : List Form) → NoWant (grammar.attribute_forms forms)
attribute_forms [] = tt
attribute_forms (form ∷ forms) = after _ _ (attribute_form form) (λ a. after _ _ (attribute_forms forms) (λ more. tt))

names_at : (forms : List Form) → NoWant (grammar.names_at forms)
names_at [] = tt
names_at (form ∷ forms) = after _ _ (name_at form) (λ name. after _ _ (names_at forms) (λ more. tt))

last_attributes : (place : ℕ) (parts : List Form) → NoWant (grammar.last_attributes place parts)
last_attributes place parts =
    after _ _ (next_at place parts) (λ p. after _ _ (forms_at (p.0)) (λ forms. after _ _ (attribute_forms forms) (λ attributes. end_of (p.1) attributes)))

type_parts : (place : ℕ) (parts : List Form) → NoWant (grammar.type_parts place parts)
type_parts place parts =
    after _ _ (next_at place parts) (λ p. after _ _ (name_at (p.0)) (λ name. after _ _ (next_at place (p.1)) (λ q. after _ _ (forms_at (q.0)) (λ forms.
    after _ _ (names_at forms) (λ parents. after _ _ (last_attributes place (q.1)) (λ attributes. tt))))))

type_form : (form : Form) → NoWant (grammar.type_form form)
type_form form =
    after _ _ (given (items.behind (codes "define-entity-type") form) (fault.Form form.from) (form_due form.from)) (λ parts. type_parts form.from parts)

type_forms : (forms : List Form) → NoWant (grammar.type_forms forms)
type_forms [] = tt
type_forms (form ∷ forms) = after _ _ (type_form form) (λ t. after _ _ (type_forms forms) (λ more. tt))

schema_name : (place : ℕ) (parts : List Form) → NoWant (grammar.schema_name place parts)
schema_name place parts = after _ _ (next_at place parts) (λ p. after _ _ (name_at (p.0)) (λ name. end_of (p.1) name))

written : (forms : List Form) → NoWant (grammar.written forms)
written forms =
    after _ _ (given (grammar.schema_front forms) (fault.Form 0) (form_due 0)) (λ p. after _ _ (schema_name (p.1.from) (p.0)) (λ name.
    after _ _ (type_forms (p.2)) (λ types. tt)))

-- a check found no want of memory
abbrev NoneWants : Option SchemaFault → Type 0
NoneWants o = IfSome o IsDue

first : (o other : Option SchemaFault) → NoneWants o → NoneWants other → NoneWants (option_or o other)
first None other p q = q
first (Some f) other p q = p

made : {A : Type 0} (f : A → SchemaFault) (o : Option A) → ((x : A) → IsDue (f x)) → NoneWants (option_map f o)
made f None h = tt
made f (Some x) h = h x

either : (b : Bool) (o other : Option SchemaFault) → NoneWants o → NoneWants other → NoneWants (cond b o other)
either true o other p q = p
either false o other p q = q

repeated_due : (name : List ℕ) → IsDue (fault.Repeated name)
repeated_due name e = cc e

many_due : (types : List TypeForm) → NoneWants (checks.too_many types)
many_due types =
    either (nat_lt 64 (length types)) _ _ (λ e. cc e) (either (nat_lt 256 (checks.attribute_count types)) _ _ (λ e. cc e) tt)

parent_due : (earlier before parents : List (List ℕ)) → NoneWants (checks.parent_fault earlier before parents)
parent_due earlier before [] = tt
parent_due earlier before (parent ∷ parents) =
    either (not (has earlier parent)) _ _ (λ e. cc e)
    (either (has before parent) _ _ (repeated_due parent) (parent_due earlier (before ++ parent ∷ []) parents))

parents_due : (earlier : List (List ℕ)) (types : List TypeForm) → NoneWants (checks.parents_fault earlier types)
parents_due earlier [] = tt
parents_due earlier (t ∷ types) = first _ _ (parent_due earlier [] t.parents) (parents_due (earlier ++ t.name ∷ []) types)

unknown_of : (names : List (List ℕ)) (w : Worded) → NoneWants (checks.unknown_of names w)
unknown_of names worded.Int = tt
unknown_of names worded.Bool = tt
unknown_of names (worded.Text size) = tt
unknown_of names (worded.Entity name) = either (has names name) _ _ tt (λ e. cc e)

unknown_in : (names : List (List ℕ)) (attributes : List AttributeForm) → NoneWants (checks.unknown_in names attributes)
unknown_in names [] = tt
unknown_in names (a ∷ attributes) = first _ _ (unknown_of names a.worded) (unknown_in names attributes)

unknown_type : (names : List (List ℕ)) (types : List TypeForm) → NoneWants (checks.unknown_type names types)
unknown_type names [] = tt
unknown_type names (t ∷ types) = first _ _ (unknown_in names t.attributes) (unknown_type names types)

choice_due : (w : Worded) (many : Bool) (choices : List Choice) → NoneWants (checks.choice_fault w many choices)
choice_due w many [] = tt
choice_due w many (c ∷ choices) = either (checks.goes_with w many c.setting) _ _ (choice_due w many choices) (option_due c.place)

choices_in : (attributes : List AttributeForm) → NoneWants (checks.choices_in attributes)
choices_in [] = tt
choices_in (a ∷ attributes) = first _ _ (choice_due a.worded a.many a.choices) (choices_in attributes)

bad_option : (types : List TypeForm) → NoneWants (checks.bad_option types)
bad_option [] = tt
bad_option (t ∷ types) = first _ _ (choices_in t.attributes) (bad_option types)

written_due : (types : List TypeForm) → NoneWants (checks.written_fault types)
written_due types =
    first _ _ (many_due types) (first _ _ (made fault.Repeated (first_repeated [] (map (λ t. t.name) types)) repeated_due)
    (first _ _ (parents_due [] types) (first _ _ (unknown_type (map (λ t. t.name) types) types) (bad_option types))))

ambiguous_due : (schema : Outline) (fs : List Named) (ty : ℕ) → NoneWants (meaning.ambiguous_at schema fs ty)
ambiguous_due schema fs ty =
    made (λ (f : Named). fault.AmbiguousName (type_name schema ty) f.name) (meaning.least_ambiguous schema ty fs None fs) (λ f e. cc e)

wide_due : (schema : Outline) (ty : ℕ) → NoneWants (meaning.wide_at schema ty)
wide_due schema ty = either (nat_lt 1000 (row_width schema ty)) _ _ (λ e. cc e) tt

first_due : (f : ℕ → Option SchemaFault) (types : List ℕ) → ((ty : ℕ) → NoneWants (f ty)) → NoneWants (meaning.first_of f types)
first_due f [] h = tt
first_due f (ty ∷ types) h = first _ _ (h ty) (first_due f types h)

schema_due : (schema : Outline) → NoneWants (meaning.schema_fault schema)
schema_due schema =
    first _ _ (made fault.Repeated (meaning.clash_after [] (features schema)) repeated_due)
    (first _ _ (first_due (meaning.ambiguous_at schema (features schema)) (below (length schema.names)) (ambiguous_due schema (features schema)))
    (first_due (meaning.wide_at schema) (below (length schema.names)) (wide_due schema)))

unless_due : {A : Type 0} (o : Option SchemaFault) (x : A) → NoneWants o → NoWant (checks.unless o x)
unless_due None x h = tt
unless_due (Some f) x h = h

named : (forms : List Form) → NoWant (meaning.schema_of forms)
named forms =
    after _ _ (written forms) (λ w. after _ _ (unless_due (checks.written_fault w.types) (resolved w) (written_due w.types))
    (λ schema. unless_due (meaning.schema_fault schema) schema (schema_due schema)))

same_fault : {A : Type 0} (r s : grammar.Reading A) (f g : SchemaFault) → r ≡ Err f → s ≡ Err g → r ≡ s → f ≡ g
same_fault r s f g p q e = cc

wants : {A : Type 0} (r : grammar.Reading A) → NoWant r → r ≢ Err fault.Memory
wants (Ok x) h e = cc e
wants (Err f) h e = h (same_fault _ _ f fault.Memory refl refl e)

pub never_memory : (forms : List Form) → meaning.schema_of forms ≢ Err fault.Memory
never_memory forms = wants (meaning.schema_of forms) (named forms)
