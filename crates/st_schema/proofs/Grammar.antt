-- What the grammar gives of a schema that was read.
use Rattle.std.proofs.Common.{◌≡◌, ℕ, ◌≤◌, lit≤, Bool, true, false, ◌&&◌, leb, cond, List, [], ◌∷◌, ◌++◌, Option, Some, None, Ok, Err, refl, ap, subst}
use Rattle.std.specs.Prelude.{codes, ℤ, pos, negsuc}
use Rattle.std.specs.Option.{option_and_then, option_map, ok_or}
use Rattle.std.specs.Str.{bytes_eq}
use Rattle.std.proofs.lemmas.Bool.{and_parts, leb-true}
use Rattle.st_sexp.specs.declared.form.Form.{Form}
use Rattle.st_sexp.specs.Views.{as_name, as_number}
use Rattle.st_sexp.proofs.Steps.{step, given, passed, identifier_name, name_good, end_good}
use Rattle.st_schema.specs.declared.fault.SchemaFault.TheVariants as fault
use Rattle.st_schema.specs.declared.written.Setting.{Setting}
use Rattle.st_schema.specs.declared.written.Setting.TheVariants as setting
use Rattle.st_schema.specs.declared.written.Choice.{Choice}
use Rattle.st_schema.specs.declared.written.Worded.{Worded}
use Rattle.st_schema.specs.declared.written.Worded.TheVariants as worded
use Rattle.st_schema.specs.declared.written.AttributeForm.{AttributeForm}
use Rattle.st_schema.specs.declared.written.TypeForm.{TypeForm}
use Rattle.st_schema.specs.declared.written.Written.{Written}
use Rattle.st_sexp.specs.Names.{is_name}
use Rattle.st_sexp.specs.Items.{and_then, identifier, name_at, forms_at, next_at, end_of, behind}
use Rattle.st_schema.specs.Written.{size_of, size_at, sized_string, type_word, worded_at, single_type, set_type, type_at, value_type, truth, setting_of, is_given, new_choice, choice_at, choices_with, option_word, choices_after, last_attributes, attribute_parts, attribute_form, attribute_forms, names_at, type_parts, type_form, type_forms, schema_name, written}
use Rattle.st_schema.specs.Resolved.{inverse_in}
use Rattle.st_schema.proofs.ValueTypes.{CanBeWritten}
use Rattle.st_schema.proofs.Options.{IsInverse}
use Rattle.st_schema.proofs.Attributes.{IsGoodAttribute, AreGoodAttributes, AreNames}
use Rattle.st_schema.proofs.Whole.{IsGoodType, AreGoodTypes, HasType, IsGood}

-- types of values
size_good : (number : Option ℤ) (n : ℕ) → size_of number ≡ Some n → (1 ≤ n) × (n ≤ 200)
size_good None n is = absurd (cc)
size_good (Some (pos m)) n is =
    let passes = passed (leb 1 m && leb m 200) m n is in
    let both = and_parts (leb 1 m) (leb m 200) passes.0 in
    subst (λ (n : ℕ). (1 ≤ n) × (n ≤ 200)) passes.1 (leb-true 1 m both.0, leb-true m 200 both.1)
size_good (Some (negsuc m)) n is = absurd (cc)

sized_good : (place : ℕ) (parts : List Form) (w : Worded) → sized_string place parts ≡ Ok w → CanBeWritten w
sized_good place parts w is =
    let one = step (next_at fault.Form place parts) (λ p. and_then (size_at (p.0)) (λ size. end_of fault.Form (p.1) (worded.Text size))) w is in
    let two = step (size_at one.value.0) (λ size. end_of fault.Form (one.value.1) (worded.Text size)) w one.then in
    let size = size_good (as_number one.value.0) two.value (given (size_of (as_number one.value.0)) _ two.value two.was) in
    subst CanBeWritten (end_good fault.Form one.value.1 (worded.Text two.value) w two.then) size

choose : (b : Bool) (x y : Option Worded) (w : Worded) → cond b x y ≡ Some w → (x ≡ Some w → CanBeWritten w) → (y ≡ Some w → CanBeWritten w) → CanBeWritten w
choose true x y w is p q = p is
choose false x y w is p q = q is

is_worded : (v w : Worded) → CanBeWritten v → Some v ≡ Some w → CanBeWritten w
is_worded v w can is = let same : v ≡ w = cc in subst CanBeWritten same can

word_good : (word : List ℕ) (w : Worded) → type_word word ≡ Some w → CanBeWritten w
word_good word w is =
    choose (bytes_eq word (codes "integer")) _ _ w is (is_worded worded.Int w tt) (λ is.
    choose (bytes_eq word (codes "boolean")) _ _ w is (is_worded worded.Bool w tt) (λ is.
    choose (bytes_eq word (codes "string")) _ _ w is (is_worded (worded.Text 80) w (lit≤ tt, lit≤ tt)) (λ is.
    let both = passed (is_name word) (worded.Entity word) w is in subst CanBeWritten both.1 both.0)))

named_good : (letters : Option (List ℕ)) (w : Worded) → option_and_then type_word letters ≡ Some w → CanBeWritten w
named_good None w is = absurd (cc)
named_good (Some word) w is = word_good word w is

worded_good : (form : Form) (parts : Option (List Form)) (w : Worded) → worded_at form parts ≡ Ok w → CanBeWritten w
worded_good form (Some parts) w is = sized_good form.from parts w is
worded_good form None w is = named_good (as_name form) w (given (option_and_then type_word (as_name form)) _ w is)

single_good : (form : Form) (w : Worded) → single_type form ≡ Ok w → CanBeWritten w
single_good form w is = worded_good form (behind (codes "string") form) w is

set_good : (place : ℕ) (parts : List Form) (ty : Worded × Bool) → set_type place parts ≡ Ok ty → CanBeWritten (ty.0)
set_good place parts ty is =
    let one = step (next_at fault.Form place parts) (λ p. and_then (single_type (p.0)) (λ w. end_of fault.Form (p.1) (w, true))) ty is in
    let two = step (single_type one.value.0) (λ w. end_of fault.Form (one.value.1) (w, true)) ty one.then in
    subst (λ (ty : Worded × Bool). CanBeWritten (ty.0)) (end_good fault.Form one.value.1 (two.value, true) ty two.then) (single_good one.value.0 two.value two.was)

type_good : (form : Form) (parts : Option (List Form)) (ty : Worded × Bool) → type_at form parts ≡ Ok ty → CanBeWritten (ty.0)
type_good form (Some parts) ty is = set_good form.from parts ty is
type_good form None ty is =
    let one = step (single_type form) (λ w. Ok (w, false)) ty is in
    let same : ◌≡◌ {A = Worded × Bool} (one.value, false) ty = (let e = one.then in cc) in
    subst (λ (ty : Worded × Bool). CanBeWritten (ty.0)) same (single_good form one.value one.was)

value_good : (form : Form) (ty : Worded × Bool) → value_type form ≡ Ok ty → CanBeWritten (ty.0)
value_good form ty is = type_good form (behind (codes "set-of") form) ty is

-- options
abbrev IsGoodSetting : Setting → Type 0
IsGoodSetting (setting.Inverse name) = is_name name ≡ true
IsGoodSetting (setting.Unique on) = Unit {0}
IsGoodSetting (setting.NoNulls on) = Unit {0}
IsGoodSetting (setting.Index on) = Unit {0}

abbrev AreGoodChoices : List Choice → Type 0
AreGoodChoices [] = Unit {0}
AreGoodChoices (c ∷ choices) = IsGoodSetting c.setting × AreGoodChoices choices

good_append : (a b : List Choice) → AreGoodChoices a → AreGoodChoices b → AreGoodChoices (a ++ b)
good_append [] b p q = q
good_append (c ∷ a) b p q = (p.0, good_append a b p.1 q)

setting_choose : (b : Bool) (x y : Option Setting) (s : Setting) → cond b x y ≡ Some s → (x ≡ Some s → IsGoodSetting s) → (y ≡ Some s → IsGoodSetting s) → IsGoodSetting s
setting_choose true x y s is p q = p is
setting_choose false x y s is p q = q is

is_setting : (r s : Setting) → IsGoodSetting r → Some r ≡ Some s → IsGoodSetting s
is_setting r s good is = let same : r ≡ s = cc in subst IsGoodSetting same good

inverse_good : (name : Option (List ℕ)) (form : Form) (s : Setting) → identifier form ≡ name → option_map setting.Inverse name ≡ Some s → IsGoodSetting s
inverse_good None form s is found = absurd (cc)
inverse_good (Some name) form s is found = is_setting (setting.Inverse name) s (identifier_name (as_name form) name is) found

truth_good : (of : Bool → Setting) → ((b : Bool) → IsGoodSetting (of b)) → (on : Option Bool) (s : Setting) → option_map of on ≡ Some s → IsGoodSetting s
truth_good of good None s found = absurd (cc)
truth_good of good (Some b) s found = is_setting (of b) s (good b) found

setting_good : (word : List ℕ) (value : Form) (s : Setting) → setting_of word value ≡ Some s → IsGoodSetting s
setting_good word value s is =
    setting_choose (bytes_eq word (codes ":inverse")) _ _ s is (inverse_good (identifier value) value s refl) (λ is.
    setting_choose (bytes_eq word (codes ":unique")) _ _ s is (truth_good setting.Unique (λ b. tt) (truth value) s) (λ is.
    setting_choose (bytes_eq word (codes ":no-nulls")) _ _ s is (truth_good setting.NoNulls (λ b. tt) (truth value) s) (λ is.
    setting_choose (bytes_eq word (codes ":index")) _ _ s is (truth_good setting.Index (λ b. tt) (truth value) s) (λ none. absurd (cc)))))

placed_good : (s : Option Setting) (place : ℕ) (choice : Choice) → option_map (λ s. record { setting = s; place = place }) s ≡ Some choice → s ≡ Some choice.setting
placed_good None place choice is = absurd (cc)
placed_good (Some s) place choice is =
    let same : ◌≡◌ {A = Choice} (record { setting = s; place = place }) choice = cc in ap (λ (c : Choice). Some c.setting) same

new_good : (known : Bool) (word : List ℕ) (value : Form) (place : ℕ) (choice : Choice) → cond known None (option_map (λ s. record { setting = s; place = place }) (setting_of word value)) ≡ Some choice → IsGoodSetting choice.setting
new_good true word value place choice is = absurd (cc)
new_good false word value place choice is = setting_good word value choice.setting (placed_good (setting_of word value) place choice is)

choices_good : (before : List Choice) (forms : List Form) (choices : List Choice) → AreGoodChoices before → choices_after before forms ≡ Ok choices → AreGoodChoices choices
choices_good before [] choices good is = let same : before ≡ choices = cc in subst AreGoodChoices same good
choices_good before (word ∷ []) choices good is = let one = step (option_word word) (λ letters. Err _) choices is in absurd (let e = one.then in cc)
choices_good before (word ∷ value ∷ more) choices good is =
    let one = step (choices_with before word value) (λ choices. choices_after choices more) choices is in
    let two = step (choice_at before word value) (λ choice. Ok (before ++ choice ∷ [])) one.value one.was in
    let three = step (option_word word) (λ letters. ok_or (new_choice before word.from letters value) (fault.BadOption word.from)) two.value two.was in
    let choice = new_good (is_given three.value before) three.value value word.from two.value (given (new_choice before word.from three.value value) (fault.BadOption word.from) two.value three.then) in
    let same : before ++ two.value ∷ [] ≡ one.value = (let e = two.then in cc) in
    choices_good one.value more choices (subst AreGoodChoices same (good_append before (two.value ∷ []) good (choice, tt))) one.then

inverse_step : (s : Setting) (place : ℕ) (choices : List Choice) → IsGoodSetting s → IsInverse (inverse_in choices) → IsInverse (inverse_in (record { setting = s; place = place } ∷ choices))
inverse_step (setting.Inverse name) place choices good more = good
inverse_step (setting.Unique on) place choices good more = more
inverse_step (setting.NoNulls on) place choices good more = more
inverse_step (setting.Index on) place choices good more = more

inverse_is_name : (choices : List Choice) → AreGoodChoices choices → IsInverse (inverse_in choices)
inverse_is_name [] good = tt
inverse_is_name (c ∷ choices) good = inverse_step c.setting c.place choices good.0 (inverse_is_name choices good.1)

-- attributes
parts_good : (place : ℕ) (parts : List Form) (a : AttributeForm) → attribute_parts place parts ≡ Ok a → IsGoodAttribute a
parts_good place parts a is =
    let one = step (next_at fault.Form place parts) _ a is in
    let two = step (name_at fault.Form one.value.0) _ a one.then in
    let three = step (next_at fault.Form place one.value.1) _ a two.then in
    let four = step (value_type three.value.0) _ a three.then in
    let five = step (choices_after [] three.value.1) (λ choices. Ok (record { name = two.value; worded = four.value.0; many = four.value.1; choices = choices })) a four.then in
    let same : ◌≡◌ {A = AttributeForm} (record { name = two.value; worded = four.value.0; many = four.value.1; choices = five.value }) a = (let e = five.then in cc) in
    subst IsGoodAttribute same (record {
      name = name_good fault.Form one.value.0 two.value two.was;
      worded = value_good three.value.0 four.value four.was;
      inverse = inverse_is_name five.value (choices_good [] three.value.1 five.value tt five.was);
    })

attribute_good : (form : Form) (a : AttributeForm) → attribute_form form ≡ Ok a → IsGoodAttribute a
attribute_good form a is = let one = step (forms_at fault.Form form) (λ parts. attribute_parts form.from parts) a is in parts_good form.from one.value a one.then

attributes_good : (forms : List Form) (attributes : List AttributeForm) → attribute_forms forms ≡ Ok attributes → AreGoodAttributes attributes
attributes_good [] attributes is = let same : [] ≡ attributes = cc in subst AreGoodAttributes same tt
attributes_good (form ∷ forms) attributes is =
    let one = step (attribute_form form) (λ a. and_then (attribute_forms forms) (λ more. Ok (a ∷ more))) attributes is in
    let two = step (attribute_forms forms) (λ more. Ok (one.value ∷ more)) attributes one.then in
    let same : one.value ∷ two.value ≡ attributes = (let e = two.then in cc) in
    subst AreGoodAttributes same (attribute_good form one.value one.was, attributes_good forms two.value two.was)

names_good : (forms : List Form) (names : List (List ℕ)) → names_at forms ≡ Ok names → AreNames names
names_good [] names is = let same : [] ≡ names = cc in subst AreNames same tt
names_good (form ∷ forms) names is =
    let one = step (name_at fault.Form form) (λ name. and_then (names_at forms) (λ more. Ok (name ∷ more))) names is in
    let two = step (names_at forms) (λ more. Ok (one.value ∷ more)) names one.then in
    let same : one.value ∷ two.value ≡ names = (let e = two.then in cc) in
    subst AreNames same (name_good fault.Form form one.value one.was, names_good forms two.value two.was)

-- types
last_good : (place : ℕ) (parts : List Form) (attributes : List AttributeForm) → last_attributes place parts ≡ Ok attributes → AreGoodAttributes attributes
last_good place parts attributes is =
    let one = step (next_at fault.Form place parts) _ attributes is in
    let two = step (forms_at fault.Form one.value.0) _ attributes one.then in
    let three = step (attribute_forms two.value) (λ attributes. end_of fault.Form (one.value.1) attributes) attributes two.then in
    subst AreGoodAttributes (end_good fault.Form one.value.1 three.value attributes three.then) (attributes_good two.value three.value three.was)

type_parts_good : (place : ℕ) (parts : List Form) (t : TypeForm) → type_parts place parts ≡ Ok t → IsGoodType t
type_parts_good place parts t is =
    let one = step (next_at fault.Form place parts) _ t is in
    let two = step (name_at fault.Form one.value.0) _ t one.then in
    let three = step (next_at fault.Form place one.value.1) _ t two.then in
    let four = step (forms_at fault.Form three.value.0) _ t three.then in
    let five = step (names_at four.value) _ t four.then in
    let six = step (last_attributes place three.value.1) (λ attributes. Ok (record { name = two.value; parents = five.value; attributes = attributes })) t five.then in
    let same : ◌≡◌ {A = TypeForm} (record { name = two.value; parents = five.value; attributes = six.value }) t = (let e = six.then in cc) in
    subst IsGoodType same (record {
      name = name_good fault.Form one.value.0 two.value two.was;
      parents = names_good four.value five.value five.was;
      attributes = last_good place three.value.1 six.value six.was;
    })

type_form_good : (form : Form) (t : TypeForm) → type_form form ≡ Ok t → IsGoodType t
type_form_good form t is = let one = step _ (λ parts. type_parts form.from parts) t is in type_parts_good form.from one.value t one.then

types_good : (forms : List Form) (types : List TypeForm) → type_forms forms ≡ Ok types → AreGoodTypes types
types_good [] types is = let same : [] ≡ types = cc in subst AreGoodTypes same tt
types_good (form ∷ forms) types is =
    let one = step (type_form form) (λ t. and_then (type_forms forms) (λ more. Ok (t ∷ more))) types is in
    let two = step (type_forms forms) (λ more. Ok (one.value ∷ more)) types one.then in
    let same : one.value ∷ two.value ≡ types = (let e = two.then in cc) in
    subst AreGoodTypes same (type_form_good form one.value one.was, types_good forms two.value two.was)

has_type : (form : Form) (forms : List Form) (types : List TypeForm) → type_forms (form ∷ forms) ≡ Ok types → HasType types
has_type form forms types is =
    let one = step (type_form form) (λ t. and_then (type_forms forms) (λ more. Ok (t ∷ more))) types is in
    let two = step (type_forms forms) (λ more. Ok (one.value ∷ more)) types one.then in
    let same : one.value ∷ two.value ≡ types = (let e = two.then in cc) in
    subst HasType same tt

schema_name_good : (place : ℕ) (parts : List Form) (name : List ℕ) → schema_name place parts ≡ Ok name → is_name name ≡ true
schema_name_good place parts name is =
    let one = step (next_at fault.Form place parts) (λ p. and_then (name_at fault.Form (p.0)) (λ name. end_of fault.Form (p.1) name)) name is in
    let two = step (name_at fault.Form one.value.0) (λ name. end_of fault.Form (one.value.1) name) name one.then in
    subst (λ name. is_name name ≡ true) (end_good fault.Form one.value.1 two.value name two.then) (name_good fault.Form one.value.0 two.value two.was)

-- where the definition and one type stand, all is good that is read
front_good : (front : Option (List Form)) (definition ty : Form) (types : List Form) (w : Written) →
    and_then {A = List Form × Form × List Form} (ok_or (option_map (λ parts. (parts, definition, ty ∷ types)) front) (fault.Form 0)) (λ p. and_then (schema_name (p.1.from) (p.0)) (λ name. and_then (type_forms (p.2)) (λ types. Ok (record { name = name; types = types })))) ≡ Ok w → IsGood w
front_good None definition ty types w is = absurd (cc)
front_good (Some parts) definition ty types w is =
    let one = step (schema_name definition.from parts) (λ name. and_then (type_forms (ty ∷ types)) (λ types. Ok (record { name = name; types = types }))) w is in
    let two = step (type_forms (ty ∷ types)) (λ types. Ok (record { name = one.value; types = types })) w one.then in
    let same : ◌≡◌ {A = Written} (record { name = one.value; types = two.value }) w = (let e = two.then in cc) in
    subst IsGood same (record {
      name = schema_name_good definition.from parts one.value one.was;
      types = types_good (ty ∷ types) two.value two.was;
      some = has_type ty types two.value two.was;
    })

pub written_good : (forms : List Form) (w : Written) → written forms ≡ Ok w → IsGood w
written_good [] w is = absurd (cc)
written_good (definition ∷ []) w is = absurd (cc)
written_good (definition ∷ ty ∷ types) w is = front_good (behind (codes "define-schema") definition) definition ty types w is
