-- The texts of attributes and of lists of names are read as these.
use Rattle.std.proofs.Common.{◌≡◌, ℕ, suc, true, ◌||◌, List, [], ◌∷◌, map, Some, Ok, refl, ap, ◌∙◌}
use Rattle.std.specs.Prelude.{flat_map}
use Rattle.std.specs.List.{join_with_byte}
use Rattle.st_sexp.specs.declared.form.Form.{Form}
use Rattle.st_sexp.specs.Views.{as_list}
use Rattle.st_sexp.proofs.Pieces.{IsForm, AreForms, IsNamed, Heads, list_of, item_more, item_end, no_items, some_items, behind_none, forms_weaker, space_gap, behind_more}
use Rattle.st_sexp.proofs.Pieces as piece
use Rattle.st_sexp.proofs.Naming.{name_form, name_at-named}
use Rattle.st_schema.specs.declared.fault.SchemaFault.TheVariants as fault
use Rattle.st_schema.specs.declared.written.AttributeForm.{AttributeForm}
use Rattle.st_schema.specs.declared.written.Choice.{Choice}
use Rattle.st_sexp.specs.Names.{is_name}
use Rattle.st_schema.specs.Written.{attribute_form, attribute_forms, value_type, names_at, choices_after}
use Rattle.st_schema.specs.Resolved.{inverse_in, is_on, is_unique, is_no_nulls, is_index}
use Rattle.st_schema.proofs.Text.{value_text, setting_items, kept_of, attribute_line}
use Rattle.st_schema.proofs.ValueTypes.{CanBeWritten, value_form}
use Rattle.st_schema.proofs.Options.{ReadsOptions, IsInverse, options_form, kept_new, kept_on}
use Rattle.st_schema.proofs.Same.{IsAttribute, AreAttributes}

-- what the grammar gives of an attribute
pub record IsGoodAttribute (a : AttributeForm) : Type 0 where
  pub name : is_name a.name ≡ true
  pub worded : CanBeWritten a.worded
  pub inverse : IsInverse (inverse_in a.choices)

abbrev pub AreGoodAttributes : List AttributeForm → Type 0
AreGoodAttributes [] = Unit {0}
AreGoodAttributes (a ∷ attributes) = IsGoodAttribute a × AreGoodAttributes attributes

-- a form that is read as an attribute that is the same
pub record ReadsAttribute (a : AttributeForm) (form : Form) : Type 0 where
  pub again : AttributeForm
  pub read : attribute_form form ≡ Ok again
  pub same : IsAttribute a again

abbrev Parts : AttributeForm → List Form → Type 0
Parts a = Heads (λ form. value_type form ≡ Ok (a.worded, a.many)) (ReadsOptions (kept_of a.choices))

parts_are : (a : AttributeForm) (list head value : Form) (options : List Form) (choices : List Choice) → is_name a.name ≡ true → as_list list ≡ Some (head ∷ value ∷ options) → IsNamed a.name head → value_type value ≡ Ok (a.worded, a.many) → choices_after [] options ≡ Ok choices →
    attribute_form list ≡ Ok (record { name = a.name; worded = a.worded; many = a.many; choices = choices })
parts_are a list head value options choices good is named valued chosen = rw (is, name_at-named fault.Form a.name head good named, valued, chosen) refl

attribute_is : (a : AttributeForm) (list head : Form) (rest : List Form) → is_name a.name ≡ true → as_list list ≡ Some (head ∷ rest) → IsNamed a.name head → Parts a rest → ReadsAttribute a list
attribute_is a list head rest good is named parts =
    let options = parts.others [] (kept_new (inverse_in a.choices) (is_on is_unique a.choices) (is_on is_no_nulls a.choices) (is_on is_unique a.choices || is_on is_index a.choices)) in
    record {
      again = record { name = a.name; worded = a.worded; many = a.many; choices = options.choices };
      read = parts_are a list head parts.head parts.rest options.choices good (is ∙ ap (λ rest. Some (head ∷ rest)) parts.both) named parts.first options.read;
      same = record { name = refl; worded = refl; many = refl; options = options.same };
    }

pub attribute_reads : (a : AttributeForm) (deep : ℕ) → IsGoodAttribute a → IsForm (attribute_line a) (suc (suc (suc deep))) (ReadsAttribute a)
attribute_reads a deep good =
    let ss = kept_of a.choices in
    let inner = suc (suc deep) in
    list_of a.name (value_text a.many a.worded ∷ flat_map setting_items ss) inner (IsNamed a.name) (Parts a) (ReadsAttribute a)
    (λ list head rest is named parts. attribute_is a list head rest good.name is named parts)
    (name_form a.name inner good.name)
    (item_more (value_text a.many a.worded) (flat_map setting_items ss) inner (λ form. value_type form ≡ Ok (a.worded, a.many)) (ReadsOptions ss)
    (value_form a.many a.worded deep good.worded)
    (options_form ss inner (kept_on (inverse_in a.choices) (is_on is_unique a.choices) (is_on is_no_nulls a.choices) (is_on is_unique a.choices || is_on is_index a.choices) good.inverse)))

pub record ReadsAttributes (attributes : List AttributeForm) (forms : List Form) : Type 0 where
  pub again : List AttributeForm
  pub read : attribute_forms forms ≡ Ok again
  pub same : AreAttributes attributes again

attributes_none : ReadsAttributes [] []
attributes_none = record { again = []; read = refl; same = tt }

attributes_one : (a : AttributeForm) (attributes : List AttributeForm) (form : Form) (forms : List Form) → ReadsAttribute a form → ReadsAttributes attributes forms → ReadsAttributes (a ∷ attributes) (form ∷ forms)
attributes_one a attributes form forms one more = record { again = one.again ∷ more.again; read = rw (one.read, more.read) refl; same = (one.same, more.same) }

attributes_behind : (attributes : List AttributeForm) (deep : ℕ) → AreGoodAttributes attributes → AreForms (piece.behind 32 (map attribute_line attributes)) (suc (suc (suc deep))) (ReadsAttributes attributes)
attributes_behind [] deep good = behind_none 32 (suc (suc (suc deep))) (ReadsAttributes []) attributes_none
attributes_behind (a ∷ attributes) deep good =
    behind_more 32 (attribute_line a) (map attribute_line attributes) (suc (suc (suc deep))) (ReadsAttribute a) (ReadsAttributes attributes) (ReadsAttributes (a ∷ attributes)) space_gap (attributes_one a attributes) (attribute_reads a deep good.0) (attributes_behind attributes deep good.1)

pub attributes_reads : (attributes : List AttributeForm) (deep : ℕ) → AreGoodAttributes attributes → AreForms (join_with_byte 32 (map attribute_line attributes)) (suc (suc (suc deep))) (ReadsAttributes attributes)
attributes_reads [] deep good = no_items (suc (suc (suc deep))) (ReadsAttributes []) attributes_none
attributes_reads (a ∷ attributes) deep good =
    some_items (attribute_line a) (map attribute_line attributes) (suc (suc (suc deep))) (ReadsAttribute a) (ReadsAttributes attributes) (ReadsAttributes (a ∷ attributes)) (attributes_one a attributes) (attribute_reads a deep good.0) (attributes_behind attributes deep good.1)

-- names, as those of parents
abbrev pub AreNames : List (List ℕ) → Type 0
AreNames [] = Unit {0}
AreNames (name ∷ names) = (is_name name ≡ true) × AreNames names

abbrev ReadsNames : List (List ℕ) → List Form → Type 0
ReadsNames names forms = names_at forms ≡ Ok names

names_one : (name : List ℕ) (names : List (List ℕ)) → is_name name ≡ true → (form : Form) (forms : List Form) → IsNamed name form → ReadsNames names forms → ReadsNames (name ∷ names) (form ∷ forms)
names_one name names good form forms one more = rw (name_at-named fault.Form name form good one, more) refl

names_behind : (names : List (List ℕ)) (deep : ℕ) → AreNames names → AreForms (piece.behind 32 names) deep (ReadsNames names)
names_behind [] deep good = behind_none 32 deep (ReadsNames []) refl
names_behind (name ∷ names) deep good =
    behind_more 32 name names deep (IsNamed name) (ReadsNames names) (ReadsNames (name ∷ names)) space_gap (names_one name names good.0) (name_form name deep good.0) (names_behind names deep good.1)

pub names_reads : (names : List (List ℕ)) (deep : ℕ) → AreNames names → AreForms (join_with_byte 32 names) deep (λ forms. names_at forms ≡ Ok names)
names_reads [] deep good = no_items deep (ReadsNames []) refl
names_reads (name ∷ names) deep good =
    some_items name names deep (IsNamed name) (ReadsNames names) (ReadsNames (name ∷ names)) (names_one name names good.0) (name_form name deep good.0) (names_behind names deep good.1)
