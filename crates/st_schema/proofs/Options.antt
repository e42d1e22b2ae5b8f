-- The options of an attribute are read as these options.
use Rattle.std.proofs.Common.{◌≡◌, ℕ, Bool, true, false, not, ◌||◌, ◌&&◌, List, [], ◌∷◌, ◌++◌, Option, Some, None, Ok, refl, ap, sym, ◌∙◌, subst, append-nil, append_assoc}
use Rattle.std.specs.Prelude.{codes, flat_map}
use Rattle.std.specs.List.{list_any}
use Rattle.std.specs.Str.{bytes_eq}
use Rattle.std.proofs.lemmas.Bool.{and_parts}
use Rattle.st_token.proofs.Fronts.{is_small_word}
use Rattle.st_sexp.specs.declared.form.Form.{Form}
use Rattle.st_sexp.proofs.Pieces.{IsForm, AreForms, IsNamed, Heads, behind_none, forms_weaker, word_form, item_more}
use Rattle.st_sexp.proofs.Pieces as piece
use Rattle.st_sexp.proofs.Naming.{is_false, name_form}
use Rattle.st_schema.specs.declared.written.Setting.{Setting}
use Rattle.st_schema.specs.declared.written.Setting.TheVariants as setting
use Rattle.st_schema.specs.declared.written.Choice.{Choice}
use Rattle.st_sexp.specs.Names.{is_name}
use Rattle.st_schema.specs.Written.{setting_of, new_choice, word_of, is_given, choices_after}
use Rattle.st_schema.proofs.Text.{settings, setting_value, setting_items, if_given, if_on, kept}

-- an option that is on, or an inverse with a name
abbrev pub IsOn : Setting → Type 0
IsOn (setting.Inverse name) = is_name name ≡ true
IsOn (setting.Unique on) = on ≡ true
IsOn (setting.NoNulls on) = on ≡ true
IsOn (setting.Index on) = on ≡ true

abbrev pub AreOn : List Setting → Type 0
AreOn [] = Unit {0}
AreOn (s ∷ ss) = IsOn s × AreOn ss

-- whether an option of this word is among some
abbrev pub is_among : List Setting → List ℕ → Bool
is_among given word = list_any (λ s. bytes_eq (word_of s) word) given

-- whether no option has the word of an earlier one
abbrev pub all_new : List Setting → List Setting → Bool
all_new given [] = true
all_new given (s ∷ ss) = not (is_among given (word_of s)) && all_new (given ++ s ∷ []) ss

among-given : (before : List Choice) (word : List ℕ) → is_given word before ≡ is_among (settings before) word
among-given [] word = refl
among-given (c ∷ before) word = ap (λ more. bytes_eq (word_of c.setting) word || more) (among-given before word)

settings-append : (before more : List Choice) → settings (before ++ more) ≡ settings before ++ settings more
settings-append [] more = refl
settings-append (c ∷ before) more = ap (λ rest. c.setting ∷ rest) (settings-append before more)

word_small : (s : Setting) → is_small_word (word_of s) ≡ true
word_small (setting.Inverse name) = refl
word_small (setting.Unique on) = refl
word_small (setting.NoNulls on) = refl
word_small (setting.Index on) = refl

value_form : (s : Setting) (deep : ℕ) → IsOn s → IsForm (setting_value s) deep (IsNamed (setting_value s))
value_form (setting.Inverse name) deep on = name_form name deep on
value_form (setting.Unique on) deep is = word_form (codes "t") deep refl
value_form (setting.NoNulls on) deep is = word_form (codes "t") deep refl
value_form (setting.Index on) deep is = word_form (codes "t") deep refl

reads_setting : (s : Setting) (value : Form) → IsOn s → IsNamed (setting_value s) value → setting_of (word_of s) value ≡ Some s
reads_setting (setting.Inverse name) value on named = rw (named.name, on) refl
reads_setting (setting.Unique on) value is named = rw (named.name, is) refl
reads_setting (setting.NoNulls on) value is named = rw (named.name, is) refl
reads_setting (setting.Index on) value is named = rw (named.name, is) refl

-- what the forms of options are read as, behind others
pub record AreOptions (ss : List Setting) (forms : List Form) (before : List Choice) : Type 0 where
  pub choices : List Choice
  pub read : choices_after before forms ≡ Ok (before ++ choices)
  pub same : settings choices ≡ ss

abbrev pub ReadsOptions : List Setting → List Form → Type 0
ReadsOptions ss forms = (before : List Choice) → all_new (settings before) ss ≡ true → AreOptions ss forms before

one_option : (s : Setting) (ss : List Setting) (word value : Form) (more : List Form) → IsOn s → IsNamed (word_of s) word → IsNamed (setting_value s) value → ReadsOptions ss more → ReadsOptions (s ∷ ss) (word ∷ value ∷ more)
one_option s ss word value more on named valued others before new =
    let both = and_parts (not (is_among (settings before) (word_of s))) (all_new (settings before ++ s ∷ []) ss) new in
    let choice : Choice = record { setting = s; place = word.from } in
    let fresh : is_given (word_of s) before ≡ false = among-given before (word_of s) ∙ is_false (is_among (settings before) (word_of s)) both.0 in
    let chosen : new_choice before word.from (word_of s) value ≡ Some choice = rw (fresh, reads_setting s value on valued) refl in
    let rest = others (before ++ choice ∷ []) (ap (λ given. all_new given ss) (settings-append before (choice ∷ [])) ∙ both.1) in
    record {
      choices = choice ∷ rest.choices;
      read = rw (named.name, chosen) (rest.read ∙ ap (λ all. Ok all) (append_assoc before (choice ∷ []) rest.choices));
      same = ap (λ more. s ∷ more) rest.same;
    }

pub options_form : (ss : List Setting) (deep : ℕ) → AreOn ss → AreForms (piece.behind 32 (flat_map setting_items ss)) deep (ReadsOptions ss)
options_form [] deep on =
    behind_none 32 deep (ReadsOptions []) (λ before new. record { choices = []; read = ap (λ all. Ok all) (sym (append-nil before)); same = refl })
options_form (s ∷ ss) deep on =
    let value = item_more (setting_value s) (flat_map setting_items ss) deep (IsNamed (setting_value s)) (ReadsOptions ss) (value_form s deep on.0) (options_form ss deep on.1) in
    let Q = Heads (IsNamed (setting_value s)) (ReadsOptions ss) in
    let word = item_more (word_of s) (setting_value s ∷ flat_map setting_items ss) deep (IsNamed (word_of s)) Q (word_form (word_of s) deep (word_small s)) value in
    forms_weaker (piece.behind 32 (flat_map setting_items (s ∷ ss))) deep (Heads (IsNamed (word_of s)) Q) (ReadsOptions (s ∷ ss))
    (λ forms found.
    let second = found.others in
    let all : forms ≡ found.head ∷ second.head ∷ second.rest = found.both ∙ ap (λ more. found.head ∷ more) second.both in
    subst (ReadsOptions (s ∷ ss)) (sym all) (one_option s ss found.head second.head second.rest on.0 found.first second.first second.others))
    word

-- the options that are written have different words
pub kept_new : (inverse : Option (List ℕ)) (unique no_nulls index : Bool) → all_new [] (kept inverse unique no_nulls index) ≡ true
kept_new None false false false = refl
kept_new None false false true = refl
kept_new None false true false = refl
kept_new None false true true = refl
kept_new None true false false = refl
kept_new None true false true = refl
kept_new None true true false = refl
kept_new None true true true = refl
kept_new (Some name) false false false = refl
kept_new (Some name) false false true = refl
kept_new (Some name) false true false = refl
kept_new (Some name) false true true = refl
kept_new (Some name) true false false = refl
kept_new (Some name) true false true = refl
kept_new (Some name) true true false = refl
kept_new (Some name) true true true = refl

on_append : (ss ts : List Setting) → AreOn ss → AreOn ts → AreOn (ss ++ ts)
on_append [] ts a b = b
on_append (s ∷ ss) ts a b = (a.0, on_append ss ts a.1 b)

on_one : (s : Setting) (b : Bool) → IsOn s → AreOn (if_on s b)
on_one s false is = tt
on_one s true is = (is, tt)

-- the name of an inverse is a name
abbrev pub IsInverse : Option (List ℕ) → Type 0
IsInverse None = Unit {0}
IsInverse (Some name) = is_name name ≡ true

on_inverse : (inverse : Option (List ℕ)) → IsInverse inverse → AreOn (if_given inverse)
on_inverse None is = tt
on_inverse (Some name) is = (is, tt)

pub kept_on : (inverse : Option (List ℕ)) (unique no_nulls index : Bool) → IsInverse inverse → AreOn (kept inverse unique no_nulls index)
kept_on inverse unique no_nulls index is =
    on_append (if_given inverse ++ if_on (setting.Unique true) unique ++ if_on (setting.NoNulls true) no_nulls) (if_on (setting.Index true) (index && not unique))
    (on_append (if_given inverse ++ if_on (setting.Unique true) unique) (if_on (setting.NoNulls true) no_nulls)
    (on_append (if_given inverse) (if_on (setting.Unique true) unique) (on_inverse inverse is) (on_one (setting.Unique true) unique refl)) (on_one (setting.NoNulls true) no_nulls refl))
    (on_one (setting.Index true) (index && not unique) refl)
