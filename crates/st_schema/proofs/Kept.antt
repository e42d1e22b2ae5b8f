-- The options that are written say what all options of an attribute say.
use Rattle.std.proofs.Common.{◌≡◌, ℕ, Bool, true, false, not, ◌||◌, ◌&&◌, cond, List, [], ◌∷◌, ◌++◌, Option, Some, None, refl, ap, ◌∙◌}
use Rattle.std.specs.List.{list_any, list_all}
use Rattle.std.proofs.lemmas.Bool.{and_parts, and_from}
use Rattle.std.proofs.lemmas.List.Folds.{list_all-append}
use Rattle.st_schema.specs.declared.fault.SchemaFault.TheVariants.{BadOption}
use Rattle.st_schema.specs.declared.written.Setting.{Setting}
use Rattle.st_schema.specs.declared.written.Setting.TheVariants as setting
use Rattle.st_schema.specs.declared.written.Choice.{Choice}
use Rattle.st_schema.specs.declared.written.Worded.{Worded}
use Rattle.st_schema.specs.Checks.{goes_with, choice_fault}
use Rattle.st_schema.specs.Resolved.{inverse_in, is_on, is_unique, is_no_nulls, is_index}
use Rattle.st_schema.proofs.Text.{settings, if_given, if_on, kept, kept_of}

-- what options say, by themselves
abbrev pub inverse_of : List Setting → Option (List ℕ)
inverse_of [] = None
inverse_of (setting.Inverse name ∷ ss) = Some name
inverse_of (setting.Unique on ∷ ss) = inverse_of ss
inverse_of (setting.NoNulls on ∷ ss) = inverse_of ss
inverse_of (setting.Index on ∷ ss) = inverse_of ss

pub on-settings : (test : Setting → Bool) (choices : List Choice) → is_on test choices ≡ list_any test (settings choices)
on-settings test [] = refl
on-settings test (c ∷ choices) = ap (λ more. test c.setting || more) (on-settings test choices)

inverse_step : (s : Setting) (place : ℕ) (choices : List Choice) → inverse_in choices ≡ inverse_of (settings choices) → inverse_in (record { setting = s; place = place } ∷ choices) ≡ inverse_of (s ∷ settings choices)
inverse_step (setting.Inverse name) place choices is = refl
inverse_step (setting.Unique on) place choices is = is
inverse_step (setting.NoNulls on) place choices is = is
inverse_step (setting.Index on) place choices is = is

pub inverse-settings : (choices : List Choice) → inverse_in choices ≡ inverse_of (settings choices)
inverse-settings [] = refl
inverse-settings (c ∷ choices) = inverse_step c.setting c.place choices (inverse-settings choices)

-- what written options say
record Gives (ss : List Setting) (i : Option (List ℕ)) (u n x : Bool) : Type 0 where
  pub inverse : inverse_of ss ≡ i
  pub unique : list_any is_unique ss ≡ u
  pub no_nulls : list_any is_no_nulls ss ≡ n
  pub index : (list_any is_unique ss || list_any is_index ss) ≡ x

kept_gives : (inverse : Option (List ℕ)) (unique no_nulls index : Bool) → Gives (kept inverse unique no_nulls (unique || index)) inverse unique no_nulls (unique || index)
kept_gives None false false false = record { inverse = refl; unique = refl; no_nulls = refl; index = refl }
kept_gives None false false true = record { inverse = refl; unique = refl; no_nulls = refl; index = refl }
kept_gives None false true false = record { inverse = refl; unique = refl; no_nulls = refl; index = refl }
kept_gives None false true true = record { inverse = refl; unique = refl; no_nulls = refl; index = refl }
kept_gives None true false false = record { inverse = refl; unique = refl; no_nulls = refl; index = refl }
kept_gives None true false true = record { inverse = refl; unique = refl; no_nulls = refl; index = refl }
kept_gives None true true false = record { inverse = refl; unique = refl; no_nulls = refl; index = refl }
kept_gives None true true true = record { inverse = refl; unique = refl; no_nulls = refl; index = refl }
kept_gives (Some name) false false false = record { inverse = refl; unique = refl; no_nulls = refl; index = refl }
kept_gives (Some name) false false true = record { inverse = refl; unique = refl; no_nulls = refl; index = refl }
kept_gives (Some name) false true false = record { inverse = refl; unique = refl; no_nulls = refl; index = refl }
kept_gives (Some name) false true true = record { inverse = refl; unique = refl; no_nulls = refl; index = refl }
kept_gives (Some name) true false false = record { inverse = refl; unique = refl; no_nulls = refl; index = refl }
kept_gives (Some name) true false true = record { inverse = refl; unique = refl; no_nulls = refl; index = refl }
kept_gives (Some name) true true false = record { inverse = refl; unique = refl; no_nulls = refl; index = refl }
kept_gives (Some name) true true true = record { inverse = refl; unique = refl; no_nulls = refl; index = refl }

-- choices with the written options of others say what those say
pub record SaysAs (choices again : List Choice) : Type 0 where
  pub inverse : inverse_in again ≡ inverse_in choices
  pub unique : is_on is_unique again ≡ is_on is_unique choices
  pub no_nulls : is_on is_no_nulls again ≡ is_on is_no_nulls choices
  pub index : (is_on is_unique again || is_on is_index again) ≡ (is_on is_unique choices || is_on is_index choices)

pub says_as : (choices again : List Choice) → settings again ≡ kept_of choices → SaysAs choices again
says_as choices again same =
    let gives = kept_gives (inverse_in choices) (is_on is_unique choices) (is_on is_no_nulls choices) (is_on is_index choices) in
    record {
      inverse = inverse-settings again ∙ ap inverse_of same ∙ gives.inverse;
      unique = on-settings is_unique again ∙ ap (list_any is_unique) same ∙ gives.unique;
      no_nulls = on-settings is_no_nulls again ∙ ap (list_any is_no_nulls) same ∙ gives.no_nulls;
      index = rw (on-settings is_unique again, on-settings is_index again) (ap (λ ss. list_any is_unique ss || list_any is_index ss) same ∙ gives.index);
    }

-- whether options go with a type
abbrev all_go : Worded → Bool → List Setting → Bool
all_go w many ss = list_all (goes_with w many) ss

go_parts : (w : Worded) (many : Bool) (s : Setting) (ss : List Setting) → all_go w many (s ∷ ss) ≡ true → (goes_with w many s ≡ true) × (all_go w many ss ≡ true)
go_parts w many s ss go = and_parts (goes_with w many s) (all_go w many ss) go

pub goes_first : (goes : Bool) (w : Worded) (many : Bool) (place : ℕ) (choices : List Choice) → cond goes (choice_fault w many choices) (Some (BadOption place)) ≡ None → (goes ≡ true) × (choice_fault w many choices ≡ None)
goes_first true w many place choices is = (refl, is)
goes_first false w many place choices is = absurd (cc)

go-choices : (w : Worded) (many : Bool) (choices : List Choice) → choice_fault w many choices ≡ None → all_go w many (settings choices) ≡ true
go-choices w many [] is = refl
go-choices w many (c ∷ choices) is =
    let both = goes_first (goes_with w many c.setting) w many c.place choices is in and_from _ _ both.0 (go-choices w many choices both.1)

choices-go : (w : Worded) (many : Bool) (choices : List Choice) → all_go w many (settings choices) ≡ true → choice_fault w many choices ≡ None
choices-go w many [] go = refl
choices-go w many (c ∷ choices) go = let both = go_parts w many c.setting (settings choices) go in rw both.0 (choices-go w many choices both.1)

inverse_goes_step : (w : Worded) (many : Bool) (s : Setting) (place : ℕ) (choices : List Choice) → goes_with w many s ≡ true → all_go w many (if_given (inverse_in choices)) ≡ true → all_go w many (if_given (inverse_in (record { setting = s; place = place } ∷ choices))) ≡ true
inverse_goes_step w many (setting.Inverse name) place choices goes more = rw goes refl
inverse_goes_step w many (setting.Unique on) place choices goes more = more
inverse_goes_step w many (setting.NoNulls on) place choices goes more = more
inverse_goes_step w many (setting.Index on) place choices goes more = more

inverse_goes : (w : Worded) (many : Bool) (choices : List Choice) → all_go w many (settings choices) ≡ true → all_go w many (if_given (inverse_in choices)) ≡ true
inverse_goes w many [] go = refl
inverse_goes w many (c ∷ choices) go = let both = go_parts w many c.setting (settings choices) go in inverse_goes_step w many c.setting c.place choices both.0 (inverse_goes w many choices both.1)

unique_goes : (w : Worded) (many : Bool) (ss : List Setting) → all_go w many ss ≡ true → all_go w many (if_on (setting.Unique true) (list_any is_unique ss)) ≡ true
unique_goes w many [] go = refl
unique_goes w many (setting.Inverse name ∷ ss) go = unique_goes w many ss (go_parts w many (setting.Inverse name) ss go).1
unique_goes w many (setting.Unique true ∷ ss) go = and_from _ _ (go_parts w many (setting.Unique true) ss go).0 refl
unique_goes w many (setting.Unique false ∷ ss) go = unique_goes w many ss (go_parts w many (setting.Unique false) ss go).1
unique_goes w many (setting.NoNulls on ∷ ss) go = unique_goes w many ss (go_parts w many (setting.NoNulls on) ss go).1
unique_goes w many (setting.Index on ∷ ss) go = unique_goes w many ss (go_parts w many (setting.Index on) ss go).1

no_nulls_goes : (w : Worded) (many : Bool) (ss : List Setting) → all_go w many ss ≡ true → all_go w many (if_on (setting.NoNulls true) (list_any is_no_nulls ss)) ≡ true
no_nulls_goes w many [] go = refl
no_nulls_goes w many (setting.Inverse name ∷ ss) go = no_nulls_goes w many ss (go_parts w many (setting.Inverse name) ss go).1
no_nulls_goes w many (setting.Unique on ∷ ss) go = no_nulls_goes w many ss (go_parts w many (setting.Unique on) ss go).1
no_nulls_goes w many (setting.NoNulls true ∷ ss) go = and_from _ _ (go_parts w many (setting.NoNulls true) ss go).0 refl
no_nulls_goes w many (setting.NoNulls false ∷ ss) go = no_nulls_goes w many ss (go_parts w many (setting.NoNulls false) ss go).1
no_nulls_goes w many (setting.Index on ∷ ss) go = no_nulls_goes w many ss (go_parts w many (setting.Index on) ss go).1

index_goes : (w : Worded) (many index : Bool) → all_go w many (if_on (setting.Index true) index) ≡ true
index_goes w many true = refl
index_goes w many false = refl

go-append : (w : Worded) (many : Bool) (ss ts : List Setting) → all_go w many ss ≡ true → all_go w many ts ≡ true → all_go w many (ss ++ ts) ≡ true
go-append w many ss ts a b = list_all-append (goes_with w many) ss ts ∙ and_from _ _ a b

-- where options go with a type, the written ones do
pub kept_goes : (w : Worded) (many : Bool) (choices again : List Choice) → settings again ≡ kept_of choices → choice_fault w many choices ≡ None → choice_fault w many again ≡ None
kept_goes w many choices again same none =
    let go = go-choices w many choices none in
    let unique = is_on is_unique choices in
    let no_nulls = is_on is_no_nulls choices in
    let index = (unique || is_on is_index choices) && not unique in
    let first = if_given (inverse_in choices) in
    let unique_go : all_go w many (if_on (setting.Unique true) unique) ≡ true = rw (on-settings is_unique choices) (unique_goes w many (settings choices) go) in
    let no_nulls_go : all_go w many (if_on (setting.NoNulls true) no_nulls) ≡ true = rw (on-settings is_no_nulls choices) (no_nulls_goes w many (settings choices) go) in
    choices-go w many again (ap (all_go w many) same
    ∙ go-append w many (first ++ if_on (setting.Unique true) unique ++ if_on (setting.NoNulls true) no_nulls) (if_on (setting.Index true) index)
    (go-append w many (first ++ if_on (setting.Unique true) unique) (if_on (setting.NoNulls true) no_nulls) (go-append w many first (if_on (setting.Unique true) unique) (inverse_goes w many choices go) unique_go) no_nulls_go)
    (index_goes w many index))
