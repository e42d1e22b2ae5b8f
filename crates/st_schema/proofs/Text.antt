-- The canonical text of a schema as it is written.
use Rattle.std.proofs.Common.{ℕ, Bool, true, false, not, ◌&&◌, ◌||◌, List, [], ◌∷◌, ◌++◌, map, Option, Some, None}
use Rattle.std.specs.Prelude.{codes, flat_map}
use Rattle.std.specs.Fmt.{decimal}
use Rattle.st_schema.specs.declared.written.Setting.{Setting}
use Rattle.st_schema.specs.declared.written.Setting.TheVariants as setting
use Rattle.st_schema.specs.declared.written.Choice.{Choice}
use Rattle.st_schema.specs.declared.written.Worded.{Worded}
use Rattle.st_schema.specs.declared.written.Worded.TheVariants as worded
use Rattle.st_schema.specs.declared.written.AttributeForm.{AttributeForm}
use Rattle.st_schema.specs.declared.written.TypeForm.{TypeForm}
use Rattle.st_schema.specs.declared.written.Written.{Written}
use Rattle.st_schema.specs.Written.{word_of}
use Rattle.st_schema.specs.Resolved.{inverse_in, is_on, is_unique, is_no_nulls, is_index}
use Rattle.st_schema.specs.Canonical.{in_list}
use Rattle.st_sexp.proofs.Pieces.{behind}

abbrev pub worded_text : Worded → List ℕ
worded_text worded.Int = codes "integer"
worded_text worded.Bool = codes "boolean"
worded_text (worded.Text size) = in_list (codes "string" ∷ decimal size ∷ [])
worded_text (worded.Entity name) = name

abbrev pub value_text : Bool → Worded → List ℕ
value_text false w = worded_text w
value_text true w = in_list (codes "set-of" ∷ worded_text w ∷ [])

-- the options of choices
abbrev pub settings : List Choice → List Setting
settings choices = map (λ c. c.setting) choices

abbrev pub if_given : Option (List ℕ) → List Setting
if_given None = []
if_given (Some name) = setting.Inverse name ∷ []

abbrev pub if_on : Setting → Bool → List Setting
if_on s false = []
if_on s true = s ∷ []

-- the options that are written of an attribute that has these
abbrev pub kept : Option (List ℕ) → Bool → Bool → Bool → List Setting
kept inverse unique no_nulls index =
    if_given inverse ++ if_on (setting.Unique true) unique ++ if_on (setting.NoNulls true) no_nulls ++ if_on (setting.Index true) (index && not unique)

abbrev pub kept_of : List Choice → List Setting
kept_of choices = kept (inverse_in choices) (is_on is_unique choices) (is_on is_no_nulls choices) (is_on is_unique choices || is_on is_index choices)

abbrev pub setting_value : Setting → List ℕ
setting_value (setting.Inverse name) = name
setting_value _ = codes "t"

abbrev pub setting_items : Setting → List (List ℕ)
setting_items s = word_of s ∷ setting_value s ∷ []

abbrev pub attribute_line : AttributeForm → List ℕ
attribute_line a = in_list (a.name ∷ value_text a.many a.worded ∷ flat_map setting_items (kept_of a.choices))

abbrev pub type_text : TypeForm → List ℕ
type_text t = in_list (codes "define-entity-type" ∷ t.name ∷ in_list t.parents ∷ in_list (map attribute_line t.attributes) ∷ [])

-- all but the last line's end
abbrev pub text_of : Written → List ℕ
text_of w = in_list (codes "define-schema" ∷ w.name ∷ []) ++ behind 10 (map type_text w.types)
