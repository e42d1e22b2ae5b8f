-- The canonical text of a schema that was read is short.
use Rattle.std.proofs.Common.{◌≡◌, ℕ, suc, ◌+◌, ◌*◌, ◌≤◌, lit<, lit≤, Bool, true, false, not, ◌||◌, ◌&&◌, ltb, cond, List, [], ◌∷◌, ◌++◌, length, map, Option, Some, None, refl, ap, sym, ◌∙◌, arith, zero-add, length-append}
use Rattle.std.specs.Prelude.{codes, flat_map}
use Rattle.std.specs.Fmt.{decimal}
use Rattle.std.proofs.lemmas.Bool.{and_parts, leb-true, ltb-false}
use Rattle.std.proofs.lemmas.Fmt.{length-decimal-le}
use Rattle.std.proofs.lemmas.List.Concat.{flat_map-append}
use Rattle.st_sexp.proofs.Pieces.{behind, join_behind}
use Rattle.st_schema.specs.declared.fault.SchemaFault.{SchemaFault}
use Rattle.st_schema.specs.declared.written.Setting.{Setting}
use Rattle.st_schema.specs.declared.written.Setting.TheVariants as setting
use Rattle.st_schema.specs.declared.written.Worded.{Worded}
use Rattle.st_schema.specs.declared.written.Worded.TheVariants as worded
use Rattle.st_schema.specs.declared.written.AttributeForm.{AttributeForm}
use Rattle.st_schema.specs.declared.written.TypeForm.{TypeForm}
use Rattle.st_schema.specs.declared.written.Written.{Written}
use Rattle.st_sexp.specs.Names.{is_name}
use Rattle.st_schema.specs.Checks.{attribute_count}
use Rattle.st_schema.specs.Resolved.{inverse_in, is_on, is_unique, is_no_nulls, is_index}
use Rattle.st_schema.specs.Canonical.{in_list}
use Rattle.st_schema.proofs.Text.{worded_text, value_text, setting_items, if_given, if_on, kept, kept_of, attribute_line, type_text, text_of}
use Rattle.st_schema.proofs.ValueTypes.{CanBeWritten}
use Rattle.st_schema.proofs.Options.{IsInverse}
use Rattle.st_schema.proofs.Attributes.{IsGoodAttribute, AreGoodAttributes, AreNames}
use Rattle.st_schema.proofs.Whole.{IsGoodType, AreGoodTypes, IsGood}
use Rattle.st_schema.proofs.Content.{HasNoFault}
use Rattle.st_schema.proofs.Parents.{HaveFewParents, few_parents}

-- how long pieces of the text are
list_length : (items : List (List ℕ)) → length (in_list items) ≤ 2 + length (behind 32 items)
list_length [] = lit≤ tt
list_length (item ∷ items) =
    let inside = length-append (item ++ behind 32 items) (41 ∷ []) in
    let same : length (in_list (item ∷ items)) ≡ suc (length (item ++ behind 32 items ++ 41 ∷ [])) = ap (λ text. length (40 ∷ text ++ 41 ∷ [])) (join_behind 32 item items) in
    omega arith

behind_length : (gap : ℕ) (item : List ℕ) (items : List (List ℕ)) → length (behind gap (item ∷ items)) ≡ 1 + length item + length (behind gap items)
behind_length gap item items = omega (arith, length-append item (behind gap items))

behind_append : (gap : ℕ) (items more : List (List ℕ)) → length (behind gap (items ++ more)) ≡ length (behind gap items) + length (behind gap more)
behind_append gap [] more = sym (zero-add (length (behind gap more)))
behind_append gap (item ∷ items) more =
    let rest = behind_append gap items more in
    let all = behind_length gap item (items ++ more) in
    let front = behind_length gap item items in
    omega arith

name_short : (name : List ℕ) → is_name name ≡ true → length name ≤ 31
unfolding is_name
name_short name h = leb-true (length name) 31 (and_parts _ _ (and_parts _ _ h).0).1

names_short : (names : List (List ℕ)) → AreNames names → length (behind 32 names) ≤ 32 * length names
names_short [] good = omega arith
names_short (name ∷ names) good =
    let one = name_short name good.0 in
    let more = names_short names good.1 in
    let all = behind_length 32 name names in
    let count : length (name ∷ names) ≡ suc (length names) = refl in
    omega arith

worded_short : (w : Worded) → CanBeWritten w → length (worded_text w) ≤ 31
worded_short worded.Int can = lit≤ tt
worded_short worded.Bool can = lit≤ tt
worded_short (worded.Text size) can =
    let digits : length (decimal size) ≤ 3 = length-decimal-le 3 size (lit< tt) (omega arith) (omega arith) in
    let all = list_length (codes "string" ∷ decimal size ∷ []) in
    let word = behind_length 32 (codes "string") (decimal size ∷ []) in
    let number = behind_length 32 (decimal size) [] in
    let letters : length (codes "string") ≡ 6 = refl in
    let none : length (behind 32 []) ≡ 0 = refl in
    omega arith
worded_short (worded.Entity name) can = name_short name can

value_short : (many : Bool) (w : Worded) → CanBeWritten w → length (value_text many w) ≤ 41
value_short false w can = omega (arith, worded_short w can)
value_short true w can =
    let single = worded_short w can in
    let all = list_length (codes "set-of" ∷ worded_text w ∷ []) in
    let word = behind_length 32 (codes "set-of") (worded_text w ∷ []) in
    let ty = behind_length 32 (worded_text w) [] in
    let letters : length (codes "set-of") ≡ 6 = refl in
    let none : length (behind 32 []) ≡ 0 = refl in
    omega arith

abbrev items_length : List Setting → ℕ
items_length ss = length (behind 32 (flat_map setting_items ss))

items_append : (ss ts : List Setting) → items_length (ss ++ ts) ≡ items_length ss + items_length ts
items_append ss ts = ap (λ items. length (behind 32 items)) (flat_map-append setting_items ss ts) ∙ behind_append 32 (flat_map setting_items ss) (flat_map setting_items ts)

inverse_short : (inverse : Option (List ℕ)) → IsInverse inverse → items_length (if_given inverse) ≤ 41
inverse_short None good = lit≤ tt
inverse_short (Some name) good =
    let one = name_short name good in
    let word = behind_length 32 (codes ":inverse") (name ∷ []) in
    let value = behind_length 32 name [] in
    let letters : length (codes ":inverse") ≡ 8 = refl in
    let none : length (behind 32 []) ≡ 0 = refl in
    let same : items_length (setting.Inverse name ∷ []) ≡ length (behind 32 (codes ":inverse" ∷ name ∷ [])) = refl in
    omega arith

on_short : (s : Setting) (b : Bool) → items_length (s ∷ []) ≤ 12 → items_length (if_on s b) ≤ 12
on_short s true le = le
on_short s false le = lit≤ tt

kept_short : (inverse : Option (List ℕ)) (unique no_nulls index : Bool) → IsInverse inverse → items_length (kept inverse unique no_nulls index) ≤ 77
kept_short inverse unique no_nulls index good =
    let a = if_given inverse in
    let b = if_on (setting.Unique true) unique in
    let c = if_on (setting.NoNulls true) no_nulls in
    let d = if_on (setting.Index true) (index && not unique) in
    let first = inverse_short inverse good in
    let second = on_short (setting.Unique true) unique (lit≤ tt) in
    let third = on_short (setting.NoNulls true) no_nulls (lit≤ tt) in
    let fourth = on_short (setting.Index true) (index && not unique) (lit≤ tt) in
    let ab = items_append a b in
    let abc = items_append (a ++ b) c in
    let abcd = items_append (a ++ b ++ c) d in
    omega arith

attribute_short : (a : AttributeForm) → IsGoodAttribute a → length (attribute_line a) ≤ 153
attribute_short a good =
    let ss = kept_of a.choices in
    let name = name_short a.name good.name in
    let value = value_short a.many a.worded good.worded in
    let options = kept_short (inverse_in a.choices) (is_on is_unique a.choices) (is_on is_no_nulls a.choices) (is_on is_unique a.choices || is_on is_index a.choices) good.inverse in
    let all = list_length (a.name ∷ value_text a.many a.worded ∷ flat_map setting_items ss) in
    let first = behind_length 32 a.name (value_text a.many a.worded ∷ flat_map setting_items ss) in
    let second = behind_length 32 (value_text a.many a.worded) (flat_map setting_items ss) in
    omega arith

attributes_short : (attributes : List AttributeForm) → AreGoodAttributes attributes → length (behind 32 (map attribute_line attributes)) ≤ 154 * length attributes
attributes_short [] good = omega arith
attributes_short (a ∷ attributes) good =
    let one = attribute_short a good.0 in
    let more = attributes_short attributes good.1 in
    let all = behind_length 32 (attribute_line a) (map attribute_line attributes) in
    let count : length (a ∷ attributes) ≡ suc (length attributes) = refl in
    omega arith

type_short : (t : TypeForm) → IsGoodType t → length t.parents ≤ 64 → length (type_text t) ≤ 2108 + 154 * length t.attributes
type_short t good few =
    let name = name_short t.name good.name in
    let parents = names_short t.parents good.parents in
    let attributes = attributes_short t.attributes good.attributes in
    let parents_list = list_length t.parents in
    let attributes_list = list_length (map attribute_line t.attributes) in
    let all = list_length (codes "define-entity-type" ∷ t.name ∷ in_list t.parents ∷ in_list (map attribute_line t.attributes) ∷ []) in
    let first = behind_length 32 (codes "define-entity-type") (t.name ∷ in_list t.parents ∷ in_list (map attribute_line t.attributes) ∷ []) in
    let second = behind_length 32 t.name (in_list t.parents ∷ in_list (map attribute_line t.attributes) ∷ []) in
    let third = behind_length 32 (in_list t.parents) (in_list (map attribute_line t.attributes) ∷ []) in
    let fourth = behind_length 32 (in_list (map attribute_line t.attributes)) [] in
    let letters : length (codes "define-entity-type") ≡ 18 = refl in
    let none : length (behind 32 []) ≡ 0 = refl in
    omega arith

types_short : (types : List TypeForm) → AreGoodTypes types → HaveFewParents types → length (behind 10 (map type_text types)) ≤ 2109 * length types + 154 * attribute_count types
types_short [] good few = omega arith
types_short (t ∷ types) good few =
    let one = type_short t good.0 few.0 in
    let more = types_short types good.1 few.1 in
    let all = behind_length 10 (type_text t) (map type_text types) in
    let count : length (t ∷ types) ≡ suc (length types) = refl in
    let attributes : attribute_count (t ∷ types) ≡ length t.attributes + attribute_count types = refl in
    omega arith

no_excess : (b c : Bool) (x y : SchemaFault) → cond b (Some x) (cond c (Some y) None) ≡ None → (b ≡ false) × (c ≡ false)
no_excess true c x y none = absurd (cc)
no_excess false true x y none = absurd (cc)
no_excess false false x y none = (refl, refl)

pub text_short : (w : Written) → IsGood w → HasNoFault w.types → length (text_of w ++ 10 ∷ []) ≤ 1048576
text_short w good known =
    let excess = no_excess (ltb 64 (length w.types)) (ltb 256 (attribute_count w.types)) _ _ known.few in
    let types : length w.types ≤ 64 = ltb-false 64 (length w.types) excess.0 in
    let attributes : attribute_count w.types ≤ 256 = ltb-false 256 (attribute_count w.types) excess.1 in
    let none : length {A = List ℕ} [] ≡ 0 = refl in
    let few = few_parents [] w.types known.parents (omega arith) in
    let lines = types_short w.types good.types few in
    let name = name_short w.name good.name in
    let front = list_length (codes "define-schema" ∷ w.name ∷ []) in
    let first = behind_length 32 (codes "define-schema") (w.name ∷ []) in
    let second = behind_length 32 w.name [] in
    let letters : length (codes "define-schema") ≡ 13 = refl in
    let empty : length (behind 32 []) ≡ 0 = refl in
    let all = length-append (in_list (codes "define-schema" ∷ w.name ∷ [])) (behind 10 (map type_text w.types)) in
    let end = length-append (text_of w) (10 ∷ []) in
    let one : length {A = ℕ} (10 ∷ []) ≡ 1 = refl in
    omega arith
