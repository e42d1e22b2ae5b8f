-- The texts of the types of values are read as these types.
use Rattle.std.proofs.Common.{◌≡◌, ℕ, suc, ◌<◌, ◌≤◌, ◌^◌, Bool, true, false, List, [], ◌∷◌, length, Some, None, Ok, pos, refl, ap, ◌∙◌, subst, arith}
use Rattle.std.specs.Prelude.{codes}
use Rattle.std.specs.Fmt.{decimal}
use Rattle.std.specs.Str.{all_ascii_digits, bytes_eq}
use Rattle.std.specs.Str.Parse.{digits_value}
use Rattle.std.proofs.lemmas.Bool.{le-leb, or_parts, cond-false}
use Rattle.std.proofs.lemmas.Fmt.{decimal_is_IsNumeral, digits_decimal}
use Rattle.std.proofs.lemmas.Str.Parse.{IsNumeralModel, numerals_by_value, tells_all_ascii_digits}
use Rattle.st_sexp.specs.declared.form.Form.{Form}
use Rattle.st_sexp.specs.Views.{as_number, as_list}
use Rattle.st_sexp.proofs.Naming.{name_form, not_reserved, behind-head, behind-word}
use Rattle.st_sexp.proofs.Pieces.{IsForm, IsNamed, Heads, form_weaker, word_form, digits_form, list_of, item_more, item_end}
use Rattle.st_schema.specs.declared.written.Worded.{Worded}
use Rattle.st_schema.specs.declared.written.Worded.TheVariants as worded
use Rattle.st_sexp.specs.Names.{is_name}
use Rattle.st_sexp.specs.Items.{only_if, behind}
use Rattle.st_schema.specs.Written.{type_word, single_type, sized_string, set_type, worded_at, type_at, value_type}
use Rattle.st_schema.proofs.Text.{worded_text, value_text}

-- a name is read as the type of this name
type_word-name : (name : List ℕ) → is_name name ≡ true → type_word name ≡ Some (worded.Entity name)
type_word-name name h =
    let six = or_parts _ _ (not_reserved name h) in
    let five = or_parts _ _ six.0 in
    let four = or_parts _ _ five.0 in
    let three = or_parts _ _ four.0 in
    let two = or_parts _ _ three.0 in
    let one = or_parts _ _ two.0 in
    cond-false (bytes_eq name (codes "integer")) _ _ one.0 ∙ cond-false (bytes_eq name (codes "boolean")) _ _ one.1 ∙ cond-false (bytes_eq name (codes "string")) _ _ two.1
    ∙ ap (λ (b : Bool). only_if b (worded.Entity name)) h

-- a type that a text can write: a size from 1 to 200, a name
abbrev pub CanBeWritten : Worded → Type 0
CanBeWritten (worded.Text size) = (1 ≤ size) × (size ≤ 200)
CanBeWritten (worded.Entity name) = is_name name ≡ true
CanBeWritten _ = Unit {0}

-- a form that is read as this type, and is no set's
pub record IsSingle (w : Worded) (form : Form) : Type 0 where
  pub single : single_type form ≡ Ok w
  pub no_set : behind (codes "set-of") form ≡ None

named_single : (w : Worded) (word : List ℕ) (form : Form) → worded_at form None ≡ Ok w → IsNamed word form → IsSingle w form
named_single w word form is named = record {
  single = ap (worded_at form) (behind-word (codes "string") form named.no_list) ∙ is;
  no_set = behind-word (codes "set-of") form named.no_list;
}

sized : (size place : ℕ) (form : Form) → 1 ≤ size → size ≤ 200 → as_number form ≡ Some (pos size) → sized_string place (form ∷ []) ≡ Ok (worded.Text size)
sized size place form low high is = rw (is, le-leb 1 size low, le-leb size 200 high) refl

own_digits : IsNumeralModel (λ ds. all_ascii_digits ds ≡ true) (digits_value 10)
own_digits = numerals_by_value (λ ds. all_ascii_digits ds ≡ true) tells_all_ascii_digits

size_form : (size deep : ℕ) → size ≤ 200 → IsForm (decimal size) deep (λ form. as_number form ≡ Some (pos size))
size_form size deep high =
    let fits : size < 2 ^ 64 = omega arith in
    let numeral = decimal_is_IsNumeral size fits in
    let value : digits_value 10 (decimal size) ≡ size = numeral.1 in
    let some : 0 < length (decimal size) = numeral.0.0 in
    subst (λ (n : ℕ). IsForm (decimal size) deep (λ form. as_number form ≡ Some (pos n))) value
    (digits_form (decimal size) deep (digits_decimal own_digits size fits) some (rw value (omega arith)))

string_single : (size : ℕ) (list head : Form) (rest : List Form) → 1 ≤ size → size ≤ 200 → as_list list ≡ Some (head ∷ rest) → IsNamed (codes "string") head → Heads (λ form. as_number form ≡ Some (pos size)) (λ forms. forms ≡ []) rest → IsSingle (worded.Text size) list
string_single size list head rest low high is named found =
    let one = found.both ∙ ap (λ more. found.head ∷ more) found.others in
    record {
      single = ap (worded_at list) (behind-head (codes "string") (codes "string") list head rest is named) ∙ ap (sized_string list.from) one ∙ sized size list.from found.head low high found.first;
      no_set = behind-head (codes "set-of") (codes "string") list head rest is named;
    }

pub single_form : (w : Worded) (deep : ℕ) → CanBeWritten w → IsForm (worded_text w) (suc deep) (IsSingle w)
single_form worded.Int deep can = form_weaker (codes "integer") (suc deep) (IsNamed (codes "integer")) (IsSingle worded.Int) (λ form named. named_single worded.Int (codes "integer") form (rw named.name refl) named) (word_form (codes "integer") (suc deep) refl)
single_form worded.Bool deep can = form_weaker (codes "boolean") (suc deep) (IsNamed (codes "boolean")) (IsSingle worded.Bool) (λ form named. named_single worded.Bool (codes "boolean") form (rw named.name refl) named) (word_form (codes "boolean") (suc deep) refl)
single_form (worded.Text size) deep can =
    list_of (codes "string") (decimal size ∷ []) deep (IsNamed (codes "string")) (Heads (λ form. as_number form ≡ Some (pos size)) (λ forms. forms ≡ [])) (IsSingle (worded.Text size))
    (λ list head rest is named found. string_single size list head rest can.0 can.1 is named found)
    (word_form (codes "string") deep refl)
    (item_more (decimal size) [] deep (λ form. as_number form ≡ Some (pos size)) (λ forms. forms ≡ []) (size_form size deep can.1) (item_end deep))
single_form (worded.Entity name) deep can =
    form_weaker name (suc deep) (IsNamed name) (IsSingle (worded.Entity name)) (λ form named. named_single (worded.Entity name) name form (rw (named.name, type_word-name name can) refl) named) (name_form name (suc deep) can)

set_is : (w : Worded) (list head : Form) (rest : List Form) → as_list list ≡ Some (head ∷ rest) → IsNamed (codes "set-of") head → Heads (IsSingle w) (λ forms. forms ≡ []) rest → value_type list ≡ Ok (w, true)
set_is w list head rest is named found =
    let one = found.both ∙ ap (λ more. found.head ∷ more) found.others in
    ap (type_at list) (behind-head (codes "set-of") (codes "set-of") list head rest is named) ∙ ap (set_type list.from) one ∙ (rw found.first.single refl)

-- the type of an attribute's values
pub value_form : (many : Bool) (w : Worded) (deep : ℕ) → CanBeWritten w → IsForm (value_text many w) (suc (suc deep)) (λ form. value_type form ≡ Ok (w, many))
value_form false w deep can =
    form_weaker (worded_text w) (suc (suc deep)) (IsSingle w) (λ form. value_type form ≡ Ok (w, false)) (λ form is. ap (type_at form) is.no_set ∙ (rw is.single refl)) (single_form w (suc deep) can)
value_form true w deep can =
    list_of (codes "set-of") (worded_text w ∷ []) (suc deep) (IsNamed (codes "set-of")) (Heads (IsSingle w) (λ forms. forms ≡ [])) (λ form. value_type form ≡ Ok (w, true))
    (λ list head rest is named found. set_is w list head rest is named found)
    (word_form (codes "set-of") (suc deep) refl)
    (item_more (worded_text w) [] (suc deep) (IsSingle w) (λ forms. forms ≡ []) (single_form w deep can) (item_end (suc deep)))
