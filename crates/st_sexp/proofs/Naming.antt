-- Names as words of a text.
use Rattle.std.proofs.Common.{◌≡◌, ℕ, Bool, true, false, not, ◌||◌, ◌==◌, List, [], ◌∷◌, Some, None, Ok, refl, ap, arith}
use Rattle.std.specs.Char.{is_ascii_lowercase}
use Rattle.std.specs.List.{list_all}
use Rattle.std.specs.Str.{bytes_eq}
use Rattle.std.proofs.lemmas.Bool.{and_parts, and_from}
use Rattle.std.proofs.lemmas.Bool.Decides.{nat_tests}
use Rattle.st_token.proofs.Fronts.{is_small_byte, is_small_word}
use Rattle.st_sexp.specs.declared.form.Form.{Form}
use Rattle.st_sexp.specs.Views.{as_list}
use Rattle.st_sexp.specs.Names.{is_name, is_name_part, has_name_bytes, is_reserved}
use Rattle.st_sexp.specs.Items.{only_if, identifier, name_at, behind}
use Rattle.st_sexp.proofs.Pieces.{IsForm, IsNamed, word_form}

pub is_false : (b : Bool) → not b ≡ true → b ≡ false
is_false true h = absurd (cc)
is_false false h = refl

part_small : (b : ℕ) → is_name_part b ≡ true → is_small_byte b ≡ true
part_small b h = grind (arith, nat_tests)

parts_small : (bs : List ℕ) → list_all is_name_part bs ≡ true → list_all is_small_byte bs ≡ true
parts_small [] h = refl
parts_small (b ∷ bs) h = let both = and_parts _ _ h in and_from _ _ (part_small b both.0) (parts_small bs both.1)

name_bytes_small : (word : List ℕ) → has_name_bytes word ≡ true → is_small_word word ≡ true
name_bytes_small [] h = absurd (cc)
name_bytes_small (b ∷ bs) h =
    let both = and_parts (is_ascii_lowercase b) (list_all is_name_part bs) h in
    let first : (is_ascii_lowercase b || b == 58) ≡ true = ap (λ low. low || b == 58) both.0 in
    and_from _ _ first (parts_small bs both.1)

-- a name is a word of small letters, digits and hyphens
pub name_small : (name : List ℕ) → is_name name ≡ true → is_small_word name ≡ true
unfolding is_name
name_small name h = name_bytes_small name (and_parts _ _ (and_parts _ _ h).0).0

pub not_reserved : (name : List ℕ) → is_name name ≡ true → is_reserved name ≡ false
unfolding is_name
not_reserved name h = is_false (is_reserved name) (and_parts _ _ h).1

pub name_form : (name : List ℕ) (deep : ℕ) → is_name name ≡ true → IsForm name deep (IsNamed name)
name_form name deep h = word_form name deep (name_small name h)

pub identifier-named : (name : List ℕ) (form : Form) → is_name name ≡ true → IsNamed name form → identifier form ≡ Some name
identifier-named name form h named = rw (named.name, h) refl

pub name_at-named : {E : Type 0} (misfit : ℕ → E) (name : List ℕ) (form : Form) → is_name name ≡ true → IsNamed name form → name_at misfit form ≡ Ok name
name_at-named misfit name form h named = rw (named.name, h) refl

-- what stands behind the head of a list, where the head is the word
pub behind-head : (word head : List ℕ) (list form : Form) (forms : List Form) → as_list list ≡ Some (form ∷ forms) → IsNamed head form → behind word list ≡ only_if (bytes_eq head word) forms
behind-head word head list form forms is named = rw (is, named.name) refl

pub behind-word : (word : List ℕ) (form : Form) → as_list form ≡ None → behind word form ≡ None
behind-word word form none = rw none refl
