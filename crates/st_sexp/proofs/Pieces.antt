-- Pieces of text that are one form or some forms, whatever stands behind them, and how they are put together.
use Rattle.std.proofs.Common.{◌≡◌, ℕ, suc, ◌+◌, ◌-◌, ◌<◌, ◌≤◌, ◌^◌, true, List, [], ◌∷◌, ◌++◌, length, Option, Some, None, Ok, pos, refl, ap, sym, ◌∙◌, subst, arith, lit<, append-nil, append_assoc}
use Rattle.std.specs.List.{join_with_byte}
use Rattle.std.specs.Option.{option_and_then}
use Rattle.std.specs.Str.{IsAscii, all_ascii_digits}
use Rattle.std.specs.Str.Parse.{digits_value}
use Rattle.std.proofs.lemmas.Bool.{lt-ltb}
use Rattle.std.proofs.lemmas.Str.{IsAscii-append, IsUtf8-from_ascii}
use Rattle.std.proofs.lemmas.Str.Ascii.{IsAscii-nil, IsAscii-cons}
use Rattle.st_token.specs.declared.token.Token.{Token}
use Rattle.st_token.specs.declared.token.TokenKind.{TokenKind}
use Rattle.st_token.specs.declared.token.TokenKind.TheVariants as kind
use Rattle.st_token.specs.Scan.{place, next_of}
use Rattle.st_token.proofs.Fronts.{EndsWord, is_small_word, next_of-word, next_of-digits, small_word_ascii, digits_ascii}
use Rattle.st_sexp.specs.declared.form.Form.{Form}
use Rattle.st_sexp.specs.declared.form.Shape.TheVariants as shape
use Rattle.st_sexp.specs.Flat.{tokens_of, all_tokens}
use Rattle.st_sexp.specs.Views.{as_name, as_number, as_list}
use Rattle.st_sexp.specs.Reading.{Begins, opens, open_after, Due}
use Rattle.st_sexp.proofs.Spelling.{tokens_of-name, tokens_of-number, tokens_of-quoted, tokens_of-list}
use Rattle.st_sexp.proofs.Induction.{form_induction}
use Rattle.st_sexp.proofs.Stops.{opens_some}
use Rattle.st_sexp.proofs.Views.{as_name-name, as_list-name, as_number-number, as_list-list}

-- where at most so many lists are open below 64 the same lists are open behind the tokens
abbrev pub Keeps : ℕ → List Token → Type 0
Keeps deep tokens = (levels : List ℕ) → length levels + deep ≤ 64 → open_after levels tokens ≡ Some levels

-- a form of which something holds, read at the front of a text
pub record Found (total : ℕ) (text rest : List ℕ) (deep : ℕ) (P : Form → Type 0) : Type 0 where
  pub form : Form
  pub begins : Begins total text (tokens_of form) rest
  pub keeps : Keeps deep (tokens_of form)
  pub holds : P form

-- a piece of text is a form of which something holds; it has at most so many lists within each other
pub record IsForm (piece : List ℕ) (deep : ℕ) (P : Form → Type 0) : Type 0 where
  pub ascii : IsAscii piece
  pub reads : (total : ℕ) (rest : List ℕ) → EndsWord rest → Found total (piece ++ rest) rest deep P

-- forms of which something holds, read at the front of a text
pub record FoundAll (total : ℕ) (text rest : List ℕ) (deep : ℕ) (Q : List Form → Type 0) : Type 0 where
  pub forms : List Form
  pub begins : Begins total text (all_tokens forms) rest
  pub keeps : Keeps deep (all_tokens forms)
  pub holds : Q forms

-- a piece of text is some forms
pub record AreForms (piece : List ℕ) (deep : ℕ) (Q : List Form → Type 0) : Type 0 where
  pub ascii : IsAscii piece
  pub reads : (total : ℕ) (rest : List ℕ) → EndsWord rest → FoundAll total (piece ++ rest) rest deep Q

-- the same piece, and less of it
pub form_weaker : (piece : List ℕ) (deep : ℕ) (P R : Form → Type 0) → ((form : Form) → P form → R form) → IsForm piece deep P → IsForm piece deep R
form_weaker piece deep P R more is = record {
  ascii = is.ascii;
  reads = λ total rest ends. let found = is.reads total rest ends in record { form = found.form; begins = found.begins; keeps = found.keeps; holds = more found.form found.holds };
}

pub forms_weaker : (piece : List ℕ) (deep : ℕ) (P R : List Form → Type 0) → ((forms : List Form) → P forms → R forms) → AreForms piece deep P → AreForms piece deep R
forms_weaker piece deep P R more is = record {
  ascii = is.ascii;
  reads = λ total rest ends. let found = is.reads total rest ends in record { forms = found.forms; begins = found.begins; keeps = found.keeps; holds = more found.forms found.holds };
}

begins-append : (total : ℕ) (first second : List Token) (text middle rest : List ℕ) → Begins total text first middle → Begins total middle second rest → Begins total text (first ++ second) rest
begins-append total [] second text middle rest a b = subst (λ left. Begins total left second rest) a b
begins-append total (token ∷ first) second text middle rest a b = (a.0, a.1, begins-append total first second a.0 middle rest a.2 b)

open_after-append : (first second : List Token) (levels middle : List ℕ) → open_after levels first ≡ Some middle → open_after levels (first ++ second) ≡ open_after middle second
open_after-append [] second levels middle is = ap (λ o. elim o as (λ x. Option (List ℕ)) [ Some l ↦ open_after l second | None ↦ None ]) is
open_after-append (token ∷ first) second levels middle is =
    let step = opens_some (opens token.kind token.from levels) (λ now. open_after now first) middle is in
    rw step.1 (open_after-append first second step.0 middle step.2)

keeps-append : (deep : ℕ) (first second : List Token) → Keeps deep first → Keeps deep second → Keeps deep (first ++ second)
keeps-append deep first second a b levels few = open_after-append first second levels levels (a levels few) ∙ b levels few

-- a word is the name with these letters
pub record IsNamed (word : List ℕ) (form : Form) : Type 0 where
  pub name : as_name form ≡ Some word
  pub no_list : as_list form ≡ None

pub word_form : (word : List ℕ) (deep : ℕ) → is_small_word word ≡ true → IsForm word deep (IsNamed word)
word_form word deep small = record {
  ascii = small_word_ascii word small;
  reads = λ total rest ends.
      let from = place total (word ++ rest) in
      let to = from + length word in
      let spelled = tokens_of-name word from to in
      let tokens : List Token = record { kind = kind.Name word; from = from; to = to } ∷ [] in
      record {
        form = record { shape = shape.Name word; from = from; to = to };
        begins = subst (λ tokens. Begins total (word ++ rest) tokens rest) (sym spelled) (rest, next_of-word total word rest small ends, refl);
        keeps = λ levels few. rw spelled refl;
        holds = record { name = as_name-name word from to; no_list = as_list-name word from to };
      };
}

-- digits are a number
pub digits_form : (word : List ℕ) (deep : ℕ) → all_ascii_digits word ≡ true → 0 < length word → digits_value 10 word < 2 ^ 63 → IsForm word deep (λ form. as_number form ≡ Some (pos (digits_value 10 word)))
digits_form word deep digits some below = record {
  ascii = digits_ascii word digits;
  reads = λ total rest ends.
      let from = place total (word ++ rest) in
      let to = from + length word in
      let spelled = tokens_of-number (pos (digits_value 10 word)) from to in
      record {
        form = record { shape = shape.Number (pos (digits_value 10 word)); from = from; to = to };
        begins = subst (λ tokens. Begins total (word ++ rest) tokens rest) (sym spelled) (rest, next_of-digits total word rest digits some below ends, refl);
        keeps = λ levels few. rw spelled refl;
        holds = as_number-number (pos (digits_value 10 word)) from to;
      };
}

-- items, each with a byte before it
abbrev pub behind : ℕ → List (List ℕ) → List ℕ
behind gap [] = []
behind gap (item ∷ items) = gap ∷ (item ++ behind gap items)

pub join_behind : (gap : ℕ) (item : List ℕ) (items : List (List ℕ)) → join_with_byte gap (item ∷ items) ≡ item ++ behind gap items
join_behind gap item [] = sym (append-nil item)
join_behind gap item (next ∷ items) = ap (λ more. item ++ (gap ∷ more)) (join_behind gap next items)

-- a byte that is skipped between tokens
pub record IsGap (gap : ℕ) : Type 0 where
  pub skips : (total : ℕ) (text : List ℕ) → next_of total (gap ∷ text) ≡ next_of total text
  pub ends : EndsWord (gap ∷ [])
  pub low : gap < 128

pub space_gap : IsGap 32
space_gap = record { skips = λ total text. refl; ends = refl; low = lit< tt }

pub line_gap : IsGap 10
line_gap = record { skips = λ total text. refl; ends = refl; low = lit< tt }

ends_behind : (gap : ℕ) (items : List (List ℕ)) (rest : List ℕ) → IsGap gap → EndsWord rest → EndsWord (behind gap items ++ rest)
ends_behind gap [] rest is ends = ends
ends_behind gap (item ∷ items) rest is ends = is.ends

-- a form has a first token
abbrev HasToken : Form → Type 0
HasToken form = (token : Token) × (tokens : List Token) × (tokens_of form ≡ token ∷ tokens)

has_token : (form : Form) → HasToken form
has_token = form_induction HasToken (record {
  name = λ letters from to. (_, _, tokens_of-name letters from to);
  number = λ number from to. (_, _, tokens_of-number number from to);
  quoted = λ letters from to. (_, _, tokens_of-quoted letters from to);
  list = λ forms from to each. (_, _, tokens_of-list forms from to);
})

begins_token : (total gap : ℕ) (text rest : List ℕ) (token : Token) (tokens : List Token) → IsGap gap → Begins total text (token ∷ tokens) rest → Begins total (gap ∷ text) (token ∷ tokens) rest
begins_token total gap text rest token tokens is begins = (begins.0, is.skips total text ∙ begins.1, begins.2)

begins_behind : (total gap : ℕ) (text rest : List ℕ) (form : Form) (tokens : List Token) → IsGap gap → Begins total text (tokens_of form ++ tokens) rest → Begins total (gap ∷ text) (tokens_of form ++ tokens) rest
begins_behind total gap text rest form tokens is begins =
    let first = has_token form in
    let all = ap (λ front. front ++ tokens) (sym first.2) in
    subst (λ all. Begins total (gap ∷ text) all rest) all (begins_token total gap text rest first.0 (first.1 ++ tokens) is (subst (λ all. Begins total text all rest) (sym all) begins))

-- no forms
pub behind_none : (gap deep : ℕ) (R : List Form → Type 0) → R [] → AreForms (behind gap []) deep R
behind_none gap deep R none = record {
  ascii = IsAscii-nil;
  reads = λ total rest ends. record { forms = []; begins = refl; keeps = λ levels few. refl; holds = none };
}

-- a form and those behind it
found_more : (total gap : ℕ) (item : List ℕ) (items : List (List ℕ)) (rest : List ℕ) (deep : ℕ) (P : Form → Type 0) (Q R : List Form → Type 0) → ((form : Form) (forms : List Form) → P form → Q forms → R (form ∷ forms)) →
    Found total (item ++ (behind gap items ++ rest)) (behind gap items ++ rest) deep P → FoundAll total (behind gap items ++ rest) rest deep Q → FoundAll total (item ++ behind gap items ++ rest) rest deep R
found_more total gap item items rest deep P Q R more one others = record {
  forms = one.form ∷ others.forms;
  begins =
      subst (λ text. Begins total text (tokens_of one.form ++ all_tokens others.forms) rest) (sym (append_assoc item (behind gap items) rest))
      (begins-append total (tokens_of one.form) (all_tokens others.forms) (item ++ (behind gap items ++ rest)) (behind gap items ++ rest) rest one.begins others.begins);
  keeps = keeps-append deep (tokens_of one.form) (all_tokens others.forms) one.keeps others.keeps;
  holds = more one.form others.forms one.holds others.holds;
}

-- one form in front
pub first_more : (gap : ℕ) (item : List ℕ) (items : List (List ℕ)) (deep : ℕ) (P : Form → Type 0) (Q R : List Form → Type 0) → IsGap gap → ((form : Form) (forms : List Form) → P form → Q forms → R (form ∷ forms)) →
    IsForm item deep P → AreForms (behind gap items) deep Q → AreForms (item ++ behind gap items) deep R
first_more gap item items deep P Q R is more one others = record {
  ascii = IsAscii-append item (behind gap items) one.ascii others.ascii;
  reads = λ total rest ends.
      found_more total gap item items rest deep P Q R more (one.reads total (behind gap items ++ rest) (ends_behind gap items rest is ends)) (others.reads total rest ends);
}

pub behind_more : (gap : ℕ) (item : List ℕ) (items : List (List ℕ)) (deep : ℕ) (P : Form → Type 0) (Q R : List Form → Type 0) → IsGap gap → ((form : Form) (forms : List Form) → P form → Q forms → R (form ∷ forms)) →
    IsForm item deep P → AreForms (behind gap items) deep Q → AreForms (behind gap (item ∷ items)) deep R
unfolding found_more
behind_more gap item items deep P Q R is more one others = record {
  ascii = IsAscii-cons gap (item ++ behind gap items) is.low (IsAscii-append item (behind gap items) one.ascii others.ascii);
  reads = λ total rest ends.
      let first = one.reads total (behind gap items ++ rest) (ends_behind gap items rest is ends) in
      let found = others.reads total rest ends in
      let both = found_more total gap item items rest deep P Q R more first found in
      record {
        forms = first.form ∷ found.forms;
        begins = begins_behind total gap (item ++ behind gap items ++ rest) rest first.form (all_tokens found.forms) is both.begins;
        keeps = both.keeps;
        holds = more first.form found.forms first.holds found.holds;
      };
}

-- some forms between parentheses are a list
opens_below : (levels : List ℕ) (from deep : ℕ) → length levels + suc deep ≤ 64 → opens kind.Open from levels ≡ Some (from ∷ levels)
opens_below levels from deep few = rw (lt-ltb (length levels) 64 (omega arith)) refl

list_keeps : (from deep : ℕ) (close : Token) (tokens : List Token) → close.kind ≡ kind.Close → Keeps deep tokens → (to : ℕ) → Keeps (suc deep) (record { kind = kind.Open; from = from; to = to } ∷ (tokens ++ close ∷ []))
list_keeps from deep close tokens closes keeps to levels few =
    ap (option_and_then (λ now. open_after now (tokens ++ close ∷ []))) (opens_below levels from deep few)
    ∙ open_after-append tokens (close ∷ []) (from ∷ levels) (from ∷ levels) (keeps (from ∷ levels) (omega arith))
    ∙ ap (λ (s : TokenKind). option_and_then (λ now. open_after now []) (opens s close.from (from ∷ levels))) closes

pub list_form : (text : List ℕ) (deep : ℕ) (Q : List Form → Type 0) (R : Form → Type 0) → ((form : Form) (forms : List Form) → as_list form ≡ Some forms → Q forms → R form) →
    AreForms text deep Q → IsForm (40 ∷ text ++ 41 ∷ []) (suc deep) R
list_form text deep Q R more inside = record {
  ascii = IsAscii-cons 40 (text ++ 41 ∷ []) (lit< tt) (IsAscii-append text (41 ∷ []) inside.ascii (IsAscii-cons 41 [] (lit< tt) IsAscii-nil));
  reads = λ total rest ends.
      let found = inside.reads total (41 ∷ rest) refl in
      let from = place total (40 ∷ (text ++ 41 ∷ rest)) in
      let at = place total (41 ∷ rest) in
      let opening : Token = record { kind = kind.Open; from = from; to = from + 1 } in
      let close : Token = record { kind = kind.Close; from = at; to = at + 1 } in
      let form : Form = record { shape = shape.List found.forms; from = from; to = at + 1 } in
      let one : at + 1 - 1 ≡ at = omega arith in
      let spelled : tokens_of form ≡ opening ∷ (all_tokens found.forms ++ close ∷ []) = tokens_of-list found.forms from (at + 1) ∙ ap (λ (place : ℕ). opening ∷ (all_tokens found.forms ++ record { kind = kind.Close; from = place; to = at + 1 } ∷ [])) one in
      let closing : Begins total (41 ∷ rest) (close ∷ []) rest = (rest, refl, refl) in
      let begins : Begins total (40 ∷ (text ++ 41 ∷ rest)) (opening ∷ (all_tokens found.forms ++ close ∷ [])) rest =
      (text ++ 41 ∷ rest, refl, begins-append total (all_tokens found.forms) (close ∷ []) (text ++ 41 ∷ rest) (41 ∷ rest) rest found.begins closing) in
      let behind : 40 ∷ (text ++ 41 ∷ rest) ≡ 40 ∷ text ++ 41 ∷ [] ++ rest = ap (λ more. 40 ∷ more) (sym (append_assoc text (41 ∷ []) rest)) in
      record {
        form = form;
        begins = subst (λ front. Begins total front (tokens_of form) rest) behind (subst (λ tokens. Begins total (40 ∷ (text ++ 41 ∷ rest)) tokens rest) (sym spelled) begins);
        keeps = subst (Keeps (suc deep)) (sym spelled) (list_keeps from deep close (all_tokens found.forms) refl found.keeps (from + 1));
        holds = more form found.forms (as_list-list found.forms from (at + 1)) found.holds;
      };
}

-- forms that are the whole text, with a line's end behind them
pub whole_text : (text : List ℕ) (deep : ℕ) (Q : List Form → Type 0) → deep ≤ 64 → AreForms text deep Q → (forms : List Form) × Due (text ++ 10 ∷ []) (Ok forms) × Q forms
whole_text text deep Q few are =
    let all = text ++ 10 ∷ [] in
    let found = are.reads (length all) (10 ∷ []) refl in
    let ascii = IsAscii-append text (10 ∷ []) are.ascii (IsAscii-cons 10 [] (lit< tt) IsAscii-nil) in
    (found.forms, (IsUtf8-from_ascii all ascii, record { whole = (10 ∷ [], found.begins, refl); nested = rw (found.keeps [] (omega arith)) refl }), found.holds)

-- items between parentheses, with a space between each two
pub no_items : (deep : ℕ) (Q : List Form → Type 0) → Q [] → AreForms (join_with_byte 32 []) deep Q
no_items deep Q none = behind_none 32 deep Q none

pub some_items : (item : List ℕ) (items : List (List ℕ)) (deep : ℕ) (P : Form → Type 0) (Q R : List Form → Type 0) → ((form : Form) (forms : List Form) → P form → Q forms → R (form ∷ forms)) →
    IsForm item deep P → AreForms (behind 32 items) deep Q → AreForms (join_with_byte 32 (item ∷ items)) deep R
some_items item items deep P Q R more one others =
    subst (λ text. AreForms text deep R) (sym (join_behind 32 item items)) (first_more 32 item items deep P Q R space_gap more one others)

-- a form with more behind it
pub record Heads (P : Form → Type 0) (Q : List Form → Type 0) (forms : List Form) : Type 0 where
  pub head : Form
  pub rest : List Form
  pub both : forms ≡ head ∷ rest
  pub first : P head
  pub others : Q rest

pub heads : (P : Form → Type 0) (Q : List Form → Type 0) (form : Form) (forms : List Form) → P form → Q forms → Heads P Q (form ∷ forms)
heads P Q form forms p q = record { head = form; rest = forms; both = refl; first = p; others = q }

-- one more item
pub item_more : (item : List ℕ) (items : List (List ℕ)) (deep : ℕ) (P : Form → Type 0) (Q : List Form → Type 0) → IsForm item deep P → AreForms (behind 32 items) deep Q → AreForms (behind 32 (item ∷ items)) deep (Heads P Q)
item_more item items deep P Q one others = behind_more 32 item items deep P Q (Heads P Q) space_gap (heads P Q) one others

-- no more items
pub item_end : (deep : ℕ) → AreForms (behind 32 []) deep (λ forms. forms ≡ [])
item_end deep = behind_none 32 deep (λ forms. forms ≡ []) refl

-- a list with a first item
pub list_of : (item : List ℕ) (items : List (List ℕ)) (deep : ℕ) (P : Form → Type 0) (Q : List Form → Type 0) (R : Form → Type 0) → ((list head : Form) (rest : List Form) → as_list list ≡ Some (head ∷ rest) → P head → Q rest → R list) →
    IsForm item deep P → AreForms (behind 32 items) deep Q → IsForm (40 ∷ join_with_byte 32 (item ∷ items) ++ 41 ∷ []) (suc deep) R
list_of item items deep P Q R more one others =
    list_form (join_with_byte 32 (item ∷ items)) deep (Heads P Q) R
    (λ list forms is found. more list found.head found.rest (is ∙ ap (λ forms. Some forms) found.both) found.first found.others)
    (some_items item items deep P Q (Heads P Q) (heads P Q) one others)
