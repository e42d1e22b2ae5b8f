-- Tokens at whose end no list is open are those of forms.
use Rattle.std.proofs.Common.{◌≡◌, ℕ, ◌+◌, ◌-◌, Bool, true, false, ltb, cond, List, [], ◌∷◌, ◌++◌, length, map, Some, None, refl, ap, sym, ◌∙◌, subst, arith, append-nil, append_assoc}
use Rattle.std.proofs.lemmas.List.Concat.{flat_map-append}
use Rattle.st_sexp.specs.declared.form.Form.{Form}
use Rattle.st_sexp.specs.declared.form.Shape.TheVariants as shape
use Rattle.st_token.specs.declared.token.Token.{Token}
use Rattle.st_token.specs.declared.token.TokenKind.{TokenKind}
use Rattle.st_token.specs.declared.token.TokenKind.TheVariants as kind
use Rattle.st_token.specs.Answer.{IsOneByte}
use Rattle.st_sexp.specs.Flat.{tokens_of, all_tokens}
use Rattle.st_sexp.specs.Reading.{opens, closes, open_after, max_depth}
use Rattle.st_sexp.proofs.Spelling.{tokens_of-name, tokens_of-number, tokens_of-quoted, tokens_of-list}
use Rattle.st_sexp.proofs.Stops.{opens_some}

-- each parenthesis is one byte long
abbrev pub AreOneByte : List Token → Type 0
AreOneByte [] = Unit {0}
AreOneByte (token ∷ tokens) = IsOneByte token.kind token.from token.to × AreOneByte tokens

-- an open list: the forms before it and where it began
abbrev Outer : Type 0
Outer = List Form × ℕ

-- where the open lists began
abbrev starts : List Outer → List ℕ
starts outers = map (λ (outer : Outer). outer.1) outers

-- the tokens up to here, with the innermost open list first
abbrev spelled : List Outer → List Form → List Token
spelled [] forms = all_tokens forms
spelled (outer ∷ outers) forms = spelled outers (outer.0) ++ (record { kind = kind.Open; from = outer.1; to = outer.1 + 1 } ∷ all_tokens forms)

spelled-append : (outers : List Outer) (forms more : List Form) → spelled outers (forms ++ more) ≡ spelled outers forms ++ all_tokens more
spelled-append [] forms more = flat_map-append tokens_of forms more
spelled-append (outer ∷ outers) forms more = rw flat_map-append (simp append_assoc)

-- what was built from tokens and one more
record Builds (outers : List Outer) (forms : List Form) (token : Token) (places : List ℕ) : Type 0 where
  pub outers_then : List Outer
  pub forms_then : List Form
  pub starts_then : starts outers_then ≡ places
  pub spelled_then : spelled outers_then forms_then ≡ spelled outers forms ++ token ∷ []

leaf_builds : (outers : List Outer) (forms : List Form) (form : Form) (token : Token) (places : List ℕ) → starts outers ≡ places → tokens_of form ≡ token ∷ [] → Builds outers forms token places
leaf_builds outers forms form token places same spells = record {
  outers_then = outers;
  forms_then = forms ++ form ∷ [];
  starts_then = same;
  spelled_then = rw spelled-append (ap (λ tokens. spelled outers forms ++ tokens) (append-nil (tokens_of form) ∙ spells));
}

open_places : (may : Bool) (opened places : List ℕ) → cond may (Some opened) None ≡ Some places → opened ≡ places
open_places true opened places is = cc
open_places false opened places is = absurd (cc)

some_same : (a b : List ℕ) → Some a ≡ Some b → a ≡ b
some_same a b is = cc

open_builds : (outers : List Outer) (forms : List Form) (from to : ℕ) (places : List ℕ) → opens kind.Open from (starts outers) ≡ Some places → to ≡ from + 1 → Builds outers forms (record { kind = kind.Open; from = from; to = to }) places
open_builds outers forms from to places opened one = record {
  outers_then = (forms, from) ∷ outers;
  forms_then = [];
  starts_then = open_places (ltb (length (starts outers)) max_depth) (from ∷ starts outers) places opened;
  spelled_then = rw one refl;
}

close_spells : (outers : List Outer) (outer : Outer) (forms : List Form) (from to : ℕ) → to - 1 ≡ from → spelled outers (outer.0 ++ record { shape = shape.List forms; from = outer.1; to = to } ∷ []) ≡ spelled (outer ∷ outers) forms ++ record { kind = kind.Close; from = from; to = to } ∷ []
close_spells outers outer forms from to place =
    let list : Form = record { shape = shape.List forms; from = outer.1; to = to } in
    let front = spelled outers (outer.0) in
    let inside : List Token = record { kind = kind.Open; from = outer.1; to = outer.1 + 1 } ∷ all_tokens forms in
    spelled-append outers (outer.0) (list ∷ []) ∙ ap (λ tokens. front ++ tokens) (append-nil (tokens_of list) ∙ tokens_of-list forms (outer.1) to ∙ ap (λ (at : ℕ). inside ++ record { kind = kind.Close; from = at; to = to } ∷ []) place)
    ∙ sym (append_assoc front inside (record { kind = kind.Close; from = from; to = to } ∷ []))

close_builds : (outers : List Outer) (forms : List Form) (from to : ℕ) (places : List ℕ) → closes (starts outers) ≡ Some places → to ≡ from + 1 → Builds outers forms (record { kind = kind.Close; from = from; to = to }) places
close_builds [] forms from to places closed one = absurd (cc)
close_builds (outer ∷ outers) forms from to places closed one = record {
  outers_then = outers;
  forms_then = outer.0 ++ record { shape = shape.List forms; from = outer.1; to = to } ∷ [];
  starts_then = some_same (starts outers) places closed;
  spelled_then = close_spells outers outer forms from to (omega arith);
}

builds_at : (s : TokenKind) (outers : List Outer) (forms : List Form) (from to : ℕ) (places : List ℕ) → opens s from (starts outers) ≡ Some places → IsOneByte s from to → Builds outers forms (record { kind = s; from = from; to = to }) places
builds_at kind.Open outers forms from to places opened one = open_builds outers forms from to places opened one
builds_at kind.Close outers forms from to places opened one = close_builds outers forms from to places opened one
builds_at (kind.Name letters) outers forms from to places opened one =
    leaf_builds outers forms (record { shape = shape.Name letters; from = from; to = to }) _ places (some_same (starts outers) places opened) (tokens_of-name letters from to)
builds_at (kind.Number number) outers forms from to places opened one =
    leaf_builds outers forms (record { shape = shape.Number number; from = from; to = to }) _ places (some_same (starts outers) places opened) (tokens_of-number number from to)
builds_at (kind.Quoted letters) outers forms from to places opened one =
    leaf_builds outers forms (record { shape = shape.Quoted letters; from = from; to = to }) _ places (some_same (starts outers) places opened) (tokens_of-quoted letters from to)

all_built : (tokens : List Token) (outers : List Outer) (forms : List Form) → AreOneByte tokens → open_after (starts outers) tokens ≡ Some [] → (built : List Form) × (all_tokens built ≡ spelled outers forms ++ tokens)
all_built [] [] forms one closed = (forms, sym (append-nil (all_tokens forms)))
all_built [] (outer ∷ outers) forms one closed = absurd (let never : Some (starts (outer ∷ outers)) ≡ Some [] = closed in cc)
all_built (token ∷ tokens) outers forms one closed =
    let step = opens_some (opens token.kind token.from (starts outers)) (λ places. open_after places tokens) [] closed in
    let now = builds_at token.kind outers forms token.from token.to step.0 step.1 one.0 in
    let rest = all_built tokens now.outers_then now.forms_then one.1 (subst (λ places. open_after places tokens ≡ Some []) (sym now.starts_then) step.2) in
    (rest.0, rest.1 ∙ ap (λ front. front ++ tokens) now.spelled_then ∙ append_assoc (spelled outers forms) (token ∷ []) tokens)

-- tokens at whose end no list is open are those of forms
pub forms_of : (tokens : List Token) → AreOneByte tokens → open_after [] tokens ≡ Some [] → (forms : List Form) × (all_tokens forms ≡ tokens)
forms_of tokens one closed = all_built tokens [] [] one closed
