-- The open lists, one token on.
use Rattle.std.proofs.Common.{◌≡◌, ℕ, ◌+◌, ◌-◌, ◌<◌, ◌≤◌, List, [], ◌∷◌, ◌++◌, length, Some, Result, OnOk, Ok, Err, refl, ap, sym, ◌∙◌, arith, append-nil, append_assoc}
use Rattle.std.proofs.lemmas.Bool.{lt-ltb, le-ltb}
use Rattle.std.proofs.lemmas.List.{length_push}
use Rattle.std.proofs.lemmas.List.Concat.{flat_map-append}
use Rattle.st_token.specs.declared.fault.SexpFault.TheVariants.{TooDeep}
use Rattle.st_token.specs.declared.token.Token.{Token}
use Rattle.st_token.specs.declared.token.TokenKind.TheVariants as kind
use Rattle.std.specs.Prelude.{ℤ}
use Rattle.st_sexp.specs.declared.form.Shape.TheVariants as shape
use Rattle.st_sexp.specs.declared.nest.Level.{Level}
use Rattle.st_sexp.specs.declared.nest.Nest.{Nest}
use Rattle.st_sexp.specs.Flat.{tokens_of}
use Rattle.st_sexp.specs.Reading.{opens, nesting_fault}
use Rattle.st_sexp.specs.Levels.{tokens_read, places}
use Rattle.st_sexp.proofs.Spelling.{tokens_of-name, tokens_of-number, tokens_of-quoted, tokens_of-list}

-- a fact that holds at any answer
pub on_ok : {T E : Type 0} (r : Result T E) (P : Type 0) → P → OnOk r P
on_ok (Ok x) P p = p
on_ok (Err e) P p = tt

pub places-push : (levels : List Level) (level : Level) → places (levels ++ level ∷ []) ≡ level.from ∷ places levels
places-push [] level = refl
places-push (outer ∷ levels) level = ap (λ places. places ++ outer.from ∷ []) (places-push levels level)

pub length-places : (levels : List Level) → length (places levels) ≡ length levels
length-places [] = refl
length-places (level ∷ levels) = omega (arith, length_push (places levels) level.from, length-places levels)

pub opens-below : (levels : List Level) (from : ℕ) → length levels < 64 → opens kind.Open from (places levels) ≡ Some (from ∷ places levels)
opens-below levels from below = rw (length-places levels, lt-ltb (length levels) 64 below) refl

pub nesting_fault-above : (levels : List Level) (from : ℕ) → 64 ≤ length levels → nesting_fault kind.Open from (places levels) ≡ Some (TooDeep from)
nesting_fault-above levels from above = rw (length-places levels, le-ltb (length levels) 64 above) refl

pub tokens_of_name_kind : (token : Token) (letters : List ℕ) → token.kind ≡ kind.Name letters → tokens_of (record { shape = shape.Name letters; from = token.from; to = token.to }) ≡ token ∷ []
tokens_of_name_kind token letters is = tokens_of-name letters token.from token.to ∙ ap (λ s. record { kind = s; from = token.from; to = token.to } ∷ []) (sym is)

pub tokens_of_number_kind : (token : Token) (number : ℤ) → token.kind ≡ kind.Number number → tokens_of (record { shape = shape.Number number; from = token.from; to = token.to }) ≡ token ∷ []
tokens_of_number_kind token number is = tokens_of-number number token.from token.to ∙ ap (λ s. record { kind = s; from = token.from; to = token.to } ∷ []) (sym is)

pub tokens_of_quoted_kind : (token : Token) (letters : List ℕ) → token.kind ≡ kind.Quoted letters → tokens_of (record { shape = shape.Quoted letters; from = token.from; to = token.to }) ≡ token ∷ []
tokens_of_quoted_kind token letters is = tokens_of-quoted letters token.from token.to ∙ ap (λ s. record { kind = s; from = token.from; to = token.to } ∷ []) (sym is)

-- the list that closes spells what was read since it began, and its closing parenthesis
pub tokens_at_close : (old : Nest) (levels : List Level) (level : Level) (from to : ℕ) → old.levels ≡ levels ++ level ∷ [] → to ≡ from + 1 → tokens_read (record { levels = levels; forms = level.before }) ++ tokens_of (record { shape = shape.List old.forms; from = level.from; to = to }) ≡ tokens_read old ++ record { kind = kind.Close; from = from; to = to } ∷ []
tokens_at_close old levels level from to is one =
    let place : to - 1 ≡ from = omega arith in
    rw (is, tokens_of-list, place, flat_map-append) (simp (append_assoc, append-nil))
