-- Reading a text stops in one place only.
use Rattle.std.proofs.Common.{◌≡◌, ℕ, List, [], ◌∷◌, Option, Some, None, Ok, Err, refl, ap, sym, ◌∙◌, subst}
use Rattle.std.specs.Option.{option_and_then}
use Rattle.st_token.specs.declared.token.Token.{Token}
use Rattle.st_token.specs.Scan.{next_of, Read}
use Rattle.st_sexp.specs.Reading.{Begins, opens, open_after}

-- reading goes no further: there is no next token, or it may not stand there
abbrev pub Stops : Read → List ℕ → Type 0
Stops (Err fault) levels = Unit {0}
Stops (Ok None) levels = Unit {0}
Stops (Ok (Some found)) levels = opens (found.0.kind) (found.0.from) levels ≡ None

-- reading a text comes to its stop: behind these tokens, with these lists open
pub record IsStop (total : ℕ) (text from : List ℕ) (tokens : List Token) (rest now : List ℕ) : Type 0 where
  pub begins : Begins total text tokens rest
  pub nested : open_after from tokens ≡ Some now
  pub stops : Stops (next_of total rest) now

pub record AreSame (tokens tokens' : List Token) (rest rest' now now' : List ℕ) : Type 0 where
  pub tokens_same : tokens ≡ tokens'
  pub rest_same : rest ≡ rest'
  pub now_same : now ≡ now'

-- a token that may not stand there is no token of a front that may
no_more : (total : ℕ) (text from rest now behind : List ℕ) (token : Token) (tokens : List Token) → Stops (next_of total text) from → next_of total text ≡ Ok (Some (token, behind)) → open_after from (token ∷ tokens) ≡ Some now → ⊥
no_more total text from rest now behind token tokens stops next nested =
    let none : opens token.kind token.from from ≡ None = subst (λ read. Stops read from) next stops in
    let never : option_and_then (λ inner. open_after inner tokens) None ≡ Some now = rw none at nested in
    cc

pub opens_some : (o : Option (List ℕ)) (F : List ℕ → Option (List ℕ)) (now : List ℕ) → option_and_then F o ≡ Some now → (inner : List ℕ) × (o ≡ Some inner) × (F inner ≡ Some now)
opens_some None F now is = absurd (cc)
opens_some (Some inner) F now is = (inner, refl, is)

-- a list that has a token is not the empty list of a stop
stops_first : (total : ℕ) (text from rest now rest' now' : List ℕ) (token : Token) (tokens : List Token) → IsStop total text from [] rest now → IsStop total text from (token ∷ tokens) rest' now' → ⊥
stops_first total text from rest now rest' now' token tokens a b =
    let same : now ≡ from = let p : Some from ≡ Some now = a.nested in cc in
    let stops : Stops (next_of total text) from = subst (λ levels. Stops (next_of total text) levels) same (subst (λ left. Stops (next_of total left) now) a.begins a.stops) in
    no_more total text from rest' now' b.begins.0 token tokens stops b.begins.1 b.nested

-- what is found is one pair
pub same_found : (read : Read) (a b : Token × List ℕ) → read ≡ Ok (Some a) → read ≡ Ok (Some b) → a ≡ b
same_found read a b p q = cc

-- the same stop, seen from behind the first token
behind_first : (total : ℕ) (text behind from inner rest now : List ℕ) (token : Token) (tokens : List Token) → next_of total text ≡ Ok (Some (token, behind)) → opens token.kind token.from from ≡ Some inner → IsStop total text from (token ∷ tokens) rest now → IsStop total behind inner tokens rest now
behind_first total text behind from inner rest now token tokens next opened stop =
    let same : stop.begins.0 ≡ behind = ap (λ (found : Token × List ℕ). found.1) (same_found (next_of total text) (token, stop.begins.0) (token, behind) stop.begins.1 next) in
    let more : option_and_then (λ levels. open_after levels tokens) (Some inner) ≡ Some now = subst (λ o. option_and_then (λ levels. open_after levels tokens) o ≡ Some now) opened stop.nested in
    record { begins = subst (λ left. Begins total left tokens rest) same stop.begins.2; nested = more; stops = stop.stops }

-- the first tokens of two stops are one token
first_same : (total : ℕ) (text a b : List ℕ) (token token' : Token) → next_of total text ≡ Ok (Some (token, a)) → next_of total text ≡ Ok (Some (token', b)) → token' ≡ token
first_same total text a b token token' p q = ap (λ (found : Token × List ℕ). found.0) (same_found (next_of total text) (token', b) (token, a) q p)

-- a text has one stop
pub same_stop : (total : ℕ) (tokens tokens' : List Token) (text from rest rest' now now' : List ℕ) → IsStop total text from tokens rest now → IsStop total text from tokens' rest' now' → AreSame tokens tokens' rest rest' now now'
same_stop total [] [] text from rest rest' now now' a b =
    record { tokens_same = refl; rest_same = a.begins ∙ sym b.begins; now_same = (let p : Some from ≡ Some now = a.nested in let q : Some from ≡ Some now' = b.nested in cc) }
same_stop total [] (token ∷ tokens) text from rest rest' now now' a b = absurd (stops_first total text from rest now rest' now' token tokens a b)
same_stop total (token ∷ tokens) [] text from rest rest' now now' a b = absurd (stops_first total text from rest' now' rest now token tokens b a)
same_stop total (token ∷ tokens) (token' ∷ tokens') text from rest rest' now now' a b =
    let one = first_same total text a.begins.0 b.begins.0 token token' a.begins.1 b.begins.1 in
    let b' : IsStop total text from (token ∷ tokens') rest' now' = subst (λ (t : Token). IsStop total text from (t ∷ tokens') rest' now') one b in
    let step = opens_some (opens token.kind token.from from) (λ levels. open_after levels tokens) now a.nested in
    let same = same_stop total tokens tokens' a.begins.0 step.0 rest rest' now now' (behind_first total text a.begins.0 from step.0 rest now token tokens a.begins.1 step.1 a) (behind_first total text a.begins.0 from step.0 rest' now' token tokens' a.begins.1 step.1 b') in
    let tokens_same : token ∷ tokens ≡ token' ∷ tokens' = (let tail : tokens ≡ tokens' = same.tokens_same in cc) in
    record { tokens_same = tokens_same; rest_same = same.rest_same; now_same = same.now_same }
