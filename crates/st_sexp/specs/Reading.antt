-- Which forms a text spells, and which fault is its first. A text is read from its front, token by token.
use Rattle.std.specs.Prelude.{◌≡◌, ℕ, nat_lt, if◌then◌else◌, List, [], ◌∷◌, length, Option, Some, None, IsSome, Result, Ok, Err, IsUtf8, ⊤}
use Rattle.std.specs.Option.{option_and_then}
use Rattle.std.specs.Str.{IsValidUpTo}
use Rattle.st_token.specs.declared.fault.SexpFault.{SexpFault}
use Rattle.st_token.specs.declared.fault.SexpFault.TheVariants.{Unclosed, Stray, TooDeep, NotUtf8, Memory}
use Rattle.st_token.specs.declared.token.Token.{Token}
use Rattle.st_token.specs.declared.token.TokenKind.{TokenKind}
use Rattle.st_token.specs.declared.token.TokenKind.TheVariants as kind
use Rattle.st_token.specs.Scan.{next_of, Read}
use Rattle.st_sexp.specs.declared.form.Form.{Form}
use Rattle.st_sexp.specs.Flat.{all_tokens}

-- the text begins with these tokens, and this is left behind them
abbrev pub Begins : ℕ → List ℕ → List Token → List ℕ → Type 0
Begins total text [] rest = rest ≡ text
Begins total text (token ∷ tokens) rest = (behind : List ℕ) × (next_of total text ≡ Ok (Some (token, behind))) × Begins total behind tokens rest

-- how many lists may be open at once
abbrev pub max_depth : ℕ
max_depth = 64

-- where the list that closes began is no longer open; none can close where none is open
abbrev pub closes : List ℕ → Option (List ℕ)
closes [] = None
closes (innermost ∷ levels) = Some levels

-- where the open lists began after a token, the innermost first; None where it may not stand there
abbrev pub opens : TokenKind → ℕ → List ℕ → Option (List ℕ)
opens kind.Open from levels = if nat_lt (length levels) max_depth then Some (from ∷ levels) else None
opens kind.Close from levels = closes levels
opens _ from levels = Some levels

-- where the open lists began after tokens
abbrev pub open_after : List ℕ → List Token → Option (List ℕ)
open_after levels [] = Some levels
open_after levels (token ∷ tokens) = option_and_then (λ now. open_after now tokens) (opens token.kind token.from levels)

-- the text is these forms: their tokens are all its tokens, and at most 64 lists are open at any place
pub record Spells (text : List ℕ) (forms : List Form) : Type 0 where
  pub whole : (rest : List ℕ) × Begins (length text) text (all_tokens forms) rest × (next_of (length text) rest ≡ Ok None)
  pub nested : IsSome (open_after [] (all_tokens forms))

-- a list that opens too deep, a parenthesis that closes nothing
abbrev pub nesting_fault : TokenKind → ℕ → List ℕ → Option SexpFault
nesting_fault kind.Open from levels = if nat_lt (length levels) max_depth then None else Some (TooDeep from)
nesting_fault kind.Close from [] = Some (Stray from)
nesting_fault kind.Close from (innermost ∷ levels) = None
nesting_fault _ from levels = None

-- the fault where reading goes on with this and these lists are open; at the end the innermost open list
abbrev pub fault_at : Read → List ℕ → Option SexpFault
fault_at (Err fault) levels = Some fault
fault_at (Ok (Some found)) levels = nesting_fault (found.0.kind) (found.0.from) levels
fault_at (Ok None) [] = None
fault_at (Ok None) (innermost ∷ levels) = Some (Unclosed innermost)

-- the first fault of a text: it comes behind tokens that have none
pub record IsFault (text : List ℕ) (fault : SexpFault) : Type 0 where
  pub tokens : List Token
  pub rest : List ℕ
  pub levels : List ℕ
  pub begins : Begins (length text) text tokens rest
  pub nested : open_after [] tokens ≡ Some levels
  pub found : fault_at (next_of (length text) rest) levels ≡ Some fault

-- what is due for a text that is UTF-8, want of memory aside
abbrev pub DueOfUtf8 : List ℕ → Result (List Form) SexpFault → Type 0
DueOfUtf8 text (Ok forms) = Spells text forms
DueOfUtf8 text (Err fault) = IsFault text fault

-- The answer that is due for a text. That it is UTF-8 is tested first, over the whole of it; want of memory may
-- come at any text.
abbrev pub Due : List ℕ → Result (List Form) SexpFault → Type 0
Due text (Err Memory) = ⊤
Due text (Err (NotUtf8 place)) = (¬ (IsUtf8 text)) × IsValidUpTo text place
Due text answer = IsUtf8 text × DueOfUtf8 text answer

-- the answer is want of memory
abbrev pub WantsMemory : Result (List Form) SexpFault → Type 0
WantsMemory answer = answer ≡ Err Memory
