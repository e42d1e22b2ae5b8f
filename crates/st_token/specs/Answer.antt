-- What a reader of the code answers, beside what is read by definition.
use Rattle.std.specs.Prelude.{◌≡◌, ℕ, ◌+◌, ◌<◌, ◌≤◌, List, length, drop, Option, Some, None, Result, ⊤}
use Rattle.std.specs.Option.{option_map}
use Rattle.std.specs.Result.{result_map_both}
use Rattle.st_token.specs.declared.fault.SexpFault.{SexpFault}
use Rattle.st_token.specs.declared.fault.SexpFault.TheVariants.{Memory}
use Rattle.st_token.specs.declared.token.Token.{Token}
use Rattle.st_token.specs.declared.token.TokenKind.{TokenKind}
use Rattle.st_token.specs.declared.token.TokenKind.TheVariants as kind
use Rattle.st_token.specs.Scan.{Read}

-- what a fault tells of the text; want of memory tells nothing
abbrev pub told : SexpFault → Option SexpFault
told Memory = None
told fault = Some fault

-- an answer with what is left of the text behind it: from a place in it on
abbrev pub content_read : List ℕ → Result (List ℕ × ℕ) SexpFault → Result (List ℕ × List ℕ) SexpFault
content_read bytes result = result_map_both (λ found. (found.0, drop found.1 bytes)) (λ fault. fault) result

-- the same of a token; what is left begins where the token ends
abbrev pub token_read : List ℕ → Result Token SexpFault → Read
token_read bytes result = result_map_both (λ token. Some (token, drop token.to bytes)) (λ fault. fault) result

-- the same where there may be no token
abbrev pub next_read : List ℕ → Result (Option Token) SexpFault → Read
next_read bytes result = result_map_both (λ found. option_map (λ token. (token, drop token.to bytes)) found) (λ fault. fault) result

-- a parenthesis is one byte long
abbrev pub IsOneByte : TokenKind → ℕ → ℕ → Type 0
IsOneByte kind.Open from to = to ≡ from + 1
IsOneByte kind.Close from to = to ≡ from + 1
IsOneByte _ from to = ⊤

-- a token behind a place, inside the text
pub record StandsBehind (bytes : List ℕ) (at : ℕ) (token : Token) : Type 0 where
  pub begins : at ≤ token.from
  pub some : token.from < token.to
  pub ends : token.to ≤ length bytes
  pub one_byte : IsOneByte token.kind token.from token.to
