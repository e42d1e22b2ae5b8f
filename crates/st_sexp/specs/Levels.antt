-- What stands between two tokens: the open lists, and the forms of the innermost so far.
use Rattle.std.specs.Prelude.{◌≡◌, ℕ, ◌+◌, List, [], ◌∷◌, ◌++◌, Some, IfSome}
use Rattle.std.specs.List.{flat_map}
use Rattle.st_token.specs.declared.fault.SexpFault.{SexpFault}
use Rattle.st_token.specs.declared.token.Token.{Token}
use Rattle.st_token.specs.declared.token.TokenKind.{TokenKind}
use Rattle.st_token.specs.declared.token.TokenKind.TheVariants as kind
use Rattle.st_token.specs.Answer.{told}
use Rattle.st_sexp.specs.declared.nest.Level.{Level}
use Rattle.st_sexp.specs.declared.nest.Nest.{Nest}
use Rattle.st_sexp.specs.Flat.{all_tokens}
use Rattle.st_sexp.specs.Reading.{nesting_fault}

-- the tokens up to an open list: those of the forms before it, and its parenthesis
abbrev pub level_tokens : Level → List Token
level_tokens level = all_tokens level.before ++ record { kind = kind.Open; from = level.from; to = level.from + 1 } ∷ []

-- the tokens that were read
abbrev pub tokens_read : Nest → List Token
tokens_read nest = flat_map level_tokens nest.levels ++ all_tokens nest.forms

-- where the open lists began, the innermost first
abbrev pub places : List Level → List ℕ
places [] = []
places (level ∷ levels) = places levels ++ level.from ∷ []

-- what a fault tells is that a token may not stand there
abbrev pub IsFaultOf : TokenKind → ℕ → List ℕ → SexpFault → Type 0
IsFaultOf kind from levels fault = IfSome (told fault) (λ found. nesting_fault kind from levels ≡ Some found)
