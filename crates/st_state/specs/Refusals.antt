-- Refusals of statements: the numbers of their rules, and the first of several.
use Rattle.std.specs.Prelude.{ℕ, List, [], ◌∷◌, Option, Some, None}
use Rattle.st_state.specs.declared.refusal.Refusal.{Refusal}
use Rattle.st_state.specs.declared.refusal.Refusal.TheVariants.{UnknownName, WrongType, NullNotAllowed, NotUnique, NoSuchEntity, StillNeeded, NotASet, TextTooLong, NumbersSpent, Aborted, NullEntity, TooManyPages, Full}

-- the number of the rule that a refusal is by
abbrev pub rule_number : Refusal → ℕ
rule_number (UnknownName _) = 1
rule_number WrongType = 2
rule_number (NullNotAllowed _) = 3
rule_number (NotUnique _ _) = 4
rule_number (NoSuchEntity _) = 5
rule_number (StillNeeded _ _) = 6
rule_number (NotASet _) = 7
rule_number (TextTooLong _ _) = 8
rule_number (NumbersSpent _) = 9
rule_number Aborted = 10
rule_number NullEntity = 11
rule_number (TooManyPages _) = 12
rule_number (Full _) = 13

-- the first refusal of several, if there is any
abbrev pub first_of : List (Option Refusal) → Option Refusal
first_of [] = None
first_of (None ∷ others) = first_of others
first_of (Some refusal ∷ others) = Some refusal
