-- What a byte of a text is.
use Rattle.std.specs.Prelude.{ℕ, Bool, ◌||◌, ◌==◌, codes}
use Rattle.std.specs.List.{list_any}
use Rattle.std.specs.Char.{is_ascii_digit, is_ascii_lowercase, is_ascii_uppercase}

-- space, tab, line feed, carriage return, form feed
abbrev pub is_blank : ℕ → Bool
is_blank b = b == 32 || b == 9 || b == 10 || b == 13 || b == 12

-- what ends a token: a blank, a parenthesis, a quote, a semicolon
abbrev pub ends_token : ℕ → Bool
ends_token b = is_blank b || b == 40 || b == 41 || b == 34 || b == 59

-- a letter, a digit, or one of - _ . # : / = < > + * ? !
abbrev pub is_name_byte : ℕ → Bool
is_name_byte b = is_ascii_lowercase b || is_ascii_uppercase b || is_ascii_digit b || list_any (λ mark. mark == b) (codes "-_.#:/=<>+*?!")

-- what may stand behind a backslash: a quote, a backslash, the letter n
abbrev pub is_escape : ℕ → Bool
is_escape b = b == 34 || b == 92 || b == 110
