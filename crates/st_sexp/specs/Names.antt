-- The names of schemas, types, attributes and variables.
use Rattle.std.specs.Prelude.{ℕ, Bool, false, not, ◌||◌, ◌&&◌, ◌==◌, nat_le, List, [], ◌∷◌, length, codes}
use Rattle.std.specs.List.{list_all}
use Rattle.std.specs.Str.{bytes_eq}
use Rattle.std.specs.Char.{is_ascii_lowercase, is_ascii_digit}

-- words that are no names
abbrev pub is_reserved : List ℕ → Bool
is_reserved name =
    bytes_eq name (codes "integer") || bytes_eq name (codes "boolean") || bytes_eq name (codes "string") || bytes_eq name (codes "set-of")
    || bytes_eq name (codes "null") || bytes_eq name (codes "true") || bytes_eq name (codes "false")

-- a letter, a digit or a hyphen
abbrev pub is_name_part : ℕ → Bool
is_name_part b = is_ascii_lowercase b || is_ascii_digit b || b == 45

-- a letter, then letters, digits and hyphens
abbrev pub has_name_bytes : List ℕ → Bool
has_name_bytes [] = false
has_name_bytes (b ∷ bs) = is_ascii_lowercase b && list_all is_name_part bs

-- such a word of at most 31 bytes that is not reserved
unfoldable pub is_name : List ℕ → Bool
is_name word = has_name_bytes word && nat_le (length word) 31 && not (is_reserved word)
