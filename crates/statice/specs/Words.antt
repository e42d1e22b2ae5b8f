-- The words of a command line, behind the path.
use Rattle.std.specs.Prelude.{Bool, false, List, [], ◌∷◌, codes, String, string_bytes}
use Rattle.std.specs.Str.{bytes_eq}
use Rattle.std.specs.declared.alloc.Global.{Global}

-- the words are `try` alone
abbrev pub is_try : List (String Global) → Bool
is_try (word ∷ []) = bytes_eq (string_bytes word) (codes "try")
is_try _ = false
