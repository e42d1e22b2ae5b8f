-- Lists of references.
use Rattle.std.specs.Prelude.{List, map}
use Rattle.std.specs.Borrow.{Bor}

-- what references point to
abbrev pub targets : {A : Type 0} → List (Bor A) → List A
targets references = map (λ reference. reference.now) references
