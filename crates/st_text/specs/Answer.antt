-- Answers that are due, want of memory aside.
use Rattle.std.specs.Prelude.{◌≡◌, Option, Result, Ok, Err, IfSome}

-- The answer is the one that is due. A fault tells what is wrong with what was asked; want of memory tells nothing, and may
-- come at any time. `told` is what a fault tells.
abbrev pub Answers : {A E F : Type 0} → (E → Option F) → Result A E → Result A F → Type 0
Answers told (Ok x) due = Ok x ≡ due
Answers told (Err e) due = IfSome (told e) (λ fault. Err fault ≡ due)
