use Rattle.std.proofs.Common.{◌≡◌, ◌∷◌, ◌++◌, drop, flat_map}
use Rattle.statice.proofs.fault.push_fields.Given as goal

-- what was written, and what is left to write
abbrev pub invariant-loop-field : goal.invariant-loop-field
invariant-loop-field l =
    l.into ++ flat_map (λ field. 32 ∷ field) (drop l.field-index l.fields) ≡ l.initial.into ++ flat_map (λ field. 32 ∷ field) l.fields
