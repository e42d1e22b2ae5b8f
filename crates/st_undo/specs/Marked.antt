-- What contracts see of a list that goes back to its mark.
use Rattle.std.specs.Prelude.{ℕ, List, refl}
use Rattle.std.specs.Coded.{Coded, code_by, coded×, coded_ℕ, coded_list}

-- what the list is, what it was at its mark, and how many further changes are logged without memory
pub record Marked (A : Type 0) : Type 0 where
  pub items : List A
  pub mark : List A
  pub room : ℕ

-- it is stored as the tuple of its fields
abbrev pub marked_code : {A : Type 0} → Coded A → Coded (Marked A)
marked_code {A} code =
    code_by
    (List A × (List A × ℕ))
    (coded× (coded_list code) (coded× (coded_list code) coded_ℕ))
    (λ m. (m.items, (m.mark, m.room)))
    (λ p. record { items = p.0; mark = p.1.0; room = p.1.1 })
    (λ _. refl)
