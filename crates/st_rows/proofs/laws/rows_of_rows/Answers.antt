use Rattle.std.proofs.Common.{ℕ, pos, true, false, List, [], ◌∷◌, get_or, refl, ap, inl, inr, arith}
use Rattle.st_values.specs.declared.value.Kind.TheVariants as kind
use Rattle.st_values.specs.declared.value.Value.TheVariants.{Int, Bool as Truth}
use Rattle.st_keys.specs.Causes.{IsNoKey}
use Rattle.st_rows.specs.declared.field.Field.TheVariants.{Serial}
use Rattle.st_rows.specs.Rows.{IsTaken}
use Rattle.st_rows.proofs.laws.rows_of_rows.Goals as goal

first-serial : IsTaken Serial (0 ∷ 0 ∷ 0 ∷ 1 ∷ [])
first-serial = (Int (pos 1), (omega arith, omega arith), refl)

two-is-no-key : IsNoKey kind.Bool (2 ∷ [])
two-is-no-key (Truth true) fits e = absurd (omega (arith, ap (λ (xs : List ℕ). get_or xs 0 0) e))
two-is-no-key (Truth false) fits e = absurd (omega (arith, ap (λ (xs : List ℕ). get_or xs 0 0) e))
two-is-no-key _ fits e = fits

pub returns-clause-no_mark : goal.returns-clause-no_mark
returns-clause-no_mark c = inr (first-serial, omega arith, inl refl)

pub returns-clause-no_null : goal.returns-clause-no_null
returns-clause-no_null c = inr (first-serial, omega arith, inl refl)

pub returns-clause-no_key : goal.returns-clause-no_key
returns-clause-no_key c = inr (first-serial, omega arith, inl (two-is-no-key, refl))
