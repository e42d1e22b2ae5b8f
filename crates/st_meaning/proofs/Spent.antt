-- Where all serials of a type were given out, the refusal names the type as it was written.
use Rattle.std.proofs.Common.{◌≡◌, ℕ, suc, ◌+◌, ◌<◌, Bool, true, false, List, [], ◌∷◌, Option, Some, None, length, get_or, refl, sym, ap, subst, ◌∙◌, arith}
use Rattle.std.specs.Prelude.{not, nat_lt, cond, if◌then◌else◌, slice_index}
use Rattle.std.specs.List.{position_or_len}
use Rattle.std.specs.Str.{bytes_eq}
use Rattle.st_values.proofs.Tests.{either}
use Rattle.st_lattice.specs.Outline.{Outline, type_name, type_named}
use Rattle.st_state.specs.declared.refusal.Refusal.{Refusal}
use Rattle.st_state.specs.declared.refusal.Refusal.TheVariants.{NumbersSpent}
use Rattle.st_state.specs.Bases.{last_serial}
use Rattle.st_state.specs.State.{State}
use Rattle.st_state.proofs.Members.{some-is}
use Rattle.st_meaning.specs.Rules.{spent_type}
use Rattle.st_meaning.proofs.Cells.{name-is}

-- what stands at the first place of a name is the name
name-at : (name : List ℕ) (names : List (List ℕ)) → position_or_len (λ other. bytes_eq other name) names < length names
    → get_or names (position_or_len (λ other. bytes_eq other name) names) [] ≡ name
name-at name [] h = absurd (omega (arith, h))
name-at name (x ∷ xs) h =
    either (bytes_eq x name)
    (λ b. cond (not b) (1 + position_or_len (λ other. bytes_eq other name) xs) 0 < length (x ∷ xs) → get_or (x ∷ xs) (cond (not b) (1 + position_or_len (λ other. bytes_eq other name) xs) 0) [] ≡ name)
    (λ e _. name-is x name e)
    (λ _ k.
    let next : suc (position_or_len (λ other. bytes_eq other name) xs) ≡ 1 + position_or_len (λ other. bytes_eq other name) xs = omega arith in
    let within : position_or_len (λ other. bytes_eq other name) xs < length xs = omega (arith, k) in
    subst (λ i. get_or (x ∷ xs) i [] ≡ name) next (name-at name xs within)) h

-- a type that is named has the name
named-name : (schema : Outline) (name : List ℕ) (t : ℕ) → type_named schema name ≡ Some t → type_name schema t ≡ name
named-name schema name t h = by (nat_lt place (length schema.names)) refl h
  where
    place : ℕ
    place = position_or_len (λ other. bytes_eq other name) schema.names

    by : (b : Bool) → nat_lt place (length schema.names) ≡ b → cond b (Some place) None ≡ Some t → type_name schema t ≡ name
    by true e k =
        let within : place < length schema.names = grind (arith, e) in
        subst (λ i. get_or schema.names i [] ≡ name) (some-is place t k) (name-at name schema.names within)
    by false e k = cc

pub spent-named : (state : State) (ty : List ℕ) (r : Refusal) → spent_type state (type_named state.schema ty) ≡ Some r → r ≡ NumbersSpent ty
spent-named state ty r h = by (type_named state.schema ty) refl h
  where
    by : (o : Option ℕ) → type_named state.schema ty ≡ o → spent_type state o ≡ Some r → r ≡ NumbersSpent ty
    by None e k = cc
    by (Some t) e k =
        either (nat_lt (slice_index state.last t) last_serial) (λ b. (if b then None else Some (NumbersSpent (type_name state.schema t))) ≡ Some r → r ≡ NumbersSpent ty)
        (λ _ m. cc) (λ _ m. sym (some-is (NumbersSpent (type_name state.schema t)) r m) ∙ ap NumbersSpent (named-name state.schema ty t e)) k
