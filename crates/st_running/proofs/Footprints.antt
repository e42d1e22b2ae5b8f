-- What a statement may touch is its footprint, as far as the schema has it.
use Rattle.std.proofs.Common.{◌≡◌, ℕ, Bool, true, false, List, [], ◌∷◌, IsTrue, refl, sym, ◌∙◌, ap, subst, true≢false}
use Rattle.std.specs.Prelude.{◌==◌, ◌||◌, cond, filter, not}
use Rattle.std.specs.List.{list_all, list_any}
use Rattle.st_values.proofs.Tests.{either, first-of, one-of, not-true, all-not}
use Rattle.st_lattice.specs.Outline.{Outline}
use Rattle.st_lattice.specs.Stores.{stores_of}
use Rattle.st_query.specs.declared.statement.Statement.{Statement}
use Rattle.st_query.specs.declared.term.Variable.{Variable}
use Rattle.st_query.specs.Footprint.{touches, footprint}
use Rattle.st_state.proofs.Changed.{number-is, number-itself}
use Rattle.st_state.proofs.Members.{Member, all-members}
use Rattle.st_terms.specs.Looks.{AreAmong}
use Rattle.st_terms.specs.Checked.{touched}
use Rattle.st_running.specs.Steps.{is_in_footprint}

abbrev is_number : ℕ → ℕ → Bool
is_number number other = other == number

member-there : (n : ℕ) (xs : List ℕ) → Member n xs → list_any (is_number n) xs ≡ true
member-there n xs m =
    either (list_any (is_number n) xs) (λ b. list_any (is_number n) xs ≡ b → b ≡ true) (λ _ _. refl)
    (λ k _. absurd (true≢false (sym (number-itself n) ∙ not-true (is_number n n) (m (λ y. not (is_number n y)) (all-not (is_number n) xs ∙ ap not k))))) refl

-- a number that is there stays there where a test holds of it
kept-there : (q : ℕ → Bool) (n : ℕ) (xs : List ℕ) → q n ≡ true → list_any (is_number n) xs ≡ true → list_any (is_number n) (filter q xs) ≡ true
kept-there q n [] h k = absurd (true≢false (sym k))
kept-there q n (x ∷ xs) h k =
    either (x == n)
    (λ b. (x == n) ≡ b → (b || list_any (is_number n) xs) ≡ true → list_any (is_number n) (cond (q x) (x ∷ filter q xs) (filter q xs)) ≡ true)
    (λ e _ _.
    let holds : q x ≡ true = subst (λ z. q z ≡ true) (sym (number-is x n e)) h in
    subst (λ b. list_any (is_number n) (cond b (x ∷ filter q xs) (filter q xs)) ≡ true) (sym holds) (first-of (x == n) (list_any (is_number n) (filter q xs)) e))
    (λ e _ m.
    let later = kept-there q n xs h m in
    either (q x) (λ b. list_any (is_number n) (cond b (x ∷ filter q xs) (filter q xs)) ≡ true) (λ _. one-of (x == n) (list_any (is_number n) (filter q xs)) later) (λ _. later))
    refl k

touched-in : (schema : Outline) (variables : List Variable) (st : Statement) (n : ℕ) → touches schema variables st n ≡ true → is_in_footprint schema variables st n ≡ true
unfolding footprint
touched-in schema variables st n h =
    either (list_any (is_number n) (stores_of schema)) (λ b. list_any (is_number n) (stores_of schema) ≡ b → (not b || list_any (is_number n) (filter (touches schema variables st) (stores_of schema))) ≡ true)
    (λ k _. kept-there (touches schema variables st) n (stores_of schema) h k) (λ _ _. refl) refl

pub asked_in_footprint : (schema : Outline) (variables : List Variable) (st : Statement) (asked : List ℕ) → AreAmong asked (touched schema variables st) → IsTrue (list_all (is_in_footprint schema variables st) asked)
asked_in_footprint schema variables st asked among =
    among (is_in_footprint schema variables st)
    (all-members (is_in_footprint schema variables st) (touched schema variables st) (λ n m. touched-in schema variables st n (member-there n (touched schema variables st) m)))
