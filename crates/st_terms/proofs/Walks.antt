-- Readings, one after another.
use Rattle.std.proofs.Common.{◌≡◌, ℕ, ◌-◌, ◌≤◌, ◌<◌, List, [], ◌∷◌, Result, Ok, sym, ap, subst, arith, length, take, drop, get_or}
use Rattle.std.specs.Prelude.{◌++◌, suc, flat_map, All}
use Rattle.std.proofs.lemmas.List.{take_rest}
use Rattle.st_values.specs.declared.value.EntityId.{EntityId}
use Rattle.st_values.specs.declared.value.Value.{Value}
use Rattle.st_lattice.specs.Outline.{Outline}
use Rattle.st_state.specs.State.{State}
use Rattle.st_meaning.specs.declared.meaning.Meaning.{Meaning}
use Rattle.st_meaning.specs.Terms.{single}
use Rattle.st_plain.specs.declared.fault.BaseFault.{BaseFault}
use Rattle.st_plain.specs.Base.{Asked}
use Rattle.st_terms.specs.declared.route.Reading.{Reading}
use Rattle.st_terms.specs.Looks.{Looks}
use Rattle.st_terms.specs.Routes.{reading_value, walked, AdmitsReading, AdmitsWalk, reading_stores, reading_places, walk_places, IsReadingOf}
use Rattle.st_terms.proofs.Looking.{looks-then}

-- a list is its first item and the others
pub parted : {X : Type 0} (xs : List X) (d : X) → 1 ≤ length xs → xs ≡ get_or xs 0 d ∷ take (length xs - 1) (drop 1 xs)
parted [] d h = absurd (omega (arith, h))
parted (y ∷ ys) d h = ap (λ zs. y ∷ zs) (sym (take_rest (y ∷ ys) 1))

others-all : {X : Type 0} (P : X → Type 0) (xs : List X) → 1 ≤ length xs → All P xs → All P (take (length xs - 1) (drop 1 xs))
others-all P [] h f = absurd (omega (arith, h))
others-all P (y ∷ ys) h f = subst (All P) (sym (take_rest (y ∷ ys) 1)) (λ k d within. f (suc k) d (omega (arith, within)))

pub others-of : (old new : Outline) (xs : List Reading) → new ≡ old → 1 ≤ length xs → All (IsReadingOf old) xs → All (IsReadingOf new) (take (length xs - 1) (drop 1 xs))
others-of old new xs e h f = subst (λ o. All (IsReadingOf o) (take (length xs - 1) (drop 1 xs))) (sym e) (others-all (IsReadingOf old) xs h f)

pub shorter : {X : Type 0} (xs : List X) → 1 ≤ length xs → length (take (length xs - 1) (drop 1 xs)) < length xs
shorter [] h = absurd (omega (arith, h))
shorter (y ∷ ys) h = omega (arith, ap length (take_rest (y ∷ ys) 1))

walk-first : (s : State) (r : Reading) (rest : List Reading) (from next : Meaning) (stands behind : Type 0) (first second whole : List Asked → Type 0) (got got_then : EntityId → ℕ → Type 0)
    (result : Result Meaning BaseFault)
    → ((f g : List Asked) → first f → second g → whole (f ++ g)) → ((e : EntityId) (n : ℕ) → got e n → got_then e n)
    → Looks stands first got (λ m. m ≡ reading_value s r (single from)) (reading_stores s.schema r) (reading_places r (single from)) (Ok next)
    → (stands → AdmitsWalk s rest next → Looks behind second got_then (λ m. m ≡ walked s rest next) (flat_map (reading_stores s.schema) rest) (walk_places s rest next) result)
    → AdmitsWalk s (r ∷ rest) from
    → Looks behind whole got_then (λ m. m ≡ walked s (r ∷ rest) from) (flat_map (reading_stores s.schema) (r ∷ rest)) (walk_places s (r ∷ rest) from) result
walk-first s r rest from next stands behind first second whole got got_then result on stay f g admits =
    let e : next ≡ reading_value s r (single from) = f.answers.0 in
    let then = g f.answers.1 (subst (λ m. AdmitsWalk s rest m) (sym e) admits.1) in
    looks-then stands behind first second whole got got_then (λ m. m ≡ reading_value s r (single from)) (λ m. m ≡ walked s (r ∷ rest) from)
    (reading_stores s.schema r) (flat_map (reading_stores s.schema) rest) (reading_places r (single from)) (walk_places s rest (reading_value s r (single from))) next result on stay f
    (subst (λ m. Looks behind second got_then (λ n. n ≡ walked s rest m) (flat_map (reading_stores s.schema) rest) (walk_places s rest m) result) e then)

-- a reading, and then the others
pub walk-on : (s : State) (xs : List Reading) (r : Reading) (rest : List Reading) (from next : Meaning) (v : Value) → xs ≡ r ∷ rest → v ≡ single from
    → (stands behind : Type 0) (first second whole : List Asked → Type 0) (got got_then : EntityId → ℕ → Type 0) (result : Result Meaning BaseFault)
    → ((f g : List Asked) → first f → second g → whole (f ++ g)) → ((e : EntityId) (n : ℕ) → got e n → got_then e n)
    → (AdmitsReading s r v → Looks stands first got (λ m. m ≡ reading_value s r v) (reading_stores s.schema r) (reading_places r v) (Ok next))
    → (stands → AdmitsWalk s rest next → Looks behind second got_then (λ m. m ≡ walked s rest next) (flat_map (reading_stores s.schema) rest) (walk_places s rest next) result)
    → AdmitsWalk s xs from
    → Looks behind whole got_then (λ m. m ≡ walked s xs from) (flat_map (reading_stores s.schema) xs) (walk_places s xs from) result
walk-on s xs r rest from next v e is stands behind first second whole got got_then result on stay f g admits =
    let admits_parted = subst (λ ys. AdmitsWalk s ys from) e admits in
    let f_single = subst (λ u. AdmitsReading s r u → Looks stands first got (λ m. m ≡ reading_value s r u) (reading_stores s.schema r) (reading_places r u) (Ok next)) is f in
    subst (λ ys. Looks behind whole got_then (λ m. m ≡ walked s ys from) (flat_map (reading_stores s.schema) ys) (walk_places s ys from) result) (sym e)
    (walk-first s r rest from next stands behind first second whole got got_then result on stay (f_single admits_parted.0) g admits_parted)
