-- What is known of an entity stands for what would be read of it.
use Rattle.std.proofs.Common.{◌≡◌, ℕ, List, [], ◌∷◌, Some, Result, sym, ◌∙◌, ap, subst, cond, take, drop, map, refl, length, get_or}
use Rattle.std.specs.Prelude.{◌==◌, ◌<◌, ◌++◌, find, flat_map, All, option_and_then}
use Rattle.std.specs.Option.{option_map}
use Rattle.std.proofs.Math.Seq.{take-length}
use Rattle.std.proofs.lemmas.Bool.{eqb-true}
use Rattle.std.proofs.lemmas.List.{get_or-map, length-map}
use Rattle.std.proofs.lemmas.List.Elements.{All-nil, All-cons, All-head, All-tail}
use Rattle.std.proofs.lemmas.Option.{none-some, same_Some}
use Rattle.st_values.specs.declared.value.EntityId.{EntityId}
use Rattle.st_values.specs.declared.value.Value.{Value}
use Rattle.st_values.proofs.Tests.{either}
use Rattle.st_state.specs.State.{State, value_at}
use Rattle.st_known.specs.declared.known.Known.{Known}
use Rattle.st_known.specs.declared.known.KnownValue.{KnownValue}
use Rattle.st_known.specs.Known.{IsKnown, AreKnown, known_value}
use Rattle.st_meaning.specs.declared.meaning.Meaning.{Meaning}
use Rattle.st_meaning.specs.declared.meaning.Meaning.TheVariants.{Single}
use Rattle.st_plain.specs.declared.fault.BaseFault.{BaseFault}
use Rattle.st_plain.specs.Base.{Asked}
use Rattle.st_terms.specs.declared.route.Reading.{Reading}
use Rattle.st_terms.specs.declared.route.Reading.TheVariants.{Nothing, Value as One, Members as Many, Inverse}
use Rattle.st_terms.specs.declared.route.Origin.{Origin}
use Rattle.st_terms.specs.declared.route.Origin.TheVariants.{Fixed, Subject}
use Rattle.st_terms.specs.declared.route.Route.{Route}
use Rattle.st_terms.specs.Looks.{Looks}
use Rattle.st_terms.specs.Routes.{origin_value, walked, walk_places, reading_stores, route_meaning, route_stores, AdmitsWalk, AdmitsRoute}
use Rattle.st_terms.proofs.Looking.{among-right, looks-more, no-places}
use Rattle.st_select.specs.Search.{first_of_subject, first_value}

-- ---- one entity

-- a value that is known is the one that the entity has
known-at : (s : State) (e : EntityId) (number : ℕ) (v : Value) (vs : List KnownValue) → All (λ k. value_at k.number e s.triples ≡ k.value) vs → option_map (λ k. k.value) (find (λ k. k.number == number) vs) ≡ Some v
    → value_at number e s.triples ≡ v
known-at s e number v [] all f = absurd (none-some v f)
known-at s e number v (k ∷ ks) all f =
    either (k.number == number) (λ b. k.number == number ≡ b → option_map (λ x. x.value) (cond b (Some k) (find (λ x. x.number == number) ks)) ≡ Some v → value_at number e s.triples ≡ v)
    (λ same _ g. subst (λ n. value_at n e s.triples ≡ v) (eqb-true k.number number same) (All-head (λ x. value_at x.number e s.triples ≡ x.value) k ks all ∙ same_Some k.value v g))
    (λ _ _ g. known-at s e number v ks (All-tail (λ x. value_at x.number e s.triples ≡ x.value) k ks all) g)
    refl f

module _ (s : State) (known : Known) (v : Value) (holds : IsKnown s known) (stands : Type 0) (asks : List Asked → Type 0) (got : EntityId → ℕ → Type 0) (result : Result Meaning BaseFault) where
  walk-from : (origin : Origin) (readings : List Reading) → option_and_then (λ number. known_value known number) (first_of_subject origin readings) ≡ Some v
      → (AdmitsWalk s (drop 1 readings) (Single v) → Looks stands asks got (λ m. m ≡ walked s (drop 1 readings) (Single v)) (flat_map (reading_stores s.schema) (drop 1 readings)) (walk_places s (drop 1 readings) (Single v)) result)
      → AdmitsWalk s readings (Single (origin_value origin (Some known.entity)))
      → Looks stands asks got (λ m. m ≡ walked s readings (Single (origin_value origin (Some known.entity)))) (flat_map (reading_stores s.schema) readings) [] result
  walk-from (Fixed w) readings f g admits = absurd (none-some v f)
  walk-from Subject [] f g admits = absurd (none-some v f)
  walk-from Subject (Nothing ∷ rest) f g admits = absurd (none-some v f)
  walk-from Subject (Many n ∷ rest) f g admits = absurd (none-some v f)
  walk-from Subject (Inverse n ∷ rest) f g admits = absurd (none-some v f)
  walk-from Subject (One n ∷ rest) f g admits =
      let is : value_at n known.entity s.triples ≡ v = known-at s known.entity n v known.values holds f in
      let walks = g (subst (λ u. AdmitsWalk s rest (Single u)) is admits.1) in
      let whole = reading_stores s.schema (One n) ++ flat_map (reading_stores s.schema) rest in
      subst (λ u. Looks stands asks got (λ m. m ≡ walked s rest (Single u)) whole [] result) (sym is)
      (looks-more stands asks got (λ m. m ≡ walked s rest (Single v)) (flat_map (reading_stores s.schema) rest) whole [] result (among-right (reading_stores s.schema (One n)) (flat_map (reading_stores s.schema) rest))
      (no-places stands asks got (λ m. m ≡ walked s rest (Single v)) (flat_map (reading_stores s.schema) rest) (walk_places s rest (Single v)) result walks))

  -- a walk on from a value that is known is the whole walk
  pub walk-known : (route : Route) (rest : List Reading) → Some v ≡ first_value route known → rest ≡ drop 1 route.readings
      → (AdmitsWalk s rest (Single v) → Looks stands asks got (λ m. m ≡ walked s rest (Single v)) (flat_map (reading_stores s.schema) rest) (walk_places s rest (Single v)) result)
      → AdmitsRoute s route (Some known.entity) → Looks stands asks got (λ m. m ≡ route_meaning s route (Some known.entity)) (route_stores s.schema route) [] result
  walk-known route rest f e g =
      walk-from route.origin route.readings (sym f)
      (subst (λ rs. AdmitsWalk s rs (Single v) → Looks stands asks got (λ m. m ≡ walked s rs (Single v)) (flat_map (reading_stores s.schema) rs) (walk_places s rs (Single v)) result) e g)

-- ---- several

-- the entity in a place, and what is known of it
pub known-here : (known : List Known) (entities : List EntityId) (i : ℕ) (one : Known) → map (λ (k : Known). k.entity) known ≡ entities → i < length known → one ≡ get_or known i one
    → (i < length entities) × (one.entity ≡ get_or entities i one.entity)
known-here known entities i one same h e = (
  subst (λ n. i < n) (sym (length-map known (λ (k : Known). k.entity)) ∙ ap length same) h,
  ap (λ (k : Known). k.entity) e ∙ sym (get_or-map (λ (k : Known). k.entity) known i one one.entity h) ∙ ap (λ es. get_or es i one.entity) same,
)

-- an entity of which nothing more is known
abbrev pub unknown : EntityId → Known
unknown e = record { entity = e; values = [] }

-- of such entities what is known holds
are-unknown : (s : State) (entities : List EntityId) → AreKnown s entities (map unknown entities)
are-unknown s [] = record { same = refl; hold = All-nil (IsKnown s) }
are-unknown s (e ∷ es) = record {
  same = ap (λ xs. e ∷ xs) (are-unknown s es).same;
  hold = All-cons (IsKnown s) (unknown e) (map unknown es) (All-nil (λ k. value_at k.number e s.triples ≡ k.value)) (are-unknown s es).hold;
}

-- and of those that a loop made of all entities
pub unknown-up-to : (s : State) (entities : List EntityId) (i : ℕ) (known : List Known) → i ≡ length entities → known ≡ map unknown (take i entities) → AreKnown s entities known
unknown-up-to s entities i known end is =
    subst (AreKnown s entities) (sym (is ∙ ap (λ n. map unknown (take n entities)) end ∙ ap (map unknown) (take-length entities))) (are-unknown s entities)
