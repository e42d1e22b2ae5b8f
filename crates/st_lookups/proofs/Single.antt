-- The entities that have a value, where an attribute has single values: the live ones of its types whose value is the same.
use Rattle.std.proofs.Common.{◌≡◌, ℕ, Bool, true, false, cond, List, [], ◌∷◌, Option, Some, None, map, refl, sym, ap, ◌∙◌, subst, true≢false}
use Rattle.std.specs.Prelude.{◌==◌, ◌&&◌, ◌||◌, not, filter, find}
use Rattle.std.specs.List.{All, list_all, list_any}
use Rattle.std.specs.Ordering.{is_lt, ordering_then}
use Rattle.std.specs.declared.cmp.Ordering.{Ordering}
use Rattle.std.specs.declared.cmp.Ordering.TheVariants.{Less, Equal, Greater}
use Rattle.std.proofs.lemmas.Cmp.{tied_itself}
use Rattle.std.proofs.lemmas.List.Elements.{All-filter, All-head, All-tail, filter_passes}
use Rattle.st_values.specs.declared.value.EntityId.{EntityId}
use Rattle.st_values.specs.declared.value.Value.{Value}
use Rattle.st_values.specs.Order.{entity_before, entity_order, same_entity, same_value, value_order}
use Rattle.st_values.specs.Arranged.{ascends}
use Rattle.st_values.proofs.Entities.{entity_before-strict, same_entity-is, same_entity-itself, same_value-is, same_value-itself}
use Rattle.st_values.proofs.Placing.{ascending-unique}
use Rattle.st_values.proofs.Tests.{ascends-filter, both, either, first-of, left, not-true, one-of, other-of, right}
use Rattle.st_values.proofs.Total.{value_order_total}
use Rattle.st_lattice.specs.declared.attribute.Attribute.{Attribute}
use Rattle.st_lattice.specs.Lattice.{isa}
use Rattle.st_lattice.specs.Outline.{attribute}
use Rattle.st_lattice.specs.Stores.{passes}
use Rattle.st_state.specs.declared.triple.Triple.{Triple}
use Rattle.st_state.specs.State.{State, is_at, is_live, triple_before, turned, value_at, value_in}
use Rattle.st_state.specs.Legal.{IsNearlyLegal, can_hold, is_sound}
use Rattle.st_state.proofs.Changed.{number-is}
use Rattle.st_state.proofs.Members.{find-passes}
use Rattle.st_state.proofs.Set.{null}
use Rattle.st_standing.proofs.Converse.{found-none, only}
use Rattle.st_standing.proofs.Filtered.{some-passes}
use Rattle.st_standing.proofs.Fitting.{all-passed}
use Rattle.st_standing.proofs.OfKind.{same_triple-is}
use Rattle.st_standing.proofs.Sets.{of-one}

-- two tests that follow from each other are the same
each-way : (a b : Bool) → (a ≡ true → b ≡ true) → (b ≡ true → a ≡ true) → a ≡ b
each-way true b f g = sym (f refl)
each-way false true f g = g refl
each-way false false f g = refl

-- an entity among others that passes two tests
any-at : (e : EntityId) (p r : EntityId → Bool) (es : List EntityId) → r e ≡ true → p e ≡ true → list_any (same_entity e) es ≡ true → list_any p (filter r es) ≡ true
any-at e p r [] h k m = m
any-at e p r (x ∷ xs) h k m =
    either (same_entity e x) (λ b. (b || list_any (same_entity e) xs) ≡ true → list_any p (cond (r x) (x ∷ filter r xs) (filter r xs)) ≡ true)
    (λ s _.
    let is = same_entity-is e x s in
    ap (λ (b : Bool). list_any p (cond b (x ∷ filter r xs) (filter r xs))) (subst (λ (y : EntityId). r y ≡ true) is h) ∙ first-of (p x) (list_any p (filter r xs)) (subst (λ (y : EntityId). p y ≡ true) is k))
    (λ _ l. let rest = any-at e p r xs h k l in either (r x) (λ b. list_any p (cond b (x ∷ filter r xs) (filter r xs)) ≡ true) (λ _. one-of (p x) (list_any p (filter r xs)) rest) (λ _. rest)) m

-- a triple that is found and passes two tests
any-found : (test q : Triple → Bool) (p : EntityId → Bool) (ts : List Triple) (t : Triple) → find test ts ≡ Some t → q t ≡ true → p t.entity ≡ true → list_any p (map (λ (u : Triple). u.entity) (filter q ts)) ≡ true
any-found test q p [] t e h k = absurd (none t e)
  where
    none : (x : Triple) → None ≡ Some x → ⊥
    none x m = cc
any-found test q p (x ∷ xs) t e h k =
    either (test x) (λ b. cond b (Some x) (find test xs) ≡ Some t → list_any p (map (λ (u : Triple). u.entity) (cond (q x) (x ∷ filter q xs) (filter q xs))) ≡ true)
    (λ _ f.
    let is = some-is x t f in
    ap (λ (b : Bool). list_any p (map (λ (u : Triple). u.entity) (cond b (x ∷ filter q xs) (filter q xs)))) (ap q is ∙ h) ∙ first-of (p x.entity) (list_any p (map (λ (u : Triple). u.entity) (filter q xs))) (ap (λ (u : Triple). p u.entity) is ∙ k))
    (λ _ f. let rest = any-found test q p xs t f h k in either (q x) (λ b. list_any p (map (λ (u : Triple). u.entity) (cond b (x ∷ filter q xs) (filter q xs))) ≡ true) (λ _. one-of (p x.entity) (list_any p (map (λ (u : Triple). u.entity) (filter q xs))) rest) (λ _. rest)) e
  where
    some-is : (a b : Triple) → Some a ≡ Some b → a ≡ b
    some-is a b m = cc

any-map : (p : EntityId → Bool) (ts : List Triple) → list_any p (map (λ (u : Triple). u.entity) ts) ≡ list_any (λ (u : Triple). p u.entity) ts
any-map p [] = refl
any-map p (t ∷ ts) = ap (λ (b : Bool). p t.entity || b) (any-map p ts)

then-equal : (o : Ordering) → is_lt (ordering_then o Equal) ≡ is_lt o
then-equal Less = refl
then-equal Equal = refl
then-equal Greater = refl

module _ (s : State) (legal : IsNearlyLegal s) (number : ℕ) (a : Attribute) (f : attribute s.schema number ≡ Some a) (single : a.many ≡ false) (v : Value) (filled : null v ≡ false) where
  abbrev its : Triple → Bool
  its t = (t.attribute == number) && same_value t.value v

  abbrev have : EntityId → Bool
  have e = isa s.schema e.ty a.owner && same_value (value_at number e s.triples) v

  -- triples with one value of an attribute stand as their entities do
  as-entities : (t u : Triple) → its t ≡ true → its u ≡ true → triple_before t u ≡ true → entity_before t.entity u.entity ≡ true
  as-entities t u h k b =
      let numbers : t.attribute ≡ u.attribute = number-is t.attribute number (left (t.attribute == number) (same_value t.value v) h) ∙ sym (number-is u.attribute number (left (u.attribute == number) (same_value u.value v) k)) in
      let values : t.value ≡ u.value = same_value-is t.value v (right (t.attribute == number) (same_value t.value v) h) ∙ sym (same_value-is u.value v (right (u.attribute == number) (same_value u.value v) k)) in
      let tied : value_order t.value u.value ≡ Equal = ap (value_order t.value) (sym values) ∙ tied_itself value_order_total t.value in
      sym (then-equal (entity_order t.entity u.entity)) ∙ ap (λ (o : Ordering). is_lt (ordering_then (entity_order t.entity u.entity) o)) (sym tied) ∙ sym (of-one t u numbers) ∙ b

  all-behind : (t : Triple) (us : List Triple) → its t ≡ true → All (λ (u : Triple). its u ≡ true) us → list_all (triple_before t) us ≡ true → list_all (entity_before t.entity) (map (λ (u : Triple). u.entity) us) ≡ true
  all-behind t [] h all b = refl
  all-behind t (u ∷ us) h all b =
      both (entity_before t.entity u.entity) (list_all (entity_before t.entity) (map (λ (x : Triple). x.entity) us))
      (as-entities t u h (All-head (λ (x : Triple). its x ≡ true) u us all) (left (triple_before t u) (list_all (triple_before t) us) b))
      (all-behind t us h (All-tail (λ (x : Triple). its x ≡ true) u us all) (right (triple_before t u) (list_all (triple_before t) us) b))

  in-order : (us : List Triple) → All (λ (u : Triple). its u ≡ true) us → ascends triple_before us ≡ true → ascends entity_before (map (λ (u : Triple). u.entity) us) ≡ true
  in-order [] all b = refl
  in-order (u ∷ us) all b =
      let rest = All-tail (λ (x : Triple). its x ≡ true) u us all in
      both (list_all (entity_before u.entity) (map (λ (x : Triple). x.entity) us)) (ascends entity_before (map (λ (x : Triple). x.entity) us))
      (all-behind u us (All-head (λ (x : Triple). its x ≡ true) u us all) rest (left (list_all (triple_before u) us) (ascends triple_before us) b)) (in-order us rest (right (list_all (triple_before u) us) (ascends triple_before us) b))

  -- an entity's single value is that of its triple
  value-of : (u : Triple) → is_at number u.entity u ≡ true → ((p : Triple → Bool) → list_all p s.triples ≡ true → p u ≡ true) → value_at number u.entity s.triples ≡ u.value
  value-of u at k = by (find (is_at number u.entity) s.triples) refl
    where
      by : (c : Option Triple) → find (is_at number u.entity) s.triples ≡ c → value_in c ≡ u.value
      by None h = absurd (true≢false (sym at ∙ not-true (is_at number u.entity u) (k (λ x. not (is_at number u.entity x)) (found-none (is_at number u.entity) s.triples h))))
      by (Some t) h =
          ap (λ (x : Triple). x.value)
          (same_triple-is t u
          (other-of (not (is_at number u.entity u)) (Rattle.st_state.specs.State.same_triple t u)
          (k (λ x. not (is_at number u.entity x) || Rattle.st_state.specs.State.same_triple t x) (only number u.entity s.schema a f single t s.triples legal.single h)) (ap not at)))

  pub turned-live : filter (λ e. isa s.schema e.ty a.owner && same_value (value_at number e s.triples) v) s.live ≡ turned number v s.triples
  turned-live =
      ascending-unique entity_before entity_before-strict (filter have s.live) (turned number v s.triples) (ascends-filter entity_before have s.live legal.live_ascends)
      (in-order (filter its s.triples) (filter_passes its s.triples) (ascends-filter triple_before its s.triples legal.triples_ascend))
      (λ p. each-way (list_any p (filter have s.live)) (list_any p (turned number v s.triples)) (from-live p) (from-triples p))
    where
      from-live : (p : EntityId → Bool) → list_any p (filter have s.live) ≡ true → list_any p (turned number v s.triples) ≡ true
      from-live p h =
          let one = some-passes (λ e. have e ≡ true) p (filter have s.live) (filter_passes have s.live) h in
          let e = one.0 in
          let value : same_value (value_at number e s.triples) v ≡ true = right (isa s.schema e.ty a.owner) (same_value (value_at number e s.triples) v) one.1 in
          by e one.2 (find (is_at number e) s.triples) refl (same_value-is (value_at number e s.triples) v value)
        where
          by : (e : EntityId) → p e ≡ true → (o : Option Triple) → find (is_at number e) s.triples ≡ o → value_in o ≡ v → list_any p (turned number v s.triples) ≡ true
          by e k None found is = absurd (true≢false (ap null is ∙ filled))
          by e k (Some t) found is =
              let at = find-passes (is_at number e) t s.triples found in
              any-found (is_at number e) its p s.triples t found
              (both (t.attribute == number) (same_value t.value v) (left (t.attribute == number) (same_entity t.entity e) at) (ap (λ (w : Value). same_value w v) is ∙ same_value-itself v))
              (ap p (same_entity-is t.entity e (right (t.attribute == number) (same_entity t.entity e) at)) ∙ k)

      Facts : Triple → Type 0
      Facts t = (is_sound s t ≡ true) × (value_at number t.entity s.triples ≡ t.value) × (its t ≡ true)

      facts : All Facts (filter its s.triples)
      facts k d l =
          let t = Rattle.std.specs.Prelude.slice_index_or (filter its s.triples) k d in
          let here = filter_passes its s.triples k d l in (
            All-filter its (λ (u : Triple). is_sound s u ≡ true) s.triples (all-passed (is_sound s) s.triples legal.sound) k d l,
            value-of t (both (t.attribute == number) (same_entity t.entity t.entity) (left (t.attribute == number) (same_value t.value v) here) (same_entity-itself t.entity))
                (λ p all. All-filter its (λ (u : Triple). p u ≡ true) s.triples (all-passed p s.triples all) k d l),
            here,
          )

      from-triples : (p : EntityId → Bool) → list_any p (turned number v s.triples) ≡ true → list_any p (filter have s.live) ≡ true
      from-triples p h =
          let one = some-passes Facts (λ (t : Triple). p t.entity) (filter its s.triples) facts (sym (any-map p (filter its s.triples)) ∙ h) in
          let t = one.0 in
          let test : Attribute → Bool = λ b. isa s.schema t.entity.ty b.owner && can_hold s b.kind t.value in
          let sound = one.1.0 in
          let is = number-is t.attribute number (left (t.attribute == number) (same_value t.value v) one.1.2) in
          let here : passes test (Some a) ≡ true = sym (ap (passes test) (ap (attribute s.schema) is ∙ f)) ∙ right (is_live s t.entity) (passes test (attribute s.schema t.attribute)) sound in
          any-at t.entity p have s.live
          (both (isa s.schema t.entity.ty a.owner) (same_value (value_at number t.entity s.triples) v) (left (isa s.schema t.entity.ty a.owner) (can_hold s a.kind t.value) here)
          (ap (λ (w : Value). same_value w v) one.1.1 ∙ right (t.attribute == number) (same_value t.value v) one.1.2))
          one.2 (left (is_live s t.entity) (passes test (attribute s.schema t.attribute)) sound)
