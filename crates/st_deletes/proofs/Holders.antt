-- Who has an entity by an attribute, which values are in its set, and what is left where these were taken out.
use Rattle.std.proofs.Common.{◌≡◌, ℕ, ◌==◌, Bool, true, false, cond, List, [], ◌∷◌, get_or, Option, Some, None, refl, sym, ap, ◌∙◌, subst, true≢false}
use Rattle.std.specs.Prelude.{◌&&◌, ◌||◌, not, map, filter, find}
use Rattle.std.specs.List.{All, list_all, list_any}
use Rattle.std.proofs.lemmas.List.Elements.{All-cons, All-head, All-nil, All-tail}
use Rattle.st_values.specs.declared.value.EntityId.{EntityId}
use Rattle.st_values.specs.declared.value.Value.{Value}
use Rattle.st_values.specs.declared.value.Value.TheVariants.{Entity}
use Rattle.st_values.specs.Order.{same_entity, same_value}
use Rattle.st_values.proofs.Tests.{all-weaken, both, either, first-of, left, never, not-true, one-of, other-of, right}
use Rattle.st_values.proofs.Entities.{same_entity-is, same_entity-itself, same_value-is, same_value-itself}
use Rattle.st_lattice.specs.declared.attribute.Attribute.{Attribute}
use Rattle.st_lattice.specs.Lattice.{isa}
use Rattle.st_lattice.specs.Outline.{Outline, attribute}
use Rattle.st_lattice.specs.Stores.{passes}
use Rattle.st_state.specs.declared.triple.Triple.{Triple}
use Rattle.st_state.specs.State.{State, is_at, is_live, member_taken, same_triple, speaks_of, turned, values_at}
use Rattle.st_state.specs.Legal.{IsNearlyLegal, can_hold, is_sound}
use Rattle.st_state.specs.Calls.{CanHold}
use Rattle.st_state.proofs.Changed.{number-is, number-itself}
use Rattle.st_state.proofs.Members.{find-passes}
use Rattle.st_state.proofs.Kept.{passes-weaken}
use Rattle.st_standing.proofs.Fitting.{all-passed, found-holds}
use Rattle.st_removals.specs.Clears.{IsLess}
use Rattle.st_removals.specs.Taken.{is_own_or_strange, is_single, is_unreferring}
use Rattle.st_deletes.specs.Cleared.{AreCleared, AreUnheld, AreWithout, IsHolder, is_cleared, is_memberless, is_unheld, is_unreferred, is_without}
use Rattle.st_deletes.specs.Needs.{names_type}
use Rattle.st_deletes.proofs.Lasting.{names-held}

-- ---- tests of lists

pub all-with : {X : Type 0} (p q r : X → Bool) → ((x : X) → p x ≡ true → q x ≡ true → r x ≡ true) → (xs : List X) → list_all p xs ≡ true → list_all q xs ≡ true → list_all r xs ≡ true
all-with p q r h [] e f = refl
all-with p q r h (x ∷ xs) e f =
    both (r x) (list_all r xs) (h x (left (p x) (list_all p xs) e) (left (q x) (list_all q xs) f)) (all-with p q r h xs (right (p x) (list_all p xs) e) (right (q x) (list_all q xs) f))

pub all-of : {X : Type 0} (p : X → Bool) → ((x : X) → p x ≡ true) → (xs : List X) → list_all p xs ≡ true
all-of p h [] = refl
all-of p h (x ∷ xs) = both (p x) (list_all p xs) (h x) (all-of p h xs)

-- of each of some, then of all of them at once
all-turned : {X Y : Type 0} (p : X → Y → Bool) (xs : List X) (ys : List Y) → All (λ x. list_all (p x) ys ≡ true) xs → list_all (λ y. list_all (λ x. p x y) xs) ys ≡ true
all-turned p [] ys all = all-of (λ y. true) (λ y. refl) ys
all-turned p (x ∷ xs) ys all =
    all-with (p x) (λ y. list_all (λ z. p z y) xs) (λ y. p x y && list_all (λ z. p z y) xs) (λ y h k. both (p x y) (list_all (λ z. p z y) xs) h k) ys (All-head (λ z. list_all (p z) ys ≡ true) x xs all)
    (all-turned p xs ys (All-tail (λ z. list_all (p z) ys ≡ true) x xs all))

-- where it is not false, it is true
is-true : (b : Bool) → (b ≡ false → ⊥) → b ≡ true
is-true true h = refl
is-true false h = absurd (h refl)

-- ---- the holders of an entity

-- a triple of another attribute, or without the value, or of one of these
abbrev covers : ℕ → Value → List EntityId → Triple → Bool
covers n v hs t = not ((t.attribute == n) && same_value t.value v) || list_any (same_entity t.entity) hs

covered : (n : ℕ) (v : Value) (xs : List Triple) (hs : List EntityId) → ((h : EntityId) → list_any (same_entity h) (turned n v xs) ≡ true → list_any (same_entity h) hs ≡ true) → list_all (covers n v hs) xs ≡ true
covered n v [] hs more = refl
covered n v (t ∷ ts) hs more =
    either ((t.attribute == n) && same_value t.value v) (λ b. ((h : EntityId) → list_any (same_entity h) (map (λ x. x.entity) (cond b (t ∷ filter (λ x. (x.attribute == n) && same_value x.value v) ts) (filter (λ x. (x.attribute == n) && same_value x.value v) ts))) ≡ true → list_any (same_entity h) hs ≡ true)
    → ((not b || list_any (same_entity t.entity) hs) && list_all (covers n v hs) ts) ≡ true)
    (λ _ m. both (list_any (same_entity t.entity) hs) (list_all (covers n v hs) ts) (m t.entity (first-of (same_entity t.entity t.entity) (list_any (same_entity t.entity) (turned n v ts)) (same_entity-itself t.entity)))
    (covered n v ts hs (λ h k. m h (one-of (same_entity h t.entity) (list_any (same_entity h) (turned n v ts)) k))))
    (λ _ m. covered n v ts hs m) more

-- a triple with an entity that is among those that don't have it any more is its own
own-held : (n : ℕ) (e : EntityId) (t : Triple) (hs : List EntityId) → (t.attribute == n) ≡ true → same_value t.value (Entity e) ≡ true → list_any (same_entity t.entity) hs ≡ true → list_all (λ h. same_entity h e || is_unheld n e h t) hs ≡ true → same_entity t.entity e ≡ true
own-held n e t [] a v h all = absurd (true≢false (sym h))
own-held n e t (x ∷ xs) a v h all =
    either (same_entity t.entity x) (λ b. (b || list_any (same_entity t.entity) xs) ≡ true → same_entity t.entity e ≡ true)
    (λ m _. is-true (same_entity t.entity e) (λ nay.
    let other : same_entity x e ≡ false = subst (λ (y : EntityId). same_entity y e ≡ false) (same_entity-is t.entity x m) nay in
    true≢false (sym (both (t.attribute == n) (same_value t.value (Entity e) && same_entity t.entity x) a (both (same_value t.value (Entity e)) (same_entity t.entity x) v m))
    ∙ not-true ((t.attribute == n) && (same_value t.value (Entity e) && same_entity t.entity x))
    (other-of (same_entity x e) (is_unheld n e x t) (left (same_entity x e || is_unheld n e x t) (list_all (λ y. same_entity y e || is_unheld n e y t) xs) all) other))))
    (λ _ k. own-held n e t xs a v k (right (same_entity x e || is_unheld n e x t) (list_all (λ y. same_entity y e || is_unheld n e y t) xs) all)) h

-- where none of the holders has an entity any more, no other one refers to it
pub unheld-unreferred : (n : ℕ) (e : EntityId) (s t : State) → IsLess e s t → AreUnheld n e (turned n (Entity e) s.triples) t → list_all (is_unreferred n e) t.triples ≡ true
unheld-unreferred n e s t less all =
    let hs = turned n (Entity e) s.triples in
    all-with (covers n (Entity e) hs) (λ x. list_all (λ h. same_entity h e || is_unheld n e h x) hs) (is_unreferred n e)
    (λ x c k.
    either (x.attribute == n) (λ b. (x.attribute == n) ≡ b → (not b || (not (same_value x.value (Entity e)) || same_entity x.entity e)) ≡ true)
    (λ a _.
    either (same_value x.value (Entity e)) (λ b. same_value x.value (Entity e) ≡ b → (not b || same_entity x.entity e) ≡ true)
    (λ v _. own-held n e x hs a v
    (other-of (not ((x.attribute == n) && same_value x.value (Entity e))) (list_any (same_entity x.entity) hs) c (ap not (both (x.attribute == n) (same_value x.value (Entity e)) a v))) k)
    (λ _ _. refl) refl)
    (λ _ _. refl) refl)
    t.triples (less.fewer (covers n (Entity e) hs) (covered n (Entity e) s.triples hs (λ h k. k)))
    (all-turned (λ h x. same_entity h e || is_unheld n e h x) hs t.triples
    (λ k d l.
    either (same_entity (get_or hs k d) e) (λ b. same_entity (get_or hs k d) e ≡ b → list_all (λ x. b || is_unheld n e (get_or hs k d) x) t.triples ≡ true)
    (λ _ _. all-of (λ x. true) (λ x. refl) t.triples) (λ nay _. all k d l nay) refl))

-- which they are, in a state that is nearly legal
holders-in : (s : State) (n : ℕ) (a : Attribute) (v : Value) → attribute s.schema n ≡ Some a → (xs : List Triple) → list_all (is_sound s) xs ≡ true → All (IsHolder s a) (turned n v xs)
holders-in s n a v f [] sound = All-nil (IsHolder s a)
holders-in s n a v f (t ∷ ts) sound =
    let P : Attribute → Bool = λ x. isa s.schema t.entity.ty x.owner && can_hold s x.kind t.value in
    let rest = holders-in s n a v f ts (right (is_sound s t) (list_all (is_sound s) ts) sound) in
    let here = left (is_sound s t) (list_all (is_sound s) ts) sound in
    either ((t.attribute == n) && same_value t.value v) (λ b. All (IsHolder s a) (map (λ x. x.entity) (cond b (t ∷ filter (λ x. (x.attribute == n) && same_value x.value v) ts) (filter (λ x. (x.attribute == n) && same_value x.value v) ts))))
    (λ is. All-cons (IsHolder s a) t.entity (turned n v ts)
    (record {
      live = left (is_live s t.entity) (passes P (attribute s.schema t.attribute)) here;
      owner = left (isa s.schema t.entity.ty a.owner) (can_hold s a.kind t.value)
          (sym (ap (passes P) (ap (attribute s.schema) (number-is t.attribute n (left (t.attribute == n) (same_value t.value v) is)) ∙ f)) ∙ right (is_live s t.entity) (passes P (attribute s.schema t.attribute)) here);
    }) rest)
    (λ _. rest)

pub holders-are : (s : State) (n : ℕ) (a : Attribute) (v : Value) → IsNearlyLegal s → attribute s.schema n ≡ Some a → All (IsHolder s a) (turned n v s.triples)
holders-are s n a v legal f = holders-in s n a v f s.triples legal.sound

-- an attribute whose values aren't of an entity's type never refers to it
pub never-refers : (s : State) (e : EntityId) (n : ℕ) (a : Attribute) → IsNearlyLegal s → attribute s.schema n ≡ Some a → names_type s.schema e.ty a.kind ≡ false → list_all (is_unreferred n e) s.triples ≡ true
never-refers s e n a legal f nay =
    all-weaken (is_sound s) (is_unreferred n e)
    (λ t sound.
    let P : Attribute → Bool = λ x. isa s.schema t.entity.ty x.owner && can_hold s x.kind t.value in
    either (t.attribute == n) (λ b. (t.attribute == n) ≡ b → (not b || (not (same_value t.value (Entity e)) || same_entity t.entity e)) ≡ true)
    (λ is _.
    either (same_value t.value (Entity e)) (λ b. (not b || same_entity t.entity e) ≡ true)
    (λ v. absurd (true≢false (sym (names-held s e a.kind (subst (λ (w : Value). can_hold s a.kind w ≡ true) (same_value-is t.value (Entity e) v)
    (right (isa s.schema t.entity.ty a.owner) (can_hold s a.kind t.value)
    (sym (ap (passes P) (ap (attribute s.schema) (number-is t.attribute n is) ∙ f)) ∙ right (is_live s t.entity) (passes P (attribute s.schema t.attribute)) sound)))) ∙ nay)))
    (λ _. refl))
    (λ _ _. refl) refl)
    s.triples legal.sound

-- ---- a holder that was cleared

-- a value that was taken out is held no longer
pub taken-unheld : (n : ℕ) (e h : EntityId) (s : State) → list_all (is_unheld n e h) (member_taken s n h (Entity e)).triples ≡ true
taken-unheld n e h s = by s.triples
  where
    same : (t : Triple) → not (same_triple (record { attribute = n; entity = h; value = Entity e }) t) ≡ true → is_unheld n e h t ≡ true
    same t nay =
        ap not (never ((t.attribute == n) && (same_value t.value (Entity e) && same_entity t.entity h)) (λ k.
        let a = number-is t.attribute n (left (t.attribute == n) (same_value t.value (Entity e) && same_entity t.entity h) k) in
        let rest = right (t.attribute == n) (same_value t.value (Entity e) && same_entity t.entity h) k in
        let v = same_value-is t.value (Entity e) (left (same_value t.value (Entity e)) (same_entity t.entity h) rest) in
        let x = same_entity-is t.entity h (right (same_value t.value (Entity e)) (same_entity t.entity h) rest) in
        true≢false (sym (both (n == t.attribute) (same_entity h t.entity && same_value (Entity e) t.value) (subst (λ (m : ℕ). (n == m) ≡ true) (sym a) (number-itself n))
        (both (same_entity h t.entity) (same_value (Entity e) t.value) (subst (λ (y : EntityId). same_entity h y ≡ true) (sym x) (same_entity-itself h)) (subst (λ (w : Value). same_value (Entity e) w ≡ true) (sym v) (same_value-itself (Entity e)))))
        ∙ not-true (same_triple (record { attribute = n; entity = h; value = Entity e }) t) nay)))

    by : (xs : List Triple) → list_all (is_unheld n e h) (filter (λ t. not (same_triple (record { attribute = n; entity = h; value = Entity e }) t)) xs) ≡ true
    by [] = refl
    by (t ∷ ts) =
        either (not (same_triple (record { attribute = n; entity = h; value = Entity e }) t))
        (λ b. list_all (is_unheld n e h) (cond b (t ∷ filter (λ x. not (same_triple (record { attribute = n; entity = h; value = Entity e }) x)) ts) (filter (λ x. not (same_triple (record { attribute = n; entity = h; value = Entity e }) x)) ts)) ≡ true)
        (λ k. both (is_unheld n e h t) (list_all (is_unheld n e h) (filter (λ x. not (same_triple (record { attribute = n; entity = h; value = Entity e }) x)) ts)) (same t k) (by ts)) (λ _. by ts)

-- a row that refers nay longer has no single value that does
pub unreferring-unheld : (n : ℕ) (a : Attribute) (e h : EntityId) (schema : Outline) → attribute schema n ≡ Some a → a.many ≡ false → (xs : List Triple) → list_all (is_unreferring schema h e) xs ≡ true → list_all (is_unheld n e h) xs ≡ true
unreferring-unheld n a e h schema f one xs all =
    all-weaken (is_unreferring schema h e) (is_unheld n e h)
    (λ t nay. ap not (never ((t.attribute == n) && (same_value t.value (Entity e) && same_entity t.entity h)) (λ k.
    let is = number-is t.attribute n (left (t.attribute == n) (same_value t.value (Entity e) && same_entity t.entity h) k) in
    let rest = right (t.attribute == n) (same_value t.value (Entity e) && same_entity t.entity h) k in
    let single : is_single schema t ≡ true = ap (passes (λ x. not x.many)) (ap (attribute schema) is ∙ f) ∙ ap not one in
    true≢false (sym (both (same_entity t.entity h) (same_value t.value (Entity e) && is_single schema t) (right (same_value t.value (Entity e)) (same_entity t.entity h) rest)
    (both (same_value t.value (Entity e)) (is_single schema t) (left (same_value t.value (Entity e)) (same_entity t.entity h) rest) single))
    ∙ not-true (same_entity t.entity h && (same_value t.value (Entity e) && is_single schema t)) nay))))
    xs all

-- ---- the values in a set

abbrev has-among : ℕ → EntityId → List Value → Triple → Bool
has-among n e vs t = not (is_at n e t) || list_any (same_value t.value) vs

values-covered : (n : ℕ) (e : EntityId) (xs : List Triple) (vs : List Value) → ((v : Value) → list_any (same_value v) (values_at n e xs) ≡ true → list_any (same_value v) vs ≡ true) → list_all (has-among n e vs) xs ≡ true
values-covered n e [] vs more = refl
values-covered n e (t ∷ ts) vs more =
    either (is_at n e t) (λ b. ((v : Value) → list_any (same_value v) (map (λ x. x.value) (cond b (t ∷ filter (is_at n e) ts) (filter (is_at n e) ts))) ≡ true → list_any (same_value v) vs ≡ true)
    → ((not b || list_any (same_value t.value) vs) && list_all (has-among n e vs) ts) ≡ true)
    (λ _ m. both (list_any (same_value t.value) vs) (list_all (has-among n e vs) ts) (m t.value (first-of (same_value t.value t.value) (list_any (same_value t.value) (values_at n e ts)) (same_value-itself t.value)))
    (values-covered n e ts vs (λ v k. m v (one-of (same_value v t.value) (list_any (same_value v) (values_at n e ts)) k))))
    (λ _ m. values-covered n e ts vs m) more

not-without : (n : ℕ) (e : EntityId) (t : Triple) (vs : List Value) → is_at n e t ≡ true → list_any (same_value t.value) vs ≡ true → list_all (λ v. is_without n e v t) vs ≡ true → ⊥
not-without n e t [] at h all = true≢false (sym h)
not-without n e t (v ∷ vs) at h all =
    either (same_value t.value v) (λ b. (b || list_any (same_value t.value) vs) ≡ true → ⊥)
    (λ m _.
    let a = number-is t.attribute n (left (t.attribute == n) (same_entity t.entity e) at) in
    let x = same_entity-is t.entity e (right (t.attribute == n) (same_entity t.entity e) at) in
    true≢false (sym (both (n == t.attribute) (same_entity e t.entity && same_value v t.value) (subst (λ (k : ℕ). (n == k) ≡ true) (sym a) (number-itself n))
    (both (same_entity e t.entity) (same_value v t.value) (subst (λ (y : EntityId). same_entity e y ≡ true) (sym x) (same_entity-itself e)) (subst (λ (w : Value). same_value v w ≡ true) (sym (same_value-is t.value v m)) (same_value-itself v))))
    ∙ not-true (same_triple (record { attribute = n; entity = e; value = v }) t) (left (is_without n e v t) (list_all (λ w. is_without n e w t) vs) all)))
    (λ _ k. not-without n e t vs at k (right (is_without n e v t) (list_all (λ w. is_without n e w t) vs) all)) h

-- where all values were taken out, the set is empty
pub without-memberless : (a : Attribute) (n : ℕ) (e : EntityId) (s t : State) → a.number ≡ n → IsLess e s t → AreWithout n e (values_at n e s.triples) t → list_all (is_memberless a e) t.triples ≡ true
without-memberless a n e s t is less all =
    let vs = values_at n e s.triples in
    all-with (has-among n e vs) (λ x. list_all (λ v. is_without n e v x) vs) (is_memberless a e)
    (λ x c k.
    subst (λ (m : ℕ). (not (x.attribute == m) || not (same_entity x.entity e && a.many)) ≡ true) (sym is)
    (either (is_at n e x) (λ b. is_at n e x ≡ b → (not (x.attribute == n) || not (same_entity x.entity e && a.many)) ≡ true)
    (λ at _. absurd (not-without n e x vs at (other-of (not (is_at n e x)) (list_any (same_value x.value) vs) c (ap not at)) k))
    (λ nay _.
    either (x.attribute == n) (λ b. (x.attribute == n) ≡ b → (not b || not (same_entity x.entity e && a.many)) ≡ true)
    (λ here _. either (same_entity x.entity e) (λ b. same_entity x.entity e ≡ b → not (b && a.many) ≡ true) (λ m _. absurd (true≢false (sym (both (x.attribute == n) (same_entity x.entity e) here m) ∙ nay))) (λ _ _. refl) refl)
    (λ _ _. refl) refl) refl))
    t.triples (less.fewer (has-among n e vs) (values-covered n e s.triples vs (λ v k. k))) (all-turned (λ v x. is_without n e v x) vs t.triples all)

-- a value that was taken out is in the set no longer
pub taken-without : (n : ℕ) (e : EntityId) (v : Value) (s : State) → list_all (is_without n e v) (member_taken s n e v).triples ≡ true
taken-without n e v s = by s.triples
  where
    by : (xs : List Triple) → list_all (is_without n e v) (filter (is_without n e v) xs) ≡ true
    by [] = refl
    by (t ∷ ts) =
        either (is_without n e v t) (λ b. is_without n e v t ≡ b → list_all (is_without n e v) (cond b (t ∷ filter (is_without n e v) ts) (filter (is_without n e v) ts)) ≡ true)
        (λ k _. both (is_without n e v t) (list_all (is_without n e v) (filter (is_without n e v) ts)) k (by ts)) (λ _ _. by ts) refl

-- the values in a set can be held
values-in : (s : State) (n : ℕ) (e : EntityId) (xs : List Triple) → list_all (is_sound s) xs ≡ true → All (CanHold s n) (values_at n e xs)
values-in s n e [] sound = All-nil (CanHold s n)
values-in s n e (t ∷ ts) sound =
    let P : Attribute → Bool = λ x. isa s.schema t.entity.ty x.owner && can_hold s x.kind t.value in
    let rest = values-in s n e ts (right (is_sound s t) (list_all (is_sound s) ts) sound) in
    let here = right (is_live s t.entity) (passes P (attribute s.schema t.attribute)) (left (is_sound s t) (list_all (is_sound s) ts) sound) in
    either (is_at n e t) (λ b. All (CanHold s n) (map (λ x. x.value) (cond b (t ∷ filter (is_at n e) ts) (filter (is_at n e) ts))))
    (λ at. All-cons (CanHold s n) t.value (values_at n e ts) (subst (λ (k : ℕ). CanHold s k t.value) (number-is t.attribute n (left (t.attribute == n) (same_entity t.entity e) at)) (weaker (attribute s.schema t.attribute) here)) rest)
    (λ _. rest)
  where
    weaker : let P : Attribute → Bool = λ x. isa s.schema t.entity.ty x.owner && can_hold s x.kind t.value in (o : Option Attribute) → passes P o ≡ true → passes (λ x. can_hold s x.kind t.value) o ≡ true
    weaker None h = h
    weaker (Some a) h = right (isa s.schema t.entity.ty a.owner) (can_hold s a.kind t.value) h

pub values-held : (s : State) (n : ℕ) (e : EntityId) → IsNearlyLegal s → All (CanHold s n) (values_at n e s.triples)
values-held s n e legal = values-in s n e s.triples legal.sound

-- an attribute without sets, or that the entity doesn't have, has no members of it
pub never-many : (a : Attribute) (e : EntityId) → a.many ≡ false → (xs : List Triple) → list_all (is_memberless a e) xs ≡ true
never-many a e one xs =
    all-of (is_memberless a e) (λ t. one-of (not (t.attribute == a.number)) (not (same_entity t.entity e && a.many))
    (either (same_entity t.entity e) (λ b. not (b && a.many) ≡ true) (λ _. ap not one) (λ _. refl))) xs

pub never-owned : (s : State) (a : Attribute) (e : EntityId) → IsNearlyLegal s → attribute s.schema a.number ≡ Some a → isa s.schema e.ty a.owner ≡ false → list_all (is_memberless a e) s.triples ≡ true
never-owned s a e legal f nay =
    all-weaken (is_sound s) (is_memberless a e)
    (λ t sound.
    let P : Attribute → Bool = λ x. isa s.schema t.entity.ty x.owner && can_hold s x.kind t.value in
    either (t.attribute == a.number) (λ b. (t.attribute == a.number) ≡ b → (not b || not (same_entity t.entity e && a.many)) ≡ true)
    (λ is _.
    either (same_entity t.entity e) (λ b. not (b && a.many) ≡ true)
    (λ m. absurd (true≢false (sym (subst (λ (x : EntityId). isa s.schema x.ty a.owner ≡ true) (same_entity-is t.entity e m)
    (left (isa s.schema t.entity.ty a.owner) (can_hold s a.kind t.value)
    (sym (ap (passes P) (ap (attribute s.schema) (number-is t.attribute a.number is) ∙ f)) ∙ right (is_live s t.entity) (passes P (attribute s.schema t.attribute)) sound))) ∙ nay)))
    (λ _. refl))
    (λ _ _. refl) refl)
    s.triples legal.sound

-- ---- all that speaks of an entity

-- without references and without members an attribute is cleared
pub both-cleared : (a : Attribute) (e : EntityId) (xs : List Triple) → list_all (is_unreferred a.number e) xs ≡ true → list_all (is_memberless a e) xs ≡ true → list_all (is_cleared a e) xs ≡ true
both-cleared a e xs first second =
    all-with (is_unreferred a.number e) (is_memberless a e) (is_cleared a e) (λ t h k. by (t.attribute == a.number) (same_value t.value (Entity e)) (same_entity t.entity e) a.many h k) xs first second
  where
    by : (n v x m : Bool) → (not n || (not v || x)) ≡ true → (not n || not (x && m)) ≡ true → (not n || (not (x || v) || (x && not m))) ≡ true
    by false v x m h k = refl
    by true v true true h k = k
    by true v true false h k = refl
    by true false false m h k = refl
    by true true false m h k = absurd (true≢false (sym h))

-- an attribute that is there is among those of the schema
found-cleared : (n : ℕ) (e : EntityId) (t : Triple) (xs : List Attribute) (o : Option Attribute) → find (λ a. a.number == n) xs ≡ o → t.attribute ≡ n → All (λ a. is_cleared a e t ≡ true) xs → passes (λ a. true) o ≡ true
    → (not (speaks_of e t) || (same_entity t.entity e && passes (λ a. not a.many) o)) ≡ true
found-cleared n e t xs None f is all there = absurd (true≢false (sym there))
found-cleared n e t xs (Some a) f is all there =
    let number : (t.attribute == a.number) ≡ true = subst (λ (k : ℕ). (k == a.number) ≡ true) (sym (is ∙ sym (number-is a.number n (find-passes (λ b. b.number == n) a xs f)))) (number-itself a.number) in
    other-of (not (t.attribute == a.number)) (not (speaks_of e t) || (same_entity t.entity e && not a.many)) (found-holds (λ b. is_cleared b e t ≡ true) (λ b. b.number == n) xs a all f) (ap not number)

-- where all attributes are cleared, only the entity's single values are left that speak of it
pub all-cleared : (e : EntityId) (t : State) → IsNearlyLegal t → AreCleared e t.schema.attributes t → list_all (is_own_or_strange t.schema e) t.triples ≡ true
all-cleared e t legal all =
    all-with (is_sound t) (λ x. list_all (λ a. is_cleared a e x) t.schema.attributes) (is_own_or_strange t.schema e)
    (λ x sound k.
    let P : Attribute → Bool = λ a. isa t.schema x.entity.ty a.owner && can_hold t a.kind x.value in
    found-cleared x.attribute e x t.schema.attributes (attribute t.schema x.attribute) refl refl (all-passed (λ a. is_cleared a e x) t.schema.attributes k)
    (passes-weaken P (λ a. true) (attribute t.schema x.attribute) (λ a _. refl) (right (is_live t x.entity) (passes P (attribute t.schema x.attribute)) sound)))
    t.triples legal.sound (all-turned (λ a x. is_cleared a e x) t.schema.attributes t.triples all)
