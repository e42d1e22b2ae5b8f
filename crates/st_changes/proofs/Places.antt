-- Which stores are among others: the extent of a live entity's type, and what belongs to one of several.
use Rattle.std.proofs.Common.{◌≡◌, ℕ, ◌<◌, Bool, true, List, [], ◌∷◌, length, refl, sym, ◌∙◌, ap, subst, arith, true≢false, zero-add}
use Rattle.std.specs.Prelude.{map, flat_map, nat_lt}
use Rattle.std.specs.List.{list_all, list_any, range_with_len}
use Rattle.std.proofs.lemmas.List.Folds.{list_all-append, list_all-map, list_all_at}
use Rattle.std.proofs.lemmas.List.FromFn.{length-range_with_len, get_or-range_with_len}
use Rattle.st_values.specs.declared.value.EntityId.{EntityId}
use Rattle.st_values.specs.Order.{same_entity}
use Rattle.st_values.proofs.Entities.{same_entity-is}
use Rattle.st_values.proofs.Tests.{both, left, right, either, any-ruled, any-never}
use Rattle.st_lattice.specs.declared.stores.StoreKind.TheVariants.{Extent}
use Rattle.st_lattice.specs.Lattice.{isa, below, descendants}
use Rattle.st_lattice.specs.Stores.{store, extents}
use Rattle.st_state.specs.State.{State, is_live}
use Rattle.st_state.specs.Legal.{is_counted, IsNearlyLegal}
use Rattle.st_state.proofs.Members.{Member, filter-member}
use Rattle.st_terms.specs.Looks.{AreAmong}

-- what an element stands for is among what all stand for
pub flat-among : {X : Type 0} (f : X → List ℕ) (x : X) (xs : List X) → Member x xs → AreAmong (f x) (flat_map f xs)
flat-among f x xs m = λ test h. m (λ y. list_all test (f y)) (each test xs h)
  where
    each : (test : ℕ → Bool) (ys : List _) → list_all test (flat_map f ys) ≡ true → list_all (λ y. list_all test (f y)) ys ≡ true
    each test [] h = refl
    each test (y ∷ ys) h =
        let parts = sym (list_all-append test (f y) (flat_map f ys)) ∙ h in
        both (list_all test (f y)) (list_all (λ z. list_all test (f z)) ys) (left (list_all test (f y)) (list_all test (flat_map f ys)) parts)
        (each test ys (right (list_all test (f y)) (list_all test (flat_map f ys)) parts))

pub map-among : {X : Type 0} (f : X → ℕ) (x : X) (xs : List X) → Member x xs → AreAmong (f x ∷ []) (map f xs)
map-among f x xs m = λ test h. both (test (f x)) true (m (λ y. test (f y)) (sym (list_all-map test f xs) ∙ h)) refl

pub below-member : (n t : ℕ) → t < n → Member t (below n)
below-member n t h q a =
    either (q t) (λ b. q t ≡ b → b ≡ true) (λ _ _. refl)
    (λ _ k. absurd (true≢false (sym a ∙ list_all_at q (range_with_len 0 n) t 0 (omega (arith, length-range_with_len 0 n)) (ap q (get_or-range_with_len 0 n t 0 h ∙ zero-add t) ∙ k)))) refl

module _ (s : State) (n : IsNearlyLegal s) (e : EntityId) (live : is_live s e ≡ true) where
  -- the type of a live entity is there
  type-there : nat_lt e.ty (length s.schema.names) ≡ true
  type-there =
      either (nat_lt e.ty (length s.schema.names)) (λ b. list_any (λ x. b) s.live ≡ true → b ≡ true) (λ _ _. refl) (λ _ k. absurd (true≢false (sym k ∙ any-never s.live)))
      (any-ruled (same_entity e) (is_counted s) (λ x. nat_lt e.ty (length s.schema.names)) s.live
      (λ x a b. subst (λ z. nat_lt z.ty (length s.schema.names) ≡ true) (sym (same_entity-is e x a)) (left (nat_lt x.ty (length s.schema.names)) _ b)) live n.counted)

  pub type-within : e.ty < length s.schema.names
  type-within = grind (arith, type-there)

  pub type-member : (ty : ℕ) → isa s.schema e.ty ty ≡ true → Member e.ty (descendants s.schema ty)
  type-member ty h = filter-member (λ t. isa s.schema t ty) e.ty (below (length s.schema.names)) (below-member (length s.schema.names) e.ty type-within) h

  -- the extent of its type is one of those of each type that it is of
  pub extent-among : (ty : ℕ) → isa s.schema e.ty ty ≡ true → AreAmong (store Extent e.ty ∷ []) (extents s.schema ty)
  extent-among ty h = map-among (store Extent) e.ty (descendants s.schema ty) (type-member ty h)
