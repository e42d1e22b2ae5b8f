-- What a new entity leaves of a legal state, and that the empty state is legal.
use Rattle.std.proofs.Common.{◌≡◌, ℕ, ◌+◌, ◌<◌, ◌≤◌, true, List, length, refl, sym, ap, subst, ◌∙◌, arith, true≢false, length-set}
use Rattle.std.specs.Prelude.{◌==◌, ◌&&◌, ◌||◌, nat_lt, nat_le, slice_index, slice_set, replicate}
use Rattle.std.specs.List.{list_any}
use Rattle.std.proofs.lemmas.List.{get_or-set_same, get_or-set_other, length-replicate}
use Rattle.st_values.specs.declared.value.EntityId.{EntityId}
use Rattle.st_values.specs.Order.{same_entity, entity_before}
use Rattle.st_values.proofs.Placing.{differ, ascends-placed}
use Rattle.st_values.proofs.Entities.{same_entity-itself, entity_before-strict}
use Rattle.st_values.proofs.Tests.{one-of, first-of, any-placed, both, left, right, either, all-weaken, all-placed}
use Rattle.st_lattice.specs.Outline.{Outline, IsOrderly}
use Rattle.st_lattice.specs.Consistent.{IsConsistent}
use Rattle.st_state.specs.State.{State, empty_state, is_live, next_entity, entity_made}
use Rattle.st_state.specs.Legal.{is_counted, is_sound, IsNearlyLegal, IsLegal}
use Rattle.st_state.proofs.Kept.{is_sound-moved}

less-is : (x y : ℕ) → nat_lt x y ≡ true → x < y
less-is x y h = grind (arith, h)

most-is : (x y : ℕ) → nat_le x y ≡ true → x ≤ y
most-is x y h = grind (arith, h)

is-less : (x y : ℕ) → x < y → nat_lt x y ≡ true
is-less x y h = grind (arith, h)

is-most : (x y : ℕ) → x ≤ y → nat_le x y ≡ true
is-most x y h = grind (arith, h)

-- a number of a list that was raised by one is not smaller
raised : (xs : List ℕ) (i k : ℕ) → i < length xs → slice_index xs k ≤ slice_index (slice_set xs i (slice_index xs i + 1)) k
raised xs i k h =
    either (k == i) (λ _. slice_index xs k ≤ slice_index (slice_set xs i (slice_index xs i + 1)) k)
    (λ m. let e : k ≡ i = grind (arith, m) in subst (λ z. slice_index xs z ≤ slice_index (slice_set xs i (slice_index xs i + 1)) z) (sym e) (rw (get_or-set_same xs i (slice_index xs i + 1) 0 h) (omega arith)))
    (λ m. let d : (k ≡ i → ⊥) = (λ e. absurd (true≢false (grind (arith, m, e)))) in rw (get_or-set_other xs i k (slice_index xs i + 1) 0 d) (omega arith))

module _ (s : State) (ty : ℕ) (n : IsNearlyLegal s) (there : ty < length s.schema.names) where
  abbrev fresh : EntityId
  fresh = next_entity s ty

  ty-counted : ty < length s.last
  ty-counted = omega (arith, n.counts, there)

  pub unlike : (x : EntityId) → is_counted s x ≡ true → differ entity_before fresh x ≡ true
  unlike x h =
      either (entity_before fresh x) (λ b. (b || entity_before x fresh) ≡ true) (λ _. refl)
      (λ k. either (entity_before x fresh) (λ b. b ≡ true) (λ _. refl)
      (λ m.
      let same : fresh ≡ x = entity_before-strict.tie fresh x k m in
      let low : is_counted s fresh ≡ true = ap (is_counted s) same ∙ h in
      let most = most-is fresh.serial (slice_index s.last ty)
      (right (nat_lt 0 fresh.serial) (nat_le fresh.serial (slice_index s.last ty)) (right (nat_lt ty (length s.schema.names)) (nat_lt 0 fresh.serial && nat_le fresh.serial (slice_index s.last ty)) low)) in
      absurd (omega (arith, most))))

  still-counted : (x : EntityId) → is_counted s x ≡ true → is_counted (entity_made s ty) x ≡ true
  still-counted x h =
      let two = right (nat_lt x.ty (length s.schema.names)) (nat_lt 0 x.serial && nat_le x.serial (slice_index s.last x.ty)) h in
      let most = most-is x.serial (slice_index s.last x.ty) (right (nat_lt 0 x.serial) (nat_le x.serial (slice_index s.last x.ty)) two) in
      let more = raised s.last ty x.ty ty-counted in
      both (nat_lt x.ty (length s.schema.names)) (nat_lt 0 x.serial && nat_le x.serial (slice_index (entity_made s ty).last x.ty))
      (left (nat_lt x.ty (length s.schema.names)) (nat_lt 0 x.serial && nat_le x.serial (slice_index s.last x.ty)) h)
      (both (nat_lt 0 x.serial) (nat_le x.serial (slice_index (entity_made s ty).last x.ty)) (left (nat_lt 0 x.serial) (nat_le x.serial (slice_index s.last x.ty)) two)
      (is-most x.serial (slice_index (entity_made s ty).last x.ty) (omega (arith, most, more))))

  fresh-counted : is_counted (entity_made s ty) fresh ≡ true
  fresh-counted =
      both (nat_lt ty (length s.schema.names)) (nat_lt 0 fresh.serial && nat_le fresh.serial (slice_index (entity_made s ty).last ty)) (is-less ty (length s.schema.names) there)
      (both (nat_lt 0 fresh.serial) (nat_le fresh.serial (slice_index (entity_made s ty).last ty)) (is-less 0 fresh.serial (omega arith))
      (is-most fresh.serial (slice_index (entity_made s ty).last ty) (rw (get_or-set_same s.last ty (slice_index s.last ty + 1) 0 ty-counted) (omega arith))))

  -- who was live still is, and the new one is
  pub live-still : (x : EntityId) → is_live s x ≡ true → is_live (entity_made s ty) x ≡ true
  live-still x h = any-placed entity_before (same_entity x) fresh s.live (one-of (same_entity x fresh) (list_any (same_entity x) s.live) h)

  pub fresh-live : is_live (entity_made s ty) fresh ≡ true
  fresh-live = any-placed entity_before (same_entity fresh) fresh s.live (first-of (same_entity fresh fresh) (list_any (same_entity fresh) s.live) (same_entity-itself fresh))

  pub made-nearly : IsNearlyLegal (entity_made s ty)
  made-nearly = record {
    orderly = n.orderly;
    consistent = n.consistent;
    counts = length-set s.last ty (slice_index s.last ty + 1) ∙ n.counts;
    live_ascends = ascends-placed entity_before entity_before-strict fresh s.live n.live_ascends (all-weaken (is_counted s) (differ entity_before fresh) unlike s.live n.counted);
    triples_ascend = n.triples_ascend;
    counted = all-placed entity_before (is_counted (entity_made s ty)) fresh s.live fresh-counted (all-weaken (is_counted s) (is_counted (entity_made s ty)) still-counted s.live n.counted);
    sound = all-weaken (is_sound s) (is_sound (entity_made s ty))
        (λ t h. is_sound-moved s (entity_made s ty).live s.triples (entity_made s ty).last t (live-still t.entity) (λ x _. live-still x) h) s.triples n.sound;
    single = n.single;
    unique = n.unique;
  }

length-zeros : (k : ℕ) → length {A = ℕ} (replicate k 0) ≡ k
length-zeros k = grind (arith, length-replicate)

pub empty-legal : (schema : Outline) → IsOrderly schema → IsConsistent schema → IsLegal (empty_state schema)
empty-legal schema o p = record {
  nearly = record { orderly = o; consistent = p; counts = length-zeros (length schema.names); live_ascends = refl; triples_ascend = refl; counted = refl; sound = refl; single = refl; unique = refl };
  filled = refl;
}
