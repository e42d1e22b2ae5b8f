-- The rows of a value that is put into a set or taken out of it.
use Rattle.std.proofs.Common.{◌≡◌, ℕ, ◌+◌, ◌<◌, ◌≤◌, true, false, List, [], ◌∷◌, Some, sym, ap, subst, arith, true≢false}
use Rattle.std.specs.Prelude.{◌==◌, not, ◌&&◌, ◌||◌, if◌then◌else◌}
use Rattle.std.specs.List.{All, list_all, list_any}
use Rattle.st_values.specs.declared.value.EntityId.{EntityId}
use Rattle.st_values.specs.declared.value.Value.{Value}
use Rattle.st_values.specs.Order.{same_entity, same_value}
use Rattle.st_values.proofs.Entities.{same_entity-is, same_value-is}
use Rattle.st_values.proofs.Tests.{all-filtered, all-unplaced, either, left, right}
use Rattle.st_lattice.specs.declared.attribute.Attribute.{Attribute}
use Rattle.st_lattice.specs.declared.stores.StoreKind.TheVariants.{Set}
use Rattle.st_lattice.specs.Outline.{attribute}
use Rattle.st_state.specs.declared.triple.Triple.{Triple}
use Rattle.st_state.specs.State.{State, has_value, member_added, member_taken, same_triple, triple_before, with_triple}
use Rattle.st_state.specs.Legal.{IsNearlyLegal}
use Rattle.st_state.specs.Rows.{rows_added, rows_changed, same_key}
use Rattle.st_state.proofs.Changed.{number-is, number-itself}
use Rattle.st_state.proofs.Members.{Member, find-member, find-passes}
use Rattle.st_counts.specs.Counts.{kept_count, turned_count}
use Rattle.st_counts.proofs.Tallies.{any-none}
use Rattle.st_counts.proofs.Unlike.{Fits, fits, is_low}
use Rattle.st_counts.proofs.Fresh.{added-is, changed-most, fresh-parts, in_extents, in_parts, lacks, same_key-matches}

abbrev pub triple : ℕ → EntityId → Value → Triple
triple number e v = record { attribute = number; entity = e; value = v }

-- triples that are the same
pub same_triple-is : (t u : Triple) → same_triple t u ≡ true → t ≡ u
same_triple-is t u h =
    let rest = right (t.attribute == u.attribute) (same_entity t.entity u.entity && same_value t.value u.value) h in
    let one = number-is t.attribute u.attribute (left (t.attribute == u.attribute) (same_entity t.entity u.entity && same_value t.value u.value) h) in
    let two = same_entity-is t.entity u.entity (left (same_entity t.entity u.entity) (same_value t.value u.value) rest) in
    let three = same_value-is t.value u.value (right (same_entity t.entity u.entity) (same_value t.value u.value) rest) in
    λ i. record { attribute = one i; entity = two i; value = three i }

pub same-member : (t : Triple) (ts : List Triple) → list_any (same_triple t) ts ≡ true → Member t ts
same-member t [] h q a = absurd (true≢false (sym h))
same-member t (x ∷ xs) h q a =
    either (same_triple t x) (λ b. (b || list_any (same_triple t) xs) ≡ true → q t ≡ true)
    (λ k _. subst (λ z. q z ≡ true) (sym (same_triple-is t x k)) (left (q x) (list_all q xs) a))
    (λ _ m. same-member t xs m q (right (q x) (list_all q xs) a)) h

-- a triple put among others is there
pub placed-member : (t : Triple) (ts : List Triple) → Member t (with_triple t ts)
placed-member t ts q a = left (q t) (list_all q ts) (all-unplaced triple_before q t ts a)

-- an attribute that is found by a number has it, and is one of the schema's
module _ (s : State) (number : ℕ) (a : Attribute) (f : attribute s.schema number ≡ Some a) where
  pub found-inside : Member a s.schema.attributes
  found-inside = find-member (λ b. b.number == number) a s.schema.attributes f

  pub found-number : a.number ≡ number
  found-number = number-is a.number number (find-passes (λ b. b.number == number) a s.schema.attributes f)

  pub found-its : (number == a.number) ≡ true
  found-its = subst (λ n. (number == n) ≡ true) (sym found-number) (number-itself number)

  pub found-low : Fits s → is_low a.number ≡ true
  found-low ok = found-inside (λ b. is_low b.number) ok.numbers

set-count : (a : Attribute) → a.many ≡ true → kept_count Set a ≡ 1
set-count a h = ap (λ b. if b then 1 else 0) h

sums : (set turned extents parts added : ℕ) → set ≡ 1 → set + turned ≤ parts → added ≡ extents + parts → 1 + turned ≤ added
sums set turned extents parts added h i j = omega (arith, h, i, j)

module _ (s : State) (number : ℕ) (e : EntityId) (v : Value) (n : IsNearlyLegal s) (low : All (λ a. a.number < 65536) s.schema.attributes) (a : Attribute) (f : attribute s.schema number ≡ Some a) (many : a.many ≡ true) where
  abbrev t : Triple
  t = triple number e v

  -- ---- a value put into a set

  pub added-added : has_value s number e v ≡ false → 1 + turned_count a ≤ rows_added s (member_added s number e v)
  added-added fresh =
      let ok = fits s n low in
      let new = member_added s number e v in
      let there : Member t new.triples = (λ q k. placed-member t s.triples q (subst (λ b. list_all q (if b then s.triples else with_triple t s.triples) ≡ true) fresh k)) in
      sums (kept_count Set a) (turned_count a) (in_extents (lacks same_key s) new) (in_parts (lacks same_key s) new) (rows_added s new) (set-count a many)
      (fresh-parts same_key same_key-matches s new ok a (found-inside s number a f) (found-low s number a f ok) t there (found-its s number a f) fresh) (added-is s new)

  pub added-changed : has_value s number e v ≡ false → 1 + turned_count a ≤ rows_changed s (member_added s number e v)
  added-changed fresh = let most = changed-most s (member_added s number e v) in let added = added-added fresh in omega (arith, most, added)

  -- ---- a value taken out of a set

  pub taken-changed : has_value s number e v ≡ true → 1 + turned_count a ≤ rows_changed s (member_taken s number e v)
  taken-changed has =
      let ok = fits s n low in
      let new = member_taken s number e v in
      let ok_new : Fits new = record { types = ok.types; numbers = ok.numbers } in
      let fresh : list_any (same_triple t) new.triples ≡ false =
      any-none (same_triple t) new.triples (all-filtered (λ u. not (same_triple t u)) (λ u. not (same_triple t u)) s.triples (λ u h. h)) in
      let back = sums (kept_count Set a) (turned_count a) (in_extents (lacks same_key new) s) (in_parts (lacks same_key new) s) (rows_added new s) (set-count a many)
      (fresh-parts same_key same_key-matches new s ok_new a (found-inside s number a f) (found-low s number a f ok) t (same-member t s.triples has) (found-its s number a f) fresh) (added-is new s) in
      let most = changed-most s new in
      ends (turned_count a) (rows_added s new) (rows_added new s) (rows_changed s new) back most
    where
      ends : (k x y z : ℕ) → 1 + k ≤ y → x + y ≤ z → 1 + k ≤ z
      ends k x y z h i = omega (arith, h, i)
