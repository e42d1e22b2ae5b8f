-- The rows of entities: of one that is made, and of one whose value changes.
use Rattle.std.proofs.Common.{◌≡◌, ℕ, ◌<◌, ◌≤◌, Bool, true, false, List, [], ◌∷◌, length, refl, sym, ap, subst, ◌∙◌, arith, true≢false}
use Rattle.std.specs.Prelude.{◌==◌, not, ◌&&◌, ◌||◌, map, filter}
use Rattle.std.specs.List.{All, list_all, list_any}
use Rattle.st_values.specs.declared.value.EntityId.{EntityId}
use Rattle.st_values.specs.declared.value.Value.{Value}
use Rattle.st_values.specs.declared.value.Value.TheVariants.{Null}
use Rattle.st_values.specs.Order.{entity_before, same_entity, same_value}
use Rattle.st_values.proofs.Entities.{entity_before-strict, same_entity-is}
use Rattle.st_values.proofs.Placing.{differ}
use Rattle.st_values.proofs.Tests.{all-unplaced, both, either, left, never, right}
use Rattle.st_lattice.specs.declared.attribute.Attribute.{Attribute}
use Rattle.st_lattice.specs.Lattice.{attributes_in, isa}
use Rattle.st_state.specs.declared.triple.Triple.{Triple}
use Rattle.st_state.specs.State.{State, entity_made, is_live, next_entity, value_at}
use Rattle.st_state.specs.Legal.{IsNearlyLegal, is_counted}
use Rattle.st_state.specs.Rows.{Row, entity_row, rows_added, rows_changed, same_cells, same_key}
use Rattle.st_state.proofs.Made.{unlike}
use Rattle.st_state.proofs.Members.{Member, filter-member}
use Rattle.st_counts.proofs.Tallies.{tally-map, tally-member}
use Rattle.st_counts.proofs.Unlike.{Fits, extent-fresh, fits, is_low, low-type}
use Rattle.st_counts.proofs.Fresh.{MatchesKeys, added-is, changed-most, in_extents, lacks, same_key-matches, same_row, same_row-matches}

-- an entity's row that passes
pub extents-tally : (p : Row → Bool) (s : State) (e : EntityId) → Member e s.live → p (entity_row s e) ≡ true → 1 ≤ in_extents p s
extents-tally p s e m h = let same = tally-map p (entity_row s) s.live in let some = tally-member (λ x. p (entity_row s x)) e s.live m h in omega (arith, same, some)

-- one that is live is among the live ones
pub live-member : (e : EntityId) (es : List EntityId) → list_any (same_entity e) es ≡ true → Member e es
live-member e [] h q a = absurd (true≢false (sym h))
live-member e (x ∷ xs) h q a =
    either (same_entity e x) (λ b. (b || list_any (same_entity e) xs) ≡ true → q e ≡ true)
    (λ k _. subst (λ z. q z ≡ true) (sym (same_entity-is e x k)) (left (q x) (list_all q xs) a))
    (λ _ m. live-member e xs m q (right (q x) (list_all q xs) a)) h

-- the type of a live entity is low
pub live-low : (s : State) → Fits s → (e : EntityId) → Member e s.live → is_low e.ty ≡ true
live-low s ok e m = m (λ x. is_low x.ty) ok.types

module _ (match : Row → Row → Bool) (keys : MatchesKeys match) (s new : State) (ok : Fits s) (e : EntityId) (low : is_low e.ty ≡ true) where
  abbrev its_row : Row
  its_row = entity_row new e

  store-same : (x : Row) → match its_row x ≡ true → (its_row.store == x.store) ≡ true
  store-same x m = left (its_row.store == x.store) (same_entity e x.entity && same_value Null x.value) (keys its_row x m)

  entity-same : (x : Row) → match its_row x ≡ true → same_entity e x.entity ≡ true
  entity-same x m = left (same_entity e x.entity) (same_value Null x.value) (right (its_row.store == x.store) (same_entity e x.entity && same_value Null x.value) (keys its_row x m))

  -- an entity's row, where it doesn't match what the other state has of the entity
  pub row-lacks : ((x : EntityId) → Member x s.live → e ≡ x → match its_row (entity_row s x) ≡ true → ⊥) → lacks match s its_row ≡ true
  row-lacks h =
      ap not (extent-fresh s ok e low its_row refl (match its_row) store-same
      (members s.live (λ x m. m)))
    where
      members : (xs : List EntityId) → ((x : EntityId) → Member x xs → Member x s.live) → list_all (λ x. not (match its_row (entity_row s x))) xs ≡ true
      members [] sub = refl
      members (x ∷ xs) sub =
          both (not (match its_row (entity_row s x))) (list_all (λ y. not (match its_row (entity_row s y))) xs)
          (ap not (never (match its_row (entity_row s x)) (λ m. h x (sub x (λ q a. left (q x) (list_all q xs) a)) (same_entity-is e x (entity-same (entity_row s x) m)) m)))
          (members xs (λ y m. sub y (λ q a. m q (right (q x) (list_all q xs) a))))

-- ---- an entity made

module _ (s : State) (ty : ℕ) (n : IsNearlyLegal s) (low : All (λ a. a.number < 65536) s.schema.attributes) (there : ty < length s.schema.names) where
  made-extents : 1 ≤ in_extents (lacks same_key s) (entity_made s ty)
  made-extents =
      let fresh = next_entity s ty in
      let new = entity_made s ty in
      extents-tally (lacks same_key s) new fresh (λ q a. left (q fresh) (list_all q s.live) (all-unplaced entity_before q fresh s.live a))
      (row-lacks same_key same_key-matches s new (fits s n low) fresh (low-type s n ty there)
      (λ x m e _.
      let apart = unlike s ty n there x (m (is_counted s) n.counted) in
      let here : differ entity_before fresh fresh ≡ true = subst (λ z. differ entity_before fresh z ≡ true) (sym e) apart in
      true≢false (sym here ∙ alone (entity_before fresh fresh) (entity_before-strict.itself fresh))))
    where
      alone : (b : Bool) → b ≡ false → (b || b) ≡ false
      alone true h = absurd (true≢false h)
      alone false h = refl

  pub made-added : 1 ≤ rows_added s (entity_made s ty)
  made-added = let is = added-is s (entity_made s ty) in let one = made-extents in omega (arith, is, one)

  pub made-changed : 1 ≤ rows_changed s (entity_made s ty)
  made-changed = let most = changed-most s (entity_made s ty) in let one = made-added in omega (arith, most, one)

-- ---- a value that changes

pub cells-all : (f g : Attribute → Value) (xs : List Attribute) → same_cells (map f xs) (map g xs) ≡ list_all (λ a. same_value (f a) (g a)) xs
cells-all f g [] = refl
cells-all f g (x ∷ xs) = ap (λ b. same_value (f x) (g x) && b) (cells-all f g xs)

module _ (s : State) (ok : Fits s) (e : EntityId) (ts : List Triple) (a : Attribute) (live : is_live s e ≡ true) (inside : Member a s.schema.attributes) (has : isa s.schema e.ty a.owner ≡ true) (single : a.many ≡ false)
    (in_row : a.column ≡ false) (changes : same_value (value_at a.number e ts) (value_at a.number e s.triples) ≡ false) where
  abbrev moved : State
  moved = record s { triples = ts }

  abbrev in_rows : Attribute → Bool
  in_rows b = not b.many && not b.column

  -- an entity's row, where a single value in it differs
  pub value-extents : 1 ≤ in_extents (lacks same_row s) moved
  value-extents =
      let there = live-member e s.live live in
      extents-tally (lacks same_row s) moved e there
      (row-lacks same_row same_row-matches s moved ok e (live-low s ok e there)
      (λ x m is h.
      let same : same_row (entity_row moved e) (entity_row s e) ≡ true = subst (λ z. same_row (entity_row moved e) (entity_row s z) ≡ true) (sym is) h in
      let columns = filter in_rows (attributes_in s.schema e.ty) in
      let cells = right (same_key (entity_row moved e) (entity_row s e)) (same_cells (entity_row moved e).cells (entity_row s e).cells) same in
      let all = sym (cells-all (λ b. value_at b.number e ts) (λ b. value_at b.number e s.triples) columns) ∙ cells in
      let its : Member a columns =
      filter-member in_rows a (attributes_in s.schema e.ty) (filter-member (λ b. isa s.schema e.ty b.owner) a s.schema.attributes inside has)
      (both (not a.many) (not a.column) (ap not single) (ap not in_row)) in
      true≢false (sym (its (λ b. same_value (value_at b.number e ts) (value_at b.number e s.triples)) all) ∙ changes)))
