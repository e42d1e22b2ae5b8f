-- The laws of keys and rows that are needed here, and the first bytes of rows.
use Rattle.std.proofs.Common.{◌≡◌, ℕ, zero, suc, ◌<◌, ◌^◌, pos, Bool, false, List, [], ◌∷◌, ◌++◌, length, take, replicate, refl, sym, ap, ◌∙◌, arith, true≢false, append-nil}
use Rattle.std.specs.declared.cmp.Ordering.{Ordering}
use Rattle.std.specs.declared.cmp.Ordering.TheVariants.{Less, Equal, Greater}
use Rattle.std.specs.Ordering.{is_lt, is_eq, nat_cmp, ordering_then, MatchOrdering}
use Rattle.std.specs.Cmp.Lexicographic.{slice_cmp}
use Rattle.std.specs.Int.{w32, to_be_bytes}
use Rattle.std.specs.Str.{bytes_eq}
use Rattle.std.proofs.lemmas.Cmp.{nat_list_cmp_total, ranked, tied_itself}
use Rattle.std.proofs.lemmas.List.{take_all}
use Rattle.st_values.specs.declared.value.EntityId.{EntityId}
use Rattle.st_values.specs.declared.value.Kind.{Kind}
use Rattle.st_values.specs.declared.value.Kind.TheVariants as kind
use Rattle.st_values.specs.declared.value.Value.{Value}
use Rattle.st_values.specs.declared.value.Value.TheVariants.{Int, Entity}
use Rattle.st_values.specs.Order.{value_order, entity_before, same_entity, entity_order}
use Rattle.st_values.proofs.Entities.{same_entity-is}
use Rattle.st_values.proofs.Tests.{either, never}
use Rattle.st_lattice.specs.Outline.{Outline}
use Rattle.st_keys.specs.Keys.{Fits, IsEntity, key, width, entity_key}
use Rattle.st_rows.specs.declared.field.Field.{Field}
use Rattle.st_rows.specs.Rows.{fields_width, AreHeld, row, row_fields, pair_fields, pair_values, pair_width, pair_order}
use Rattle.st_image.specs.Grammar.{row_before}
use Rattle.st_state.specs.State.{State}
use Rattle.st_store.proofs.Ordering.{bytes-same, same-bytes}
use Rattle.st_standing.specs.Standing.{entity_bytes, pair_bytes}

-- what `laws_of_keys` and `laws_of_rows` say
pub record RowLaws : Type 0 where
  pub key_width : (kind : Kind) (a : Value) → Fits kind a → length (key kind a) ≡ width kind
  pub key_order : (kind : Kind) (a b : Value) → Fits kind a → Fits kind b → slice_cmp nat_cmp (key kind a) (key kind b) ≡ value_order a b
  pub width : (fields : List Field) (values : List Value) → AreHeld fields values → length (row fields values) ≡ fields_width fields
  pub pair_width : (kind : Kind) (turned : Bool) → fields_width (pair_fields kind turned) ≡ pair_width kind
  pub pairs : (kind : Kind) (turned : Bool) (a b : Value) (x y : EntityId) → Fits kind a → Fits kind b → IsEntity x → IsEntity y
      → slice_cmp nat_cmp (row (pair_fields kind turned) (pair_values turned a x)) (row (pair_fields kind turned) (pair_values turned b y)) ≡ pair_order turned a x b y
  pub serials : (schema : Outline) (ty m n : ℕ) (xs ys : List Value) → m < 2 ^ 32 → n < 2 ^ 32
      → slice_cmp nat_cmp (take 4 (row (row_fields schema ty) (Int (pos m) ∷ xs))) (take 4 (row (row_fields schema ty) (Int (pos n) ∷ ys))) ≡ nat_cmp m n

-- ---- the first bytes of rows

-- those of an entity and a value are the entity's key
pub take-entity : (kind : Kind) (v : Value) (e : EntityId) → take 6 (pair_bytes kind v e) ≡ entity_key e
take-entity kind v e = refl

-- those of an entity in its extent are its serial
pub take-serial : (s : State) (e : EntityId) → take 4 (entity_bytes s e) ≡ to_be_bytes w32 e.serial
take-serial s e = refl

-- ---- the order of bytes

regroup : (a b c : Ordering) → ordering_then a (ordering_then b c) ≡ ordering_then (ordering_then a b) c
regroup Less b c = refl
regroup Equal b c = refl
regroup Greater b c = refl

-- of two lists with fronts of one length the fronts decide, and then the rest
by-parts : (xs ys us vs : List ℕ) → length xs ≡ length ys → slice_cmp nat_cmp (xs ++ us) (ys ++ vs) ≡ ordering_then (slice_cmp nat_cmp xs ys) (slice_cmp nat_cmp us vs)
by-parts [] [] us vs h = refl
by-parts [] (y ∷ ys) us vs h = absurd (omega arith)
by-parts (x ∷ xs) [] us vs h = absurd (omega arith)
by-parts (x ∷ xs) (y ∷ ys) us vs h =
    ap (λ (o : Ordering). ordering_then (nat_cmp x y) o) (by-parts xs ys us vs (omega arith)) ∙ regroup (nat_cmp x y) (slice_cmp nat_cmp xs ys) (slice_cmp nat_cmp us vs)

-- no bytes stand before as many zeros
not-below-zeros : (xs : List ℕ) (n : ℕ) → length xs ≡ n → is_lt (slice_cmp nat_cmp xs (replicate n 0)) ≡ false
not-below-zeros [] zero h = refl
not-below-zeros [] (suc n) h = absurd (omega arith)
not-below-zeros (x ∷ xs) zero h = absurd (omega arith)
not-below-zeros (x ∷ xs) (suc n) h = by (nat_cmp x 0) (ranked x 0 (nat_cmp x 0) refl) (slice_cmp nat_cmp xs (replicate n 0)) (not-below-zeros xs n (omega arith))
  where
    by : (o : Ordering) → MatchOrdering o (x < 0) (x ≡ 0) (0 < x) → (r : Ordering) → is_lt r ≡ false → is_lt (ordering_then o r) ≡ false
    by Less m r k = absurd (omega arith)
    by Equal m r k = k
    by Greater m r k = refl

-- where a second order doesn't put one before another, the first one decides
first-decides : (a b : Ordering) → is_lt b ≡ false → is_lt (ordering_then a b) ≡ is_lt a
first-decides Less b h = refl
first-decides Equal b h = h
first-decides Greater b h = refl

module _ (laws : RowLaws) where
  pub pair-long : (kind : Kind) (v : Value) (e : EntityId) → Fits kind v → IsEntity e → length (pair_bytes kind v e) ≡ pair_width kind
  pair-long kind v e f h = laws.width (pair_fields kind false) (pair_values false v e) (h, (f, tt)) ∙ laws.pair_width kind false

  -- all of a row of an entity and a value is its key
  pub take-pair : (kind : Kind) (v : Value) (e : EntityId) → Fits kind v → IsEntity e → take (pair_width kind) (pair_bytes kind v e) ≡ pair_bytes kind v e
  take-pair kind v e f h = take_all (pair_width kind) (pair_bytes kind v e) (omega (arith, pair-long kind v e f h))

  -- ---- the order of entities' keys

  pub entity-keys : (x y : EntityId) → IsEntity x → IsEntity y → slice_cmp nat_cmp (entity_key x) (entity_key y) ≡ entity_order x y
  entity-keys x y h k = laws.key_order (kind.Entity 0) (Entity x) (Entity y) h k

  pub entity-key-before : (kind other : Kind) (v w : Value) (x y : EntityId) → IsEntity x → IsEntity y → row_before 6 (pair_bytes kind v x) (pair_bytes other w y) ≡ entity_before x y
  entity-key-before kind other v w x y h k = ap is_lt (entity-keys x y h k)

  -- keys are the same where the entities are
  pub entity-key-same : (x y : EntityId) → IsEntity x → IsEntity y → bytes_eq (entity_key x) (entity_key y) ≡ same_entity x y
  entity-key-same x y h k =
      either (same_entity x y) (λ b. bytes_eq (entity_key x) (entity_key y) ≡ b) (λ m. same-bytes (entity_key x) (entity_key y) (ap entity_key (same_entity-is x y m)))
      (λ m. never (bytes_eq (entity_key x) (entity_key y)) (λ n.
      let same : slice_cmp nat_cmp (entity_key x) (entity_key y) ≡ Equal =
      ap (slice_cmp nat_cmp (entity_key x)) (sym (bytes-same (entity_key x) (entity_key y) n)) ∙ tied_itself nat_list_cmp_total (entity_key x) in
      true≢false (sym (ap is_eq (sym (entity-keys x y h k) ∙ same)) ∙ m)))

  -- ---- the order of serials

  pub serial-before : (s : State) (x y : EntityId) → IsEntity x → IsEntity y → row_before 4 (entity_bytes s x) (entity_bytes s y) ≡ is_lt (nat_cmp x.serial y.serial)
  serial-before s x y h k = ap is_lt (laws.serials s.schema 0 x.serial y.serial [] [] h.1 k.1)

  -- ---- the order of rows of an entity and a value

  pub pair-before : (kind : Kind) (v w : Value) (x y : EntityId) → Fits kind v → Fits kind w → IsEntity x → IsEntity y
      → row_before (pair_width kind) (pair_bytes kind v x) (pair_bytes kind w y) ≡ is_lt (ordering_then (entity_order x y) (value_order v w))
  pair-before kind v w x y f g h k =
      ap is_lt ((λ i. slice_cmp nat_cmp (take-pair kind v x f h i) (take-pair kind w y g k i)) ∙ laws.pairs kind false v w x y f g h k)

  -- a row of an entity and zeros stands in front of all rows of the entity
  pub from-entity : (kind : Kind) (v : Value) (x e : EntityId) (row : List ℕ) → Fits kind v → IsEntity x → IsEntity e → take (pair_width kind) row ≡ entity_key e ++ replicate (width kind) 0
      → row_before (pair_width kind) (pair_bytes kind v x) row ≡ entity_before x e
  from-entity kind v x e row f h k r =
      ap is_lt
      ((λ i. slice_cmp nat_cmp (take-pair kind v x f h i) (r i))
      ∙ by-parts (entity_key x) (entity_key e) (key kind v ++ []) (replicate (width kind) 0) refl
      ∙ ap (λ (o : Ordering). ordering_then o (slice_cmp nat_cmp (key kind v ++ []) (replicate (width kind) 0))) (entity-keys x e h k))
      ∙ first-decides (entity_order x e) (slice_cmp nat_cmp (key kind v ++ []) (replicate (width kind) 0))
      (not-below-zeros (key kind v ++ []) (width kind) (ap length (append-nil (key kind v)) ∙ laws.key_width kind v f))
