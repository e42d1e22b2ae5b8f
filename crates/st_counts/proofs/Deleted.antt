-- The rows that change with an entity that is deleted.
use Rattle.std.proofs.Common.{◌≡◌, ℕ, ◌+◌, ◌*◌, ◌<◌, ◌≤◌, Bool, true, false, List, [], ◌++◌, Option, Some, None, refl, sym, ap, subst, ◌∙◌, arith, true≢false}
use Rattle.std.specs.Prelude.{◌==◌, not, ◌&&◌, ◌||◌, map, filter, find, if◌then◌else◌}
use Rattle.std.specs.List.{All, list_all, list_any}
use Rattle.st_values.specs.declared.value.EntityId.{EntityId}
use Rattle.st_values.specs.declared.value.Value.TheVariants.{Entity}
use Rattle.st_values.specs.Order.{same_entity, same_value}
use Rattle.st_values.proofs.Entities.{same_entity-itself, same_value-is}
use Rattle.st_values.proofs.Tests.{all-filter, all-filtered, any-never, any-ruled, both, either, left, never, not-true, or-right, right}
use Rattle.st_lattice.specs.declared.attribute.Attribute.{Attribute}
use Rattle.st_lattice.specs.declared.stores.StoreKind.{StoreKind}
use Rattle.st_lattice.specs.declared.stores.StoreKind.TheVariants.{Set, Index, Inverse, Column}
use Rattle.st_lattice.specs.Lattice.{attributes_in}
use Rattle.st_lattice.specs.Stores.{keeps}
use Rattle.st_state.specs.declared.triple.Triple.{Triple}
use Rattle.st_state.specs.State.{State, entity_deleted, is_at, is_live, same_triple, speaks_of, value_at, value_in}
use Rattle.st_state.specs.Legal.{IsNearlyLegal}
use Rattle.st_state.specs.Rows.{Row, attribute_rows, column_row, entity_row, kept_rows, keyed_row, rows, rows_changed, same_cells, same_key}
use Rattle.st_state.proofs.Changed.{number-is}
use Rattle.st_state.proofs.Members.{Member, all-members, find-member, member-passes}
use Rattle.st_counts.specs.Counts.{keyed_count, kept_count, refers_in_row, referring_rows, spoken_count, spoken_rows}
use Rattle.st_counts.proofs.Tallies.{any-none, tally, tally-append, tally-kept, tally-map, tally-sum, tally-within}
use Rattle.st_counts.proofs.Unlike.{Fits, IsKeyed, fits, index-keyed, inverse-keyed, is_low, keyed-fresh, set-keyed}
use Rattle.st_counts.proofs.Fresh.{in_extents, in_parts, lacks, part, rows-tally, same_key-matches, same_row, same_row-matches}
use Rattle.st_counts.proofs.Entities.{cells-all, extents-tally, live-low, live-member, row-lacks}
use Rattle.st_counts.proofs.Members.{same_triple-is}

module _ (s : State) (e : EntityId) (n : IsNearlyLegal s) (low : All (λ a. a.number < 65536) s.schema.attributes) where
  abbrev new : State
  new = entity_deleted s e

  ok : Fits s
  ok = fits s n low

  ok_new : Fits new
  ok_new = record { types = all-filter (λ x. is_low x.ty) (λ other. not (same_entity other e)) s.live ok.types; numbers = ok.numbers }

  abbrev gone : Row → Bool
  gone = lacks same_key new

  -- ---- the entity's own row

  own : is_live s e ≡ true → 1 ≤ in_extents gone s
  own live =
      let there = live-member e s.live live in
      extents-tally gone s e there
      (row-lacks same_key same_key-matches new s ok_new e (live-low s ok e there)
      (λ x m is _.
      true≢false (sym (same_entity-itself e) ∙ ap (λ z. same_entity z e) is ∙ not-true (same_entity x e) (member-passes (λ other. not (same_entity other e)) x s.live m))))

  -- ---- the rows of triples that speak of it

  triple-gone : (t : Triple) → speaks_of e t ≡ true → list_any (same_triple t) new.triples ≡ false
  triple-gone t h =
      any-none (same_triple t) new.triples
      (all-filtered (λ u. not (speaks_of e u)) (λ u. not (same_triple t u)) s.triples
      (λ u k. ap not (never (same_triple t u) (λ m. true≢false (sym h ∙ ap (speaks_of e) (same_triple-is t u m) ∙ not-true (speaks_of e u) k)))))

  module _ (a : Attribute) (a_low : is_low a.number ≡ true) where
    abbrev is_its : Triple → Bool
    is_its t = t.attribute == a.number

    abbrev its : List Triple
    its = filter is_its s.triples

    row-gone : (kind : StoreKind) → IsKeyed kind → list_all (λ t. not (speaks_of e t) || gone (keyed_row kind t)) its ≡ true
    row-gone kind keyed =
        all-members (λ t. not (speaks_of e t) || gone (keyed_row kind t)) its
        (λ t m. either (speaks_of e t) (λ b. speaks_of e t ≡ b → (not b || gone (keyed_row kind t)) ≡ true)
        (λ k _.
        ap not (keyed-fresh new ok_new t (subst (λ z. is_low z ≡ true) (sym (number-is t.attribute a.number (member-passes is_its t s.triples m))) a_low) (triple-gone t k) kind keyed))
        (λ _ _. refl) refl)

    kept-gone : (kind : StoreKind) → IsKeyed kind → kept_count kind a * spoken_count s e a ≤ tally gone (kept_rows kind (keyed_row kind) a its)
    kept-gone kind keyed =
        either (keeps kind a) (λ b. (if b then 1 else 0) * spoken_count s e a ≤ tally gone (if b then map (keyed_row kind) its else []))
        (λ _.
        let same = tally-map gone (keyed_row kind) its in
        let less = tally-within (speaks_of e) (λ t. gone (keyed_row kind t)) its (row-gone kind keyed) in
        omega (arith, same, less)) (λ _. omega arith)

    part-gone : keyed_count a * spoken_count s e a ≤ tally gone (attribute_rows a its)
    part-gone =
        let set = kept_rows Set (keyed_row Set) a its in
        let index = kept_rows Index (keyed_row Index) a its in
        let inverse = kept_rows Inverse (keyed_row Inverse) a its in
        let column = kept_rows Column column_row a its in
        let one = tally-append gone ((set ++ index) ++ inverse) column in
        let two = tally-append gone (set ++ index) inverse in
        let three = tally-append gone set index in
        sums (kept_count Set a) (kept_count Index a) (kept_count Inverse a) (spoken_count s e a) (tally gone set) (tally gone index) (tally gone inverse) (tally gone column)
        (tally gone (set ++ index)) (tally gone ((set ++ index) ++ inverse)) (tally gone (((set ++ index) ++ inverse) ++ column))
        (kept-gone Set set-keyed) (kept-gone Index index-keyed) (kept-gone Inverse inverse-keyed) three two one
      where
        spread : (a b c k x y z : ℕ) → a * k ≤ x → b * k ≤ y → c * k ≤ z → (a + (b + c)) * k ≤ x + (y + z)
        spread a b c k x y z h i j = grind (arith, h, i, j)

        sums : (a b c k x y z w m p q : ℕ) → a * k ≤ x → b * k ≤ y → c * k ≤ z → m ≡ x + y → p ≡ m + z → q ≡ p + w → (a + (b + c)) * k ≤ q
        sums a b c k x y z w m p q h i j o r t = let all = spread a b c k x y z h i j in ends ((a + (b + c)) * k) x y z w m p q all o r t
          where
            ends : (l x y z w m p q : ℕ) → l ≤ x + (y + z) → m ≡ x + y → p ≡ m + z → q ≡ p + w → l ≤ q
            ends l x y z w m p q h o r t = omega (arith, h, o, r, t)

  parts-gone : spoken_rows s e ≤ in_parts gone s
  parts-gone = tally-sum gone (part s) (λ a. keyed_count a * spoken_count s e a) s.schema.attributes (λ a m. part-gone a (m (λ b. is_low b.number) ok.numbers))

  -- ---- the rows of others that refer to it

  -- nobody has it as a value behind
  value-never : (number : ℕ) (x : EntityId) → same_value (value_at number x new.triples) (Entity e) ≡ false
  value-never number x = by (find (is_at number x) new.triples) refl
    where
      by : (o : Option Triple) → find (is_at number x) new.triples ≡ o → same_value (value_in o) (Entity e) ≡ false
      by None f = refl
      by (Some u) f =
          or-right (same_entity u.entity e) (same_value u.value (Entity e))
          (not-true (speaks_of e u) (member-passes (λ t. not (speaks_of e t)) u s.triples (find-member (is_at number x) u new.triples f)))

  others : referring_rows s e ≤ in_extents (lacks same_row s) new
  others =
      let kept = (λ (other : EntityId). not (same_entity other e)) in
      let first = tally-map (lacks same_row s) (entity_row new) new.live in
      let second = tally-kept kept (λ x. lacks same_row s (entity_row new x)) s.live in
      let third = tally-within (refers_in_row s e) (λ x. kept x && lacks same_row s (entity_row new x)) s.live
      (all-members (λ x. not (refers_in_row s e x) || (kept x && lacks same_row s (entity_row new x))) s.live (λ x m. each x m)) in
      ends (referring_rows s e) (tally (λ x. kept x && lacks same_row s (entity_row new x)) s.live) (tally (λ x. lacks same_row s (entity_row new x)) new.live) (in_extents (lacks same_row s) new) third second first
    where
      ends : (k x y z : ℕ) → k ≤ x → y ≡ x → z ≡ y → k ≤ z
      ends k x y z h i j = omega (arith, h, i, j)

      columns : EntityId → List Attribute
      columns x = filter (λ a. not a.many && not a.column) (attributes_in s.schema x.ty)

      changes : (x : EntityId) → Member x s.live → list_any (λ a. same_value (value_at a.number x s.triples) (Entity e)) (columns x) ≡ true → lacks same_row s (entity_row new x) ≡ true
      changes x m has =
          row-lacks same_row same_row-matches s new ok x (live-low s ok x m)
          (λ y _ is h.
          let same : same_row (entity_row new x) (entity_row s x) ≡ true = subst (λ z. same_row (entity_row new x) (entity_row s z) ≡ true) (sym is) h in
          let cells = right (same_key (entity_row new x) (entity_row s x)) (same_cells (entity_row new x).cells (entity_row s x).cells) same in
          let all = sym (cells-all (λ b. value_at b.number x new.triples) (λ b. value_at b.number x s.triples) (columns x)) ∙ cells in
          true≢false (sym (any-ruled (λ a. same_value (value_at a.number x s.triples) (Entity e)) (λ b. same_value (value_at b.number x new.triples) (value_at b.number x s.triples)) (λ _. false) (columns x)
          (λ a k l.
          let old = same_value-is (value_at a.number x s.triples) (Entity e) k in
          absurd (true≢false (sym (subst (λ z. same_value (value_at a.number x new.triples) z ≡ true) old l) ∙ value-never a.number x))) has all) ∙ any-never (columns x)))

      each : (x : EntityId) → Member x s.live → (not (refers_in_row s e x) || (not (same_entity x e) && lacks same_row s (entity_row new x))) ≡ true
      each x m =
          either (refers_in_row s e x) (λ b. refers_in_row s e x ≡ b → (not b || (not (same_entity x e) && lacks same_row s (entity_row new x))) ≡ true)
          (λ k _.
          let refers = list_any (λ a. same_value (value_at a.number x s.triples) (Entity e)) (columns x) in
          both (not (same_entity x e)) (lacks same_row s (entity_row new x)) (left (not (same_entity x e)) refers k) (changes x m (right (not (same_entity x e)) refers k)))
          (λ _ _. refl) refl

  pub deleted-changed : is_live s e ≡ true → 1 + spoken_rows s e + referring_rows s e ≤ rows_changed s new
  deleted-changed live =
      let first = rows-tally (lacks same_row s) new in
      let second = rows-tally gone s in
      ends (spoken_rows s e) (referring_rows s e) (in_extents (lacks same_row s) new) (in_parts (lacks same_row s) new) (in_extents gone s) (in_parts gone s)
      (tally (lacks same_row s) (rows new)) (tally gone (rows s)) (own live) parts-gone others first second
    where
      ends : (k l x y z w p q : ℕ) → 1 ≤ z → k ≤ w → l ≤ x → p ≡ x + y → q ≡ z + w → 1 + k + l ≤ p + q
      ends k l x y z w p q h i j m o = omega (arith, h, i, j, m, o)
