-- In how many fewer rows a state speaks of an entity where a value that speaks of it is taken out of a set.
use Rattle.std.proofs.Common.{◌≡◌, ℕ, ◌+◌, ◌*◌, ◌≤◌, Bool, true, false, cond, List, [], ◌∷◌, length, Some, None, refl, sym, ap, ◌∙◌, arith, true≢false, if◌then◌else◌}
use Rattle.std.specs.Prelude.{◌==◌, ◌&&◌, not, filter, find, slice_index_or}
use Rattle.std.specs.List.{All, sum_by}
use Rattle.std.proofs.Math.Nat.{mul-le-mul_left}
use Rattle.std.proofs.lemmas.List.Elements.{All-filter, filter_passes}
use Rattle.std.proofs.lemmas.List.Sums.{sum_by-cons}
use Rattle.st_values.specs.declared.value.EntityId.{EntityId}
use Rattle.st_values.specs.declared.value.Value.{Value}
use Rattle.st_values.specs.declared.value.Value.TheVariants.{Entity}
use Rattle.st_values.specs.Order.{same_entity, same_value}
use Rattle.st_values.proofs.Tests.{either, left, never, not-true}
use Rattle.st_lattice.specs.declared.attribute.Attribute.{Attribute}
use Rattle.st_lattice.specs.Lattice.{attributes_in, isa}
use Rattle.st_lattice.specs.Outline.{attribute}
use Rattle.st_state.specs.declared.triple.Triple.{Triple}
use Rattle.st_state.specs.State.{State, has_value, member_taken, same_triple, speaks_of, value_at}
use Rattle.st_state.specs.Legal.{IsNearlyLegal}
use Rattle.st_state.proofs.Changed.{number-is, number-itself}
use Rattle.st_state.proofs.Members.{Member, filter-member, find-passes, some-is}
use Rattle.st_index.proofs.Changes.{any-same}
use Rattle.st_counts.specs.Counts.{keyed_count, refers_in_row, referring_rows, spoken_count, spoken_rows, turned_count}
use Rattle.st_counts.proofs.Members.{same-member}
use Rattle.st_counts.proofs.Tallies.{tally-weaken}
use Rattle.st_standing.proofs.Filtered.{filter-swap}
use Rattle.st_standing.proofs.Fitting.{each-found}
use Rattle.st_standing.proofs.OfKind.{same_triple-itself}
use Rattle.st_standing.proofs.ValueAt.{taken-others, value_at-same}
use Rattle.st_lookups.specs.Looks.{is_cell}
use Rattle.st_removals.specs.Clears.{tally}
use Rattle.st_removals.proofs.AllCounted.{no-more-pass, one-fails, sum-less}

-- ---- sums

none-some : {X : Type 0} (x : X) → None ≡ Some x → ⊥
none-some x e = cc

-- a sum is no less than what is summed of one that is found
found-sum : {X : Type 0} (f : X → ℕ) (p : X → Bool) (x : X) (xs : List X) → find p xs ≡ Some x → f x ≤ sum_by f xs
found-sum f p x [] h = absurd (none-some x h)
found-sum f p x (y ∷ ys) h =
    let is = sum_by-cons f y ys in
    either (p y) (λ _. f x ≤ sum_by f (y ∷ ys))
    (λ k. let same = ap f (some-is y x (sym (ap (λ b. cond b (Some y) (find p ys)) k) ∙ h)) in omega (arith, is, same))
    (λ k. let rest = found-sum f p x ys (sym (ap (λ b. cond b (Some y) (find p ys)) k) ∙ h) in omega (arith, is, rest))

-- one less, as many times
times-one-less : (c x y : ℕ) → 1 + x ≤ y → c + c * x ≤ c * y
times-one-less c x y h = let more = mul-le-mul_left c h in spread c x (c * y) more
  where
    spread : (c x z : ℕ) → c * (1 + x) ≤ z → c + c * x ≤ z
    spread c x z h = grind (arith, h)

module _ (s : State) (legal : IsNearlyLegal s) (number : ℕ) (h : EntityId) (v : Value) (a : Attribute) (f : attribute s.schema number ≡ Some a) (many : a.many ≡ true) (e : EntityId) where
  abbrev T : State
  T = member_taken s number h v

  abbrev gone : Triple
  gone = record { attribute = number; entity = h; value = v }

  abbrev stays : Triple → Bool
  stays t = not (same_triple gone t)

  -- ---- rows of entities

  apart : (b : Attribute) → attribute s.schema b.number ≡ Some b → b.many ≡ false → (b.number == number) ≡ false
  apart b g one =
      never (b.number == number) (λ m.
      true≢false (sym many ∙ ap (λ (x : Attribute). x.many) (some-is a b (sym f ∙ ap (attribute s.schema) (sym (number-is b.number number m)) ∙ g)) ∙ one))

  -- single values are what they were, so the same rows refer to the entity
  same-row : (x : EntityId) → refers_in_row T e x ≡ refers_in_row s e x
  same-row x =
      let columns = filter is_cell (attributes_in s.schema x.ty) in
      let founds : All (λ b. attribute s.schema b.number ≡ Some b) columns =
      All-filter is_cell (λ b. attribute s.schema b.number ≡ Some b) (attributes_in s.schema x.ty)
      (All-filter (λ b. isa s.schema x.ty b.owner) (λ b. attribute s.schema b.number ≡ Some b) s.schema.attributes (each-found s.schema.attributes legal.consistent.numbers)) in
      ap (λ (b : Bool). not (same_entity x e) && b)
      (any-same (λ b. same_value (value_at b.number x T.triples) (Entity e)) (λ b. same_value (value_at b.number x s.triples) (Entity e)) columns
      (λ k d l.
      let b = slice_index_or columns k d in
      let one = not-true b.many (left (not b.many) (not b.column) (filter_passes is_cell (attributes_in s.schema x.ty) k d l)) in
      ap (λ (w : Value). same_value w (Entity e)) (value_at-same b.number x s.triples T.triples (taken-others number b.number (apart b (founds k d l) one) s h v))))

  same-rows : referring_rows T e ≤ referring_rows s e
  same-rows = tally-weaken (refers_in_row T e) (refers_in_row s e) (λ x k. sym (same-row x) ∙ k) s.live

  -- ---- rows of triples

  abbrev spoken : Attribute → List Triple
  spoken b = filter (speaks_of e) (filter (λ t. t.attribute == b.number) s.triples)

  -- those that speak of it are those that did, but for the one that is gone
  count-left : (b : Attribute) → spoken_count T e b ≡ length (filter stays (spoken b))
  count-left b =
      ap (λ (l : List Triple). length l)
      (ap (filter (speaks_of e)) (filter-swap stays (λ t. t.attribute == b.number) s.triples) ∙ filter-swap stays (speaks_of e) (filter (λ t. t.attribute == b.number) s.triples))

  no-more : (b : Attribute) → spoken_count T e b ≤ spoken_count s e b
  no-more b = let is = count-left b in let less = no-more-pass stays (spoken b) in omega (arith, is, less)

  -- no more rows speak of it than did
  pub taken-no-more : tally (member_taken s number h v) e ≤ tally s e
  taken-no-more =
      let rows = same-rows in
      let less =
      sum-less (λ b. 0) (λ b. keyed_count b * spoken_count T e b) (λ b. keyed_count b * spoken_count s e b) s.schema.attributes
      (λ k d l. let b = slice_index_or s.schema.attributes k d in let each = mul-le-mul_left (keyed_count b) (no-more b) in omega (arith, each)) in
      omega (arith, rows, less)

  module _ (speaks : speaks_of e (record { attribute = number; entity = h; value = v }) ≡ true) (has : has_value s number h v ≡ true) where
    one-less : (b : Attribute) → (b.number == number) ≡ true → 1 + spoken_count T e b ≤ spoken_count s e b
    one-less b its =
        let number_is : (number == b.number) ≡ true = ap (λ (n : ℕ). number == n) (number-is b.number number its) ∙ number-itself number in
        let there : Member gone (spoken b) =
        filter-member (speaks_of e) gone (filter (λ t. t.attribute == b.number) s.triples) (filter-member (λ t. t.attribute == b.number) gone s.triples (same-member gone s.triples has) number_is) speaks in
        let is = count-left b in
        let less = one-fails stays gone (spoken b) there (ap not (same_triple-itself gone)) in
        omega (arith, is, less)

    -- the rows that go of the attribute
    abbrev share : Attribute → ℕ
    share b = if b.number == number then keyed_count b else 0

    attribute-fewer : (b : Attribute) → share b + keyed_count b * spoken_count T e b ≤ keyed_count b * spoken_count s e b
    attribute-fewer b =
        either (b.number == number) (λ c. (b.number == number) ≡ c → (if c then keyed_count b else 0) + keyed_count b * spoken_count T e b ≤ keyed_count b * spoken_count s e b)
        (λ _ its. times-one-less (keyed_count b) (spoken_count T e b) (spoken_count s e b) (one-less b its))
        (λ _ _. let each = mul-le-mul_left (keyed_count b) (no-more b) in omega (arith, each)) refl

    -- its row in the set, and one in each store that keeps the attribute turned round
    its-share : 1 + turned_count a ≤ sum_by share s.schema.attributes
    its-share =
        let found = found-sum share (λ b. b.number == number) a s.schema.attributes f in
        let its : (a.number == number) ≡ true = find-passes (λ b. b.number == number) a s.schema.attributes f in
        let all : share a ≡ keyed_count a = ap (λ (c : Bool). if c then keyed_count a else 0) its in
        let set : keyed_count a ≡ 1 + turned_count a = ap (λ (c : Bool). (if c then 1 else 0) + turned_count a) many in
        omega (arith, found, all, set)

    pub taken-counted : 1 + turned_count a + tally (member_taken s number h v) e ≤ tally s e
    taken-counted =
        let rows = same-rows in
        let its = its-share in
        let less = sum-less share (λ b. keyed_count b * spoken_count T e b) (λ b. keyed_count b * spoken_count s e b) s.schema.attributes (λ k d l. attribute-fewer (slice_index_or s.schema.attributes k d)) in
        sums (turned_count a) (spoken_rows T e) (referring_rows T e) (spoken_rows s e) (referring_rows s e) (sum_by share s.schema.attributes) its less rows
      where
        sums : (t x y z w c : ℕ) → 1 + t ≤ c → c + x ≤ z → y ≤ w → 1 + t + (x + y) ≤ z + w
        sums t x y z w c h i j = omega (arith, h, i, j)
