-- Triples of which one part is all of an attribute: what speaks of this attribute alone speaks of this part alone.
use Rattle.std.proofs.Common.{◌≡◌, ℕ, Bool, true, false, List, ◌++◌, refl, sym, ap, ◌∙◌, arith, true≢false}
use Rattle.std.specs.Prelude.{◌==◌, not, ◌&&◌, ◌||◌, nat_lt, cond, map, filter, find}
use Rattle.std.specs.List.{list_all, list_any}
use Rattle.st_values.specs.declared.value.EntityId.{EntityId}
use Rattle.st_values.specs.declared.value.Value.{Value}
use Rattle.st_values.specs.Order.{entity_before, same_entity, value_before, same_value}
use Rattle.st_values.proofs.Tests.{left, either, never, all-weaken, first-of}
use Rattle.st_state.specs.declared.triple.Triple.{Triple}
use Rattle.st_state.specs.State.{triple_before, same_triple, is_at, with_triple, value_in, value_at, values_at, turned, triple_added, triple_taken}
use Rattle.st_state.proofs.Changed.{number-is, number-itself}
use Rattle.st_triples.specs.Marked.{triple_of}
use Rattle.st_triples.specs.Columns.{IsPart}
use Rattle.st_triples.proofs.Parts.{filter-part, find-part, any-part, kept-part, placed-part}
use Rattle.st_triples.proofs.Keys.{number-not-below}

module _ (a : ℕ) (front part back : List Triple) (lo : list_all (λ t. nat_lt t.attribute a) front ≡ true) (hi : list_all (λ t. nat_lt a t.attribute) back ≡ true) where
  abbrev whole : List Triple
  whole = front ++ (part ++ back)

  -- ---- tests that only triples of the attribute pass

  module _ (p : Triple → Bool) (of : (t : Triple) → p t ≡ true → (t.attribute == a) ≡ true) where
    none-lower : list_all (λ t. not (p t)) front ≡ true
    none-lower =
        all-weaken (λ t. nat_lt t.attribute a) (λ t. not (p t))
        (λ t h. ap not (never (p t) (λ k. true≢false (sym h ∙ ap (λ n. nat_lt n a) (number-is t.attribute a (of t k)) ∙ number-not-below a)))) front lo

    none-higher : list_all (λ t. not (p t)) back ≡ true
    none-higher =
        all-weaken (λ t. nat_lt a t.attribute) (λ t. not (p t))
        (λ t h. ap not (never (p t) (λ k. true≢false (sym h ∙ ap (λ n. nat_lt a n) (number-is t.attribute a (of t k)) ∙ number-not-below a)))) back hi

    pub filter-whole : filter p whole ≡ filter p part
    filter-whole = filter-part p front part back none-lower none-higher

    pub find-whole : find p whole ≡ find p part
    find-whole = find-part p front part back none-lower none-higher

    pub any-whole : list_any p whole ≡ list_any p part
    any-whole = any-part p front part back none-lower none-higher

    pub kept-whole : filter (λ t. not (p t)) whole ≡ front ++ (filter (λ t. not (p t)) part ++ back)
    kept-whole = kept-part (λ t. not (p t)) front part back none-lower none-higher

  -- ---- one triple more

  pub placed-whole : (t : Triple) → t.attribute ≡ a → with_triple t whole ≡ front ++ (with_triple t part ++ back)
  placed-whole t e =
      placed-part triple_before t front part back
      (all-weaken (λ u. nat_lt u.attribute a) (λ u. triple_before u t)
      (λ u h. first-of (nat_lt u.attribute t.attribute) ((u.attribute == t.attribute) && (entity_before u.entity t.entity || (same_entity u.entity t.entity && value_before u.value t.value))) (ap (nat_lt u.attribute) e ∙ h)) front lo)
      (all-weaken (λ u. nat_lt a u.attribute) (λ u. not (triple_before u t))
      (λ u h. ap not (behind u t (ap (λ n. nat_lt n u.attribute) e ∙ h))) back hi)
    where
      not-lower : (x y : ℕ) → nat_lt y x ≡ true → nat_lt x y ≡ false
      not-lower x y h = grind (arith, h)

      not-equal : (x y : ℕ) → nat_lt y x ≡ true → (x == y) ≡ false
      not-equal x y h = grind (arith, h)

      behind : (u t : Triple) → nat_lt t.attribute u.attribute ≡ true → triple_before u t ≡ false
      behind u t h =
          ap (λ b. b || ((u.attribute == t.attribute) && (entity_before u.entity t.entity || (same_entity u.entity t.entity && value_before u.value t.value)))) (not-lower u.attribute t.attribute h)
          ∙ ap (λ b. b && (entity_before u.entity t.entity || (same_entity u.entity t.entity && value_before u.value t.value))) (not-equal u.attribute t.attribute h)

-- ---- an attribute's triples are a part

at-of : (a : ℕ) (e : EntityId) (t : Triple) → is_at a e t ≡ true → (t.attribute == a) ≡ true
at-of a e t h = left (t.attribute == a) (same_entity t.entity e) h

same-of : (a : ℕ) (e : EntityId) (v : Value) (t : Triple) → same_triple (triple_of a e v) t ≡ true → (t.attribute == a) ≡ true
same-of a e v t h =
    ap (λ n. n == a) (sym (number-is a t.attribute (left (a == t.attribute) (same_entity e t.entity && same_value v t.value) h))) ∙ number-itself a

held-of : (a : ℕ) (v : Value) (t : Triple) → ((t.attribute == a) && same_value t.value v) ≡ true → (t.attribute == a) ≡ true
held-of a v t h = left (t.attribute == a) (same_value t.value v) h

module _ (a : ℕ) (cells triples : List Triple) (w : IsPart a cells triples) where
  pub value_at-part : (e : EntityId) → value_at a e triples ≡ value_at a e cells
  value_at-part e = ap (value_at a e) w.whole ∙ ap value_in (find-whole a w.front cells w.back w.lower w.higher (is_at a e) (at-of a e))

  pub values_at-part : (e : EntityId) → values_at a e triples ≡ values_at a e cells
  values_at-part e = ap (values_at a e) w.whole ∙ ap (map (λ (t : Triple). t.value)) (filter-whole a w.front cells w.back w.lower w.higher (is_at a e) (at-of a e))

  pub turned-part : (v : Value) → turned a v triples ≡ turned a v cells
  turned-part v =
      ap (turned a v) w.whole
      ∙ ap (map (λ (t : Triple). t.entity)) (filter-whole a w.front cells w.back w.lower w.higher (λ t. (t.attribute == a) && same_value t.value v) (held-of a v))

  pub any-same-part : (e : EntityId) (v : Value) → list_any (same_triple (triple_of a e v)) triples ≡ list_any (same_triple (triple_of a e v)) cells
  any-same-part e v =
      ap (list_any (same_triple (triple_of a e v))) w.whole ∙ any-whole a w.front cells w.back w.lower w.higher (same_triple (triple_of a e v)) (same-of a e v)

  -- other cells in the place of those that there are
  abbrev pub with_cells : List Triple → List Triple
  with_cells others = w.front ++ (others ++ w.back)

  pub clear-part : (e : EntityId) → filter (λ t. not (is_at a e t)) triples ≡ with_cells (filter (λ t. not (is_at a e t)) cells)
  clear-part e = ap (filter (λ t. not (is_at a e t))) w.whole ∙ kept-whole a w.front cells w.back w.lower w.higher (is_at a e) (at-of a e)

  pub set-part : (e : EntityId) (v : Value)
      → with_triple (triple_of a e v) (filter (λ t. not (is_at a e t)) triples) ≡ with_cells (with_triple (triple_of a e v) (filter (λ t. not (is_at a e t)) cells))
  set-part e v =
      ap (with_triple (triple_of a e v)) (clear-part e)
      ∙ placed-whole a w.front (filter (λ t. not (is_at a e t)) cells) w.back w.lower w.higher (triple_of a e v) refl

  pub added-part : (e : EntityId) (v : Value) → triple_added (triple_of a e v) triples ≡ with_cells (triple_added (triple_of a e v) cells)
  added-part e v =
      ap (λ b. cond b triples (with_triple (triple_of a e v) triples)) (any-same-part e v)
      ∙ either (list_any (same_triple (triple_of a e v)) cells)
      (λ b. cond b triples (with_triple (triple_of a e v) triples) ≡ with_cells (cond b cells (with_triple (triple_of a e v) cells)))
      (λ _. w.whole)
      (λ _. ap (with_triple (triple_of a e v)) w.whole ∙ placed-whole a w.front cells w.back w.lower w.higher (triple_of a e v) refl)

  pub taken-part : (e : EntityId) (v : Value) → triple_taken (triple_of a e v) triples ≡ with_cells (triple_taken (triple_of a e v) cells)
  taken-part e v =
      ap (triple_taken (triple_of a e v)) w.whole ∙ kept-whole a w.front cells w.back w.lower w.higher (same_triple (triple_of a e v)) (same-of a e v)
