-- How many rows the cells of an entity's own row have in indexes and inverses, at most: those are rows that speak of it.
use Rattle.std.proofs.Common.{◌≡◌, ℕ, zero, suc, ◌+◌, ◌*◌, ◌≤◌, Bool, true, Option, Some, None, refl, sym, ap, ◌∙◌, subst, arith, true≢false, if◌then◌else◌}
use Rattle.std.specs.Prelude.{◌==◌, filter, find, slice_index_or}
use Rattle.std.specs.List.{sum_by}
use Rattle.st_values.specs.declared.value.EntityId.{EntityId}
use Rattle.st_values.specs.declared.value.Value.{Value}
use Rattle.st_values.specs.declared.value.Value.TheVariants.{Entity}
use Rattle.st_values.specs.Order.{same_entity, same_value}
use Rattle.st_values.proofs.Tests.{either, first-of, left, right}
use Rattle.st_lattice.specs.declared.attribute.Attribute.{Attribute}
use Rattle.st_lattice.specs.declared.stores.StoreKind.TheVariants.{Set}
use Rattle.st_lattice.specs.Lattice.{attributes_in, isa}
use Rattle.st_lattice.specs.Outline.{attribute}
use Rattle.st_state.specs.declared.triple.Triple.{Triple}
use Rattle.st_state.specs.State.{State, is_at, speaks_of, value_at, value_in}
use Rattle.st_state.specs.Legal.{IsNearlyLegal}
use Rattle.st_state.specs.Rows.{entity_row}
use Rattle.st_state.proofs.Members.{filter-member, find-member, find-passes}
use Rattle.st_counts.specs.Counts.{keyed_count, kept_count, spoken_count, spoken_rows, turned_count}
use Rattle.st_counts.proofs.Tallies.{tally-member}
use Rattle.st_standing.proofs.Fitting.{each-found}
use Rattle.st_lookups.specs.Looks.{is_cell}
use Rattle.st_removals.specs.Taken.{gone_cells, gone_rows, goes, turned_by}
use Rattle.st_removals.proofs.AllCounted.{sum-images, sum-kept, sum-less}
use Rattle.st_removals.proofs.Gone.{cell_triple, gone-is}

-- one is no more than all of some
least : (k t n : ℕ) → 1 ≤ n → t ≤ (k + t) * n
least k t zero h = absurd (omega (arith, h))
least k t (suc n) h = grind arith

module _ (s : State) (legal : IsNearlyLegal s) (e : EntityId) where
  abbrev value : Attribute → Value
  value a = value_at a.number e s.triples

  abbrev is_going : Attribute → Bool
  is_going a = goes None (value_at a.number e s.triples)

  -- how many rows go of an attribute's index and inverse
  abbrev turned : Attribute → ℕ
  turned a = if isa s.schema e.ty a.owner then (if is_cell a then (if is_going a then turned_by (attribute s.schema a.number) else 0) else 0) else 0

  gone-sum : gone_rows s.schema (gone_cells s.schema e None (entity_row s e).cells) ≡ sum_by turned s.schema.attributes
  gone-sum =
      let columns = filter is_cell (attributes_in s.schema e.ty) in
      let rows : Triple → ℕ = λ t. turned_by (attribute s.schema t.attribute) in
      let of : Attribute → ℕ = λ a. turned_by (attribute s.schema a.number) in
      ap (sum_by rows) (gone-is e None value columns)
      ∙ sum-images rows (cell_triple e value) (filter is_going columns)
      ∙ sum-kept of is_going columns
      ∙ sum-kept (λ a. if is_going a then of a else 0) is_cell (attributes_in s.schema e.ty)
      ∙ sum-kept (λ a. if is_cell a then (if is_going a then of a else 0) else 0) (λ a. isa s.schema e.ty a.owner) s.schema.attributes

  -- a value that goes is that of a triple
  one-spoken : (a : Attribute) → is_going a ≡ true → 1 ≤ spoken_count s e a
  one-spoken a h = by (find (is_at a.number e) s.triples) refl h
    where
      by : (o : Option Triple) → find (is_at a.number e) s.triples ≡ o → goes None (value_in o) ≡ true → 1 ≤ spoken_count s e a
      by None g k = absurd (true≢false (sym k))
      by (Some u) g k =
          let at_u = find-passes (is_at a.number e) u s.triples g in
          tally-member (speaks_of e) u (filter (λ t. t.attribute == a.number) s.triples)
          (filter-member (λ t. t.attribute == a.number) u s.triples (find-member (is_at a.number e) u s.triples g) (left (u.attribute == a.number) (same_entity u.entity e) at_u))
          (first-of (same_entity u.entity e) (same_value u.value (Entity e)) (right (u.attribute == a.number) (same_entity u.entity e) at_u))

  attribute-least : (a : Attribute) → attribute s.schema a.number ≡ Some a → turned a + 0 ≤ keyed_count a * spoken_count s e a
  attribute-least a f =
      let most = keyed_count a * spoken_count s e a in
      either (isa s.schema e.ty a.owner) (λ b. (if b then (if is_cell a then (if is_going a then turned_by (attribute s.schema a.number) else 0) else 0) else 0) + 0 ≤ most)
      (λ _. either (is_cell a) (λ b. (if b then (if is_going a then turned_by (attribute s.schema a.number) else 0) else 0) + 0 ≤ most)
      (λ _. either (is_going a) (λ b. (if b then turned_by (attribute s.schema a.number) else 0) + 0 ≤ most)
      (λ h. subst (λ o. turned_by o + 0 ≤ most) (sym f) (let some = least (kept_count Set a) (turned_count a) (spoken_count s e a) (one-spoken a h) in omega (arith, some)))
      (λ _. omega arith)) (λ _. omega arith)) (λ _. omega arith)

  pub own-counted : gone_rows s.schema (gone_cells s.schema e None (entity_row s e).cells) ≤ spoken_rows s e
  own-counted =
      let less =
      sum-less turned (λ a. 0) (λ a. keyed_count a * spoken_count s e a) s.schema.attributes (λ k d l. attribute-least (slice_index_or s.schema.attributes k d) (each-found s.schema.attributes legal.consistent.numbers k d l)) in
      let is = gone-sum in
      omega (arith, is, less)
