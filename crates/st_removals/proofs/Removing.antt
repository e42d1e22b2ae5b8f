-- The row of an entity is taken out of its extent, and then its cells out of indexes and inverses: the entity is deleted, where
-- nothing else speaks of it.
use Rattle.std.proofs.Common.{◌≡◌, ℕ, ◌+◌, ◌*◌, ◌≤◌, Bool, true, false, List, [], ◌∷◌, ◌++◌, Some, None, Result, Ok, Err, IsTrue, refl, sym, ap, ◌∙◌, subst, inl, inr, arith, if◌then◌else◌}
use Rattle.std.specs.Prelude.{⊤, ◌==◌, ◌||◌, is_some, slice_index, slice_index_or}
use Rattle.std.specs.Int.{w32, to_be_bytes}
use Rattle.std.specs.List.{All, list_all}
use Rattle.st_values.specs.declared.value.EntityId.{EntityId}
use Rattle.st_values.specs.declared.value.Value.{Value}
use Rattle.st_values.proofs.Tests.{either}
use Rattle.st_page.specs.declared.fault.PageFault.{PageFault}
use Rattle.st_lattice.specs.declared.stores.StoreKind.TheVariants.{Extent}
use Rattle.st_lattice.specs.Outline.{Outline}
use Rattle.st_lattice.specs.Stores.{deleted, store}
use Rattle.st_pages.specs.declared.places.Place.{Place}
use Rattle.st_pages.specs.Attempt.{Array, Attempt, over}
use Rattle.st_pages.specs.Places.{place_of}
use Rattle.st_pages.specs.Reading.{OfDamage}
use Rattle.st_catalog.specs.Catalog.{Has}
use Rattle.st_store.specs.Rows.{row_with, without_row}
use Rattle.st_store.specs.Stores.{among}
use Rattle.st_index.proofs.Called.{PageLaws, earlier}
use Rattle.st_index.proofs.Counted.{or-cases}
use Rattle.st_index.proofs.Looked.{ok-weaken}
use Rattle.st_database.specs.Database.{IsDatabase, with_rows}
use Rattle.st_database.specs.Touches.{Leads, Touches, WithStore, removed_by}
use Rattle.st_database.proofs.Frames.{StoreLaws, database-alike}
use Rattle.st_database.proofs.Touching.{AreAmong, leads-then, touches-more, touches-then}
use Rattle.st_state.specs.declared.triple.Triple.{Triple}
use Rattle.st_state.specs.State.{State, entity_deleted, is_live}
use Rattle.st_state.specs.Rows.{entity_row}
use Rattle.st_state.proofs.Changed.{number-is}
use Rattle.st_state.proofs.Kept.{deleted-nearly}
use Rattle.st_standing.specs.Standing.{NearlyStandsAt, rows_at, view_of}
use Rattle.st_standing.proofs.RowLaws.{RowLaws}
use Rattle.st_lookups.specs.Looks.{IsExtent, OfState}
use Rattle.st_removals.specs.Clears.{Removes, tally}
use Rattle.st_removals.specs.Noting.{Notes}
use Rattle.st_removals.specs.Taken.{gone_cells, gone_rows, gone_stores, is_own_or_strange, taken_all}
use Rattle.st_removals.proofs.Among.{own-extent, own-gone-among}
use Rattle.st_removals.proofs.Fewer.{all-last}
use Rattle.st_removals.proofs.OwnCounted.{own-counted}
use Rattle.st_removals.proofs.Owned.{program-deleted, view-deleted}

-- at most one row is taken out
one-removed : (key : ℕ) (row : List ℕ) (rows : List (List ℕ)) → removed_by key row rows ≤ 1
one-removed key row rows = either (is_some (row_with key row rows)) (λ b. (if b then 1 else 0) ≤ 1) (λ _. omega arith) (λ _. omega arith)

extent-among : (schema : Outline) (ty st : ℕ) → st ≡ store Extent ty → AreAmong (st ∷ []) (deleted schema ty)
extent-among schema ty st is t h = elim (or-cases (st == t) false h) [
  | inl k ↦ subst (λ z. among (deleted schema ty) z ≡ true) (sym is ∙ number-is st t k) (own-extent schema ty)
  | inr k ↦ never-true k
]
  where
    never-true : false ≡ true → among (deleted schema ty) t ≡ true
    never-true k = cc

-- some stores and others
both-among : (xs ys zs : List ℕ) → AreAmong xs zs → AreAmong ys zs → AreAmong (xs ++ ys) zs
both-among [] ys zs h k t m = k t m
both-among (x ∷ xs) ys zs h k t m = elim (or-cases (x == t) (among (xs ++ ys) t) m) [
  | inl l ↦ h t (first x xs t l)
  | inr l ↦ both-among xs ys zs (λ u n. h u (later x xs u n)) k t l
]
  where
    first : (x : ℕ) (xs : List ℕ) (t : ℕ) → (x == t) ≡ true → among (x ∷ xs) t ≡ true
    first x xs t l = ap (λ b. b || among xs t) l

    later : (x : ℕ) (xs : List ℕ) (t : ℕ) → among xs t ≡ true → among (x ∷ xs) t ≡ true
    later x xs t l = either (x == t) (λ b. (b || among xs t) ≡ true) (λ _. refl) (λ _. l)

module _ {Self : Type 0} (attempt : Self → Attempt) (follows : Self → Self → Type 0) (asked : Self → Self → (ℕ → Bool) → (ℕ → Bool) → ℕ → Type 0) (page_laws : PageLaws attempt follows asked)
    (form : Place → Array → List ℕ → List (List ℕ) → Type 0) (schema : Outline) (places : List Place) (e : EntityId) where
  -- ---- a look in front

  pub removes-later : (array : Array) (s : State) (x y z : Self) → follows x y → follows y z → (result : Result Unit PageFault)
      → Touches (asked x y) (attempt x) (attempt y) array (store Extent e.ty ∷ []) false 0 0 → Removes form (asked y z) (attempt y) (attempt z) array places e s result → Removes form (asked x z) (attempt x) (attempt z) array places e s result
  removes-later array s x y z xy yz result first second =
      let all = deleted s.schema e.ty in
      let most = 34 * (1 + tally s e) in
      record {
        answers = second.answers;
        sound = second.sound;
        touches = touches-more attempt follows asked page_laws x z array ((store Extent e.ty ∷ []) ++ all) all (false || true) true (0 + 0) 0 (0 + most) most
            (both-among (store Extent e.ty ∷ []) all all (extent-among s.schema e.ty (store Extent e.ty) refl) (λ t h. h)) (λ h. h) (omega arith) (omega arith)
            (touches-then attempt follows asked page_laws x y z xy yz array (store Extent e.ty ∷ []) all false true 0 0 0 most first second.touches);
      }

  -- a call that was not answered
  pub removes-none : (array : Array) (s : State) (puts : Bool) (more : ℕ) → more ≤ 34 * (1 + tally s e) → (at : ℕ) → at ≡ store Extent e.ty → (x y : Self) (fault : PageFault) → OfDamage (λ page at. ⊥) fault
      → Touches (asked x y) (attempt x) (attempt y) array (at ∷ []) puts 0 more → Removes {A = Unit {0}} form (asked x y) (attempt x) (attempt y) array places e s (Err fault)
  removes-none array s puts more less at is x y fault sound touches = record {
    answers = tt;
    sound = sound;
    touches = touches-more attempt follows asked page_laws x y array (at ∷ []) (deleted s.schema e.ty) puts true 0 0 more (34 * (1 + tally s e)) (extent-among s.schema e.ty at is) (λ h. refl) (omega arith) less touches;
  }

  -- ---- the row, and its cells

  abbrev Outs : Self → Self → Place → ℕ → List ℕ → Result Bool PageFault → Type 0
  Outs x y place width key result = WithStore form (attempt x) (attempt y) place (λ array o ps view.
      Leads form (asked x y) (attempt x) (attempt y) array o ps (with_rows place.store (without_row width key (view.rows place.store)) view) (λ was. was ≡ is_some (row_with width key (view.rows place.store)))
      (place.store ∷ []) true 0 (34 * removed_by width key (view.rows place.store)) result)

  module _ (place : Place) (extent : IsExtent schema e.ty place) (key : List ℕ) (key_is : key ≡ to_be_bytes w32 e.serial) (cells : List Value) where
    abbrev Gone : Self → Self → Result Unit PageFault → Type 0
    Gone x z result = OfState form (attempt x) (attempt z) schema places (λ array s. place_of place.store places ≡ Some place → is_live s e ≡ true → cells ≡ (entity_row s e).cells →
        IsTrue (list_all (is_own_or_strange schema e) s.triples) → Removes form (asked x z) (attempt x) (attempt z) array places e s result)

    -- the row is not taken out
    pub removes-fault : (x y : Self) (fault : PageFault) → WithStore form (attempt x) (attempt y) place (λ array o ps view.
        Leads form (asked x y) (attempt x) (attempt y) array o ps (with_rows place.store (without_row place.key key (view.rows place.store)) view) (λ was. was ≡ is_some (row_with place.key key (view.rows place.store)))
        (place.store ∷ []) true 0 (34 * removed_by place.key key (view.rows place.store)) (Err fault))
        → OfState form (attempt x) (attempt y) schema places (λ array s. place_of place.store places ≡ Some place → is_live s e ≡ true → cells ≡ (entity_row s e).cells →
        IsTrue (list_all (is_own_or_strange schema e) s.triples) → Removes {A = Unit {0}} form (asked x y) (attempt x) (attempt y) array places e s (Err fault))
    removes-fault x y fault outs = λ array s agrees same stands there live cells_are own.
        let l = outs array s.schema places (view_of s) agrees stands.database there in
        let one = one-removed place.key key (rows_at s place.store) in
        removes-none array s true (34 * removed_by place.key key (rows_at s place.store)) (omega (arith, one)) place.store extent.store_is x y fault l.sound l.touches

    module _ (reach : Place → Array → ℕ → Bool) (store_laws : StoreLaws form reach) (laws : RowLaws) (in_rows : (array : Array) (o : Outline) (ps : List Place) → Has array o ps → All (λ b. b.column ≡ false) o.attributes) where
      pub removes-both : (x y z : Self) → follows x y → follows y z → (was : Bool) (result : Result Unit PageFault)
          → WithStore form (attempt x) (attempt y) place (λ array o ps view.
          Leads form (asked x y) (attempt x) (attempt y) array o ps (with_rows place.store (without_row place.key key (view.rows place.store)) view) (λ w. w ≡ is_some (row_with place.key key (view.rows place.store)))
          (place.store ∷ []) true 0 (34 * removed_by place.key key (view.rows place.store)) (Ok was))
          → Notes form (asked y z) (attempt y) (attempt z) schema places e None cells result
          → OfState form (attempt x) (attempt z) schema places (λ array s. place_of place.store places ≡ Some place → is_live s e ≡ true → cells ≡ (entity_row s e).cells →
          IsTrue (list_all (is_own_or_strange schema e) s.triples) → Removes form (asked x z) (attempt x) (attempt z) array places e s result)
      removes-both x y z xy yz was result outs notes = λ array s agrees same stands there live cells_are own.
          let at = place.store in
          let bytes = to_be_bytes w32 e.serial in
          let rows = without_row 4 bytes (rows_at s at) in
          let mid = with_rows at rows (view_of s) in
          let gone = gone_cells schema e None cells in
          let its = gone_cells s.schema e None (entity_row s e).cells in
          let its-are : gone ≡ its = λ i. gone_cells (sym same i) e None (cells_are i) in
          let after = with_rows at rows (view_of (taken_all its s)) in
          let removed = removed_by 4 bytes (rows_at s at) in
          let l = subst (λ (r : List ℕ). Leads form (asked x y) (attempt x) (attempt y) array s.schema places (with_rows at (without_row 4 r (rows_at s at)) (view_of s)) (λ w. w ≡ is_some (row_with 4 r (rows_at s at)))
          (at ∷ []) true 0 (34 * removed_by 4 r (rows_at s at)) (Ok was)) key_is
          (subst (λ (k : ℕ). Leads form (asked x y) (attempt x) (attempt y) array s.schema places (with_rows at (without_row k key (rows_at s at)) (view_of s)) (λ w. w ≡ is_some (row_with k key (rows_at s at)))
          (at ∷ []) true 0 (34 * removed_by k key (rows_at s at)) (Ok was)) extent.key
          (outs array s.schema places (view_of s) (earlier (attempt y) (attempt z) array (page_laws.seen_stays y z yz) agrees) stands.database there)) in
          let second : IsDatabase form (over (attempt y) array) s.schema places mid → Leads form (asked y z) (attempt y) (attempt z) array s.schema places after (λ done. ⊤) (gone_stores its) true 0 (34 * gone_rows s.schema its) result = λ d.
          subst (λ (ts : List Triple). Leads form (asked y z) (attempt y) (attempt z) array s.schema places (with_rows at rows (view_of (taken_all ts s))) (λ done. ⊤) (gone_stores ts) true 0 (34 * gone_rows s.schema ts) result) its-are
          (subst (λ (o : Outline). Leads form (asked y z) (attempt y) (attempt z) array o places (with_rows at rows (view_of (taken_all gone s))) (λ done. ⊤) (gone_stores gone) true 0 (34 * gone_rows o gone) result) (sym same)
          (notes array s at rows agrees same stands.legal stands.program live cells_are extent.store_is (subst (λ (o : Outline). IsDatabase form (over (attempt y) array) o places mid) same d))) in
          let m = leads-then attempt follows asked page_laws form array s.schema places x y z xy yz mid after (λ w. w ≡ is_some (row_with 4 bytes (rows_at s at))) (λ done. ⊤) (at ∷ []) (gone_stores its) true true 0 0 (34 * removed) (34 * gone_rows s.schema its) was result l
          (λ w d. second d) in
          let columns = in_rows (over (attempt x) array) s.schema places stands.database.has in
          let mine : IsTrue (list_all (is_own_or_strange s.schema e) s.triples) = subst (λ (o : Outline). IsTrue (list_all (is_own_or_strange o e) s.triples)) (sym same) own in
          let one = one-removed 4 bytes (rows_at s at) in
          let counted = own-counted s stands.legal e in
          record {
            answers = ok-weaken (λ done. ⊤ × IsDatabase form (over (attempt z) array) s.schema places after) (λ done. NearlyStandsAt form (over (attempt z) array) places (entity_deleted s e)) result
                (λ done h. record {
                  legal = deleted-nearly s e stands.legal;
                  program = program-deleted s stands.legal columns e mine laws stands.program live;
                  database = database-alike form reach store_laws (over (attempt z) array) s.schema places after (view_of (entity_deleted s e))
                      (λ k d w. (view-deleted s stands.legal columns e mine laws stands.program live at extent.store_is (slice_index_or places k d).store, ap (λ (last : List ℕ). slice_index last (slice_index_or places k d).store) (sym (all-last its s)))) h.1;
                }) m.answers;
            sound = m.sound;
            touches = touches-more attempt follows asked page_laws x z array ((at ∷ []) ++ gone_stores its) (deleted s.schema e.ty) (true || true) true (0 + 0) 0 (34 * removed + 34 * gone_rows s.schema its) (34 * (1 + tally s e))
                (both-among (at ∷ []) (gone_stores its) (deleted s.schema e.ty) (extent-among s.schema e.ty at extent.store_is) (own-gone-among s.schema e None (entity_row s e).cells)) (λ h. h) (omega arith) (omega (arith, one, counted)) m.touches;
          }
