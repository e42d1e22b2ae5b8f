-- Calls on an attribute's index and inverse, in a database that has them.
use Rattle.std.proofs.Common.{arith, ◌≡◌, ℕ, ◌+◌, ◌*◌, ◌≤◌, ◌||◌, Bool, true, false, if◌then◌else◌, List, [], ◌∷◌, Option, Some, None, Result, Ok, Err, IsTrue, IfOk, IfErr, OnOk, refl, sym, ap, ◌∙◌, subst, inl, inr, true≢false}
use Rattle.std.specs.Prelude.{◌⊎◌, ◌&&◌, ⊤, IfSome, not, slice_index_or, length}
use Rattle.std.specs.List.{list_any}
use Rattle.std.proofs.lemmas.List.Elements.{All-filter}
use Rattle.st_values.specs.declared.value.EntityId.{EntityId}
use Rattle.st_values.specs.declared.value.Value.{Value}
use Rattle.st_values.specs.Order.{same_value}
use Rattle.st_values.proofs.Tests.{either, first-of, left, one-of}
use Rattle.st_page.specs.declared.fault.PageFault.{PageFault}
use Rattle.st_lattice.specs.declared.attribute.Attribute.{Attribute}
use Rattle.st_lattice.specs.Outline.{Outline}
use Rattle.st_pages.specs.declared.places.Place.{Place}
use Rattle.st_pages.specs.Attempt.{Array, Attempt, Agrees, may_put, over}
use Rattle.st_pages.specs.Calls.{IsWithin, no_page}
use Rattle.st_pages.specs.Places.{AscendByStore}
use Rattle.st_pages.specs.Reading.{ForEach, OfDamage}
use Rattle.st_pages.proofs.Carried.{over-same}
use Rattle.st_store.specs.Stores.{ForBoth, HasPutStores, KeepNumbers, any_page, drew_between, is_page_of}
use Rattle.st_catalog.specs.Catalog.{Has}
use Rattle.st_index.specs.Turned.{is_turned_store, turned_places}
use Rattle.st_index.specs.Noted.{AllHold, IsNoted, differences, reach_any, rows_for}
use Rattle.st_index.proofs.Counted.{differences-none, or-cases}
use Rattle.st_index.proofs.Called.{PageLaws}
use Rattle.st_index.proofs.Changes.{damage-weaken}
use Rattle.st_index.proofs.Looked.{err-weaken}
use Rattle.st_database.specs.Database.{IsDatabase, View, noted_view}
use Rattle.st_database.specs.Touches.{Leads, OfDatabase, belongs, may_touch, pairs_added, pairs_changed, stores_at}
use Rattle.st_database.proofs.Listed.{any-either}
use Rattle.st_database.proofs.Frames.{StoreLaws, database-noted, held-of}
use Rattle.st_database.proofs.Calling.{is-of}

any-map : (t : ℕ → Bool) (places : List Place) → list_any t (stores_at places) ≡ list_any (λ p. t p.store) places
any-map t [] = refl
any-map t (p ∷ ps) = ap (λ (b : Bool). t p.store || b) (any-map t ps)

no-bottom : {P : Type 0} → P ⊎ ⊥ → P
no-bottom (inl p) = p
no-bottom (inr e) = absurd e

module _ {Self : Type 0} (attempt : Self → Attempt) (follows : Self → Self → Type 0) (asked : Self → Self → (ℕ → Bool) → (ℕ → Bool) → ℕ → Type 0) (laws : PageLaws attempt follows asked) (a b : Self) (ab : follows a b)
    (form : Place → Array → List ℕ → List (List ℕ) → Type 0) (reach : Place → Array → ℕ → Bool) (stores : StoreLaws form reach) (schema : Outline) (places : List Place) (number : ℕ) where
  abbrev A : Attempt
  A = attempt a

  abbrev B : Attempt
  B = attempt b

  abbrev Turned : List Place
  Turned = turned_places number places

  module _ (array : Array) (view : View) (d : IsDatabase form (over A array) schema places view) where
    held : AllHold form reach Turned (over A array)
    held = All-filter (λ q. is_turned_store number q.store) (λ q. (pages : List ℕ) × (rows : List (List ℕ)) × form q (over A array) pages rows) places (held-of form reach stores (over A array) schema places view d)

    -- a page that calls on these stores may ask for is one of them
    may-reach : IsWithin (reach_any form reach Turned (over A array)) (may_touch (stores_at Turned) B (over A array))
    may-reach page h =
        first-of (belongs (stores_at Turned) (over A array) page) (B.drawn page)
        (any-map (λ s. is_page_of s (over A array page)) Turned
        ∙ no-bottom (any-either (λ q. reach q (over A array) page) (λ q. is_page_of q.store (over A array page)) ⊥ Turned
        (λ k e w there.
        let q : Place = slice_index_or Turned k e in
        let has = held k e w in
        let bears = stores.basic.bear q (over A array) has.0 has.1 page has.2 (sym (stores.basic.reached q (over A array) has.0 has.1 page has.2) ∙ there) in
        inl (is-of q.store (over A array page) bears.1 bears.2 bears.3)) h))

    may-drawn : (page : ℕ) → IsTrue (reach_any form reach Turned (over A array) page || drew_between A B page) → IsTrue (may_touch (stores_at Turned) B (over A array) page)
    may-drawn page h = elim (or-cases (reach_any form reach Turned (over A array) page) (drew_between A B page) h) [
      | inl k ↦ may-reach page k
      | inr e ↦ one-of (belongs (stores_at Turned) (over A array) page) (B.drawn page) (left (B.drawn page) (not (A.drawn page)) e)
    ]

  -- where nothing is put, nothing is written
  unwritten : (got : ℕ → Bool) (most : ℕ) → asked a b got no_page most → B.written ≡ A.written
  unwritten got most asks = λ i page. none page i
    where
      none : (page : ℕ) → B.written page ≡ A.written page
      none page = elim ((laws.asked_tells a b got no_page most ab asks).put_only page) [
        | inl e ↦ e
        | inr h ↦ absurd (true≢false (sym h))
      ]

  -- what a note of a change gives
  pub leads-noted : (ascends : (array : Array) (schema : Outline) (places : List Place) → Has array schema places → AscendByStore places) (entity : EntityId) (old new : Value) (most more : ℕ) (found : Option Attribute) (result : Result Unit PageFault)
      → ForEach A B (λ x. AllHold form reach Turned x → asked a b (reach_any form reach Turned x) (λ page. reach_any form reach Turned x page || drew_between A B page) most)
      → ForBoth A B (λ before after. differences before after ≤ more) → ForBoth A B (λ before after. AllHold form reach Turned before → KeepNumbers A B before after)
      → (same_value old new ≡ true → asked a b no_page no_page 0)
      → OnOk result (IfSome found (λ x. same_value old new ≡ false → ForBoth A B (λ before after. AllHold form reach Turned before → IsNoted form reach places number x.kind entity old new A B before after)))
      → IfErr result (OfDamage (λ page at. ForEach A B (λ x. AllHold form reach Turned x → ⊥)))
      → OfDatabase form A B schema places (λ array view. IfSome found (λ x. Leads form (asked a b) A B array schema places (if same_value old new then view else noted_view number x.kind entity old new view) (λ done. ⊤) (stores_at Turned) true most more result))
  leads-noted ascends entity old new most more None result asks few numbers same noted wrong = λ array view agrees d. tt
  leads-noted ascends entity old new most more (Some x) result asks few numbers same noted wrong = λ array view agrees d.
      let before : Array = over A array in
      let after : Array = over B array in
      let all = held array view d in
      record {
        answers = answered array view agrees d result noted;
        sound = err-weaken (OfDamage (λ page at. ForEach A B (λ y. AllHold form reach Turned y → ⊥))) (OfDamage (λ page at. ⊥)) result
            (λ fault. damage-weaken (λ page at. ForEach A B (λ y. AllHold form reach Turned y → ⊥)) (λ page at. ⊥) (λ page at w. w array agrees all) fault) wrong;
        touches = record {
          asks = laws.asked_more a b (reach_any form reach Turned before) (λ page. reach_any form reach Turned before page || drew_between A B page) (may_touch (stores_at Turned) B before) (λ page. true && may_touch (stores_at Turned) B before page) most most
              (may-reach array view d) (may-drawn array view d) (omega arith) (asks array agrees all);
          numbers = λ store page h. elim (numbers array agrees all store page h) [
            | inl k ↦ inl k
            | inr e ↦ inr (left (B.drawn page) (not (A.drawn page)) e)
          ];
          few = few array agrees;
        };
      }
    where
      answered : (array : Array) (view : View) → Agrees B array → IsDatabase form (over A array) schema places view → (r : Result Unit PageFault)
          → OnOk r (same_value old new ≡ false → ForBoth A B (λ before after. AllHold form reach Turned before → IsNoted form reach places number x.kind entity old new A B before after))
          → IfOk r (λ done. ⊤ × IsDatabase form (over B array) schema places (if same_value old new then view else noted_view number x.kind entity old new view))
      answered array view agrees d (Err fault) h = tt
      answered array view agrees d (Ok u) h = (
        tt,
        either (same_value old new) (λ t. same_value old new ≡ t → IsDatabase form (over B array) schema places (if t then view else noted_view number x.kind entity old new view))
            (λ _ e. subst (λ (y : Array). IsDatabase form y schema places view) (sym (over-same A B array (unwritten no_page 0 (same e)))) d)
            (λ _ e. database-noted form reach stores A B (over A array) (over B array) schema places view number x.kind entity old new (ascends (over A array) schema places d.has) d (h e array agrees (held array view d)))
            refl,
      )

  -- what is asked by the rows that a change adds: nothing where the values are the same
  pub asked-counted : (got put : ℕ → Bool) (old new : Value) → asked a b got put (17 * length Turned * rows_for new) → (same_value old new ≡ true → asked a b no_page no_page 0) → asked a b got put (17 * pairs_added number places old new)
  asked-counted got put old new asks same =
      either (same_value old new) (λ t. asked a b got put (17 * (if t then 0 else length Turned * rows_for new)))
      (λ e. laws.asked_more a b no_page no_page got put 0 0 (λ page h. absurd (true≢false (sym h))) (λ page h. absurd (true≢false (sym h))) (omega arith) (same e))
      (λ e. laws.asked_more a b got put got put (17 * length Turned * rows_for new) (17 * (length Turned * rows_for new)) (λ page h. h) (λ page h. h) (omega arith) asks)

  -- and how many pages have other bytes
  few-counted : (old new : Value) → ForBoth A B (λ before after. differences before after ≤ 34 * length Turned * (rows_for old + rows_for new)) → (same_value old new ≡ true → asked a b no_page no_page 0)
      → ForBoth A B (λ before after. differences before after ≤ 34 * pairs_changed number places old new)
  few-counted old new few same = λ array agrees.
      either (same_value old new) (λ t. differences (over A array) (over B array) ≤ 34 * (if t then 0 else length Turned * (rows_for old + rows_for new)))
      (λ e. subst (λ (x : Array). differences (over A array) x ≤ 0) (sym (over-same A B array (unwritten no_page 0 (same e)))) (differences-none (over A array) 0))
      (λ e. let some = few array agrees in omega (arith, some))

  -- what a note of a change gives, with these numbers
  pub leads-counted : (ascends : (array : Array) (schema : Outline) (places : List Place) → Has array schema places → AscendByStore places) (entity : EntityId) (old new : Value) (found : Option Attribute) (result : Result Unit PageFault)
      → ForEach A B (λ x. AllHold form reach Turned x → asked a b (reach_any form reach Turned x) (λ page. reach_any form reach Turned x page || drew_between A B page) (17 * length Turned * rows_for new))
      → ForBoth A B (λ before after. differences before after ≤ 34 * length Turned * (rows_for old + rows_for new)) → ForBoth A B (λ before after. AllHold form reach Turned before → KeepNumbers A B before after)
      → (same_value old new ≡ true → asked a b no_page no_page 0)
      → OnOk result (IfSome found (λ x. same_value old new ≡ false → ForBoth A B (λ before after. AllHold form reach Turned before → IsNoted form reach places number x.kind entity old new A B before after)))
      → IfErr result (OfDamage (λ page at. ForEach A B (λ x. AllHold form reach Turned x → ⊥)))
      → OfDatabase form A B schema places (λ array view. IfSome found (λ x. Leads form (asked a b) A B array schema places (if same_value old new then view else noted_view number x.kind entity old new view) (λ done. ⊤) (stores_at Turned) true (17 * pairs_added number places old new) (34 * pairs_changed number places old new) result))
  leads-counted ascends entity old new found result asks few numbers same noted wrong =
      leads-noted ascends entity old new (17 * pairs_added number places old new) (34 * pairs_changed number places old new) found result
      (λ array agrees all. asked-counted (reach_any form reach Turned (over A array)) (λ page. reach_any form reach Turned (over A array) page || drew_between A B page) old new (asks array agrees all) same)
      (few-counted old new few same) numbers same noted wrong

  pub kinds-counted : (old new : Value) → (HasPutStores A → asked a b any_page (may_put B) (17 * length Turned * rows_for new)) → (same_value old new ≡ true → asked a b no_page no_page 0)
      → HasPutStores A → asked a b any_page (may_put B) (17 * pairs_added number places old new)
  kinds-counted old new kinds same puts = asked-counted any_page (may_put B) old new (kinds puts) same
