-- The last serial of an extent, in a database: it is read, and set behind a row that is put in.
use Rattle.std.proofs.Common.{◌≡◌, ℕ, ◌<◌, ◌≤◌, ◌^◌, ◌==◌, ◌||◌, Bool, true, false, if◌then◌else◌, List, [], ◌∷◌, Some, Result, Ok, Err, IsTrue, IfOk, IfErr, OnOk, OnErr, refl, sym, ap, ◌∙◌, subst, inl, inr, arith}
use Rattle.std.specs.Prelude.{◌&&◌, ⊤, not, nat_le}
use Rattle.std.specs.Str.{bytes_eq}
use Rattle.std.proofs.lemmas.Bool.{eqb-true}
use Rattle.st_values.proofs.Tests.{either, first-of, left, one-of}
use Rattle.st_page.specs.declared.fault.PageFault.{PageFault}
use Rattle.st_lattice.specs.Outline.{Outline}
use Rattle.st_image.specs.declared.wanted.Wanted.TheVariants.{Chain}
use Rattle.st_image.specs.Fields.{kind_of, store_of, with_last_serial}
use Rattle.st_image.specs.Grammar.{IsPage, IsRowPage}
use Rattle.st_image.specs.Prefixes.{IsFirstWrong}
use Rattle.st_image.proofs.Written.{serial-stays, wrong-not}
use Rattle.st_pages.specs.declared.places.Place.{Place}
use Rattle.st_pages.specs.Attempt.{Array, Attempt, Agrees, over, page_count}
use Rattle.st_pages.specs.Calls.{IsWithin, no_page, only}
use Rattle.st_pages.specs.Places.{AscendByStore, place_of}
use Rattle.st_pages.specs.Reading.{ForEach, OfDamage}
use Rattle.st_pages.proofs.Carried.{only-within, over-same}
use Rattle.st_store.specs.Rows.{with_row}
use Rattle.st_store.specs.Stores.{ForBoth, Inserted, KeepNumbers, OfStore, changes, drew_between, is_page_of}
use Rattle.st_catalog.specs.Catalog.{Has}
use Rattle.st_catalog.specs.Reading.{HasSerial, SetsSerial}
use Rattle.st_index.proofs.Counted.{differences-few, how_many-le, or-cases}
use Rattle.st_index.proofs.Called.{PageLaws, earlier}
use Rattle.st_index.proofs.Changes.{damage-weaken}
use Rattle.st_index.proofs.Looked.{err-weaken, ok-weaken}
use Rattle.st_database.specs.Database.{IsDatabase, View, with_last, with_rows}
use Rattle.st_database.specs.Touches.{Leads, Touches, WithStore, belongs, may_touch}
use Rattle.st_database.proofs.Frames.{StoreLaws, database-changed, database-serial, held-at, serial-at}
use Rattle.st_database.proofs.Calling.{may-reach, never-damaged, touches-changed, touches-looked}

-- a page with another last serial is one of the same stores
same-stores : (place : Place) (serial : ℕ) (page : List ℕ) → place.store < 65536 → serial < 2 ^ 32 → IsRowPage 2 place.store place.key place.width page → (store : ℕ) → is_page_of store (with_last_serial serial page) ≡ is_page_of store page
same-stores place serial page extent within is store =
    let now = (serial-stays 2 place.store place.key place.width serial page extent within is).0 in
    ap (λ (n : ℕ). (n == store) && (nat_le 2 (kind_of (with_last_serial serial page)) && nat_le (kind_of (with_last_serial serial page)) 4)) (now.has_header.store ∙ sym is.has_header.store)
    ∙ ap (λ (k : ℕ). (store_of page == store) && (nat_le 2 k && nat_le k 4)) (now.has_header.kind ∙ sym is.has_header.kind)

module _ {Self : Type 0} (attempt : Self → Attempt) (follows : Self → Self → Type 0) (asked : Self → Self → (ℕ → Bool) → (ℕ → Bool) → ℕ → Type 0) (laws : PageLaws attempt follows asked)
    (form : Place → Array → List ℕ → List (List ℕ) → Type 0) (reach : Place → Array → ℕ → Bool) (stores : StoreLaws form reach) (place : Place) (extent : place.store < 65536) where
  -- the first page of an extent is one that calls may ask for
  first-reached : (array : Array) (schema : Outline) (places : List Place) (view : View) (d : IsDatabase form array schema places view) → place_of place.store places ≡ Some place → IsTrue (reach place array place.first)
  first-reached array schema places view d at =
      let holds = held-at form reach stores array schema places view d place at in
      stores.basic.reached place array (d.pages place.store) (view.rows place.store) place.first holds ∙ stores.basic.has_first place array (d.pages place.store) (view.rows place.store) holds

  -- and not damaged
  first-right : {X : Type 0} (a b : Attempt) (array : Array) (schema : Outline) (places : List Place) (view : View) → Agrees b array → IsDatabase form (over a array) schema places view → place_of place.store places ≡ Some place → (result : Result X PageFault)
      → IfErr result (OfDamage (λ q at. (q ≡ place.first) × ForEach a b (λ x. IsFirstWrong (IsPage (Chain place.store place.key place.width)) (x place.first) at))) → IfErr result (OfDamage (λ page at. ⊥))
  first-right a b array schema places view agrees d at result wrong =
      let Wrong : ℕ → ℕ → Type 0 = λ q spot. (q ≡ place.first) × ForEach a b (λ x. IsFirstWrong (IsPage (Chain place.store place.key place.width)) (x place.first) spot) in
      let sound = stores.extent_first place (over a array) (d.pages place.store) (view.rows place.store) (held-at form reach stores (over a array) schema places view d place at) extent in
      err-weaken (OfDamage Wrong) (OfDamage (λ page spot. ⊥)) result
      (λ fault. damage-weaken Wrong (λ page spot. ⊥) (λ page spot w. wrong-not (IsPage (Chain place.store place.key place.width)) (over a array place.first) spot (w.1 array agrees) sound) fault) wrong

  -- the last serial that is read is that of the extent
  pub leads-serial : (a b : Self) (result : Result ℕ PageFault) → (attempt b).written ≡ (attempt a).written → asked a b (only place.first) no_page 0 → IfOk result (λ serial. ForEach (attempt a) (attempt b) (HasSerial place serial))
      → IfErr result (OfDamage (λ q at. (q ≡ place.first) × ForEach (attempt a) (attempt b) (λ x. IsFirstWrong (IsPage (Chain place.store place.key place.width)) (x place.first) at)))
      → WithStore form (attempt a) (attempt b) place (λ array schema places view. Leads form (asked a b) (attempt a) (attempt b) array schema places view (λ serial. serial ≡ view.last place.store) (place.store ∷ []) false 0 0 result)
  leads-serial a b result written asks found wrong = λ array schema places view agrees d at.
      let before : Array = over (attempt a) array in
      record {
        answers = ok-weaken (λ serial. ForEach (attempt a) (attempt b) (HasSerial place serial)) (λ serial. (serial ≡ view.last place.store) × IsDatabase form (over (attempt b) array) schema places view) result
            (λ serial h. (
              (h array agrees).serial_is ∙ serial-at form reach stores before schema places view d place at extent,
              subst (λ (x : Array). IsDatabase form x schema places view) (sym (over-same (attempt a) (attempt b) array written)) d,
            )) found;
        sound = first-right (attempt a) (attempt b) array schema places view agrees d at result wrong;
        touches = touches-looked attempt follows asked laws a b form reach stores place array schema places view d at written
            (laws.asked_more a b (only place.first) no_page (reach place before) no_page 0 0 (only-within (reach place before) place.first (first-reached before schema places view d at)) (λ page h. h) (omega arith) asks);
      }

  -- ---- a row is put in, and then the last serial is set

  module _ (a b c : Self) (ab : follows a b) (bc : follows b c) (array : Array) (schema : Outline) (places : List Place) (view : View) (d : IsDatabase form (over (attempt a) array) schema places view) (at : place_of place.store places ≡ Some place) where
    touches-new : asked a b (reach place (over (attempt a) array)) (λ page. reach place (over (attempt a) array) page || drew_between (attempt a) (attempt b) page) 17 → changes place.first (over (attempt a) array) (over (attempt b) array) ≤ 34
        → KeepNumbers (attempt a) (attempt b) (over (attempt a) array) (over (attempt b) array) → asked b c (only place.first) (only place.first) 0
        → ((page : ℕ) → (page == place.first) ≡ false → over (attempt c) array page ≡ over (attempt b) array page)
        → ((store page : ℕ) → IsTrue (is_page_of store (over (attempt c) array page)) → IsTrue (is_page_of store (over (attempt b) array page)))
        → Touches (asked a c) (attempt a) (attempt c) array (place.store ∷ []) true 17 34
    touches-new asks few numbers sets later keeps =
        let A = attempt a in
        let B = attempt b in
        let C = attempt c in
        let before : Array = over A array in
        let all : ℕ → Bool = may_touch (place.store ∷ []) C before in
        let on-way : IsWithin (reach place before) all = may-reach attempt follows asked laws a c form reach stores place array schema places view d at in
        let drawn : (page : ℕ) → IsTrue (drew_between A B page) → IsTrue (all page) = λ page h. one-of (belongs (place.store ∷ []) before page) (C.drawn page) (laws.drawn_stays b c bc page (left (B.drawn page) (not (A.drawn page)) h)) in
        let first : IsWithin (only place.first) all = only-within all place.first (on-way place.first (first-reached before schema places view d at)) in
        record {
          asks = laws.asked_on a b c all (λ page. true && all page) 17 0 ab bc
              (laws.asked_more a b (reach place before) (λ page. reach place before page || drew_between A B page) all (λ page. true && all page) 17 17 on-way
              (λ page h. elim (or-cases (reach place before page) (drew_between A B page) h) [ inl k ↦ on-way page k | inr e ↦ drawn page e ]) (omega arith) asks)
              (laws.asked_more b c (only place.first) (only place.first) all (λ page. true && all page) 0 0 first first (omega arith) sets);
          numbers = λ store page h. elim (numbers store page (keeps store page h)) [
            | inl k ↦ inl k
            | inr e ↦ inr (laws.drawn_stays b c bc page (left (B.drawn page) (not (A.drawn page)) e))
          ];
          few = let less = how_many-le (λ page. not (bytes_eq (before page) (over C array page))) (λ page. (page == place.first) || not (bytes_eq (before page) (over B array page)))
              (λ page e. either (page == place.first) (λ t. (t || not (bytes_eq (before page) (over B array page))) ≡ true) (λ _. refl)
              (λ t. ap (λ (image : List ℕ). not (bytes_eq (before page) image)) (sym (later page t)) ∙ e)) page_count in omega (arith, less, few);
        }

    -- the database behind both
    pub leads-new : (ascends : (array : Array) (schema : Outline) (places : List Place) → Has array schema places → AscendByStore places) (spot : Place → Array → List ℕ → ℕ → Type 0) (row : List ℕ) (serial : ℕ) (within : serial < 2 ^ 32) (was : Bool) (result : Result Unit PageFault)
        → Agrees (attempt c) array
        → ForEach (attempt a) (attempt b) (λ x. asked a b (reach place x) (λ page. reach place x page || drew_between (attempt a) (attempt b) page) 17)
        → ForBoth (attempt a) (attempt b) (λ before mid. changes place.first before mid ≤ 34) → ForBoth (attempt a) (attempt b) (λ before mid. OfStore form place before (λ _ _. KeepNumbers (attempt a) (attempt b) before mid))
        → ForBoth (attempt a) (attempt b) (λ before mid. OfStore form place before (λ reached rows. Inserted form spot (asked a b) reach place (attempt a) (attempt b) before mid reached row rows was))
        → asked b c (only place.first) (only place.first) 0
        → OnOk result ((x : Array) → Agrees (attempt c) x → SetsSerial place serial (over (attempt b) x) (over (attempt c) x)) → OnErr result ((attempt c).written ≡ (attempt b).written)
        → IfErr result (OfDamage (λ q spot. (q ≡ place.first) × ForEach (attempt b) (attempt c) (λ x. IsFirstWrong (IsPage (Chain place.store place.key place.width)) (x place.first) spot)))
        → Leads form (asked a c) (attempt a) (attempt c) array schema places (with_last place.store serial (with_rows place.store (with_row place.key row (view.rows place.store)) view)) (λ _. ⊤) (place.store ∷ []) true 17 34 result
    leads-new ascends spot row serial within was result agrees asks few numbers inserted sets set kept wrong =
        let A = attempt a in
        let B = attempt b in
        let C = attempt c in
        let before : Array = over A array in
        let mid : Array = over B array in
        let agrees-mid : Agrees B array = earlier B C array (laws.seen_stays b c bc) agrees in
        let holds = held-at form reach stores before schema places view d place at in
        let rows-now : List (List ℕ) = with_row place.key row (view.rows place.store) in
        let d-mid : IsDatabase form mid schema places (with_rows place.store rows-now view) =
        database-changed form reach stores spot (asked a b) place A B before mid schema places view rows-now (ascends before schema places d.has) d at (inserted array agrees-mid (d.pages place.store) (view.rows place.store) holds).changed in
        let touches : ((page : ℕ) → (page == place.first) ≡ false → over C array page ≡ mid page) → ((store page : ℕ) → IsTrue (is_page_of store (over C array page)) → IsTrue (is_page_of store (mid page))) → Touches (asked a c) A C array (place.store ∷ []) true 17 34 =
        touches-new (asks array agrees-mid) (few array agrees-mid) (numbers array agrees-mid (d.pages place.store) (view.rows place.store) holds) sets in
        ended result set kept wrong touches d-mid
      where
        ended : (r : Result Unit PageFault) → OnOk r ((x : Array) → Agrees (attempt c) x → SetsSerial place serial (over (attempt b) x) (over (attempt c) x)) → OnErr r ((attempt c).written ≡ (attempt b).written)
            → IfErr r (OfDamage (λ q spot. (q ≡ place.first) × ForEach (attempt b) (attempt c) (λ x. IsFirstWrong (IsPage (Chain place.store place.key place.width)) (x place.first) spot)))
            → (((page : ℕ) → (page == place.first) ≡ false → over (attempt c) array page ≡ over (attempt b) array page) → ((store page : ℕ) → IsTrue (is_page_of store (over (attempt c) array page)) → IsTrue (is_page_of store (over (attempt b) array page)))
            → Touches (asked a c) (attempt a) (attempt c) array (place.store ∷ []) true 17 34)
            → IsDatabase form (over (attempt b) array) schema places (with_rows place.store (with_row place.key row (view.rows place.store)) view)
            → Leads form (asked a c) (attempt a) (attempt c) array schema places (with_last place.store serial (with_rows place.store (with_row place.key row (view.rows place.store)) view)) (λ _. ⊤) (place.store ∷ []) true 17 34 r
        ended (Ok u) set kept wrong touches d-mid =
            let x = set array agrees in
            let mid : Array = over (attempt b) array in
            let When : Bool → ℕ → List ℕ = λ t page. if t then with_last_serial serial (mid place.first) else mid page in
            record {
              answers = (tt, database-serial form reach stores place serial mid (over (attempt c) array) schema places (with_rows place.store (with_row place.key row (view.rows place.store)) view) (ascends mid schema places d-mid.has) d-mid at extent within x);
              sound = tt;
              touches = touches (λ page t. x.pages page ∙ ap (λ (u : Bool). When u page) t)
                  (λ store page h. either (page == place.first) (λ t. over (attempt c) array page ≡ When t page → IsTrue (is_page_of store (mid page)))
                  (λ t e. ap (λ (n : ℕ). is_page_of store (mid n)) (eqb-true page place.first t) ∙ sym (same-stores place serial (mid place.first) extent within x.page store) ∙ ap (is_page_of store) (sym e) ∙ h)
                  (λ t e. ap (is_page_of store) (sym e) ∙ h) (x.pages page));
            }
        ended (Err fault) set kept wrong touches d-mid =
            let same : over (attempt c) array ≡ over (attempt b) array = over-same (attempt b) (attempt c) array kept in
            record {
              answers = tt;
              sound = first-right {X = Unit {0}} (attempt b) (attempt c) array schema places (with_rows place.store (with_row place.key row (view.rows place.store)) view) agrees d-mid at (Err fault) wrong;
              touches = touches (λ page t. ap (λ (x : Array). x page) same) (λ store page h. subst (λ (x : Array). IsTrue (is_page_of store (x page))) same h);
            }

  -- where the row isn't put in, the last serial isn't set
  pub leads-stopped : (a b : Self) (after : View → View) (bad : Place → Array → ℕ → ℕ → Type 0) → ((p : Place) (x : Array) (pages : List ℕ) (rows : List (List ℕ)) (page at : ℕ) → bad p x page at → form p x pages rows → ⊥) → (fault : PageFault)
      → ForEach (attempt a) (attempt b) (λ x. asked a b (reach place x) (λ page. reach place x page || drew_between (attempt a) (attempt b) page) 17)
      → ForBoth (attempt a) (attempt b) (λ before mid. changes place.first before mid ≤ 34) → ForBoth (attempt a) (attempt b) (λ before mid. OfStore form place before (λ _ _. KeepNumbers (attempt a) (attempt b) before mid))
      → OfDamage (λ page at. ForEach (attempt a) (attempt b) (λ x. bad place x page at)) fault
      → WithStore form (attempt a) (attempt b) place (λ array schema places view. Leads form (asked a b) (attempt a) (attempt b) array schema places {A = Unit {0}} (after view) (λ _. ⊤) (place.store ∷ []) true 17 34 (Err fault))
  leads-stopped a b after bad never-bad fault asks few numbers wrong = λ array schema places view agrees d at.
      let A = attempt a in
      let B = attempt b in
      let before : Array = over A array in
      let holds = held-at form reach stores before schema places view d place at in
      record {
        answers = tt;
        sound = never-damaged attempt follows asked laws a b form reach stores place {X = Unit {0}} bad never-bad array (d.pages place.store) (view.rows place.store) agrees holds (Err fault) wrong;
        touches = touches-changed attempt follows asked laws a b form reach stores place array schema places view d at (reach place before) (λ page. reach place before page || drew_between A B page) 17 17 34
            (λ page h. first-of (reach place before page) (drew_between A B page) h) (λ page h. h) (omega arith) (asks array agrees) (numbers array agrees (d.pages place.store) (view.rows place.store) holds) (differences-few place.first before (over B array) 34 (few array agrees));
      }
