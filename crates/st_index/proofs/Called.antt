-- Calls on stores in a row: what they ask of pages, and what they leave.
use Rattle.std.proofs.Common.{◌≡◌, ℕ, ◌+◌, ◌*◌, ◌≤◌, ◌||◌, Bool, false, ◌⊎◌, None, IsTrue, List, ◌++◌, length, Result, Ok, Err, IfErr, OnOk, sym, ◌∙◌, subst, inl, inr, arith, true≢false}
use Rattle.std.proofs.lemmas.List.Folds.{list_any-append}
use Rattle.std.specs.Prelude.{Option, Some, IfSome}
use Rattle.st_values.specs.declared.value.EntityId.{EntityId}
use Rattle.st_values.specs.declared.value.Value.{Value}
use Rattle.st_values.specs.Order.{same_value}
use Rattle.st_lattice.specs.declared.attribute.Attribute.{Attribute}
use Rattle.st_index.specs.Turned.{noted, turned_places}
use Rattle.st_values.proofs.Tests.{first-of, one-of}
use Rattle.st_page.specs.declared.fault.PageFault.{PageFault}
use Rattle.st_pages.specs.declared.places.Place.{Place}
use Rattle.st_pages.specs.Attempt.{Array, Attempt, Agrees, IsSound, over, may_put}
use Rattle.st_pages.specs.Calls.{HasAsked, IsWithin}
use Rattle.st_pages.specs.Reading.{ForEach, OfDamage}
use Rattle.st_pages.proofs.Carried.{Stays}
use Rattle.st_store.specs.Stores.{Changed, HasPutStores, ForBoth, KeepNumbers, OfStore, any_page, among, drew_between}
use Rattle.st_index.specs.Noted.{AllHold, IsNoted, reach_any, differences}
use Rattle.st_index.specs.Change.{AreApart, Moved}
use Rattle.st_index.proofs.Counted.{Drawn, or-cases, differences-then, none-drawn, drew-first, drew-second, drew-blank, may-stay, numbers-then, puts-stay}
use Rattle.st_index.proofs.Changes.{Laws, bad-weaken, change-then, moved-then, hold-later, reach-later, all-first, all-second}

-- agreement with what was seen later
pub earlier : (b c : Attempt) (pages : Array) → Stays b c → Agrees c pages → Agrees b pages
earlier b c pages stays agrees = λ page image e. agrees page image (stays page image e)

pub few-then : (a b c : Attempt) (m n k : ℕ) → Stays b c → m + n ≤ k → ForBoth a b (λ before mid. differences before mid ≤ m) → ForBoth b c (λ mid after. differences mid after ≤ n) → ForBoth a c (λ before after. differences before after ≤ k)
few-then a b c m n k stays less first second = λ pages agrees.
    let sum = differences-then (over a pages) (over b pages) (over c pages) m n (first pages (earlier b c pages stays agrees)) (second pages agrees) in
    omega (arith, sum, less)

pub times : (k m n l r : ℕ) → l ≡ m + n → k * m * r + k * n * r ≤ k * l * r
times k m n l r e = subst (λ (x : ℕ). k * m * r + k * n * r ≤ k * x * r) (sym e) (omega arith)

-- ---- what is asked of pages

pub record PageLaws {Self : Type 0} (attempt : Self → Attempt) (follows : Self → Self → Type 0) (asked : Self → Self → (ℕ → Bool) → (ℕ → Bool) → ℕ → Type 0) : Type 0 where
  pub is_sound : (a : Self) → IsSound (attempt a)
  pub seen_stays : (a b : Self) → follows a b → Stays (attempt a) (attempt b)
  pub drawn_stays : (a b : Self) → follows a b → Drawn (attempt a) (attempt b)
  pub drawn_unwritten : (a b : Self) → follows a b → (page : ℕ) → IsTrue ((attempt b).drawn page) → IsTrue ((attempt a).drawn page) ⊎ ((attempt a).written page ≡ None)
  pub follows_on : (a b c : Self) → follows a b → follows b c → follows a c
  pub asked_more : (a b : Self) (got put got_too put_too : ℕ → Bool) (most more : ℕ) → IsWithin got got_too → IsWithin put put_too → most ≤ more → asked a b got put most → asked a b got_too put_too more
  pub asked_on : (a b c : Self) (got put : ℕ → Bool) (most more : ℕ) → follows a b → follows b c → asked a b got put most → asked b c got put more → asked a c got put (most + more)
  pub asked_tells : (a b : Self) (got put : ℕ → Bool) (most : ℕ) → follows a b → asked a b got put most → HasAsked (attempt a) (attempt b) got put most

module _ {Self : Type 0} (attempt : Self → Attempt) (follows : Self → Self → Type 0) (asked : Self → Self → (ℕ → Bool) → (ℕ → Bool) → ℕ → Type 0) (laws : PageLaws attempt follows asked) (a b c : Self) (ab : follows a b) (bc : follows b c) where
  pub asked-then : (got put got-a put-a got-b put-b : ℕ → Bool) (m n k : ℕ) → IsWithin got-a got → IsWithin put-a put → IsWithin got-b got → IsWithin put-b put → m + n ≤ k → asked a b got-a put-a m → asked b c got-b put-b n → asked a c got put k
  asked-then got put got-a put-a got-b put-b m n k ga pa gb pb less first second =
      laws.asked_more a c got put got put (m + n) k (λ p e. e) (λ p e. e) less
      (laws.asked_on a b c got put m n ab bc (laws.asked_more a b got-a put-a got put m m ga pa (omega arith) first) (laws.asked_more b c got-b put-b got put n n gb pb (omega arith) second))

  pub kinds-then : (m n k : ℕ) → m + n ≤ k → (HasPutStores (attempt a) → asked a b any_page (may_put (attempt b)) m) → (HasPutStores (attempt b) → asked b c any_page (may_put (attempt c)) n) → HasPutStores (attempt a) → asked a c any_page (may_put (attempt c)) k
  kinds-then m n k less first second puts =
      let one = first puts in
      let puts-b = puts-stay (attempt a) (attempt b) m (laws.drawn_stays a b ab) (laws.seen_stays a b ab) puts (laws.asked_tells a b any_page (may_put (attempt b)) m ab one) in
      asked-then any_page (may_put (attempt c)) any_page (may_put (attempt b)) any_page (may_put (attempt c)) m n k (λ p e. e) (may-stay (attempt b) (attempt c) (laws.drawn_stays b c bc) (laws.seen_stays b c bc)) (λ p e. e) (λ p e. e) less one (second puts-b)

  -- ---- one store

  module _ (form : Place → Array → List ℕ → List (List ℕ) → Type 0) (spot : Place → Array → List ℕ → ℕ → Type 0) (reach : Place → Array → ℕ → Bool) (stores : Laws form reach) where
    pub one-asked : (place : Place) (before mid : Array) (pages : List ℕ) (rows more : List (List ℕ)) (n : ℕ) → form place before pages rows → Changed form spot (asked a b) reach place (attempt a) (attempt b) before mid pages more
        → asked a b (reach place before) (reach place before) 0 → asked b c (reach place mid) (λ page. reach place mid page || drew_between (attempt b) (attempt c) page) n
        → asked a c (reach place before) (λ page. reach place before page || drew_between (attempt a) (attempt c) page) n
    one-asked place before mid pages rows more n holds x first second =
        let A = attempt a in
        let B = attempt b in
        let C = attempt c in
        let none = none-drawn A B (laws.drawn_stays a b ab) (laws.is_sound b) (laws.asked_tells a b (reach place before) (reach place before) 0 ab first).drew_most in
        let back : IsWithin (reach place mid) (reach place before) = λ page h.
        elim (or-cases (among pages page) (drew_between A B page) (x.taken page (sym (stores.reached place mid x.pages_now more page x.has) ∙ h))) [
          | inl k ↦ stores.reached place before pages rows page holds ∙ k
          | inr d ↦ absurd (true≢false (sym d ∙ none page))
        ] in
        asked-then (reach place before) (λ page. reach place before page || drew_between A C page) (reach place before) (reach place before) (reach place mid) (λ page. reach place mid page || drew_between B C page) 0 n n
        (λ p e. e) (λ page h. first-of (reach place before page) (drew_between A C page) h) back
        (λ page h. elim (or-cases (reach place mid page) (drew_between B C page) h) [
          | inl k ↦ first-of (reach place before page) (drew_between A C page) (back page k)
          | inr d ↦ one-of (reach place before page) (drew_between A C page) (drew-second A B C (laws.drawn_stays a b ab) (laws.drawn_stays b c bc) page d)
        ])
        (omega arith) first second

    pub changed-then : (place : Place) (f g : List (List ℕ) → List (List ℕ)) (answer : Result Unit PageFault)
        → ForBoth (attempt a) (attempt b) (λ before mid. OfStore form place before (λ had rows. Changed form spot (asked a b) reach place (attempt a) (attempt b) before mid had (f rows)))
        → OnOk answer (ForBoth (attempt b) (attempt c) (λ mid after. OfStore form place mid (λ had rows. Changed form spot (asked b c) reach place (attempt b) (attempt c) mid after had (g rows))))
        → OnOk answer (ForBoth (attempt a) (attempt c) (λ before after. OfStore form place before (λ had rows. Changed form spot (asked a c) reach place (attempt a) (attempt c) before after had (g (f rows)))))
    changed-then place f g (Ok u) first second = λ pages agrees had rows holds.
        let A = attempt a in
        let B = attempt b in
        let C = attempt c in
        let x = first pages (earlier B C pages (laws.seen_stays b c bc) agrees) had rows holds in
        let y = second pages agrees x.pages_now (f rows) x.has in
        change-then form spot reach (asked a b) (asked b c) (asked a c) place A B C (laws.drawn_stays a b ab) (laws.drawn_stays b c bc) (over A pages) (over B pages) (over C pages) had (f rows) (g (f rows))
        (drew-blank A C pages (laws.is_sound c) (laws.drawn_unwritten a c (laws.follows_on a b c ab bc)) agrees) x y
    changed-then place f g (Err fault) first second = tt

    pub bad-then : (place : Place) (f : List (List ℕ) → List (List ℕ)) (bad : Place → Array → ℕ → ℕ → Type 0)
        → ((p : Place) (array : Array) (pages : List ℕ) (rows : List (List ℕ)) (page at : ℕ) → bad p array page at → form p array pages rows → ⊥) → (answer : Result Unit PageFault)
        → ForBoth (attempt a) (attempt b) (λ before mid. OfStore form place before (λ had rows. Changed form spot (asked a b) reach place (attempt a) (attempt b) before mid had (f rows)))
        → IfErr answer (OfDamage (λ page at. ForEach (attempt b) (attempt c) (λ array. bad place array page at)))
        → IfErr answer (OfDamage (λ page at. ForEach (attempt a) (attempt c) (λ array. OfStore form place array (λ _ _. ⊥))))
    bad-then place f bad never answer first second =
        bad-weaken (λ page at. ForEach (attempt b) (attempt c) (λ array. bad place array page at)) (λ page at. ForEach (attempt a) (attempt c) (λ array. OfStore form place array (λ _ _. ⊥))) answer
        (λ page at wrong pages agrees had rows holds.
        let x = first pages (earlier (attempt b) (attempt c) pages (laws.seen_stays b c bc) agrees) had rows holds in
        never place (over (attempt b) pages) x.pages_now (f rows) page at (wrong pages agrees) x.has)
        second

    pub one-numbers : (place : Place) (f : List (List ℕ) → List (List ℕ))
        → ForBoth (attempt a) (attempt b) (λ before mid. OfStore form place before (λ had rows. Changed form spot (asked a b) reach place (attempt a) (attempt b) before mid had (f rows)))
        → ForBoth (attempt a) (attempt b) (λ before mid. OfStore form place before (λ _ _. KeepNumbers (attempt a) (attempt b) before mid))
        → ForBoth (attempt b) (attempt c) (λ mid after. OfStore form place mid (λ _ _. KeepNumbers (attempt b) (attempt c) mid after))
        → ForBoth (attempt a) (attempt c) (λ before after. OfStore form place before (λ _ _. KeepNumbers (attempt a) (attempt c) before after))
    one-numbers place f changed first second = λ pages agrees had rows holds.
        let A = attempt a in
        let B = attempt b in
        let C = attempt c in
        let mid = earlier B C pages (laws.seen_stays b c bc) agrees in
        let x = changed pages mid had rows holds in
        numbers-then A B C (laws.drawn_stays a b ab) (laws.drawn_stays b c bc) (over A pages) (over B pages) (over C pages) (first pages mid had rows holds) (second pages agrees x.pages_now (f rows) x.has)

  -- ---- several stores

  module _ (form : Place → Array → List ℕ → List (List ℕ) → Type 0) (reach : Place → Array → ℕ → Bool) (stores : Laws form reach) where
    module _ (ps qs : List Place) (apart : AreApart ps qs) (change : List (List ℕ) → List (List ℕ))
        (first : ForBoth (attempt a) (attempt b) (λ before mid. AllHold form reach ps before → Moved form reach ps change (attempt a) (attempt b) before mid)) where
      any-in : (array : Array) (page : ℕ) → reach_any form reach (ps ++ qs) array page ≡ (reach_any form reach ps array page || reach_any form reach qs array page)
      any-in array page = list_any-append (λ p. reach p array page) ps qs

      in-first : (array : Array) → IsWithin (reach_any form reach ps array) (reach_any form reach (ps ++ qs) array)
      in-first array page h = any-in array page ∙ first-of (reach_any form reach ps array page) (reach_any form reach qs array page) h

      in-second : (array : Array) → IsWithin (reach_any form reach qs array) (reach_any form reach (ps ++ qs) array)
      in-second array page h = any-in array page ∙ one-of (reach_any form reach ps array page) (reach_any form reach qs array page) h

      pub both-asked : (r : ℕ) (most : ℕ) → 17 * length ps * r + 17 * length qs * r ≤ most
          → ForEach (attempt a) (attempt b) (λ array. AllHold form reach ps array → asked a b (reach_any form reach ps array) (λ page. reach_any form reach ps array page || drew_between (attempt a) (attempt b) page) (17 * length ps * r))
          → ForEach (attempt b) (attempt c) (λ array. AllHold form reach qs array → asked b c (reach_any form reach qs array) (λ page. reach_any form reach qs array page || drew_between (attempt b) (attempt c) page) (17 * length qs * r))
          → ForEach (attempt a) (attempt c) (λ array. AllHold form reach (ps ++ qs) array → asked a c (reach_any form reach (ps ++ qs) array) (λ page. reach_any form reach (ps ++ qs) array page || drew_between (attempt a) (attempt c) page) most)
      both-asked r most less one two = λ pages agrees all.
          let A = attempt a in
          let B = attempt b in
          let C = attempt c in
          let Hold : Place → Type 0 = λ p. (had : List ℕ) × (rows : List (List ℕ)) × form p (over A pages) had rows in
          let held-ps : AllHold form reach ps (over A pages) = all-first Hold ps qs all in
          let held-qs : AllHold form reach qs (over A pages) = all-second Hold ps qs all in
          let agrees-b = earlier B C pages (laws.seen_stays b c bc) agrees in
          let x = first pages agrees-b held-ps in
          let mid-qs = hold-later form reach stores ps qs change A B (over A pages) (over B pages) apart x held-ps held-qs in
          let same = reach-later form reach stores ps qs change A B (over A pages) (over B pages) apart x held-ps held-qs in
          let both-reach : ℕ → Bool = reach_any form reach (ps ++ qs) (over A pages) in
          asked-then both-reach (λ page. both-reach page || drew_between A C page)
          (reach_any form reach ps (over A pages)) (λ page. reach_any form reach ps (over A pages) page || drew_between A B page)
          (reach_any form reach qs (over B pages)) (λ page. reach_any form reach qs (over B pages) page || drew_between B C page)
          (17 * length ps * r) (17 * length qs * r) most
          (in-first (over A pages))
          (λ page h. elim (or-cases (reach_any form reach ps (over A pages) page) (drew_between A B page) h) [
            | inl k ↦ first-of (both-reach page) (drew_between A C page) (in-first (over A pages) page k)
            | inr d ↦ one-of (both-reach page) (drew_between A C page) (drew-first A B C (laws.drawn_stays a b ab) (laws.drawn_stays b c bc) page d)
          ])
          (λ page h. in-second (over A pages) page (sym (same page) ∙ h))
          (λ page h. elim (or-cases (reach_any form reach qs (over B pages) page) (drew_between B C page) h) [
            | inl k ↦ first-of (both-reach page) (drew_between A C page) (in-second (over A pages) page (sym (same page) ∙ k))
            | inr d ↦ one-of (both-reach page) (drew_between A C page) (drew-second A B C (laws.drawn_stays a b ab) (laws.drawn_stays b c bc) page d)
          ])
          less (one pages agrees-b held-ps) (two pages agrees mid-qs)

      pub both-moved : (answer : Result Unit PageFault)
          → OnOk answer (ForBoth (attempt b) (attempt c) (λ mid after. AllHold form reach qs mid → Moved form reach qs change (attempt b) (attempt c) mid after))
          → OnOk answer (ForBoth (attempt a) (attempt c) (λ before after. AllHold form reach (ps ++ qs) before → Moved form reach (ps ++ qs) change (attempt a) (attempt c) before after))
      both-moved (Ok u) second = λ pages agrees all.
          let A = attempt a in
          let B = attempt b in
          let C = attempt c in
          let Hold : Place → Type 0 = λ p. (had : List ℕ) × (rows : List (List ℕ)) × form p (over A pages) had rows in
          let held-ps : AllHold form reach ps (over A pages) = all-first Hold ps qs all in
          let held-qs : AllHold form reach qs (over A pages) = all-second Hold ps qs all in
          let x = first pages (earlier B C pages (laws.seen_stays b c bc) agrees) held-ps in
          let mid-qs = hold-later form reach stores ps qs change A B (over A pages) (over B pages) apart x held-ps held-qs in
          let y = second pages agrees mid-qs in
          moved-then form reach stores ps qs change A B C (laws.drawn_stays a b ab) (laws.drawn_stays b c bc) (over A pages) (over B pages) (over C pages) apart x y held-ps held-qs
          (drew-blank A C pages (laws.is_sound c) (laws.drawn_unwritten a c (laws.follows_on a b c ab bc)) agrees)
      both-moved (Err fault) second = tt

      pub both-numbers : ForBoth (attempt a) (attempt b) (λ before mid. AllHold form reach ps before → KeepNumbers (attempt a) (attempt b) before mid)
          → ForBoth (attempt b) (attempt c) (λ mid after. AllHold form reach qs mid → KeepNumbers (attempt b) (attempt c) mid after)
          → ForBoth (attempt a) (attempt c) (λ before after. AllHold form reach (ps ++ qs) before → KeepNumbers (attempt a) (attempt c) before after)
      both-numbers one two = λ pages agrees all.
          let A = attempt a in
          let B = attempt b in
          let C = attempt c in
          let Hold : Place → Type 0 = λ p. (had : List ℕ) × (rows : List (List ℕ)) × form p (over A pages) had rows in
          let held-ps : AllHold form reach ps (over A pages) = all-first Hold ps qs all in
          let held-qs : AllHold form reach qs (over A pages) = all-second Hold ps qs all in
          let agrees-b = earlier B C pages (laws.seen_stays b c bc) agrees in
          let x = first pages agrees-b held-ps in
          numbers-then A B C (laws.drawn_stays a b ab) (laws.drawn_stays b c bc) (over A pages) (over B pages) (over C pages) (one pages agrees-b held-ps)
          (two pages agrees (hold-later form reach stores ps qs change A B (over A pages) (over B pages) apart x held-ps held-qs))

      pub both-bad : (answer : Result Unit PageFault)
          → IfErr answer (OfDamage (λ page at. ForEach (attempt b) (attempt c) (λ array. AllHold form reach qs array → ⊥)))
          → IfErr answer (OfDamage (λ page at. ForEach (attempt a) (attempt c) (λ array. AllHold form reach (ps ++ qs) array → ⊥)))
      both-bad answer second =
          bad-weaken (λ page at. ForEach (attempt b) (attempt c) (λ array. AllHold form reach qs array → ⊥)) (λ page at. ForEach (attempt a) (attempt c) (λ array. AllHold form reach (ps ++ qs) array → ⊥)) answer
          (λ page at wrong pages agrees all.
          let A = attempt a in
          let B = attempt b in
          let C = attempt c in
          let Hold : Place → Type 0 = λ p. (had : List ℕ) × (rows : List (List ℕ)) × form p (over A pages) had rows in
          let held-ps : AllHold form reach ps (over A pages) = all-first Hold ps qs all in
          let held-qs : AllHold form reach qs (over A pages) = all-second Hold ps qs all in
          let x = first pages (earlier B C pages (laws.seen_stays b c bc) agrees) held-ps in
          wrong pages agrees (hold-later form reach stores ps qs change A B (over A pages) (over B pages) apart x held-ps held-qs))
          second

-- ---- what is noted

pub noted-of : (a c : Attempt) (form : Place → Array → List ℕ → List (List ℕ) → Type 0) (reach : Place → Array → ℕ → Bool) (places : List Place) (number : ℕ) (ps : List Place) → ps ≡ turned_places number places → (entity : EntityId) (old new : Value)
    → (there : Option Attribute) (found : Attribute) → Some found ≡ there → (answer : Result Unit PageFault)
    → OnOk answer (ForBoth a c (λ before after. AllHold form reach ps before → Moved form reach ps (λ rows. noted found.kind entity old new rows) a c before after))
    → OnOk answer (IfSome there (λ d. same_value old new ≡ false → ForBoth a c (λ before after. AllHold form reach (turned_places number places) before →
    IsNoted form reach places number d.kind entity old new a c before after)))
noted-of a c form reach places number ps same entity old new there found is (Err fault) moved = tt
noted-of a c form reach places number ps same entity old new there found is (Ok u) moved =
    subst (λ (o : Option Attribute). IfSome o (λ d. same_value old new ≡ false → ForBoth a c (λ before after. AllHold form reach (turned_places number places) before →
    IsNoted form reach places number d.kind entity old new a c before after))) is
    (λ differ pages agrees all.
    let x = subst (λ (qs : List Place). AllHold form reach qs (over a pages) → Moved form reach qs (λ rows. noted found.kind entity old new rows) a c (over a pages) (over c pages)) same (moved pages agrees) all in
    record { each = x.each; others = x.others; drawn = x.drawn; used = x.used })
