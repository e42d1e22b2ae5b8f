-- Calls in a row on the stores of a database: what they ask of its pages, and what they give.
use Rattle.std.proofs.Common.{◌≡◌, ℕ, ◌+◌, ◌≤◌, ◌==◌, ◌||◌, Bool, true, false, List, [], ◌++◌, Result, Ok, Err, IsTrue, IfOk, ◌∙◌, inl, inr, arith}
use Rattle.std.specs.Prelude.{◌&&◌}
use Rattle.std.proofs.lemmas.List.Folds.{list_any-append}
use Rattle.st_values.proofs.Tests.{both, first-of, left, one-of, right}
use Rattle.st_page.specs.declared.fault.PageFault.{PageFault}
use Rattle.st_lattice.specs.Outline.{Outline}
use Rattle.st_pages.specs.declared.places.Place.{Place}
use Rattle.st_pages.specs.Attempt.{Array, Attempt, over}
use Rattle.st_pages.specs.Calls.{IsWithin}
use Rattle.st_store.specs.Stores.{among, is_page_of}
use Rattle.st_index.proofs.Counted.{differences-none, differences-then, or-cases}
use Rattle.st_index.proofs.Called.{PageLaws}
use Rattle.st_database.specs.Database.{IsDatabase, View}
use Rattle.st_database.specs.Touches.{Leads, Touches, belongs, may_touch}
use Rattle.st_database.proofs.Listed.{any-found, any-there}

-- some stores are among others
abbrev pub AreAmong : List ℕ → List ℕ → Type 0
AreAmong stores others = (store : ℕ) → IsTrue (among stores store) → IsTrue (among others store)

pub among-first : (stores others : List ℕ) → AreAmong stores (stores ++ others)
among-first stores others store m = list_any-append (λ s. s == store) stores others ∙ first-of (among stores store) (among others store) m

pub among-second : (stores others : List ℕ) → AreAmong others (stores ++ others)
among-second stores others store m = list_any-append (λ s. s == store) stores others ∙ one-of (among stores store) (among others store) m

-- a page that is one of some stores is one of others that they are among
belongs-more : (stores others : List ℕ) → AreAmong stores others → (array : Array) → IsWithin (belongs stores array) (belongs others array)
belongs-more stores others more array page h =
    let found = any-found (λ store. is_page_of store (array page)) stores h in
    any-there (λ store. is_page_of store (array page)) others found.0 (more found.0 found.1) found.2

module _ {Self : Type 0} (attempt : Self → Attempt) (follows : Self → Self → Type 0) (asked : Self → Self → (ℕ → Bool) → (ℕ → Bool) → ℕ → Type 0) where
  -- nothing is asked where there is no call
  pub touches-nothing : ((a : Self) (got put : ℕ → Bool) → asked a a got put 0) → (a : Self) (array : Array) → Touches (asked a a) (attempt a) (attempt a) array [] false 0 0
  touches-nothing nothing a array = record {
    asks = nothing a (may_touch [] (attempt a) (over (attempt a) array)) (λ page. false && may_touch [] (attempt a) (over (attempt a) array) page);
    numbers = λ store page h. inl h;
    few = differences-none (over (attempt a) array) 0;
  }

  module _ (laws : PageLaws attempt follows asked) where
    -- to more stores, from not putting to putting, and to greater numbers
    pub touches-more : (a b : Self) (array : Array) (stores others : List ℕ) (puts too : Bool) (most top more up : ℕ) → AreAmong stores others → (puts ≡ true → too ≡ true) → most ≤ top → more ≤ up
        → Touches (asked a b) (attempt a) (attempt b) array stores puts most more → Touches (asked a b) (attempt a) (attempt b) array others too top up
    touches-more a b array stores others puts too most top more up among-others puts-too below less x =
        let B = attempt b in
        let before : Array = over (attempt a) array in
        let wider : IsWithin (may_touch stores B before) (may_touch others B before) = λ page h.
        elim (or-cases (belongs stores before page) (B.drawn page) h) [
          | inl k ↦ first-of (belongs others before page) (B.drawn page) (belongs-more stores others among-others before page k)
          | inr d ↦ one-of (belongs others before page) (B.drawn page) d
        ] in
        record {
          asks = laws.asked_more a b (may_touch stores B before) (λ page. puts && may_touch stores B before page) (may_touch others B before) (λ page. too && may_touch others B before page) most top wider
              (λ page h. both too (may_touch others B before page) (puts-too (left puts (may_touch stores B before page) h)) (wider page (right puts (may_touch stores B before page) h))) below x.asks;
          numbers = x.numbers;
          few = let few = x.few in omega (arith, few, less);
        }

    -- two calls in a row
    pub touches-then : (a b c : Self) → follows a b → follows b c → (array : Array) (stores others : List ℕ) (puts too : Bool) (m n k l : ℕ)
        → Touches (asked a b) (attempt a) (attempt b) array stores puts m k → Touches (asked b c) (attempt b) (attempt c) array others too n l
        → Touches (asked a c) (attempt a) (attempt c) array (stores ++ others) (puts || too) (m + n) (k + l)
    touches-then a b c ab bc array stores others puts too m n k l x y =
        let A = attempt a in
        let B = attempt b in
        let C = attempt c in
        let first : Array = over A array in
        let second : Array = over B array in
        let all : ℕ → Bool = may_touch (stores ++ others) C first in
        let in-stores : (page : ℕ) → IsTrue (belongs stores first page) → IsTrue (all page) = λ page h.
        first-of (belongs (stores ++ others) first page) (C.drawn page) (belongs-more stores (stores ++ others) (among-first stores others) first page h) in
        let in-drawn : (page : ℕ) → IsTrue (B.drawn page) → IsTrue (all page) = λ page h.
        one-of (belongs (stores ++ others) first page) (C.drawn page) (laws.drawn_stays b c bc page h) in
        let wide-first : IsWithin (may_touch stores B first) all = λ page h.
        elim (or-cases (belongs stores first page) (B.drawn page) h) [ inl e ↦ in-stores page e | inr d ↦ in-drawn page d ] in
        let wide-second : IsWithin (may_touch others C second) all = λ page h.
        elim (or-cases (belongs others second page) (C.drawn page) h) [
          | inl e ↦
              let found = any-found (λ store. is_page_of store (second page)) others e in
              elim (x.numbers found.0 page found.2) [
                | inl was ↦ first-of (belongs (stores ++ others) first page) (C.drawn page)
                    (any-there (λ store. is_page_of store (first page)) (stores ++ others) found.0 (among-second stores others found.0 found.1) was)
                | inr d ↦ in-drawn page d
              ]
          | inr d ↦ one-of (belongs (stores ++ others) first page) (C.drawn page) d
        ] in
        record {
          asks = laws.asked_on a b c all (λ page. (puts || too) && all page) m n ab bc
              (laws.asked_more a b (may_touch stores B first) (λ page. puts && may_touch stores B first page) all (λ page. (puts || too) && all page) m m wide-first
              (λ page h. both (puts || too) (all page) (first-of puts too (left puts (may_touch stores B first page) h)) (wide-first page (right puts (may_touch stores B first page) h))) (omega arith) x.asks)
              (laws.asked_more b c (may_touch others C second) (λ page. too && may_touch others C second page) all (λ page. (puts || too) && all page) n n wide-second
              (λ page h. both (puts || too) (all page) (one-of puts too (left too (may_touch others C second page) h)) (wide-second page (right too (may_touch others C second page) h))) (omega arith) y.asks);
          numbers = λ store page h. elim (y.numbers store page h) [
            | inl k ↦ elim (x.numbers store page k) [
              | inl j ↦ inl j
              | inr d ↦ inr (laws.drawn_stays b c bc page d)
            ]
            | inr d ↦ inr d
          ];
          few = differences-then first second (over C array) k l x.few y.few;
        }

    module _ (form : Place → Array → List ℕ → List (List ℕ) → Type 0) (array : Array) (schema : Outline) (places : List Place) where
      -- the same answer of more stores, and of greater numbers
      pub leads-more : {X : Type 0} (a b : Self) (after : View) (right : X → Type 0) (stores others : List ℕ) (puts too : Bool) (most top more up : ℕ) (result : Result X PageFault)
          → AreAmong stores others → (puts ≡ true → too ≡ true) → most ≤ top → more ≤ up
          → Leads form (asked a b) (attempt a) (attempt b) array schema places after right stores puts most more result → Leads form (asked a b) (attempt a) (attempt b) array schema places after right others too top up result
      leads-more a b after right stores others puts too most top more up result among-others puts-too below less x = record {
        answers = x.answers;
        sound = x.sound;
        touches = touches-more a b array stores others puts too most top more up among-others puts-too below less x.touches;
      }

      -- two calls in a row, where the first one was answered
      pub leads-then : {X Y : Type 0} (a b c : Self) → follows a b → follows b c → (mid after : View) (found : X → Type 0) (right : Y → Type 0) (stores others : List ℕ) (puts too : Bool) (m n k l : ℕ) (answer : X) (result : Result Y PageFault)
          → Leads form (asked a b) (attempt a) (attempt b) array schema places mid found stores puts m k (Ok answer)
          → (found answer → IsDatabase form (over (attempt b) array) schema places mid → Leads form (asked b c) (attempt b) (attempt c) array schema places after right others too n l result)
          → Leads form (asked a c) (attempt a) (attempt c) array schema places after right (stores ++ others) (puts || too) (m + n) (k + l) result
      leads-then a b c ab bc mid after found right stores others puts too m n k l answer result x second =
          let y = second x.answers.0 x.answers.1 in
          record {
            answers = y.answers;
            sound = y.sound;
            touches = touches-then a b c ab bc array stores others puts too m n k l x.touches y.touches;
          }

      -- a call that wasn't answered ends what it is a part of
      pub leads-fail : {X Y : Type 0} (a b : Self) (mid after : View) (found : X → Type 0) (right : Y → Type 0) (stores : List ℕ) (puts : Bool) (most more : ℕ) (fault : PageFault)
          → Leads form (asked a b) (attempt a) (attempt b) array schema places mid found stores puts most more (Err fault)
          → Leads form (asked a b) (attempt a) (attempt b) array schema places after right stores puts most more (Err fault)
      leads-fail a b mid after found right stores puts most more fault x = record { answers = tt; sound = x.sound; touches = x.touches }

      -- an answer that says less, of an equal view
      pub leads-less : {X : Type 0} (a b : Self) (mid after : View) (found right : X → Type 0) (stores : List ℕ) (puts : Bool) (most more : ℕ) (result : Result X PageFault)
          → ((x : X) → found x → IsDatabase form (over (attempt b) array) schema places mid → right x × IsDatabase form (over (attempt b) array) schema places after)
          → Leads form (asked a b) (attempt a) (attempt b) array schema places mid found stores puts most more result → Leads form (asked a b) (attempt a) (attempt b) array schema places after right stores puts most more result
      leads-less {X} a b mid after found right stores puts most more result less x = record { answers = weaker result x.answers; sound = x.sound; touches = x.touches }
        where
          weaker : (r : Result X PageFault) → IfOk r (λ y. found y × IsDatabase form (over (attempt b) array) schema places mid) → IfOk r (λ y. right y × IsDatabase form (over (attempt b) array) schema places after)
          weaker (Ok y) h = less y h.0 h.1
          weaker (Err fault) h = tt
