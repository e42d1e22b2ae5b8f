-- The last serial behind a call that puts it.
use Rattle.std.proofs.Common.{◌≡◌, ℕ, ◌==◌, ◌||◌, if◌then◌else◌, Bool, true, false, List, Option, Some, None, Result, Ok, Err, OnOk, IsTrue, refl, sym, ap, ◌∙◌, subst, arith, true≢false}
use Rattle.std.specs.Prelude.{IsSome}
use Rattle.st_values.proofs.Tests.{first-of, one-of}
use Rattle.st_page.specs.declared.fault.PageFault.{PageFault}
use Rattle.st_image.specs.Fields.{blank, kind_of, with_last_serial}
use Rattle.st_image.specs.Grammar.{IsRowPage}
use Rattle.st_pages.specs.Attempt.{Array, Attempt, Agrees, image_or, is_of_store, may_put, over, wrote}
use Rattle.st_pages.specs.declared.places.Place.{Place}
use Rattle.st_pages.specs.Reading.{ForEach}
use Rattle.st_store.specs.Stores.{HasPutStores}
use Rattle.st_catalog.specs.Reading.{SetsSerial}
use Rattle.st_pages.proofs.Carried.{Stays, over-same, later}

-- what a put leaves
abbrev pub Put : Type 0
Put = (a : Attempt) (page : ℕ) (image : List ℕ) (pages : Array) (other : ℕ) → over (wrote page image a) pages other ≡ (if other == page then image else over a pages other)

either-way : (b : Bool) (frame image other there : List ℕ) → frame ≡ image → other ≡ there → (if b then frame else other) ≡ (if b then image else there)
either-way true frame image other there e f = e
either-way false frame image other there e f = f

pub on-ok : (X Y : Type 0) (r : Result Unit PageFault) → OnOk r X → (X → Y) → OnOk r Y
on-ok X Y (Ok x) h f = f h
on-ok X Y (Err e) h f = tt

pub sets : Put → (old mid new : Attempt) (place : Place) (serial : ℕ) (image frame : List ℕ) → mid.written ≡ old.written → Stays mid new → ForEach old mid (λ a. a place.first ≡ image) → IsRowPage 2 place.store place.key place.width image → frame ≡ with_last_serial serial image → new ≡ wrote place.first frame mid
    → (array : Array) → Agrees new array → SetsSerial place serial (over old array) (over new array)
sets put old mid new place serial image frame e stays at is set wrote-is array agrees =
    let here : over old array place.first ≡ image = later old mid new (λ a. a place.first ≡ image) stays at array agrees in
    let same = over-same old mid array e in
    record {
      page = subst (IsRowPage 2 place.store place.key place.width) (sym here) is;
      pages = λ page.
          ap (λ (a : Attempt). over a array page) wrote-is ∙ put mid place.first frame array page
          ∙ either-way (page == place.first) frame (with_last_serial serial (over old array place.first)) (over mid array page) (over old array page) (set ∙ ap (with_last_serial serial) (sym here)) (ap (λ (a : Array). a page) same);
    }

-- ---- which page may be put

-- what may be put later
grow : (a b : Attempt) (page : ℕ) → Stays a b → (IsTrue (a.drawn page) → IsTrue (b.drawn page)) → IsTrue (may_put a page) → IsTrue (may_put b page)
grow a b page stays drawn may = go (a.drawn page) (a.seen page) refl refl may
  where
    go : (d : Bool) (o : Option (List ℕ)) → a.drawn page ≡ d → a.seen page ≡ o → (d || is_of_store o) ≡ true → IsTrue (may_put b page)
    go true o e f h = first-of (b.drawn page) (is_of_store (b.seen page)) (drawn e)
    go false None e f h = absurd (true≢false (sym h))
    go false (Some image) e f h = one-of (b.drawn page) (is_of_store (b.seen page)) (ap is_of_store (stays page image f) ∙ h)

-- the array that has what was seen, and else blank pages
abbrev seen_array : Attempt → Array
seen_array a = λ page. image_or blank (a.seen page)

seen-agrees : (a : Attempt) → Agrees a (seen_array a)
seen-agrees a page image e = ap (image_or blank) e

blank-kind : kind_of blank ≡ 0
unfolding blank
blank-kind = refl

kind-two : (image : List ℕ) → kind_of image ≡ 2 → is_of_store (Some image) ≡ true
kind-two image e = rw e refl

of-chain : (o : Option (List ℕ)) → kind_of (image_or blank o) ≡ 2 → is_of_store o ≡ true
of-chain None e = absurd (let none = blank-kind in omega (arith, e, none))
of-chain (Some image) e = kind-two image e

-- a page that was got and is one of a chain may be put, where all that was written might be
pub chain-may : (old mid new : Attempt) (page : ℕ) (image : List ℕ) → HasPutStores old → mid.written ≡ old.written → Stays old mid → Stays mid new
    → (IsTrue (old.drawn page) → IsTrue (mid.drawn page)) → (IsTrue (mid.drawn page) → IsTrue (new.drawn page)) → ForEach old mid (λ a. a page ≡ image) → kind_of image ≡ 2 → IsTrue (may_put new page)
chain-may old mid new page image puts same before behind drawn-mid drawn-new at kind = grow mid new page behind drawn-new (go (old.written page) refl)
  where
    go : (o : Option (List ℕ)) → old.written page ≡ o → IsTrue (may_put mid page)
    go (Some w) e = grow old mid page before drawn-mid (puts page (subst IsSome (sym e) refl))
    go None e =
        let here : over old (seen_array mid) page ≡ image = at (seen_array mid) (seen-agrees mid) in
        let seen : kind_of (image_or blank (mid.seen page)) ≡ 2 = ap kind_of (sym (ap (λ (o : Option (List ℕ)). image_or (seen_array mid page) o) e) ∙ here) ∙ kind in
        one-of (mid.drawn page) (is_of_store (mid.seen page)) (of-chain (mid.seen page) seen)
