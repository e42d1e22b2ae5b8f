-- What holds of each array that agrees, from one call to the next.
use Rattle.std.proofs.Common.{◌≡◌, ℕ, ◌<◌, ◌≤◌, ◌==◌, Bool, List, Option, Some, None, Result, Ok, Err, IfSome, IfErr, IsTrue, refl, sym, ap, ◌∙◌, subst, inl, inr, arith}
use Rattle.std.proofs.lemmas.Bool.Decides.{nat_tests}
use Rattle.st_edge.specs.Faults.{Rose}
use Rattle.st_page.specs.declared.fault.PageFault.{PageFault}
use Rattle.st_page.specs.declared.fault.PageFault.TheVariants.{BadPage, Conflict, Full, TooManyPages, DiskFault, Closed, Memory}
use Rattle.st_image.specs.declared.wanted.Wanted.{Wanted}
use Rattle.st_image.specs.declared.wanted.Wanted.TheVariants.{Free, Schema, Roots, Chain, Leaf, Node}
use Rattle.st_image.specs.Fields.{blank, next_of}
use Rattle.st_image.specs.Grammar.{IsPage}
use Rattle.st_pages.specs.Attempt.{Array, Attempt, over, image_or}
use Rattle.st_pages.specs.Calls.{Met, Counts, IsGetCause, IsWithin, is_of_looking, only}
use Rattle.st_pages.specs.Reading.{ForEach}

-- ---- what holds of each array

-- what was seen stays seen
abbrev pub Stays : Attempt → Attempt → Type 0
Stays old new = (page : ℕ) (image : List ℕ) → old.seen page ≡ Some image → new.seen page ≡ Some image

-- what held of each array that agreed earlier holds of each that agrees now
pub later : (old mid new : Attempt) (Holds : Array → Type 0) → Stays mid new → ForEach old mid Holds → ForEach old new Holds
later old mid new Holds stays each pages agrees = each pages (λ page image e. agrees page image (stays page image e))

-- what holds under what was written in the middle holds under what was written at first, which is the same
pub over-same : (old mid : Attempt) (pages : Array) → mid.written ≡ old.written → over mid pages ≡ over old pages
over-same old mid pages e = ap (λ (w : ℕ → Option (List ℕ)). λ page. image_or (pages page) (w page)) e

pub under : (old mid new : Attempt) (Holds : Array → Type 0) → mid.written ≡ old.written → ForEach mid new Holds → ForEach old new Holds
under old mid new Holds e each pages agrees = subst Holds (over-same old mid pages e) (each pages agrees)

-- ---- faults

pub handed : (old mid new : Met) (told : Option PageFault) → old.count ≤ mid.count → IfSome told (λ f. (new.last ≡ Some f) × Rose mid.count new.count) → IfSome told (λ f. (new.last ≡ Some f) × Rose old.count new.count)
handed old mid new None below on = tt
handed old mid new (Some f) below on = (on.0, λ h. let up = on.1 h in omega (arith, up, below))

-- a page that isn't got is a fault of looking
pub looked : (r : Result Unit PageFault) (page : ℕ) (old new : Counts) (closed : Type 0) → IfErr r (IsGetCause page old new closed) → IfErr r (λ fault. IsTrue (is_of_looking fault))
looked (Ok x) page old new closed cause = tt
looked (Err (BadPage q at)) page old new closed cause = refl
looked (Err (Conflict q holder)) page old new closed cause = refl
looked (Err (Full in_use)) page old new closed cause = absurd cause
looked (Err (TooManyPages count)) page old new closed cause = absurd cause
looked (Err DiskFault) page old new closed cause = refl
looked (Err Closed) page old new closed cause = refl
looked (Err Memory) page old new closed cause = refl

-- ---- pages

same-page : (p page : ℕ) → IsTrue (p == page) → p ≡ page
same-page p page e = grind (arith, nat_tests)

-- a page of a set alone
pub only-within : (pages : ℕ → Bool) (page : ℕ) → IsTrue (pages page) → IsWithin (only page) pages
only-within pages page here = λ p e. subst (λ q. IsTrue (pages q)) (sym (same-page p page e)) here

-- the page behind a page is one
behind-blank : next_of blank ≡ 0
unfolding blank
behind-blank = refl

pub next-is-page : (wanted : Wanted) (image : List ℕ) → IsPage wanted image → next_of image < 65536
next-is-page Free image is = subst (λ (n : ℕ). n < 65536) (sym (ap next_of is ∙ behind-blank)) (omega arith)
next-is-page Schema image is = let n = is.has_header.next in omega (arith, n)
next-is-page Roots image is = let n = is.has_header.next in omega (arith, n)
next-is-page (Chain store key width) image is = let n = is.has_header.next in omega (arith, n)
next-is-page (Leaf store key width) image is = let n = is.has_header.next in omega (arith, n)
next-is-page (Node store key width) image (inl is) = let n = is.has_header.next in omega (arith, n)
next-is-page (Node store key width) image (inr is) = let n = is.has_header.next in omega (arith, n)
