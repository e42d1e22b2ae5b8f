-- Going along a chain of pages.
use Rattle.std.proofs.Common.{◌≡◌, ℕ, zero, suc, ◌+◌, ◌<◌, ◌≤◌, ◌==◌, ◌||◌, Bool, true, false, if◌then◌else◌, List, [], ◌∷◌, ◌++◌, length, IsTrue, refl, sym, ap, ◌∙◌, subst, inl, inr, arith}
use Rattle.std.proofs.lemmas.Bool.Decides.{nat_tests}
use Rattle.std.proofs.lemmas.List.{length-append}
use Rattle.std.specs.List.{list_any}
use Rattle.st_page.specs.declared.fault.PageFault.{PageFault}
use Rattle.st_page.specs.declared.fault.PageFault.TheVariants.{BadPage, Conflict, Full, TooManyPages, DiskFault, Closed, Memory}
use Rattle.st_image.specs.declared.wanted.Wanted.{Wanted}
use Rattle.st_image.specs.Fields.{next_of}
use Rattle.st_image.specs.Grammar.{IsPage}
use Rattle.st_image.specs.Prefixes.{IsFirstWrong}
use Rattle.st_pages.specs.Attempt.{Array, Attempt, over, page_count}
use Rattle.st_pages.specs.Chains.{IsChain, Leads, BreaksAt, IsEndless, way, is_on_way}
use Rattle.st_pages.specs.Reading.{ForEach, OfDamage}
use Rattle.st_catalog.specs.Reading.{Walked, Stepped}
use Rattle.st_pages.proofs.Carried.{Stays, under, later}

-- ---- chains

-- so far: the images of so many pages, which lead to a page
pub record Far (wanted : Wanted) (pages : Array) (first page count : ℕ) (Had : List (List ℕ) → Type 0) : Type 0 where
  pub images : List (List ℕ)
  pub many : length images ≡ count
  pub leads : Leads wanted pages first images page
  pub had : Had images

leads-more : (wanted : Wanted) (pages : Array) (first page : ℕ) (images : List (List ℕ)) (image : List ℕ) → Leads wanted pages first images page → pages page ≡ image → IsPage wanted image → 0 < next_of image → Leads wanted pages first (images ++ image ∷ []) (next_of image)
leads-more wanted pages first page [] image leads at is more = (subst (λ p. pages p ≡ image) leads at, is, more, refl)
leads-more wanted pages first page (other ∷ images) image leads at is more =
    (leads.0, leads.1, leads.2, leads-more wanted pages (next_of other) page images image leads.3 at is more)

chain-end : (wanted : Wanted) (pages : Array) (first page : ℕ) (images : List (List ℕ)) (image : List ℕ) → Leads wanted pages first images page → pages page ≡ image → IsPage wanted image → next_of image ≡ 0 → IsChain wanted pages first (images ++ image ∷ [])
chain-end wanted pages first page [] image leads at is end = (subst (λ p. pages p ≡ image) leads at, is, end)
chain-end wanted pages first page (other ∷ []) image leads at is end =
    (leads.0, leads.1, leads.2, chain-end wanted pages (next_of other) page [] image leads.3 at is end)
chain-end wanted pages first page (other ∷ another ∷ images) image leads at is end =
    (leads.0, leads.1, leads.2, chain-end wanted pages (next_of other) page (another ∷ images) image leads.3 at is end)

or-left : (b c : Bool) → b ≡ true → IsTrue (b || c)
or-left true c e = refl
or-left false c e = cc

or-right : (b c : Bool) → IsTrue c → IsTrue (b || c)
or-right true c e = refl
or-right false c e = e

itself : (n : ℕ) → (n == n) ≡ true
itself n = grind (arith, nat_tests)

goes-on : (n : ℕ) (xs : List ℕ) → 0 < n → (if n == 0 then [] else xs) ≡ xs
goes-on n xs h =
    let some : (n == 0) ≡ false = grind (arith, nat_tests) in
    rw some refl

on-way : (wanted : Wanted) (pages : Array) (first page most : ℕ) (images : List (List ℕ)) → Leads wanted pages first images page → length images < most → IsTrue (list_any (λ other. other == page) (way most pages first))
on-way wanted pages first page zero images leads few = absurd (omega (arith, few))
on-way wanted pages first page (suc most) [] leads few =
    or-left (first == page) (list_any (λ other. other == page) (if next_of (pages first) == 0 then [] else way most pages (next_of (pages first)))) (ap (λ p. first == p) leads ∙ itself first)
on-way wanted pages first page (suc most) (image ∷ images) leads few =
    let rest = on-way wanted pages (next_of image) page most images leads.3 (omega (arith, few)) in
    let here : IsTrue (list_any (λ other. other == page) (way most pages (next_of (pages first)))) = subst (λ (i : List ℕ). IsTrue (list_any (λ other. other == page) (way most pages (next_of i)))) (sym leads.0) rest in
    let more : 0 < next_of (pages first) = subst (λ (i : List ℕ). 0 < next_of i) (sym leads.0) leads.2 in
    or-right (first == page) (list_any (λ other. other == page) (if next_of (pages first) == 0 then [] else way most pages (next_of (pages first))))
    (subst (λ (xs : List ℕ). IsTrue (list_any (λ other. other == page) xs)) (sym (goes-on (next_of (pages first)) (way most pages (next_of (pages first))) more)) here)

-- ---- one step

pub further : (wanted : Wanted) (pages : Array) (first page count next : ℕ) (image : List ℕ) (Had Has : List (List ℕ) → Type 0) → Far wanted pages first page count Had → pages page ≡ image → Stepped wanted next image Had Has → 0 < next → Far wanted pages first next (count + 1) Has
further wanted pages first page count next image Had Has far at step more =
    let size = length-append far.images (image ∷ []) in
    record {
      images = far.images ++ image ∷ [];
      many = size ∙ omega (arith, far.many);
      leads = subst (λ n. Leads wanted pages first (far.images ++ image ∷ []) n) (sym step.next_page) (leads-more wanted pages first page far.images image far.leads at step.wanted_page (subst (λ n. 0 < n) step.next_page more));
      had = step.gathered far.images far.had;
    }

pub ended : (wanted : Wanted) (pages : Array) (first page count next : ℕ) (image : List ℕ) (Had Has : List (List ℕ) → Type 0) → Far wanted pages first page count Had → count < 65536 → pages page ≡ image → Stepped wanted next image Had Has → next ≡ 0 → Walked true wanted pages first Has
unfolding page_count
ended wanted pages first page count next image Had Has far less at step end =
    let size = length-append far.images (image ∷ []) in
    let many = far.many in
    (far.images ++ image ∷ [], omega (arith, size, many, less), chain-end wanted pages first page far.images image far.leads at step.wanted_page (sym step.next_page ∙ end), step.gathered far.images far.had)

pub broken : (wanted : Wanted) (pages : Array) (first page count place : ℕ) (Had : List (List ℕ) → Type 0) → Far wanted pages first page count Had → IsFirstWrong (IsPage wanted) (pages page) place → BreaksAt wanted pages first page place
broken wanted pages first page count place Had far wrong = record { images = far.images; leads = far.leads; wrong = wrong }

pub is-way : (wanted : Wanted) (pages : Array) (first page count : ℕ) (Had : List (List ℕ) → Type 0) → Far wanted pages first page count Had → count < 65536 → IsTrue (is_on_way pages first page)
unfolding is_on_way page_count
is-way wanted pages first page count Had far few = on-way wanted pages first page 65536 far.images far.leads (subst (λ n. n < 65536) (sym far.many) few)

pub endless : (wanted : Wanted) (pages : Array) (first page : ℕ) (Had : List (List ℕ) → Type 0) → Far wanted pages first page 65536 Had → IsEndless wanted pages first
unfolding page_count
endless wanted pages first page Had far = record { images = far.images; many = far.many; end = page; leads = far.leads }

-- ---- the error of a step

pub breaks : (wanted : Wanted) (old mid new : Attempt) (first at : ℕ) (Had : List (List ℕ) → Type 0) (count : ℕ) (fault : PageFault) → mid.written ≡ old.written → Stays mid new
    → ForEach old mid (λ array. Far wanted array first at count Had)
    → OfDamage (λ q place. (q ≡ at) × ForEach mid new (λ array. IsFirstWrong (IsPage wanted) (array at) place)) fault
    → OfDamage (λ page place. ForEach old new (λ array. BreaksAt wanted array first page place)) fault
breaks wanted old mid new first at Had count (BadPage page place) e stays far bad = λ pages agrees.
    let array = over old pages in
    let wrong = under old mid new (λ a. IsFirstWrong (IsPage wanted) (a at) place) e bad.1 pages agrees in
    let here = later old mid new (λ a. Far wanted a first at count Had) stays far pages agrees in
    subst (λ p. BreaksAt wanted array first p place) (sym bad.0) (broken wanted array first at count place Had here wrong)
breaks wanted old mid new first at Had count (Conflict page holder) e stays far bad = tt
breaks wanted old mid new first at Had count (Full in_use) e stays far bad = tt
breaks wanted old mid new first at Had count (TooManyPages many) e stays far bad = tt
breaks wanted old mid new first at Had count DiskFault e stays far bad = tt
breaks wanted old mid new first at Had count Closed e stays far bad = tt
breaks wanted old mid new first at Had count Memory e stays far bad = tt

pub above-0 : (n : ℕ) → (n ≡ 0 → ⊥) → 0 < n
above-0 zero h = absurd (h refl)
above-0 (suc n) h = omega arith
