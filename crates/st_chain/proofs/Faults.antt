-- The faults of a walk along a chain: where it breaks.
use Rattle.std.proofs.Common.{◌≡◌, ℕ, List, [], inl, sym, ◌∙◌, subst}
use Rattle.st_page.specs.declared.fault.PageFault.{PageFault}
use Rattle.st_page.specs.declared.fault.PageFault.TheVariants.{BadPage, Conflict, Full, TooManyPages, DiskFault, Closed, Memory}
use Rattle.st_image.specs.Fields.{next_of}
use Rattle.st_image.specs.Grammar.{IsPage}
use Rattle.st_image.specs.Prefixes.{IsFirstWrong}
use Rattle.st_image.specs.declared.wanted.Wanted.{Wanted}
use Rattle.st_image.specs.declared.wanted.Wanted.TheVariants.{Chain}
use Rattle.st_pages.specs.declared.places.Place.{Place}
use Rattle.st_pages.specs.Attempt.{Attempt, over}
use Rattle.st_pages.specs.Reading.{ForEach, OfDamage}
use Rattle.st_pages.proofs.Carried.{Stays, later, under}
use Rattle.st_store.specs.Chain.{IsBadPage, IsChainPage}
use Rattle.st_chain.specs.declared.walk.Spot.{Spot}
use Rattle.st_chain.specs.Walks.{HasCome, IsBelow, IsNoNext}
use Rattle.st_chain.proofs.Walks.{bad-behind, first-way}

-- a page that isn't one of the chain breaks it, the first one or another
wrong-page : (place : Place) (wanted : Wanted) (image : List ℕ) (at : ℕ) → wanted ≡ Chain place.store place.key place.width → IsFirstWrong (IsPage wanted) image at → IsFirstWrong (IsChainPage place) image at
wrong-page place wanted image at e wrong = subst (λ (w : Wanted). IsFirstWrong (IsPage w) image at) e wrong

pub no-next : (place : Place) (wanted : Wanted) (old new : Attempt) (image : List ℕ) (page next : ℕ) (fault : PageFault) → wanted ≡ Chain place.store place.key place.width → page ≡ next
    → OfDamage (λ q at. (q ≡ page) × ForEach old new (λ array. IsFirstWrong (IsPage wanted) (array page) at)) fault
    → OfDamage (λ q at. (q ≡ next) × ForEach old new (λ array. IsNoNext place image (array q) at)) fault
no-next place wanted old new image page next (BadPage q at) e is bad =
    (bad.0 ∙ is, λ pages agrees. inl (wrong-page place wanted (over old pages q) at e (subst (λ (n : ℕ). IsFirstWrong (IsPage wanted) (over old pages n) at) (sym bad.0) (bad.1 pages agrees))))
no-next place wanted old new image page next (Conflict q holder) e is bad = tt
no-next place wanted old new image page next (Full in_use) e is bad = tt
no-next place wanted old new image page next (TooManyPages many) e is bad = tt
no-next place wanted old new image page next DiskFault e is bad = tt
no-next place wanted old new image page next Closed e is bad = tt
no-next place wanted old new image page next Memory e is bad = tt

pub bad-first : (place : Place) (wanted : Wanted) (old new : Attempt) (fault : PageFault) → wanted ≡ Chain place.store place.key place.width
    → OfDamage (λ q at. (q ≡ place.first) × ForEach old new (λ array. IsFirstWrong (IsPage wanted) (array place.first) at)) fault
    → OfDamage (λ page at. ForEach old new (λ array. IsBadPage place array page at)) fault
bad-first place wanted old new (BadPage q at) e bad = λ pages agrees.
    subst (λ (n : ℕ). IsBadPage place (over old pages) n at) (sym bad.0)
    (record { pages = []; way = first-way place (over old pages); wrong = inl (wrong-page place wanted (over old pages place.first) at e (bad.1 pages agrees)) })
bad-first place wanted old new (Conflict q holder) e bad = tt
bad-first place wanted old new (Full in_use) e bad = tt
bad-first place wanted old new (TooManyPages many) e bad = tt
bad-first place wanted old new DiskFault e bad = tt
bad-first place wanted old new Closed e bad = tt
bad-first place wanted old new Memory e bad = tt

-- the page behind one that a walk has come to isn't one of the chain
pub bad-next : (place : Place) (old mid new : Attempt) (key : List ℕ) (spot : Spot) (image : List ℕ) (fault : PageFault) → mid.written ≡ old.written → Stays mid new
    → ForEach old mid (λ array. HasCome place array key spot image) → IsChainPage place image → IsBelow place key image
    → OfDamage (λ page at. (page ≡ next_of image) × ForEach mid new (λ array. IsNoNext place image (array page) at)) fault
    → OfDamage (λ page at. ForEach old new (λ array. IsBadPage place array page at)) fault
bad-next place old mid new key spot image (BadPage q at) e stays come sound below bad = λ pages agrees.
    let array = over old pages in
    let here = later old mid new (λ a. HasCome place a key spot image) stays come pages agrees in
    let no = under old mid new (λ a. IsNoNext place image (a q) at) e bad.1 pages agrees in
    subst (λ (n : ℕ). IsBadPage place array n at) (sym bad.0)
    (bad-behind place array here.pages spot.page image at here.way here.at sound below.more here.filled here.ascend (subst (λ (n : ℕ). IsNoNext place image (array n) at) bad.0 no))
bad-next place old mid new key spot image (Conflict q holder) e stays come sound below bad = tt
bad-next place old mid new key spot image (Full in_use) e stays come sound below bad = tt
bad-next place old mid new key spot image (TooManyPages many) e stays come sound below bad = tt
bad-next place old mid new key spot image DiskFault e stays come sound below bad = tt
bad-next place old mid new key spot image Closed e stays come sound below bad = tt
bad-next place old mid new key spot image Memory e stays come sound below bad = tt
