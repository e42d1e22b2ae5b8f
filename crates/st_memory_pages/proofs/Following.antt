-- What calls keep, and what was asked for, over one call and several.
use Rattle.std.proofs.Common.{◌≡◌, ℕ, ◌+◌, ◌<◌, ◌≤◌, ◌==◌, ◌||◌, ◌⊎◌, Bool, true, false, inl, inr, List, Option, Some, None, IsSome, IsTrue, Result, Ok, Err, IfOk, OnOk, OnErr, ◌^◌, ◌-◌, refl, ap, sym, ◌∙◌, subst, arith}
use Rattle.std.specs.Option.{option_or}
use Rattle.std.specs.Prelude.{if◌then◌else◌}
use Rattle.std.proofs.lemmas.Bool.{eqb-true, ne_eqb, or_cases, or_right}
use Rattle.st_image.specs.Fields.{blank}
use Rattle.st_pages.specs.Attempt.{Attempt, saw, wrote, drew, draws, page_count}
use Rattle.st_pages.specs.Calls.{Room, MayBeDrawn, TakesOne, TakesAtMostOne, risen, HasAsked, no_page, only}
use Rattle.st_memory_pages.specs.Tried.{Grows}
use Rattle.st_memory_pages.specs.Laws.{grows-itself, asked-nothing, asked-more}
use Rattle.st_memory_pages.proofs.Counting.{how_many-at, below_page_count}

seen-first : (test : Bool) (seen : Option (List ℕ)) (other image : List ℕ) → seen ≡ Some image
    → (if test then option_or seen (Some other) else seen) ≡ Some image
seen-first true seen other image e = ap (λ (o : Option (List ℕ)). option_or o (Some other)) e
seen-first false seen other image e = e

some-written : (test : Bool) (written : Option (List ℕ)) (image : List ℕ) → IsSome written → IsSome (if test then Some image else written)
some-written true written image h = refl
some-written false written image h = h

pub grows-saw : (a : Attempt) (page : ℕ) (image : List ℕ) → Grows a (saw page image a)
grows-saw a page image = record {
  seen = λ p first e. seen-first (p == page) (a.seen p) image first e;
  written = λ p h. h;
  drawn = λ p h. h;
  fresh = λ p h. inl h;
}

pub grows-wrote : (a : Attempt) (page : ℕ) (image : List ℕ) → Grows a (wrote page image a)
grows-wrote a page image = record {
  seen = λ p first e. e;
  written = λ p h. some-written (p == page) (a.written p) image h;
  drawn = λ p h. h;
  fresh = λ p h. inl h;
}

pub grows-drew : (a : Attempt) (page : ℕ) → a.written page ≡ None → Grows a (drew page a)
grows-drew a page none = record {
  seen = λ p first e. seen-first (p == page) (a.seen p) blank first e;
  written = λ p h. h;
  drawn = λ p h. or_right (p == page) (a.drawn p) h;
  fresh = λ p h. unwritten p (or_cases (p == page) (a.drawn p) h);
}
  where
    unwritten : (p : ℕ) → ((p == page) ≡ true) ⊎ (a.drawn p ≡ true) → IsTrue (a.drawn p) ⊎ (a.written p ≡ None)
    unwritten p (inl e) = inr (ap a.written (eqb-true p page e) ∙ none)
    unwritten p (inr e) = inl e

-- one page was asked for
got-or : (test : Bool) (seen : Option (List ℕ)) (other : List ℕ) (drawn : Bool) → IsSome (if test then option_or seen (Some other) else seen)
    → IsSome seen ⊎ IsTrue (test || drawn)
got-or true seen other drawn h = inr refl
got-or false seen other drawn h = inl h

pub asked-saw : (a : Attempt) (page : ℕ) (image : List ℕ) → HasAsked a (saw page image a) (only page) no_page 0
asked-saw a page image = record {
  got_only = λ p h. got-or (p == page) (a.seen p) image (a.drawn p) h;
  put_only = λ p. inl refl;
  drew_most = omega arith;
}

put-or : (test : Bool) (written : Option (List ℕ)) (image : List ℕ) → ((if test then Some image else written) ≡ written) ⊎ IsTrue test
put-or true written image = inr refl
put-or false written image = inl refl

pub asked-wrote : (a : Attempt) (page : ℕ) (image : List ℕ) → HasAsked a (wrote page image a) no_page (only page) 0
asked-wrote a page image = record {
  got_only = λ p h. inl h;
  put_only = λ p. put-or (p == page) (a.written p) image;
  drew_most = omega arith;
}

drew-or : (test : Bool) (seen : Option (List ℕ)) (drawn : Bool) → IsSome (if test then option_or seen (Some blank) else seen)
    → IsSome seen ⊎ IsTrue (false || (test || drawn))
drew-or true seen drawn h = inr refl
drew-or false seen drawn h = inl h

pub asked-drew : (a : Attempt) (page : ℕ) → page < 65536 → HasAsked a (drew page a) no_page no_page 1
asked-drew a page within = record {
  got_only = λ p h. drew-or (p == page) (a.seen p) (a.drawn p) h;
  put_only = λ p. inl refl;
  drew_most = most;
}
  where
    other : (p : ℕ) → (p ≡ page → ⊥) → ((p == page) || a.drawn p) ≡ a.drawn p
    other p differs = let e : (p == page) ≡ false = ne_eqb p page differs in rw e refl

    small : (b : Bool) → (if b then 1 else 0) ≤ 1
    small true = omega arith
    small false = omega arith

    most : draws (drew page a) ≤ draws a + 1
    most =
        let moved = how_many-at a.drawn (λ (p : ℕ). (p == page) || a.drawn p) page page_count (below_page_count page within) other in
        let few = small ((page == page) || a.drawn page) in
        omega (arith, moved, few)

-- what is left where one page is taken
pub took-one : (old new : Room) → TakesOne (Some old) (Some new) → (new.in_use ≡ old.in_use) × (new.left ≤ old.left)
took-one old new (n, e, is) =
    let same : new ≡ record { in_use = old.in_use; left = n } = cc in
    let left : new.left ≡ n = ap (λ (r : Room). r.left) same in
    (ap (λ (r : Room). r.in_use) same, omega (arith, left, e))

took-most : (a : Attempt) (page : ℕ) (old new : Room) → TakesAtMostOne a page (Some old) (Some new)
    → (new.in_use ≡ old.in_use) × (new.left ≤ old.left)
took-most a page old new (inl e) =
    let same : new ≡ old = cc in
    let left : new.left ≡ old.left = ap (λ (r : Room). r.left) same in
    (ap (λ (r : Room). r.in_use) same, omega (arith, left))
took-most a page old new (inr (may, took)) = took-one old new took

pub same-room : (old new : Room) → new ≡ old → (new.in_use ≡ old.in_use) × (new.left ≤ old.left)
same-room old new same =
    let left : new.left ≡ old.left = ap (λ (r : Room). r.left) same in
    (ap (λ (r : Room). r.in_use) same, omega (arith, left))

-- what was put, by the answer
pub put-grows : {T E : Type 0} (answer : Result T E) (a b : Attempt) (page : ℕ) (image : List ℕ) → OnOk answer (b ≡ wrote page image a) → OnErr answer (b ≡ a)
    → Grows a b
put-grows (Ok x) a b page image ok err = subst (λ (n : Attempt). Grows a n) (sym ok) (grows-wrote a page image)
put-grows (Err e) a b page image ok err = subst (λ (n : Attempt). Grows a n) (sym err) (grows-itself a)

pub put-asked : {T E : Type 0} (answer : Result T E) (a b : Attempt) (page : ℕ) (image : List ℕ) → OnOk answer (b ≡ wrote page image a) → OnErr answer (b ≡ a)
    → HasAsked a b no_page (only page) 0
put-asked (Ok x) a b page image ok err = subst (λ (n : Attempt). HasAsked a n no_page (only page) 0) (sym ok) (asked-wrote a page image)
put-asked (Err e) a b page image ok err = subst (λ (n : Attempt). HasAsked a n no_page (only page) 0) (sym err) (asked-nothing a no_page (only page))

pub put-took : {T E : Type 0} (answer : Result T E) (a : Attempt) (page : ℕ) (old new : Room) → OnOk answer (TakesAtMostOne a page (Some old) (Some new))
    → OnErr answer (new ≡ old) → (new.in_use ≡ old.in_use) × (new.left ≤ old.left)
put-took (Ok x) a page old new ok err = took-most a page old new ok
put-took (Err e) a page old new ok err = same-room old new err

-- what was drawn, by the answer
pub fresh-grows : {E : Type 0} (answer : Result ℕ E) (a b : Attempt) → IfOk answer (MayBeDrawn a) → IfOk answer (λ page. b ≡ drew page a) → OnErr answer (b ≡ a) → Grows a b
fresh-grows (Ok page) a b may ok err = subst (λ (n : Attempt). Grows a n) (sym ok) (grows-drew a page may.written)
fresh-grows (Err e) a b may ok err = subst (λ (n : Attempt). Grows a n) (sym err) (grows-itself a)

pub fresh-asked : {E : Type 0} (answer : Result ℕ E) (a b : Attempt) → IfOk answer (MayBeDrawn a) → IfOk answer (λ page. b ≡ drew page a) → OnErr answer (b ≡ a)
    → HasAsked a b no_page no_page 1
fresh-asked (Ok page) a b may ok err = subst (λ (n : Attempt). HasAsked a n no_page no_page 1) (sym ok) (asked-drew a page may.within)
fresh-asked (Err e) a b may ok err =
    subst (λ (n : Attempt). HasAsked a n no_page no_page 1) (sym err)
    (asked-more a a no_page no_page no_page no_page 0 1 (λ page h. h) (λ page h. h) (omega arith) (asked-nothing a no_page no_page))

pub fresh-took : {T E : Type 0} (answer : Result T E) (old new : Room) → OnOk answer (TakesOne (Some old) (Some new))
    → OnErr answer (new ≡ old) → (new.in_use ≡ old.in_use) × (new.left ≤ old.left)
fresh-took (Ok x) old new ok err = took-one old new ok
fresh-took (Err e) old new ok err = same-room old new err

-- a count that rises never falls
pub le_risen : (n : ℕ) → n ≤ risen n
le_risen n = at (n == 2 ^ 64 - 1)
  where
    at : (b : Bool) → n ≤ (if b then n else n + 1)
    at true = omega arith
    at false = omega arith

pub le_risen_if : (b : Bool) (n : ℕ) → n ≤ (if b then risen n else n)
le_risen_if true n = le_risen n
le_risen_if false n = omega arith

-- what was seen
pub get-grows : (a b : Attempt) (page : ℕ) (image : List ℕ) → b ≡ saw page image a → Grows a b
get-grows a b page image e = subst (λ (n : Attempt). Grows a n) (sym e) (grows-saw a page image)

pub get-asked : (a b : Attempt) (page : ℕ) (image : List ℕ) → b ≡ saw page image a → HasAsked a b (only page) no_page 0
get-asked a b page image e = subst (λ (n : Attempt). HasAsked a n (only page) no_page 0) (sym e) (asked-saw a page image)
