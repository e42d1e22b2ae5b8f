-- Rows that are taken one after the other.
use Rattle.std.proofs.Common.{◌≡◌, ℕ, Bool, true, false, if◌then◌else◌, List, [], ◌∷◌, ◌++◌, Result, Ok, Err, IfErr, refl, sym, ap, ◌∙◌, subst, append_assoc, append-nil}
use Rattle.std.specs.Prelude.{slice_index_or}
use Rattle.std.specs.List.{All}
use Rattle.std.proofs.lemmas.List.Elements.{All-head}
use Rattle.st_page.specs.declared.fault.PageFault.{PageFault}
use Rattle.st_page.specs.declared.fault.PageFault.TheVariants.{BadPage, Conflict, Full, TooManyPages, DiskFault, Closed, Memory}
use Rattle.st_pages.specs.Reading.{OfDamage}
use Rattle.st_index.proofs.Changes.{all-second}
use Rattle.st_lookups.specs.Looks.{taken_from, Stepped}

-- ---- faults

-- what holds of a damaged page holds where a fault is one
pub of-damage : (fault : PageFault) (Holds : ℕ → ℕ → Type 0) → ((page at : ℕ) → fault ≡ BadPage page at → Holds page at) → OfDamage Holds fault
of-damage (BadPage page at) Holds h = h page at refl
of-damage (Conflict page holder) Holds h = tt
of-damage (Full in_use) Holds h = tt
of-damage (TooManyPages count) Holds h = tt
of-damage DiskFault Holds h = tt
of-damage Closed Holds h = tt
of-damage Memory Holds h = tt

not-both : (page at : ℕ) (fault : PageFault) → fault ≡ BadPage page at → fault ≡ Memory → ⊥
not-both page at fault e f = cc

-- a fault that is want of memory where something holds damages no page there
pub want-of-memory : {A : Type 0} (Sound : Type 0) (Bad : ℕ → ℕ → Type 0) (result : Result A PageFault) → IfErr result (λ fault. Sound → fault ≡ Memory) → IfErr result (OfDamage (λ page at. Sound → Bad page at))
want-of-memory Sound Bad (Ok x) h = tt
want-of-memory Sound Bad (Err fault) h = of-damage fault (λ page at. Sound → Bad page at) (λ page at e sound. absurd (not-both page at fault e (h sound)))

-- ---- rows

-- the first of rows that all have something has it
pub first-has : (P : List ℕ → Type 0) (rest others : List (List ℕ)) (row : List ℕ) → rest ≡ row ∷ others → All P rest → P row
first-has P rest others row e all = All-head P row others (subst (All P) e all)

-- Rows that are ahead: some were taken, behind each of which more are wanted, and others are ahead now.
pub record Walked (Ahead : List (List ℕ) → Type 0) (goes : List ℕ → Bool) (Took : List (List ℕ) → Type 0) (rest : List (List ℕ)) : Type 0 where
  pub done : List (List ℕ)
  pub others : List (List ℕ)
  pub rest_is : rest ≡ done ++ others
  pub wanted : taken_from goes rest ≡ done ++ taken_from goes others
  pub ahead : Ahead others
  pub took : Took done

module _ {V : Type 0} (Told : V → V → List (List ℕ) → Type 0) where
  -- from one value to another these rows were taken
  abbrev pub TookRows : V → V → List (List ℕ) → Type 0
  TookRows a b rows = (before : V) (had : List (List ℕ)) → Told before a had → Told before b (had ++ rows)

  pub took-none : (a : V) → TookRows a a []
  took-none a before had h = subst (Told before a) (sym (append-nil had)) h

  pub took-then : (a b c : V) (xs ys : List (List ℕ)) → TookRows a b xs → TookRows b c ys → TookRows a c (xs ++ ys)
  took-then a b c xs ys first second before had h = subst (Told before c) (append_assoc had xs ys) (second before (had ++ xs) (first before had h))

  pub walk-begin : (Ahead : List (List ℕ) → Type 0) (goes : List ℕ → Bool) (a : V) (rest : List (List ℕ)) → Ahead rest → Walked Ahead goes (TookRows a a) rest
  walk-begin Ahead goes a rest ahead = record { done = []; others = rest; rest_is = refl; wanted = refl; ahead = ahead; took = took-none a }

  pub walk-next : (Ahead Next : List (List ℕ) → Type 0) (goes now : List ℕ → Bool) (a b c : V) (rest : List (List ℕ)) (more : Bool) → now ≡ goes → more ≡ true → (far : Walked Ahead goes (TookRows a b) rest)
      → Stepped Next now (TookRows b c) far.others more → Walked Next goes (TookRows a c) rest
  walk-next Ahead Next goes now a b c rest more same e far on =
      let s : Stepped Next goes (TookRows b c) far.others true = subst (λ (m : Bool). Stepped Next goes (TookRows b c) far.others m) e (subst (λ (f : List ℕ → Bool). Stepped Next f (TookRows b c) far.others more) same on) in
      record {
        done = far.done ++ s.0 ∷ [];
        others = s.1;
        rest_is = far.rest_is ∙ ap (λ (l : List (List ℕ)). far.done ++ l) s.2 ∙ sym (append_assoc far.done (s.0 ∷ []) s.1);
        wanted = far.wanted ∙ ap (λ (l : List (List ℕ)). far.done ++ taken_from goes l) s.2
            ∙ ap (λ (t : Bool). far.done ++ s.0 ∷ (if t then taken_from goes s.1 else [])) s.3 ∙ sym (append_assoc far.done (s.0 ∷ []) (taken_from goes s.1));
        ahead = s.4;
        took = took-then a b c far.done (s.0 ∷ []) far.took s.5;
      }

  pub walk-done : (Ahead Next : List (List ℕ) → Type 0) (goes now : List ℕ → Bool) (a b c : V) (rest : List (List ℕ)) (more : Bool) → now ≡ goes → more ≡ false → (far : Walked Ahead goes (TookRows a b) rest)
      → Stepped Next now (TookRows b c) far.others more → TookRows a c (taken_from goes rest)
  walk-done Ahead Next goes now a b c rest more same e far on =
      let s : TookRows b c (taken_from goes far.others) = subst (λ (m : Bool). Stepped Next goes (TookRows b c) far.others m) e (subst (λ (f : List ℕ → Bool). Stepped Next f (TookRows b c) far.others more) same on) in
      subst (TookRows a c) (sym far.wanted) (took-then a b c far.done (taken_from goes far.others) far.took s)

-- what all rows have, those that are ahead have
pub ahead-have : (P Q : List ℕ → Type 0) (rest done others : List (List ℕ)) → rest ≡ done ++ others → ((row : List ℕ) → P row → Q row) → All P rest → All Q others
ahead-have P Q rest done others e more all = λ k d w. more (slice_index_or others k d) (all-second P done others (subst (All P) e all) k d w)
