-- A list from which items are taken out in one pass.
use Rattle.std.proofs.Common.{◌≡◌, ℕ, ◌+◌, ◌<◌, ◌≤◌, Bool, true, false, not, cond, List, [], ◌∷◌, ◌++◌, length, get_or, set, take, drop, insert, filter, ap, sym, ◌∙◌, arith, append_assoc, append-nil, take_at, drop_at, length-append}
use Rattle.std.proofs.lemmas.List.{drop_more, length-set, take-set-le, drop-set-lt, length-take-le, get_or_default}
use Rattle.std.proofs.lemmas.List.Elements.{filter_more}
use Rattle.std.proofs.lemmas.List.Filters.{FiltersInPlace, FiltersInPlace-more_no, FiltersInPlace-more_swap}
use Rattle.std.specs.List.{SwappedAt}
use Rattle.st_undo.specs.declared.change.Change.{Change}
use Rattle.st_undo.specs.declared.change.Change.TheVariants.{Took}
use Rattle.st_undo.specs.Undone.{undone, longest}
use Rattle.st_undo.proofs.Logged.{undone-push, longest-push, length-le_longest}

module _ {A : Type 0} where
  -- two reads of one place
  pub one_read : (xs : List A) (i : ℕ) (x y : A) → i < length xs → x ≡ get_or xs i x → y ≡ get_or xs i y → x ≡ y
  one_read xs i x y lt xis yis = xis ∙ get_or_default xs i x y lt ∙ sym yis

  -- what is read of the items is still what the list began with
  pub read_of : {p : A → Bool} {xs ys : List A} {k i : ℕ} {x : A} → FiltersInPlace p xs ys k i → i < length ys → x ≡ get_or ys i x → x ≡ get_or xs i x
  read_of {p} {xs} {ys} {k} {i} {x} h lt is = is ∙ ap (λ l. get_or l 0 x) (sym (drop_more ys i x lt) ∙ h.rest ∙ drop_more xs i x (omega (arith, h.long)))

  -- the item at i was moved out, and left a hole
  pub moved_out : {p : A → Bool} {xs ys : List A} {k i : ℕ} {x : A} (hole : A) → FiltersInPlace p xs ys k i → i < length ys → p x ≡ false → x ≡ get_or ys i x → FiltersInPlace p xs (set ys i hole) k (i + 1)
  moved_out {p} {xs} {ys} {k} {i} {x} hole h lt e is =
      let n = FiltersInPlace-more_no h lt e is in
      record {
        front = take-set-le k ys i hole h.behind ∙ n.front;
        rest = drop-set-lt (i + 1) ys i hole (omega arith) ∙ n.rest;
        behind = n.behind;
        within = n.within;
        long = length-set ys i hole ∙ n.long;
      }

  insert_at : (front rest : List A) (k : ℕ) (x : A) → length front ≡ k → insert (front ++ rest) k x ≡ front ++ x ∷ rest
  insert_at front rest k x e = rw (take_at front rest k e, drop_at front rest k e)

module _ {A : Type 0} (takes : A → Bool) where
  abbrev keeps : A → Bool
  keeps x = not (takes x)

  -- what the list is when its first i items were looked at: those of them that were kept, and the rest
  abbrev pub halfway : List A → ℕ → List A
  halfway xs i = filter (λ x. not (takes x)) (take i xs) ++ drop i xs

  -- the changes cs of xs became ds when the first i items of xs were looked at
  pub record Sifts (cs : List (Change A)) (xs : List A) (ds : List (Change A)) (i : ℕ) : Type 0 where
    pub mark : undone ds (halfway xs i) ≡ undone cs xs
    pub high : longest ds (halfway xs i) ≤ longest cs xs
    pub room : length ds + length (filter takes (drop i xs)) ≡ length cs + length (filter takes xs)

  module _ (xs : List A) (i : ℕ) (x : A) (lt : i < length xs) (is : x ≡ get_or xs i x) where
    rest_of : drop i xs ≡ x ∷ drop (i + 1) xs
    rest_of = drop_more xs i x lt ∙ ap (λ z. z ∷ drop (i + 1) xs) (sym is)

    front_of : (b : Bool) → takes x ≡ b → filter keeps (take (i + 1) xs) ≡ filter keeps (take i xs) ++ cond (not b) (x ∷ []) []
    front_of b e =
        filter_more keeps xs i x lt ∙ ap (λ z. filter keeps (take i xs) ++ cond (keeps z) (z ∷ []) []) (sym is)
        ∙ ap (λ c. filter keeps (take i xs) ++ cond (not c) (x ∷ []) []) e

    left_of : (b : Bool) → takes x ≡ b → filter takes (drop i xs) ≡ cond b (x ∷ filter takes (drop (i + 1) xs)) (filter takes (drop (i + 1) xs))
    left_of b e = ap (filter takes) rest_of ∙ ap (λ c. cond c (x ∷ filter takes (drop (i + 1) xs)) (filter takes (drop (i + 1) xs))) e

    halfway_kept : takes x ≡ false → halfway xs (i + 1) ≡ halfway xs i
    halfway_kept e =
        ap (λ l. l ++ drop (i + 1) xs) (front_of false e) ∙ append_assoc (filter keeps (take i xs)) (x ∷ []) (drop (i + 1) xs)
        ∙ ap (λ l. filter keeps (take i xs) ++ l) (sym rest_of)

    halfway_took : takes x ≡ true → halfway xs (i + 1) ≡ filter keeps (take i xs) ++ drop (i + 1) xs
    halfway_took e = ap (λ l. l ++ drop (i + 1) xs) (front_of true e ∙ append-nil (filter keeps (take i xs)))

    took_back : (k : ℕ) → takes x ≡ true → length (filter keeps (take i xs)) ≡ k → insert (halfway xs (i + 1)) k x ≡ halfway xs i
    took_back k e at =
        ap (λ l. insert l k x) (halfway_took e) ∙ insert_at (filter keeps (take i xs)) (drop (i + 1) xs) k x at
        ∙ ap (λ l. filter keeps (take i xs) ++ l) (sym rest_of)

    -- one fewer than before
    shorter : takes x ≡ true → length (halfway xs (i + 1)) + 1 ≡ length (halfway xs i)
    shorter e =
        let front = filter keeps (take i xs) in
        let now = ap length (halfway_took e) ∙ length-append front (drop (i + 1) xs) in
        let before = length-append front (drop i xs) in
        let rest = ap length rest_of in
        omega arith

    module _ (cs ds : List (Change A)) (h : Sifts cs xs ds i) where
      pub sifts_kept : takes x ≡ false → Sifts cs xs ds (i + 1)
      sifts_kept e = record {
        mark = ap (undone ds) (halfway_kept e) ∙ h.mark;
        high = rw (halfway_kept e) h.high;
        room = rw (← left_of false e) h.room;
      }

      pub sifts_took : (k : ℕ) → takes x ≡ true → length (filter keeps (take i xs)) ≡ k → Sifts cs xs (ds ++ Took k x ∷ []) (i + 1)
      sifts_took k e at =
          let back = took_back k e at in
          let less = shorter e in
          let long = length-le_longest ds (halfway xs i) in
          let left = ap length (left_of true e) in
          record {
            mark = undone-push ds (Took k x) (halfway xs (i + 1)) ∙ ap (undone ds) back ∙ h.mark;
            high = rw (longest-push ds (Took k x) (halfway xs (i + 1)), back) (omega (arith, h.high));
            room = omega (arith, h.room, length-append ds (Took k x ∷ []));
          }

  -- one more item was looked at, and it was taken
  pub step_took : (xs ys : List A) (k i : ℕ) (says : Bool) (x item hole : A) (cs ds es : List (Change A))
      → FiltersInPlace (λ z. not (takes z)) xs ys k i → Sifts cs xs ds i → i < length ys → says ≡ takes x → says ≡ true → x ≡ get_or ys i x → item ≡ get_or ys i item → es ≡ ds ++ Took k item ∷ []
      → FiltersInPlace (λ z. not (takes z)) xs (set ys i hole) k (i + 1) × Sifts cs xs es (i + 1)
  step_took xs ys k i says x item hole cs ds es f h lt answer so is read log =
      let e = sym answer ∙ so in
      let same = one_read ys i x item lt is read in
      let at = ap length (sym f.front) ∙ length-take-le k ys (omega (arith, f.behind)) in
      let next = sifts_took xs i x (omega (arith, f.long)) (read_of f lt is) cs ds h k e at in
      (moved_out hole f lt (ap not e) is, rw (log, ← same) next)

  -- one more item was looked at, and it was kept
  pub step_kept : (xs ys zs : List A) (k i : ℕ) (says : Bool) (x : A) (cs ds : List (Change A))
      → FiltersInPlace (λ z. not (takes z)) xs ys k i → Sifts cs xs ds i → i < length ys → says ≡ takes x → says ≡ false → x ≡ get_or ys i x → SwappedAt ys zs k i
      → FiltersInPlace (λ z. not (takes z)) xs zs (k + 1) (i + 1) × Sifts cs xs ds (i + 1)
  step_kept xs ys zs k i says x cs ds f h lt answer so is swapped =
      let e = sym answer ∙ so in
      (FiltersInPlace-more_swap f lt (ap not e) is swapped, sifts_kept xs i x (omega (arith, f.long)) (read_of f lt is) cs ds h e)
