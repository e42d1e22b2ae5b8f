-- A change that was logged last is undone first.
use Rattle.std.proofs.Common.{◌≡◌, ℕ, zero, suc, ◌<◌, ◌≤◌, max, List, [], ◌∷◌, ◌++◌, length, get_or, set, insert, remove, refl, ap, sym, ◌∙◌, arith}
use Rattle.st_undo.specs.declared.change.Change.{Change}
use Rattle.st_undo.specs.declared.change.Change.TheVariants.{Put, Took, Replaced}
use Rattle.st_undo.specs.Undone.{undo, undone, longest}

module _ {A : Type 0} where
  pub undone-push : (cs : List (Change A)) (c : Change A) (xs : List A) → undone (cs ++ c ∷ []) xs ≡ undone cs (undo c xs)
  undone-push [] c xs = refl
  undone-push (d ∷ cs) c xs = ap (undo d) (undone-push cs c xs)

  pub longest-push : (cs : List (Change A)) (c : Change A) (xs : List A) → longest (cs ++ c ∷ []) xs ≡ max (length xs) (longest cs (undo c xs))
  longest-push [] c xs = omega arith
  longest-push (d ∷ cs) c xs = rw (undone-push cs c xs) (omega (arith, longest-push cs c xs))

  pub length-le_longest : (cs : List (Change A)) (xs : List A) → length xs ≤ longest cs xs
  length-le_longest [] xs = omega arith
  length-le_longest (c ∷ cs) xs = omega (arith, length-le_longest cs xs)

  put_undone : (xs : List A) (place : ℕ) (x : A) → place ≤ length xs → remove (insert xs place x) place ≡ xs
  put_undone xs zero x le = refl
  put_undone [] (suc place) x le = absurd (omega arith)
  put_undone (y ∷ xs) (suc place) x le = ap (λ zs. y ∷ zs) (put_undone xs place x (omega arith))

  took_undone : (xs : List A) (place : ℕ) (x : A) → place < length xs → x ≡ get_or xs place x → insert (remove xs place) place x ≡ xs
  took_undone [] place x lt is = absurd (omega arith)
  took_undone (y ∷ xs) zero x lt is = ap (λ z. z ∷ xs) is
  took_undone (y ∷ xs) (suc place) x lt is = ap (λ zs. y ∷ zs) (took_undone xs place x (omega arith) is)

  replaced_undone : (xs : List A) (place : ℕ) (x y : A) → place < length xs → y ≡ get_or xs place y → set (set xs place x) place y ≡ xs
  replaced_undone [] place x y lt is = absurd (omega arith)
  replaced_undone (z ∷ xs) zero x y lt is = ap (λ w. w ∷ xs) is
  replaced_undone (z ∷ xs) (suc place) x y lt is = ap (λ zs. z ∷ zs) (replaced_undone xs place x y (omega arith) is)

  -- the list xs with the changes cs became ys with ds, by one more change
  pub record Logs (cs : List (Change A)) (xs : List A) (ds : List (Change A)) (ys : List A) : Type 0 where
    pub mark : undone ds ys ≡ undone cs xs
    pub high : longest ds ys ≤ max (length ys) (longest cs xs)

  logs : (cs : List (Change A)) (c : Change A) (xs : List A) (ds : List (Change A)) (ys : List A) → ds ≡ cs ++ c ∷ [] → undo c ys ≡ xs → Logs cs xs ds ys
  logs cs c xs ds ys is back = record {
    mark = ap (λ l. undone l ys) is ∙ undone-push cs c ys ∙ ap (undone cs) back;
    high = rw (is, longest-push cs c ys, back) (omega arith);
  }

  pub logs_put : (cs : List (Change A)) (xs : List A) (ds : List (Change A)) (ys : List A) (place : ℕ) (x : A)
      → ds ≡ cs ++ Put place ∷ [] → ys ≡ insert xs place x → place ≤ length xs → Logs cs xs ds ys
  logs_put cs xs ds ys place x is now le = logs cs (Put place) xs ds ys is (ap (λ l. remove l place) now ∙ put_undone xs place x le)

  pub logs_took : (cs : List (Change A)) (xs : List A) (ds : List (Change A)) (ys : List A) (place : ℕ) (x : A)
      → ds ≡ cs ++ Took place x ∷ [] → ys ≡ remove xs place → place < length xs → x ≡ get_or xs place x → Logs cs xs ds ys
  logs_took cs xs ds ys place x is now lt read = logs cs (Took place x) xs ds ys is (ap (λ l. insert l place x) now ∙ took_undone xs place x lt read)

  pub logs_replaced : (cs : List (Change A)) (xs : List A) (ds : List (Change A)) (place : ℕ) (x y : A)
      → ds ≡ cs ++ Replaced place y ∷ [] → place < length xs → y ≡ get_or xs place y → Logs cs xs ds (set xs place x)
  logs_replaced cs xs ds place x y is lt read = logs cs (Replaced place y) xs ds _ is (replaced_undone xs place x y lt read)

  -- the list xs with the changes cs became ys with ds, when the last change was undone
  pub record Unlogs (cs : List (Change A)) (xs : List A) (ds : List (Change A)) (ys : List A) : Type 0 where
    pub mark : undone ds ys ≡ undone cs xs
    pub high : longest ds ys ≤ longest cs xs
    pub long : length ys ≤ longest cs xs

  pub unlogs : (cs : List (Change A)) (xs : List A) (ds : List (Change A)) (ys : List A) (c : Change A) → cs ≡ ds ++ c ∷ [] → ys ≡ undo c xs → Unlogs cs xs ds ys
  unlogs cs xs ds ys c was now =
      let all = ap (λ l. longest l xs) was ∙ longest-push ds c xs in
      let rest = ap (longest ds) now in
      let least = length-le_longest ds ys in
      record {
        mark = ap (undone ds) now ∙ sym (undone-push ds c xs) ∙ sym (ap (λ l. undone l xs) was);
        high = omega arith;
        long = omega arith;
      }
