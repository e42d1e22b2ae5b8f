-- A change of a column is the same change of all triples.
use Rattle.std.proofs.Common.{◌≡◌, ℕ, ◌+◌, ◌-◌, ◌≤◌, Bool, true, List, ◌++◌, length, get_or, set, take, drop, Result, Ok, Err, sym, ap, ◌∙◌, arith}
use Rattle.std.specs.Prelude.{remove, OnOk, OnErr}
use Rattle.std.proofs.lemmas.List.{length-take-le, drop-drop}
use Rattle.std.proofs.lemmas.List.Edits.{remove-append_right}
use Rattle.st_state.specs.declared.triple.Triple.{Triple}
use Rattle.st_triples.specs.declared.column.Column.{Column}
use Rattle.st_triples.specs.Columns.{triples_of, marked_of, fill, AreInOrder, IsColumnAt}
use Rattle.st_triples.proofs.OnePart.{with_cells}
use Rattle.st_triples.proofs.Flat.{now_of, fill-at, flat-set-same, column-part, changed-in_order, changed-mark, changed-triples}

-- one more of a range is taken out
pub remove-more : {X : Type 0} (xs : List X) (from k : ℕ) → from ≤ length xs → remove (take from xs ++ drop k xs) from ≡ take from xs ++ drop (k + 1) xs
remove-more xs from k h =
    let low : from ≤ from = omega arith in
    let same : from - from ≡ 0 = omega arith in
    remove-append_right (take from xs) (drop k xs) from from (length-take-le from xs h) low
    ∙ ap (λ n. take from xs ++ remove (drop k xs) n) same ∙ ap (λ z. take from xs ++ z) (drop-drop 1 k xs)

-- ---- outcomes

pub ok-then : {A E : Type 0} (r : Result A E) (P Q : Type 0) → (P → Q) → OnOk r P → OnOk r Q
ok-then (Ok x) P Q f h = f h
ok-then (Err e) P Q f h = h

pub err-then : {A E : Type 0} (r : Result A E) (P Q : Type 0) → (P → Q) → OnErr r P → OnErr r Q
err-then (Ok x) P Q f h = h
err-then (Err e) P Q f h = f h

-- what holds of both outcomes holds of the one that came
outcome : {A E : Type 0} (r : Result A E) (p : List Triple → Bool) (new good old : List Triple) → OnOk r (new ≡ good) → OnErr r (new ≡ old) → p good ≡ true → p old ≡ true → p new ≡ true
outcome (Ok x) p new good old ok err g o = ap p ok ∙ g
outcome (Err e) p new good old ok err g o = ap p err ∙ o

module _ (a : ℕ) (cs : List Column) (o : AreInOrder cs) (i : ℕ) (at : IsColumnAt a cs i) (c d : Column) (is : c ≡ get_or cs i c) (same : d.attribute ≡ c.attribute) (marks : d.cells.mark ≡ c.cells.mark) where
  of : d.attribute ≡ a
  of = same ∙ ap (λ x. x.attribute) is ∙ at.is c

  module _ {A E : Type 0} (r : Result A E) (change : List Triple → List Triple) (ok : OnOk r (d.cells.items ≡ change c.cells.items)) (err : OnErr r (d.cells.items ≡ c.cells.items))
      (keeps : fill a c.cells.items ≡ true → fill a (change c.cells.items) ≡ true) where
    fills : fill a d.cells.items ≡ true
    fills = let f = fill-at a cs o i at c is in outcome r (fill a) d.cells.items (change c.cells.items) c.cells.items ok err (keeps f) f

    pub at-in_order : AreInOrder (set cs i d)
    at-in_order = changed-in_order a cs o i at c d is of marks fills

    pub at-mark : marked_of (set cs i d) ≡ marked_of cs
    at-mark = changed-mark a cs o i at c d is of marks fills

    pub at-err : OnErr r (triples_of (set cs i d) ≡ triples_of cs)
    at-err = err-then r (d.cells.items ≡ c.cells.items) (triples_of (set cs i d) ≡ triples_of cs) (λ e. flat-set-same now_of cs i c d at.within is e) err

    pub at-ok : change (triples_of cs) ≡ with_cells a c.cells.items (triples_of cs) (column-part a cs o i at c is) (change c.cells.items) → OnOk r (triples_of (set cs i d) ≡ change (triples_of cs))
    at-ok whole =
        ok-then r (d.cells.items ≡ change c.cells.items) (triples_of (set cs i d) ≡ change (triples_of cs))
        (λ e. changed-triples a cs o i at c d is of marks fills ∙ ap (with_cells a c.cells.items (triples_of cs) (column-part a cs o i at c is)) e ∙ sym whole) ok
