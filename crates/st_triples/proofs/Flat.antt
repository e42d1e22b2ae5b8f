-- Columns, one after another: each column's triples are those of its attribute.
use Rattle.std.proofs.Common.{◌≡◌, ℕ, suc, ◌<◌, ◌≤◌, Bool, true, false, List, [], ◌∷◌, ◌++◌, length, get_or, set, take, drop, refl, sym, ap, ◌∙◌, arith, add-one}
use Rattle.std.specs.Prelude.{◌==◌, not, nat_lt, insert}
use Rattle.std.specs.List.{list_all, flat_map}
use Rattle.std.specs.List.Sorted.{IsPartitionedBy}
use Rattle.std.proofs.lemmas.List.{take-append-drop, take_at, drop_at, drop_all, drop-drop, set_split, length-take-le, get_or_default}
use Rattle.std.proofs.lemmas.List.Concat.{flat_map-append}
use Rattle.std.proofs.lemmas.List.Edits.{length-insert, get_or-insert_at}
use Rattle.st_values.specs.Arranged.{ascends}
use Rattle.st_values.proofs.Tests.{both, left, right, either, not-true, all-weaken, all-each}
use Rattle.st_state.specs.declared.triple.Triple.{Triple}
use Rattle.st_state.specs.State.{triple_before}
use Rattle.st_state.proofs.Changed.{number-is}
use Rattle.st_triples.specs.declared.column.Column.{Column}
use Rattle.st_triples.specs.Parts.{IsPlace}
use Rattle.st_triples.specs.Columns.{triples_of, marked_of, column_before, fill, AreInOrder, IsColumnAt, IsGapAt, IsPart}
use Rattle.st_triples.proofs.Parts.{parted, all-join, all-take, all-drop, all-at, ascends-drop, cons-at, ascends-between, ascends-without}
use Rattle.st_triples.proofs.OnePart.{with_cells}

-- ---- places of columns

lower-chain : (x y z : ℕ) → nat_lt x y ≡ true → nat_lt y z ≡ true → nat_lt x z ≡ true
lower-chain x y z h k = grind (arith, h, k)

not-lower : (x y : ℕ) → nat_lt x y ≡ false → (x == y) ≡ false → nat_lt y x ≡ true
not-lower x y h k = grind (arith, h, k)

number-differs : (x y : ℕ) → (x ≡ y → ⊥) → (x == y) ≡ false
number-differs x y h = either (x == y) (λ b. b ≡ false) (λ k. absurd (h (number-is x y k))) (λ _. refl)

pub below-parted : (a : ℕ) (columns : List Column) → AreInOrder columns → IsPartitionedBy (λ c. nat_lt c.attribute a) columns
below-parted a columns o =
    parted column_before (λ _. true) (λ c. nat_lt c.attribute a) (λ c d _ h k. lower-chain c.attribute d.attribute a h k) columns o.ascend (all-each (λ _. true) columns (λ _. refl))

module _ (a : ℕ) (columns : List Column) (o : AreInOrder columns) (place : ℕ) (at : IsPlace (λ c. nat_lt c.attribute a) columns place) where
  sorted-at : (c : Column) → place < length columns → c ≡ get_or columns place c → ascends column_before (c ∷ drop (suc place) columns) ≡ true
  sorted-at c lt is = sym (ap (ascends column_before) (cons-at columns place c lt is)) ∙ ascends-drop column_before place columns o.ascend

  behind-at : (c : Column) → place < length columns → c ≡ get_or columns place c → list_all (column_before c) (drop (suc place) columns) ≡ true
  behind-at c lt is = left (list_all (column_before c) (drop (suc place) columns)) (ascends column_before (drop (suc place) columns)) (sorted-at c lt is)

  pub column-found : (c : Column) → place < length columns → c ≡ get_or columns place c → c.attribute ≡ a → IsColumnAt a columns place
  column-found c lt is e = record {
    within = lt;
    is = λ d. ap (λ x. x.attribute) (get_or_default columns place d c lt ∙ sym is) ∙ e;
    front = at.front;
    back =
        ap (λ i. list_all (λ x. nat_lt a x.attribute) (drop i columns)) (add-one place)
        ∙ all-weaken (column_before c) (λ x. nat_lt a x.attribute) (λ x h. ap (λ n. nat_lt n x.attribute) (sym e) ∙ h) (drop (suc place) columns) (behind-at c lt is);
  }

  pub gap-found : (c : Column) → place < length columns → c ≡ get_or columns place c → (c.attribute ≡ a → ⊥) → IsGapAt a columns place
  gap-found c lt is e =
      let here = cons-at columns place c lt is in
      let high : nat_lt a c.attribute ≡ true =
      not-lower c.attribute a (not-true (nat_lt c.attribute a)
      (left (not (nat_lt c.attribute a)) (list_all (λ x. not (nat_lt x.attribute a)) (drop (suc place) columns)) (sym (ap (list_all (λ x. not (nat_lt x.attribute a))) here) ∙ at.back)))
      (number-differs c.attribute a e) in
      record {
        within = at.within;
        front = at.front;
        back =
            ap (list_all (λ x. nat_lt a x.attribute)) here
            ∙ both (nat_lt a c.attribute) (list_all (λ x. nat_lt a x.attribute) (drop (suc place) columns)) high
            (all-weaken (column_before c) (λ x. nat_lt a x.attribute) (λ x h. lower-chain a c.attribute x.attribute high h) (drop (suc place) columns) (behind-at c lt is));
      }

  pub gap-end : length columns ≤ place → IsGapAt a columns place
  gap-end le = record { within = at.within; front = at.front; back = ap (list_all (λ x. nat_lt a x.attribute)) (drop_all place columns le) }

-- ---- triples of columns

-- triples that fill each column: those that there are, or those of the mark
module _ (cells : Column → List Triple) where
  abbrev filled : Column → Bool
  filled c = fill c.attribute (cells c)

  module _ (a : ℕ) where
    lower-cells : (cs : List Column) → list_all (λ c. nat_lt c.attribute a) cs ≡ true → list_all filled cs ≡ true → list_all (λ t. nat_lt t.attribute a) (flat_map cells cs) ≡ true
    lower-cells [] h f = refl
    lower-cells (c ∷ cs) h f =
        all-join (λ t. nat_lt t.attribute a) (cells c) (flat_map cells cs)
        (all-weaken (λ t. t.attribute == c.attribute) (λ t. nat_lt t.attribute a)
        (λ t k. ap (λ n. nat_lt n a) (number-is t.attribute c.attribute k) ∙ left (nat_lt c.attribute a) (list_all (λ d. nat_lt d.attribute a) cs) h) (cells c)
        (left (list_all (λ t. t.attribute == c.attribute) (cells c)) (ascends triple_before (cells c)) (left (filled c) (list_all filled cs) f)))
        (lower-cells cs (right (nat_lt c.attribute a) (list_all (λ d. nat_lt d.attribute a) cs) h) (right (filled c) (list_all filled cs) f))

    higher-cells : (cs : List Column) → list_all (λ c. nat_lt a c.attribute) cs ≡ true → list_all filled cs ≡ true → list_all (λ t. nat_lt a t.attribute) (flat_map cells cs) ≡ true
    higher-cells [] h f = refl
    higher-cells (c ∷ cs) h f =
        all-join (λ t. nat_lt a t.attribute) (cells c) (flat_map cells cs)
        (all-weaken (λ t. t.attribute == c.attribute) (λ t. nat_lt a t.attribute)
        (λ t k. ap (λ n. nat_lt a n) (number-is t.attribute c.attribute k) ∙ left (nat_lt a c.attribute) (list_all (λ d. nat_lt a d.attribute) cs) h) (cells c)
        (left (list_all (λ t. t.attribute == c.attribute) (cells c)) (ascends triple_before (cells c)) (left (filled c) (list_all filled cs) f)))
        (higher-cells cs (right (nat_lt a c.attribute) (list_all (λ d. nat_lt a d.attribute) cs) h) (right (filled c) (list_all filled cs) f))

  flat-split : (cs : List Column) (i : ℕ) → flat_map cells cs ≡ flat_map cells (take i cs) ++ flat_map cells (drop i cs)
  flat-split cs i = ap (flat_map cells) (sym (take-append-drop i cs)) ∙ flat_map-append cells (take i cs) (drop i cs)

  pub flat-inserted : (cs : List Column) (i : ℕ) (c : Column) → cells c ≡ [] → flat_map cells (insert cs i c) ≡ flat_map cells cs
  flat-inserted cs i c e =
      flat_map-append cells (take i cs) (c ∷ drop i cs) ∙ ap (λ z. flat_map cells (take i cs) ++ (z ++ flat_map cells (drop i cs))) e ∙ sym (flat-split cs i)

  flat-at : (cs : List Column) (i : ℕ) (c : Column) → i < length cs → c ≡ get_or cs i c → flat_map cells cs ≡ flat_map cells (take i cs) ++ (cells c ++ flat_map cells (drop (suc i) cs))
  flat-at cs i c lt is = flat-split cs i ∙ ap (λ z. flat_map cells (take i cs) ++ flat_map cells z) (cons-at cs i c lt is)

  pub flat-set : (cs : List Column) (i : ℕ) (c : Column) → i < length cs → flat_map cells (set cs i c) ≡ flat_map cells (take i cs) ++ (cells c ++ flat_map cells (drop (suc i) cs))
  flat-set cs i c lt = ap (flat_map cells) (set_split cs i c lt) ∙ flat_map-append cells (take i cs) (c ∷ drop (suc i) cs)

  pub flat-set-same : (cs : List Column) (i : ℕ) (c d : Column) → i < length cs → c ≡ get_or cs i c → cells d ≡ cells c → flat_map cells (set cs i d) ≡ flat_map cells cs
  flat-set-same cs i c d lt is e =
      flat-set cs i d lt ∙ ap (λ z. flat_map cells (take i cs) ++ (z ++ flat_map cells (drop (suc i) cs))) e ∙ sym (flat-at cs i c lt is)

  filled-set : (cs : List Column) (i : ℕ) (c : Column) → i < length cs → list_all filled cs ≡ true → filled c ≡ true → list_all filled (set cs i c) ≡ true
  filled-set cs i c lt f h =
      ap (list_all filled) (set_split cs i c lt)
      ∙ all-join filled (take i cs) (c ∷ drop (suc i) cs) (all-take filled i cs f) (both (filled c) (list_all filled (drop (suc i) cs)) h (all-drop filled (suc i) cs f))

  filled-inserted : (cs : List Column) (i : ℕ) (c : Column) → list_all filled cs ≡ true → filled c ≡ true → list_all filled (insert cs i c) ≡ true
  filled-inserted cs i c f h =
      all-join filled (take i cs) (c ∷ drop i cs) (all-take filled i cs f) (both (filled c) (list_all filled (drop i cs)) h (all-drop filled i cs f))

abbrev pub now_of : Column → List Triple
now_of c = c.cells.items

abbrev pub mark_of : Column → List Triple
mark_of c = c.cells.mark

-- ---- a column that is there

module _ (a : ℕ) (cs : List Column) (o : AreInOrder cs) (i : ℕ) (at : IsColumnAt a cs i) where
  back : list_all (λ c. nat_lt a c.attribute) (drop (suc i) cs) ≡ true
  back = sym (ap (λ k. list_all (λ c. nat_lt a c.attribute) (drop k cs)) (add-one i)) ∙ at.back

  pub fill-at : (c : Column) → c ≡ get_or cs i c → fill a c.cells.items ≡ true
  fill-at c is =
      sym (ap (λ n. fill n c.cells.items) (ap (λ x. x.attribute) is ∙ at.is c))
      ∙ ap (filled now_of) is ∙ all-at (filled now_of) cs i c o.now at.within

  pub column-part : (c : Column) → c ≡ get_or cs i c → IsPart a c.cells.items (triples_of cs)
  column-part c is = record {
    front = triples_of (take i cs);
    back = triples_of (drop (suc i) cs);
    whole = flat-at now_of cs i c at.within is;
    lower = lower-cells now_of a (take i cs) at.front (all-take (filled now_of) i cs o.now);
    higher = higher-cells now_of a (drop (suc i) cs) back (all-drop (filled now_of) (suc i) cs o.now);
    in_order = right (list_all (λ t. t.attribute == a) c.cells.items) (ascends triple_before c.cells.items) (fill-at c is);
  }

  -- the column changed
  module _ (c d : Column) (is : c ≡ get_or cs i c) (same : d.attribute ≡ a) (marks : d.cells.mark ≡ c.cells.mark) (fills : fill a d.cells.items ≡ true) where
    pub changed-in_order : AreInOrder (set cs i d)
    changed-in_order = record {
      ascend =
          ap (ascends column_before) (set_split cs i d at.within)
          ∙ ascends-between column_before d (take i cs) (drop (suc i) cs)
          (ascends-without column_before (take i cs) c (drop (suc i) cs)
          (ap (ascends column_before) (ap (λ z. take i cs ++ z) (sym (cons-at cs i c at.within is)) ∙ take-append-drop i cs) ∙ o.ascend))
          (all-weaken (λ x. nat_lt x.attribute a) (λ x. column_before x d) (λ x h. ap (λ n. nat_lt x.attribute n) same ∙ h) (take i cs) at.front)
          (all-weaken (λ x. nat_lt a x.attribute) (column_before d) (λ x h. ap (λ n. nat_lt n x.attribute) same ∙ h) (drop (suc i) cs) back);
      now = filled-set now_of cs i d at.within o.now (ap (λ n. fill n d.cells.items) same ∙ fills);
      mark =
          filled-set mark_of cs i d at.within o.mark
          (ap (λ n. fill n d.cells.mark) same ∙ ap (fill a) marks ∙ sym (ap (λ n. fill n c.cells.mark) (ap (λ x. x.attribute) is ∙ at.is c))
          ∙ ap (filled mark_of) is ∙ all-at (filled mark_of) cs i c o.mark at.within);
    }

    pub changed-mark : marked_of (set cs i d) ≡ marked_of cs
    changed-mark = flat-set-same mark_of cs i c d at.within is marks

    pub changed-triples : triples_of (set cs i d) ≡ with_cells a c.cells.items (triples_of cs) (column-part c is) d.cells.items
    unfolding column-part
    changed-triples = flat-set now_of cs i d at.within

-- ---- a column that is not there

module _ (a : ℕ) (cs : List Column) (o : AreInOrder cs) (i : ℕ) (at : IsGapAt a cs i) where
  pub gap-part : IsPart a [] (triples_of cs)
  gap-part = record {
    front = triples_of (take i cs);
    back = triples_of (drop i cs);
    whole = flat-split now_of cs i;
    lower = lower-cells now_of a (take i cs) at.front (all-take (filled now_of) i cs o.now);
    higher = higher-cells now_of a (drop i cs) at.back (all-drop (filled now_of) i cs o.now);
    in_order = refl;
  }

  module _ (c : Column) (same : c.attribute ≡ a) (nothing : c.cells.items ≡ []) (unmarked : c.cells.mark ≡ []) where
    pub opened-in_order : AreInOrder (insert cs i c)
    opened-in_order = record {
      ascend =
          ascends-between column_before c (take i cs) (drop i cs)
          (ap (ascends column_before) (take-append-drop i cs) ∙ o.ascend)
          (all-weaken (λ x. nat_lt x.attribute a) (λ x. column_before x c) (λ x h. ap (λ n. nat_lt x.attribute n) same ∙ h) (take i cs) at.front)
          (all-weaken (λ x. nat_lt a x.attribute) (column_before c) (λ x h. ap (λ n. nat_lt n x.attribute) same ∙ h) (drop i cs) at.back);
      now = filled-inserted now_of cs i c o.now (ap (fill c.attribute) nothing);
      mark = filled-inserted mark_of cs i c o.mark (ap (fill c.attribute) unmarked);
    }

    pub opened-triples : triples_of (insert cs i c) ≡ triples_of cs
    opened-triples = flat-inserted now_of cs i c nothing

    pub opened-mark : marked_of (insert cs i c) ≡ marked_of cs
    opened-mark = flat-inserted mark_of cs i c unmarked

    pub opened-at : IsColumnAt a (insert cs i c) i
    opened-at = record {
      within = (let w = at.within in omega (arith, length-insert cs i c w));
      is = λ d. ap (λ x. x.attribute) (get_or-insert_at cs i c d at.within) ∙ same;
      front = ap (list_all (λ x. nat_lt x.attribute a)) (take_at (take i cs) (c ∷ drop i cs) i (length-take-le i cs at.within)) ∙ at.front;
      back =
          ap (list_all (λ x. nat_lt a x.attribute))
          (sym (drop-drop 1 i (insert cs i c)) ∙ ap (drop 1) (drop_at (take i cs) (c ∷ drop i cs) i (length-take-le i cs at.within))) ∙ at.back;
    }
