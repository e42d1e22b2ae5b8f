-- The kinds of pages, by their fields and as one part behind the other.
use Rattle.std.proofs.Common.{◌≡◌, ℕ, ◌+◌, ◌-◌, ◌*◌, ◌^◌, ◌<◌, ◌≤◌, ◌⊎◌, Bool, true, false, Option, Some, None, List, ◌++◌, length, take, get_or, replicate, refl, sym, subst, ◌∙◌, inl, inr, arith}
use Rattle.std.proofs.lemmas.List.{get_or-take, get_or_append_left, length-take}
use Rattle.st_image.specs.declared.wanted.Wanted.{Wanted}
use Rattle.st_image.specs.Prefixes.{Begins}
use Rattle.std.proofs.Math.Nat.{mul-le-mul_right}
use Rattle.st_image.specs.Bytes.{IsBytes}
use Rattle.st_image.specs.Fields.{blank}
use Rattle.st_image.specs.Grammar.{AreChildren, AreEntries, AreRows, Header, IsForm, IsPage, IsPiece}
use Rattle.st_image.specs.Parts.{Field, Finds, IsText, Rows}
use Rattle.st_image.proofs.Forms.{finds-same, form-from-parts, laid-from, parts-from-form, rows-from, text-from, text-to}
use Rattle.st_image.proofs.Laid.{rows-laid}
use Rattle.st_image.proofs.PageChecks.{Page}
use Rattle.st_image.proofs.Zeros.{blank-number, field-zero, number-blank, zero-field}

-- how many rows a page may have: as many as it has room for, and no more than there are keys
pub record Limits (key width most limit : ℕ) : Type 0 where
  pub within : key ≤ width
  pub fits : most * width ≤ 4080
  pub room : limit * width ≤ 4080
  pub at_most : most ≤ limit
  pub greatest : (n : ℕ) → n ≤ limit → n ≤ 256 ^ key → n ≤ most

fewer : (n most width : ℕ) → n ≤ most → most * width ≤ 4080 → n * width ≤ 4080
fewer n most width h k = let up : n * width ≤ most * width = mul-le-mul_right width h in omega (arith, up)

off : false ≡ true → ⊥
off e = cc

abbrev pub RowsBody : Bool → ℕ → ℕ → Bool → ℕ → List ℕ → Type 0
RowsBody child key width first n = Rows child key width (4080 - n * width) first n 0

abbrev pub PageOf : Header → ℕ → (ℕ → List ℕ → Type 0) → List ℕ → Type 0
PageOf header most Body = Page header.kind header.least most header.store header.next header.last Body

-- ---- rows

pub data-finds : (header : Header) (key width most : ℕ) → Limits key width most header.most → (page : List ℕ) (fault : Option ℕ) → Finds (PageOf header most (RowsBody false key width false)) page fault
    → Finds (IsForm header (AreRows key width)) page fault
data-finds header key width most limits page fault h =
    finds-same (PageOf header most (RowsBody false key width false)) (IsForm header (AreRows key width)) page fault
    (form-from-parts header (AreRows key width) (RowsBody false key width false) most limits.at_most back)
    (parts-from-form header (AreRows key width) (RowsBody false key width false) most there)
    h
  where
    back : (n : ℕ) (body : List ℕ) → header.least ≤ n → n ≤ most → RowsBody false key width false n body → AreRows key width n body × IsBytes body × (length body ≡ 4080)
    back n body l m b = rows-from false key width false n body limits.within (fewer n most width m limits.fits) b

    there : (n : ℕ) (body : List ℕ) → length body ≡ 4080 → IsBytes body → header.least ≤ n → n ≤ header.most → AreRows key width n body → RowsBody false key width false n body × (n ≤ most)
    there n body size sound l m rows =
        let laid = laid-from false key width false n body limits.within (fewer n header.most width m limits.room) size sound rows (λ e. absurd (off e)) (λ e. absurd (off e)) in
        (laid.0, limits.greatest n m laid.1)

pub entries-finds : (header : Header) (key most : ℕ) → Limits key (key + 4) most header.most → (page : List ℕ) (fault : Option ℕ) → Finds (PageOf header most (RowsBody true key (key + 4) false)) page fault
    → Finds (IsForm header (AreEntries key)) page fault
entries-finds header key most limits page fault h =
    finds-same (PageOf header most (RowsBody true key (key + 4) false)) (IsForm header (AreEntries key)) page fault
    (form-from-parts header (AreEntries key) (RowsBody true key (key + 4) false) most limits.at_most back)
    (parts-from-form header (AreEntries key) (RowsBody true key (key + 4) false) most there)
    h
  where
    back : (n : ℕ) (body : List ℕ) → header.least ≤ n → n ≤ most → RowsBody true key (key + 4) false n body → AreEntries key n body × IsBytes body × (length body ≡ 4080)
    back n body l m b =
        let rows = rows-from true key (key + 4) false n body limits.within (fewer n most (key + 4) m limits.fits) b in
        let laid = rows-laid true key (key + 4) (4080 - n * (key + 4)) false n 0 body limits.within b in
        (record { rows = rows.0; pages = laid.pages refl }, rows.1, rows.2)

    there : (n : ℕ) (body : List ℕ) → length body ≡ 4080 → IsBytes body → header.least ≤ n → n ≤ header.most → AreEntries key n body → RowsBody true key (key + 4) false n body × (n ≤ most)
    there n body size sound l m entries =
        let laid = laid-from true key (key + 4) false n body limits.within (fewer n header.most (key + 4) m limits.room) size sound entries.rows (λ e. entries.pages) (λ e. absurd (off e)) in
        (laid.0, limits.greatest n m laid.1)

pub children-finds : (header : Header) (key most : ℕ) → 1 ≤ header.least → Limits key (key + 4) most header.most → (page : List ℕ) (fault : Option ℕ) → Finds (PageOf header most (RowsBody true key (key + 4) true)) page fault
    → Finds (IsForm header (AreChildren key)) page fault
children-finds header key most some limits page fault h =
    finds-same (PageOf header most (RowsBody true key (key + 4) true)) (IsForm header (AreChildren key)) page fault
    (form-from-parts header (AreChildren key) (RowsBody true key (key + 4) true) most limits.at_most back)
    (parts-from-form header (AreChildren key) (RowsBody true key (key + 4) true) most there)
    h
  where
    back : (n : ℕ) (body : List ℕ) → header.least ≤ n → n ≤ most → RowsBody true key (key + 4) true n body → AreChildren key n body × IsBytes body × (length body ≡ 4080)
    back n body l m b =
        let rows = rows-from true key (key + 4) true n body limits.within (fewer n most (key + 4) m limits.fits) b in
        let laid = rows-laid true key (key + 4) (4080 - n * (key + 4)) true n 0 body limits.within b in
        (record { entries = record { rows = rows.0; pages = laid.pages refl }; first = number-blank (take key body) (laid.first_key refl (omega arith)) }, rows.1, rows.2)

    there : (n : ℕ) (body : List ℕ) → length body ≡ 4080 → IsBytes body → header.least ≤ n → n ≤ header.most → AreChildren key n body → RowsBody true key (key + 4) true n body × (n ≤ most)
    there n body size sound l m children =
        let laid = laid-from true key (key + 4) true n body limits.within (fewer n header.most (key + 4) m limits.room) size sound (children.entries).rows (λ e. (children.entries).pages) (λ e. blank-number (take key body) children.first) in
        (laid.0, limits.greatest n m laid.1)

-- ---- text

pub text-finds : (header : Header) → header.most ≤ 4080 → (page : List ℕ) (fault : Option ℕ) → Finds (PageOf header header.most IsText) page fault → Finds (IsForm header IsPiece) page fault
text-finds header room page fault h =
    finds-same (PageOf header header.most IsText) (IsForm header IsPiece) page fault
    (form-from-parts header IsPiece IsText header.most (omega arith) (λ n body l m b. text-from n body (omega (arith, m, room)) b))
    (parts-from-form header IsPiece IsText header.most (λ n body size sound l m b. (text-to n body size sound (omega (arith, m, room)) b, m)))
    h

-- ---- a page that isn't used

pub blank-is : blank ≡ replicate 4096 0
unfolding blank
blank-is = refl

pub blank-finds : (page : List ℕ) (fault : Option ℕ) → Finds (Field 4096 0 0) page fault → Finds (λ xs. xs ≡ blank) page fault
blank-finds page fault h = free 4096 blank blank-is page fault h
  where
    free : (n : ℕ) (zeros : List ℕ) → zeros ≡ replicate n 0 → (xs : List ℕ) (r : Option ℕ) → Finds (Field n 0 0) xs r → Finds (λ ys. ys ≡ zeros) xs r
    free n zeros e xs r k = finds-same (Field n 0 0) (λ ys. ys ≡ zeros) xs r (λ ys f. field-zero n ys f ∙ sym e) (λ ys f. zero-field n ys (f ∙ e)) k

-- ---- a leaf or an inner page

first-kept : (place : ℕ) (page rest : List ℕ) → 1 ≤ length page → get_or (take (place + 1) page ++ rest) 0 0 ≡ get_or page 0 0
first-kept place page rest h =
    let some : 0 < length (take (place + 1) page) = omega (arith, length-take (place + 1) page) in
    get_or_append_left (take (place + 1) page) rest 0 0 some ∙ get_or-take (place + 1) page 0 0 (omega arith)

other-kind : (header : Header) (Is : ℕ → List ℕ → Type 0) (page : List ℕ) (place : ℕ) → 1 ≤ length page → (get_or page 0 0 ≡ header.kind → ⊥) → Begins (IsForm header Is) (take (place + 1) page) → ⊥
other-kind header Is page place some h b = h (sym (first-kept place page b.0 some) ∙ ((b.1).has_header).kind)

pub finds-left : (header other : Header) (Is Other : ℕ → List ℕ → Type 0) (page : List ℕ) (fault : Option ℕ) → 1 ≤ length page → (get_or page 0 0 ≡ other.kind → ⊥) → Finds (IsForm header Is) page fault
    → Finds (λ xs. IsForm header Is xs ⊎ IsForm other Other xs) page fault
finds-left header other Is Other page None some h k = inl k
finds-left header other Is Other page (Some place) some h k = (
  k.0,
  record {
    begins = (((k.1).begins).0, inl ((k.1).begins).1);
    ends = λ b. elim b.1 [ inl one ↦ (k.1).ends (b.0, one) | inr two ↦ other-kind other Other page place some h (b.0, two) ];
  },
)

pub finds-right : (header other : Header) (Is Other : ℕ → List ℕ → Type 0) (page : List ℕ) (fault : Option ℕ) → 1 ≤ length page → (get_or page 0 0 ≡ header.kind → ⊥) → Finds (IsForm other Other) page fault
    → Finds (λ xs. IsForm header Is xs ⊎ IsForm other Other xs) page fault
finds-right header other Is Other page None some h k = inr k
finds-right header other Is Other page (Some place) some h k = (
  k.0,
  record {
    begins = (((k.1).begins).0, inr ((k.1).begins).1);
    ends = λ b. elim b.1 [ inl one ↦ other-kind header Is page place some h (b.0, one) | inr two ↦ (k.1).ends (b.0, two) ];
  },
)

pub finds-wanted : (wanted is : Wanted) (page : List ℕ) (fault : Option ℕ) → wanted ≡ is → Finds (IsPage is) page fault → Finds (IsPage wanted) page fault
finds-wanted wanted is page fault e h = subst (λ (w : Wanted). Finds (IsPage w) page fault) (sym e) h
