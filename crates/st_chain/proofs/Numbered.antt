-- Which stores pages are of, behind calls that put some, whatever these answer.
use Rattle.std.proofs.Common.{◌≡◌, ◌≢◌, ℕ, ◌+◌, ◌≤◌, ◌⊎◌, ◌==◌, ◌&&◌, Bool, true, false, List, length, Option, Some, None, Result, Ok, Err, OnOk, OnErr, IsSome, IsTrue, refl, sym, ap, subst, ◌∙◌, inl, inr, arith, true≢false}
use Rattle.std.specs.Int.{w32, to_be_bytes}
use Rattle.std.specs.Prelude.{is_some, nat_le, not}
use Rattle.st_values.proofs.Tests.{both, left, right}
use Rattle.st_page.specs.declared.fault.PageFault.{PageFault}
use Rattle.st_image.specs.Bytes.{number}
use Rattle.st_image.specs.Fields.{blank, kind_of, store_of, with_next}
use Rattle.st_image.proofs.Written.{elsewhere-stays}
use Rattle.st_pages.specs.Attempt.{Array, Attempt, Agrees, IsSound, image_or, over, wrote}
use Rattle.st_pages.proofs.Carried.{over-same}
use Rattle.st_store.specs.Stores.{IsSame, KeepNumbers, drew_between, is_page_of}
use Rattle.st_page_rows.specs.PageRows.{SameHead}
use Rattle.st_page_rows.proofs.Parts.{byte-before}
use Rattle.st_chain.specs.Changes.{IsParted, OfNoOther}
use Rattle.st_chain.proofs.Putting.{kind-blank, put-elsewhere, put-same, put-there, page-itself, same-page}

-- ---- images of one store

of-same : (new image : List ℕ) → store_of new ≡ store_of image → kind_of new ≡ kind_of image → OfNoOther new image
of-same new image store kind number is =
    ap (λ (n : ℕ). (n == number) && (nat_le 2 (kind_of image) && nat_le (kind_of image) 4)) (sym store)
    ∙ ap (λ (k : ℕ). (store_of new == number) && (nat_le 2 k && nat_le k 4)) (sym kind)
    ∙ is

-- the page of a store has other rows now
pub of-made : (image new was : List ℕ) → SameHead image new → was ≡ image → OfNoOther new was
of-made image new was head at = subst (OfNoOther new) (sym at) (of-same new image head.store head.kind)

of-named : (next : ℕ) (image : List ℕ) → length image ≡ 4096 → OfNoOther (with_next next image) image
of-named next image size =
    let bytes : List ℕ = to_be_bytes w32 next in
    let room : 8 + length bytes ≤ length image = omega arith in
    of-same (with_next next image) image (ap number (elsewhere-stays 8 4 4 bytes image room (inl (omega arith)))) (byte-before 8 0 bytes image room (omega arith))

-- it shares its rows with another one, which is behind it
pub of-split : (width next : ℕ) (image one named two : List ℕ) (rows : List (List ℕ)) (was : List ℕ) → IsParted width image one two rows → named ≡ with_next next one → was ≡ image → OfNoOther named was
of-split width next image one named two rows was parts names at = λ store is.
    of-made image one was parts.head at store (of-named next one parts.laid.size store (subst (λ (x : List ℕ). IsTrue (is_page_of store x)) names is))

-- another page is behind it
pub of-linked : (next : ℕ) (image named was : List ℕ) → named ≡ with_next next image → was ≡ image → length was ≡ 4096 → OfNoOther named was
of-linked next image named was names at size = λ store is.
    ap (is_page_of store) at ∙ of-named next image (ap length (sym at) ∙ size) store (ap (is_page_of store) (sym names) ∙ is)

-- it is blank
pub of-gone : (new was : List ℕ) → new ≡ blank → OfNoOther new was
of-gone new was empty = λ store is.
    let fair : nat_le 2 (kind_of new) ≡ true = left (nat_le 2 (kind_of new)) (nat_le (kind_of new) 4) (right (store_of new == store) (nat_le 2 (kind_of new) && nat_le (kind_of new) 4) is) in
    absurd (true≢false (sym fair ∙ ap (λ (x : List ℕ). nat_le 2 (kind_of x)) empty ∙ ap (nat_le 2) kind-blank))

-- a page that was seen has 4,096 bytes, also under what was written
pub over-size : (a b : Attempt) (array : Array) (page : ℕ) → IsSound a → IsSound b → Agrees b array → IsSome (b.seen page) → length (over a array page) ≡ 4096
over-size a b array page before behind agrees some = go (a.written page) refl
  where
    there : (o : Option (List ℕ)) → b.seen page ≡ o → length (array page) ≡ 4096
    there None e = absurd (true≢false (sym some ∙ ap is_some e))
    there (Some image) e = ap length (agrees page image e) ∙ (behind.seen page image e).size

    go : (o : Option (List ℕ)) → a.written page ≡ o → length (over a array page) ≡ 4096
    go None e = ap (λ (w : Option (List ℕ)). length (image_or (array page) w)) e ∙ there (b.seen page) refl
    go (Some image) e = ap (λ (w : Option (List ℕ)). length (image_or (array page) w)) e ∙ (before.written page image e).0.size

-- ---- behind one put, or two

module _ (a d : Attempt) (array : Array) where
  -- nothing was put yet
  pub keep-none : (x : Attempt) → x.written ≡ a.written → KeepNumbers a d (over a array) (over x array)
  keep-none x unwritten store page is = inl (ap (λ (y : Array). is_page_of store (y page)) (sym (over-same a x array unwritten)) ∙ is)

  -- one more page was put, that was drawn or stays of its store
  pub keep-put : (x : Attempt) (page : ℕ) (image : List ℕ) → KeepNumbers a d (over a array) (over x array) → OfNoOther image (over a array page) ⊎ IsTrue (drew_between a d page)
      → KeepNumbers a d (over a array) (over (wrote page image x) array)
  keep-put x page image keeps here store other is =
      go (other == page) refl
    where
      there : OfNoOther image (over a array page) ⊎ IsTrue (drew_between a d page) → IsTrue (is_page_of store image) → IsTrue (is_page_of store (over a array page)) ⊎ IsTrue (drew_between a d page)
      there (inl of) h = inl (of store h)
      there (inr drew) h = inr drew

      go : (b : Bool) → (other == page) ≡ b → IsTrue (is_page_of store (over a array other)) ⊎ IsTrue (drew_between a d other)
      go true e =
          let same : other ≡ page = same-page other page e in
          let put : over (wrote page image x) array other ≡ image = ap (over (wrote page image x) array) same ∙ put-there x page image array in
          subst (λ (q : ℕ). IsTrue (is_page_of store (over a array q)) ⊎ IsTrue (drew_between a d q)) (sym same) (there here (ap (is_page_of store) (sym put) ∙ is))
      go false e =
          let ne : other ≢ page = λ k. true≢false (sym (ap (λ (m : ℕ). m == page) k ∙ page-itself page) ∙ e) in
          keeps store other (ap (is_page_of store) (sym (put-elsewhere x page image array other ne)) ∙ is)

  pub one-put : (r : Result Unit PageFault) (x : Attempt) (page : ℕ) (image : List ℕ) → OnOk r (d ≡ wrote page image x) → OnErr r (d ≡ x) → x.written ≡ a.written
      → OfNoOther image (over a array page) ⊎ IsTrue (drew_between a d page) → KeepNumbers a d (over a array) (over d array)
  one-put (Ok u) x page image ok err unwritten here =
      subst (λ (y : Attempt). KeepNumbers a d (over a array) (over y array)) (sym ok) (keep-put x page image (keep-none x unwritten) here)
  one-put (Err fault) x page image ok err unwritten here = keep-none d (ap (λ (y : Attempt). y.written) err ∙ unwritten)

  pub two-put : (r : Result Unit PageFault) (x : Attempt) (page second : ℕ) (image other : List ℕ) → OnOk r (d ≡ wrote second other (wrote page image x)) → OnErr r ((d ≡ x) ⊎ (d ≡ wrote page image x)) → x.written ≡ a.written
      → OfNoOther image (over a array page) ⊎ IsTrue (drew_between a d page) → OfNoOther other (over a array second) ⊎ IsTrue (drew_between a d second) → KeepNumbers a d (over a array) (over d array)
  two-put (Ok u) x page second image other ok err unwritten here there =
      subst (λ (y : Attempt). KeepNumbers a d (over a array) (over y array)) (sym ok)
      (keep-put (wrote page image x) second other (keep-put x page image (keep-none x unwritten) here) there)
  two-put (Err fault) x page second image other ok err unwritten here there = elim err [
    | inl none ↦ keep-none d (ap (λ (y : Attempt). y.written) none ∙ unwritten)
    | inr first ↦ subst (λ (y : Attempt). KeepNumbers a d (over a array) (over y array)) (sym first) (keep-put x page image (keep-none x unwritten) here)
  ]

  -- the image that was there is put, or none
  pub same-put : (page : ℕ) (image : List ℕ) → d ≡ wrote page image a → over a array page ≡ image → IsSame (over a array) (over d array)
  same-put page image is at = λ other. ap (λ (x : Attempt). over x array other) is ∙ put-same a page image array other at

  pub same-none : d.written ≡ a.written → IsSame (over a array) (over d array)
  same-none unwritten = λ other. ap (λ (x : Array). x other) (over-same a d array unwritten)

  pub keep-same : IsSame (over a array) (over d array) → KeepNumbers a d (over a array) (over d array)
  keep-same same store page is = inl (ap (is_page_of store) (sym (same page)) ∙ is)

-- ---- from the first of two calls on, which put nothing

drew-before : (x y z : Bool) → (x ≡ true → y ≡ true) → (z && not y) ≡ true → (z && not x) ≡ true
drew-before true y z h k = absurd (true≢false (sym (right z (not y) k) ∙ ap not (h refl)))
drew-before false y z h k = both z true (left z (not y) k) refl

pub keep-under : (a b d : Attempt) (array : Array) → b.written ≡ a.written → ((p : ℕ) → IsTrue (a.drawn p) → IsTrue (b.drawn p)) → KeepNumbers b d (over b array) (over d array)
    → KeepNumbers a d (over a array) (over d array)
keep-under a b d array unwritten stays keeps store page is = elim (keeps store page is) [
  | inl was ↦ inl (ap (λ (y : Array). is_page_of store (y page)) (sym (over-same a b array unwritten)) ∙ was)
  | inr drew ↦ inr (drew-before (a.drawn page) (b.drawn page) (d.drawn page) (stays page) drew)
]

pub same-under : (a b d : Attempt) (array : Array) → b.written ≡ a.written → IsSame (over b array) (over d array) → IsSame (over a array) (over d array)
same-under a b d array unwritten same = λ page. same page ∙ ap (λ (y : Array). y page) (over-same a b array unwritten)
