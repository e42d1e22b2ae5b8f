-- How many pages are changed and taken behind calls, at most; and where pages refuse.
use Rattle.std.proofs.Common.{◌≡◌, ℕ, zero, suc, ◌+◌, ◌*◌, ◌<◌, ◌≤◌, ◌&&◌, ◌||◌, Bool, true, false, if◌then◌else◌, List, Option, Some, None, Result, IsSome, IfSome, refl, sym, ap, subst, ◌∙◌, ◌⊎◌, inl, inr, arith, true≢false}
use Rattle.std.specs.Prelude.{not, is_some, nat_le}
use Rattle.std.specs.Option.{ForSome}
use Rattle.std.specs.Str.{bytes_eq}
use Rattle.std.proofs.lemmas.Bool.Decides.{nat_tests}
use Rattle.std.proofs.lemmas.Slice.Eq.{bytes_eq-Decides}
use Rattle.st_values.proofs.Tests.{both, either, first-of, left, one-of, right}
use Rattle.st_page.specs.declared.fault.PageFault.TheVariants as page
use Rattle.st_image.specs.Fields.{blank, kind_of}
use Rattle.st_pages.specs.Attempt.{Array, Attempt, Agrees, IsSound, changed, differs, draws, how_many, image_or, over, page_count, taken, was_blank}
use Rattle.st_pages.specs.Calls.{Room, IsAllRoom, IsNoMore, IsStopped}
use Rattle.st_plain.specs.declared.fault.BaseFault.{BaseFault}
use Rattle.st_plain.specs.Base.{fault_behind}
use Rattle.st_paged_steps.specs.InPages.{IsNotFull, IsNotMany}

-- ---- how many

abbrev one : Bool → ℕ
one b = if b then 1 else 0

-- where each that is of one set is of one of two others
either-one : (x y z : Bool) → (z ≡ true → (x ≡ true) ⊎ (y ≡ true)) → one z ≤ one x + one y
either-one true y true h = omega arith
either-one true y false h = omega arith
either-one false true true h = omega arith
either-one false true false h = omega arith
either-one false false true h = elim (h refl) [ inl e ↦ absurd (true≢false (sym e)) | inr e ↦ absurd (true≢false (sym e)) ]
either-one false false false h = omega arith

of-either : (f g h : ℕ → Bool) → ((p : ℕ) → h p ≡ true → (f p ≡ true) ⊎ (g p ≡ true)) → (n : ℕ) → how_many h n ≤ how_many f n + how_many g n
of-either f g h in-one zero = omega arith
of-either f g h in-one (suc n) =
    let below : how_many h n ≤ how_many f n + how_many g n = of-either f g h in-one n in
    let here : one (h n) ≤ one (f n) + one (g n) = either-one (f n) (g n) (h n) (in-one n) in
    omega (arith, below, here)

between-one : (b c : Bool) → (b ≡ true → c ≡ true) → one (c && not b) + one b ≤ one c
between-one true true h = omega arith
between-one true false h = absurd (true≢false (sym (h refl)))
between-one false true h = omega arith
between-one false false h = omega arith

-- of a set that holds another one, those that are not of that
between : (f g : ℕ → Bool) → ((p : ℕ) → f p ≡ true → g p ≡ true) → (n : ℕ) → how_many (λ p. g p && not (f p)) n + how_many f n ≤ how_many g n
between f g h zero = omega arith
between f g h (suc n) =
    let below : how_many (λ p. g p && not (f p)) n + how_many f n ≤ how_many g n = between f g h n in
    let here : one (g n && not (f n)) + one (f n) ≤ one (g n) = between-one (f n) (g n) (h n) in
    omega (arith, below, here)

-- ---- images

same-image : (xs ys : List ℕ) → bytes_eq xs ys ≡ true → xs ≡ ys
same-image xs ys = (bytes_eq-Decides xs ys).0

not-as : (b : Bool) → not b ≡ true → b ≡ true → ⊥
not-as true e h = true≢false (sym e)
not-as false e h = true≢false (sym h)

some-image : (i j : List ℕ) → Some i ≡ Some j → i ≡ j
some-image i j e = cc

kind-blank : kind_of blank ≡ 0
unfolding blank
kind-blank = refl

module _ (a b : Attempt) (array : Array) (sound : IsSound a) (sound_too : IsSound b) (agrees : Agrees b array)
    (stays : (page : ℕ) (image : List ℕ) → a.seen page ≡ Some image → b.seen page ≡ Some image) where
  -- a page that is changed now was changed before, or has other bytes since
  changed-before : (page : ℕ) (was now first last : Option (List ℕ)) → a.seen page ≡ was → a.written page ≡ now → b.seen page ≡ first → b.written page ≡ last
      → differs first last ≡ true → (differs was now ≡ true) ⊎ (not (bytes_eq (image_or (array page) now) (image_or (array page) last)) ≡ true)
  changed-before page was now first None e f g h is = absurd (true≢false (sym is))
  changed-before page was now None (Some image) e f g h is = absurd (none-seen (b.seen page) g (sound_too.written page image h).1)
    where
      none-seen : (o : Option (List ℕ)) → o ≡ None → IsSome o → ⊥
      none-seen None e h = cc
      none-seen (Some i) e h = cc
  changed-before page was None (Some first) (Some last) e f g h is =
      inr (ap (λ (i : List ℕ). not (bytes_eq i last)) (agrees page first g) ∙ is)
  changed-before page None (Some now) (Some first) (Some last) e f g h is = absurd (none-seen (a.seen page) e (sound.written page now f).1)
    where
      none-seen : (o : Option (List ℕ)) → o ≡ None → IsSome o → ⊥
      none-seen None e h = cc
      none-seen (Some i) e h = cc
  changed-before page (Some was) (Some now) (Some first) (Some last) e f g h is =
      let same : was ≡ first = some-image was first (sym (stays page was e) ∙ g) in
      either (bytes_eq was now) (λ b. bytes_eq was now ≡ b → (not b ≡ true) ⊎ (not (bytes_eq now last) ≡ true))
      (λ k _. inr (ap (λ (i : List ℕ). not (bytes_eq i last)) (sym (same-image was now k) ∙ same) ∙ is)) (λ k _. inl refl) refl

  -- pages with other bytes since are those that are changed besides at most
  pub changed-most : (most : ℕ) → how_many (λ page. not (bytes_eq (over a array page) (over b array page))) page_count ≤ most → changed b ≤ changed a + most
  changed-most most few =
      let parts : changed b ≤ changed a + how_many (λ page. not (bytes_eq (over a array page) (over b array page))) page_count =
      of-either (λ page. differs (a.seen page) (a.written page)) (λ page. not (bytes_eq (over a array page) (over b array page))) (λ page. differs (b.seen page) (b.written page))
      (λ page. changed-before page (a.seen page) (a.written page) (b.seen page) (b.written page) refl refl refl refl) page_count in
      omega (arith, parts, few)

  -- what was written of a page was written before, or the page was drawn, or it was one of a store
  module _ (drawn : (page : ℕ) → a.drawn page ≡ true → b.drawn page ≡ true)
      (put : (page : ℕ) → (b.written page ≡ a.written page) ⊎ ((b.drawn page ≡ true) ⊎ (2 ≤ kind_of (over a array page)))) where
    -- a page that was blank, which is none of a store
    no-store : (image : List ℕ) → was_blank (Some image) ≡ true → 2 ≤ kind_of image → ⊥
    no-store image blank_image high =
        let e : kind_of image ≡ 0 = ap kind_of (same-image image blank blank_image) ∙ kind-blank in
        omega (arith, e, high)

    taken-blank : (page : ℕ) (was now last first : Option (List ℕ)) → a.seen page ≡ was → a.written page ≡ now → b.written page ≡ last → b.seen page ≡ first
        → was_blank first ≡ true → is_some last ≡ true → (was_blank was && is_some now ≡ true) ⊎ (b.drawn page ≡ true)
    taken-blank page was now last None e f h g is some = absurd (true≢false (sym is))
    taken-blank page None (Some now) last (Some first) e f h g is some = absurd (none-seen (a.seen page) e (sound.written page now f).1)
      where
        none-seen : (o : Option (List ℕ)) → o ≡ None → IsSome o → ⊥
        none-seen None e h = cc
        none-seen (Some i) e h = cc
    taken-blank page (Some was) (Some now) last (Some first) e f h g is some =
        inl (both (was_blank (Some was)) true (ap (λ (i : List ℕ). bytes_eq i blank) (some-image was first (sym (stays page was e) ∙ g)) ∙ is) refl)
    taken-blank page was None last (Some first) e f h g is some = elim (put page) [
      | inl same ↦ absurd (true≢false (sym some ∙ ap is_some (sym h ∙ same ∙ f)))
      | inr either_way ↦ elim either_way [
        | inl d ↦ inr d
        | inr high ↦ absurd (no-store first is (subst (λ (i : List ℕ). 2 ≤ kind_of i) (ap (image_or (array page)) f ∙ agrees page first g) high))
      ]
    ]

    taken-before : (page : ℕ) → (b.drawn page || (was_blank (b.seen page) && is_some (b.written page))) ≡ true
        → ((a.drawn page || (was_blank (a.seen page) && is_some (a.written page))) ≡ true) ⊎ ((b.drawn page && not (a.drawn page)) ≡ true)
    taken-before page h =
        either (b.drawn page) (λ d. b.drawn page ≡ d → ((a.drawn page || (was_blank (a.seen page) && is_some (a.written page))) ≡ true) ⊎ ((b.drawn page && not (a.drawn page)) ≡ true))
        (λ _ d. new d)
        (λ _ d. elim (taken-blank page (a.seen page) (a.written page) (b.written page) (b.seen page) refl refl refl refl (left (was_blank (b.seen page)) (is_some (b.written page)) (rest d)) (right (was_blank (b.seen page)) (is_some (b.written page)) (rest d))) [
          | inl before ↦ inl (one-of (a.drawn page) (was_blank (a.seen page) && is_some (a.written page)) before)
          | inr drawn_now ↦ new drawn_now
        ]) refl
      where
        rest : b.drawn page ≡ false → (was_blank (b.seen page) && is_some (b.written page)) ≡ true
        rest d = sym (ap (λ (x : Bool). x || (was_blank (b.seen page) && is_some (b.written page))) d) ∙ h

        new : b.drawn page ≡ true → ((a.drawn page || (was_blank (a.seen page) && is_some (a.written page))) ≡ true) ⊎ ((b.drawn page && not (a.drawn page)) ≡ true)
        new d = either (a.drawn page) (λ x. a.drawn page ≡ x → ((a.drawn page || (was_blank (a.seen page) && is_some (a.written page))) ≡ true) ⊎ ((b.drawn page && not (a.drawn page)) ≡ true))
            (λ _ e. inl (first-of (a.drawn page) (was_blank (a.seen page) && is_some (a.written page)) e))
            (λ _ e. inr (both (b.drawn page) (not (a.drawn page)) d (ap not e))) refl

    -- pages that are taken besides are drawn
    pub taken-most : (most : ℕ) → draws b ≤ draws a + most → taken b ≤ taken a + most
    taken-most most drew =
        let parts : taken b ≤ taken a + how_many (λ page. b.drawn page && not (a.drawn page)) page_count =
        of-either (λ page. a.drawn page || (was_blank (a.seen page) && is_some (a.written page))) (λ page. b.drawn page && not (a.drawn page))
        (λ page. b.drawn page || (was_blank (b.seen page) && is_some (b.written page))) taken-before page_count in
        let new : how_many (λ page. b.drawn page && not (a.drawn page)) page_count + draws a ≤ draws b = between a.drawn b.drawn drawn page_count in
        omega (arith, parts, new, drew)

-- ---- where pages refuse

all-pages : page_count ≡ 65536
unfolding page_count
all-pages = refl

pub from-two : (n : ℕ) → nat_le 2 n ≡ true → 2 ≤ n
from-two n h = grind (arith, nat_tests)

module _ {A : Type 0} (b : Attempt) (now : Option Room) (result : Result A BaseFault) (stops : ForSome (fault_behind result) (IsStopped b now)) where
  pub not-many : (w rows before : ℕ) → changed b ≤ before + 34 * rows → before ≤ 34 * w → 34 * (w + rows) < 4001 → IsNotMany result
  not-many w rows before most few less = λ count e.
      let many = (stops (page.TooManyPages count) (ap fault_behind e)).1 in
      omega (arith, many, most, few, less)

  full-by : (was : Room) (left rows r before in_use : ℕ) → now ≡ Some (record { in_use = was.in_use; left = left }) → IsAllRoom b now → taken b ≤ before + 17 * rows → before ≤ 17 * r
      → was.in_use + 17 * (r + rows) < 65536 → IsStopped b now (page.Full in_use) → ⊥
  full-by was left rows r before in_use e all most few less stop =
      let room : Room = record { in_use = was.in_use; left = left } in
      let none = (subst (λ (o : Option Room). IfSome o (λ r. (r.left ≡ 0) × (in_use ≡ r.in_use))) e stop).0 in
      let whole = subst (λ (o : Option Room). IfSome o (λ r. page_count ≤ r.in_use + r.left + taken b)) e all in
      let count = all-pages in
      omega (arith, none, whole, most, few, less, count)

  pub not-full : (old : Option Room) (rows r before : ℕ) → IsNoMore old now → IsAllRoom b now → taken b ≤ before + 17 * rows → before ≤ 17 * r
      → IfSome old (λ u. u.in_use + 17 * (r + rows) < 65536 → IsNotFull result)
  not-full None rows r before more all most few = tt
  not-full (Some was) rows r before more all most few = λ less in_use e.
      full-by was more.0 rows r before in_use more.1 all most few less (stops (page.Full in_use) (ap fault_behind e))
