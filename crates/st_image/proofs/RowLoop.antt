-- The loop over a page's rows.
use Rattle.std.proofs.Common.{◌≡◌, ℕ, suc, ◌+◌, ◌-◌, ◌*◌, ◌^◌, ◌<◌, ◌≤◌, Bool, true, false, cond, List, length, take, drop, refl, sym, ap, subst, inl, inr, arith}
use Rattle.std.proofs.Math.Nat.{add-mul, mul-le-mul_right}
use Rattle.std.proofs.lemmas.Bool.{cases_lt}
use Rattle.std.proofs.lemmas.List.{length-drop, length-take-le, take_rest}
use Rattle.st_image.specs.Bytes.{number}
use Rattle.st_image.specs.Parts.{Field, Row, Rows, ceiling}
use Rattle.st_image.specs.Prefixes.{IsFirstWrong}
use Rattle.st_image.proofs.RowParts.{next-fits, rows-any, rows-end, rows-end-wrong, rows-on, rows-wrong}
use Rattle.st_image.proofs.Wrong.{Carries, carries-all}

-- the rows of a page that has so many in all
abbrev pub AllRows : Bool → ℕ → ℕ → Bool → ℕ → List ℕ → List ℕ → Type 0
AllRows child key width first count body = Rows child key width (length body - count * width) first count 0

-- what is known as a row is read
pub record Progress (child : Bool) (key width : ℕ) (first : Bool) (count : ℕ) (body : List ℕ) (i : ℕ) (now : Bool) (low high : ℕ) : Type 0 where
  pub carries : Carries (AllRows child key width first count body) body (i * width) (Rows child key width (length body - count * width) now (count - i) low)
  pub room : i < count → low + (count - i) ≤ 256 ^ key
  pub top : i < count → high + (count - i) ≡ 256 ^ key
  pub zero : now ≡ true → low ≡ 0

pub progress-start : (child : Bool) (key width : ℕ) (first : Bool) (count : ℕ) (body : List ℕ) (low high : ℕ) → low ≡ 0 → count ≤ 256 ^ key → (0 < count → high + count ≡ 256 ^ key)
    → Progress child key width first count body 0 first low high
progress-start child key width first count body low high none room top =
    let none-done : 0 ≡ 0 * width = omega arith in
    let all : count ≡ count - 0 = omega arith in
    let start = carries-all (AllRows child key width first count body) body in
    let Left : ℕ → ℕ → List ℕ → Type 0 = λ n l. Rows child key width (length body - count * width) first n l in
    record {
      carries = subst (λ (at : ℕ). Carries (AllRows child key width first count body) body at (Left (count - 0) low)) none-done
          (subst (λ (n : ℕ). Carries (AllRows child key width first count body) body 0 (Left n low)) all
          (subst (λ (l : ℕ). Carries (AllRows child key width first count body) body 0 (Left count l)) (sym none) start));
      room = λ h. omega arith;
      top = λ h. omega (arith, top h);
      zero = λ e. none;
    }

pub last-fits : (i count width size : ℕ) → i < count → count * width ≤ size → i * width + width ≤ size
last-fits i count width size h k =
    let up : (i + 1) * width ≤ count * width = mul-le-mul_right width (omega arith) in
    omega (arith, up, k, add-mul i 1 width)

pub progress-wrong : (child : Bool) (key width : ℕ) (first : Bool) (count : ℕ) (body : List ℕ) (i : ℕ) (now : Bool) (low high place : ℕ)
    → Progress child key width first count body i now low high → i < count → key ≤ width → place < width
    → IsFirstWrong (Row child key width low (ceiling key now (count - (i + 1)))) (take width (drop (i * width) body)) place
    → IsFirstWrong (AllRows child key width first count body) body (i * width + place)
progress-wrong child key width first count body i now low high place known inside within low-place h =
    let left : count - i ≡ suc (count - (i + 1)) = omega arith in
    let room : low + suc (count - (i + 1)) ≤ 256 ^ key = omega (arith, known.room inside) in
    let wrong = rows-wrong child key width (length body - count * width) now (count - (i + 1)) low (drop (i * width) body) place within room low-place h in
    (known.carries).wrong place (subst (λ (n : ℕ). IsFirstWrong (Rows child key width (length body - count * width) now n low) (drop (i * width) body) place) (sym left) wrong)

pub progress-next : (child : Bool) (key width : ℕ) (first : Bool) (count : ℕ) (body : List ℕ) (i : ℕ) (now : Bool) (low high low-new high-new : ℕ)
    → Progress child key width first count body i now low high → i < count → key ≤ width → count * width ≤ length body
    → Row child key width low (ceiling key now (count - (i + 1))) (take width (drop (i * width) body))
    → (number (take key (take width (drop (i * width) body))) + 1 < 256 ^ key → low-new ≡ number (take key (take width (drop (i * width) body))) + 1)
    → (high + 1 < 256 ^ key → high-new ≡ high + 1)
    → Progress child key width first count body (i + 1) false low-new high-new
progress-next child key width first count body i now low high low-new high-new known inside within size row up-low up-high = record {
  carries = subst (λ (at : ℕ). Carries (AllRows child key width first count body) body at (Rows child key width (length body - count * width) false (count - (i + 1)) low-new)) moved carried;
  room = λ h. omega (arith, fits, is-low h);
  top = λ h. omega (arith, known.top inside, up-high (omega (arith, known.top inside)));
  zero = λ e. absurd (off e);
}
  where
    off : false ≡ true → ⊥
    off e = cc

    left : count - i ≡ suc (count - (i + 1))
    left = omega arith

    moved : i * width + width ≡ (i + 1) * width
    moved = omega (arith, add-mul i 1 width)

    fits : number (take key (take width (drop (i * width) body))) + 1 + (count - (i + 1)) ≤ 256 ^ key
    fits = next-fits key (count - (i + 1)) low (number (take key (take width (drop (i * width) body)))) now (omega (arith, known.room inside)) (row.front).most

    is-low : i + 1 < count → low-new ≡ number (take key (take width (drop (i * width) body))) + 1
    is-low h = up-low (omega (arith, fits))

    here : Carries (AllRows child key width first count body) body (i * width) (Rows child key width (length body - count * width) now (suc (count - (i + 1))) low)
    here = subst (λ (m : ℕ). Carries (AllRows child key width first count body) body (i * width) (Rows child key width (length body - count * width) now m low)) left known.carries

    on : Carries (AllRows child key width first count body) body (i * width + width) (Rows child key width (length body - count * width) false (count - (i + 1)) (number (take key (take width (drop (i * width) body))) + 1))
    on = rows-on child key width (length body - count * width) now (count - (i + 1)) low (AllRows child key width first count body) body (i * width) (last-fits i count width (length body) inside size) here row

    carried : Carries (AllRows child key width first count body) body (i * width + width) (Rows child key width (length body - count * width) false (count - (i + 1)) low-new)
    carried = elim (cases_lt (i + 1) count) [
      | inl more ↦ subst (λ (l : ℕ). Carries (AllRows child key width first count body) body (i * width + width) (Rows child key width (length body - count * width) false (count - (i + 1)) l)) (sym (is-low more)) on
      | inr last ↦
          let none : count - (i + 1) ≡ 0 = omega arith in
          let end = subst (λ (m : ℕ). Carries (AllRows child key width first count body) body (i * width + width) (Rows child key width (length body - count * width) false m (number (take key (take width (drop (i * width) body))) + 1))) none on in
          subst (λ (m : ℕ). Carries (AllRows child key width first count body) body (i * width + width) (Rows child key width (length body - count * width) false m low-new)) (sym none)
          (rows-any child key width (length body - count * width) false false (number (take key (take width (drop (i * width) body))) + 1) low-new (AllRows child key width first count body) body (i * width + width) end)
    ]

-- behind the last row
at-end : (child : Bool) (key width : ℕ) (first : Bool) (count : ℕ) (body : List ℕ) (i : ℕ) (now : Bool) (low high : ℕ)
    → Progress child key width first count body i now low high → i ≡ count → Carries (AllRows child key width first count body) body (count * width) (Rows child key width (length body - count * width) now 0 low)
at-end child key width first count body i now low high known e =
    let none : count - i ≡ 0 = omega arith in
    subst (λ (m : ℕ). Carries (AllRows child key width first count body) body (count * width) (Rows child key width (length body - count * width) now m low)) none
    (subst (λ (k : ℕ). Carries (AllRows child key width first count body) body (k * width) (Rows child key width (length body - count * width) now (count - i) low)) e known.carries)

pub progress-end : (child : Bool) (key width : ℕ) (first : Bool) (count : ℕ) (body : List ℕ) (i : ℕ) (now : Bool) (low high : ℕ)
    → Progress child key width first count body i now low high → i ≡ count → count * width ≤ length body
    → Field (length (take (length body - count * width) (drop (count * width) body))) 0 0 (take (length body - count * width) (drop (count * width) body))
    → AllRows child key width first count body body
progress-end child key width first count body i now low high known e size h =
    let rest : take (length body - count * width) (drop (count * width) body) ≡ drop (count * width) body = take_rest body (count * width) in
    let zeros : Field (length (drop (count * width) body)) 0 0 (drop (count * width) body) = subst (λ (xs : List ℕ). Field (length xs) 0 0 xs) rest h in
    let behind : Field (length body - count * width) 0 0 (drop (count * width) body) = subst (λ (w : ℕ). Field w 0 0 (drop (count * width) body)) (length-drop (count * width) body) zeros in
    (at-end child key width first count body i now low high known e).right (rows-end child key width (length body - count * width) now low (drop (count * width) body) behind)

pub progress-end-wrong : (child : Bool) (key width : ℕ) (first : Bool) (count : ℕ) (body : List ℕ) (i : ℕ) (now : Bool) (low high place : ℕ)
    → Progress child key width first count body i now low high → i ≡ count → count * width ≤ length body
    → (place < length (take (length body - count * width) (drop (count * width) body))) × IsFirstWrong (Field (length (take (length body - count * width) (drop (count * width) body))) 0 0) (take (length body - count * width) (drop (count * width) body)) place
    → (count * width + place < length body) × IsFirstWrong (AllRows child key width first count body) body (count * width + place)
progress-end-wrong child key width first count body i now low high place known e size h =
    let rest : take (length body - count * width) (drop (count * width) body) ≡ drop (count * width) body = take_rest body (count * width) in
    let wide : length (drop (count * width) body) ≡ length body - count * width = length-drop (count * width) body in
    let inside : place < length (drop (count * width) body) = subst (λ (xs : List ℕ). place < length xs) rest h.0 in
    let zeros : IsFirstWrong (Field (length (drop (count * width) body)) 0 0) (drop (count * width) body) place = subst (λ (xs : List ℕ). IsFirstWrong (Field (length xs) 0 0) xs place) rest h.1 in
    let behind : IsFirstWrong (Field (length body - count * width) 0 0) (drop (count * width) body) place = subst (λ (w : ℕ). IsFirstWrong (Field w 0 0) (drop (count * width) body) place) wide zeros in
    (omega (arith, inside, wide), (at-end child key width first count body i now low high known e).wrong place (rows-end-wrong child key width (length body - count * width) now low (drop (count * width) body) place behind))

-- ---- the row that the check is given

-- the bounds of its key
pub bound-is : (key left low high : ℕ) (now : Bool) → high + suc left ≡ 256 ^ key → (now ≡ true → low ≡ 0) → cond now low high ≡ ceiling key now left
bound-is key left low high true h k = k refl
bound-is key left low high false h k = omega arith

abbrev pub window : ℕ → ℕ → List ℕ → List ℕ
window at width body = take (at + width - at) (drop at body)

window-is : (at width : ℕ) (body : List ℕ) → window at width body ≡ take width (drop at body)
window-is at width body = let e : at + width - at ≡ width = omega arith in ap (λ (n : ℕ). take n (drop at body)) e

window-wide : (at width : ℕ) (body : List ℕ) → at + width ≤ length body → length (take width (drop at body)) ≡ width
window-wide at width body h = length-take-le width (drop at body) (omega (arith, length-drop at body))

pub row-holds : (child : Bool) (key width low bound limit at : ℕ) (body : List ℕ) (wide : ℕ) → wide ≡ key → bound ≡ limit → at + width ≤ length body
    → Row child wide (length (window at width body)) low bound (window at width body) → Row child key width low limit (take width (drop at body))
row-holds child key width low bound limit at body wide e f within h =
    let same = window-is at width body in
    let size = window-wide at width body within in
    let a : Row child wide (length (take width (drop at body))) low bound (take width (drop at body)) = subst (λ (xs : List ℕ). Row child wide (length xs) low bound xs) same h in
    let b : Row child wide width low bound (take width (drop at body)) = subst (λ (w : ℕ). Row child wide w low bound (take width (drop at body))) size a in
    let d : Row child key width low bound (take width (drop at body)) = subst (λ (k : ℕ). Row child k width low bound (take width (drop at body))) e b in
    subst (λ (l : ℕ). Row child key width low l (take width (drop at body))) f d

pub row-fails : (child : Bool) (key width low bound limit at : ℕ) (body : List ℕ) (wide place : ℕ) → wide ≡ key → bound ≡ limit → at + width ≤ length body
    → (place < length (window at width body)) × IsFirstWrong (Row child wide (length (window at width body)) low bound) (window at width body) place
    → (place < width) × IsFirstWrong (Row child key width low limit) (take width (drop at body)) place
row-fails child key width low bound limit at body wide place e f within h =
    let same = window-is at width body in
    let size = window-wide at width body within in
    let n : place < length (take width (drop at body)) = subst (λ (xs : List ℕ). place < length xs) same h.0 in
    let a : IsFirstWrong (Row child wide (length (take width (drop at body))) low bound) (take width (drop at body)) place = subst (λ (xs : List ℕ). IsFirstWrong (Row child wide (length xs) low bound) xs place) same h.1 in
    let b : IsFirstWrong (Row child wide width low bound) (take width (drop at body)) place = subst (λ (w : ℕ). IsFirstWrong (Row child wide w low bound) (take width (drop at body)) place) size a in
    let d : IsFirstWrong (Row child key width low bound) (take width (drop at body)) place = subst (λ (k : ℕ). IsFirstWrong (Row child k width low bound) (take width (drop at body)) place) e b in
    (omega (arith, n, size), subst (λ (l : ℕ). IsFirstWrong (Row child key width low l) (take width (drop at body)) place) f d)

pub next-low : (key width at wide low-new : ℕ) (body : List ℕ) → wide ≡ key
    → (number (take wide (window at width body)) + 1 < 256 ^ wide → low-new ≡ number (take wide (window at width body)) + 1)
    → number (take key (take width (drop at body))) + 1 < 256 ^ key → low-new ≡ number (take key (take width (drop at body))) + 1
next-low key width at wide low-new body e h =
    subst (λ (xs : List ℕ). number (take key xs) + 1 < 256 ^ key → low-new ≡ number (take key xs) + 1) (window-is at width body)
    (subst (λ (k : ℕ). number (take k (window at width body)) + 1 < 256 ^ k → low-new ≡ number (take k (window at width body)) + 1) e h)

pub next-high : (key wide high high-new : ℕ) → wide ≡ key → (high + 1 < 256 ^ wide → high-new ≡ high + 1) → high + 1 < 256 ^ key → high-new ≡ high + 1
next-high key wide high high-new e h = subst (λ (k : ℕ). high + 1 < 256 ^ k → high-new ≡ high + 1) e h
