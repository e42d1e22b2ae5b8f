-- A page with a row put in, replaced or taken out.
use Rattle.std.proofs.Common.{◌≡◌, ℕ, suc, ◌+◌, ◌-◌, ◌*◌, ◌<◌, ◌≤◌, List, ◌∷◌, ◌++◌, length, take, drop, replicate, Some, refl, sym, ap, subst, ◌∙◌, arith}
use Rattle.std.proofs.Math.Nat.{add-mul, le-mul_of_pos_right}
use Rattle.std.proofs.lemmas.List.{append_assoc, drop-drop, drop_at, length-append, length-drop, length-replicate, length-take-le}
use Rattle.std.specs.Prelude.{slice_get}
use Rattle.st_image.specs.Bytes.{AreBlank, IsBytes, part}
use Rattle.st_image.specs.Fields.{count_of, body_of, pieces, rows_of, with_part, with_count}
use Rattle.st_image.proofs.Numbers.{bytes-drop, bytes-take}
use Rattle.st_image.proofs.Written.{before-stays, behind-stays, whole-length}
use Rattle.st_image.proofs.Zeros.{bytes-zeros}
use Rattle.st_page_rows.specs.PageRows.{Laid}
use Rattle.st_page_rows.proofs.Pieces.{drop-pieces, piece-at, pieces-append, pieces-cons, pieces-from, pieces-front, same-front}
use Rattle.st_page_rows.proofs.Parts.{before-part, blank-append, blank-filled, blank-rest, from-part, part-same}
use Rattle.st_page_rows.proofs.Reworked.{Done, Reworked, reworked-count, reworked-done, reworked-none, reworked-part}

-- a page of rows, and how many it has
pub record Counted (width count : ℕ) (page : List ℕ) : Type 0 where
  pub some : 1 ≤ width
  pub few : count ≤ 4080
  pub room : count * width ≤ 4080
  pub wide : length (body_of page) ≡ 4080
  pub behind : AreBlank (drop (count * width) (body_of page))
  pub starts : Reworked page page count (body_of page)
  pub lists : pieces count width (body_of page) ≡ rows_of width page

pub few-rows : (count width most : ℕ) → 1 ≤ width → count * width ≤ most → count ≤ most
few-rows count width most h k = let up : count ≤ count * width = le-mul_of_pos_right count (omega arith) in omega arith

pub counted-from : (width count : ℕ) (page : List ℕ) → Laid width page → count ≡ count_of page → Counted width count page
counted-from width count page laid is =
    let size : length page ≡ 4096 = laid.size in
    let room : count * width ≤ 4080 = subst (λ (n : ℕ). n * width ≤ 4080) (sym is) laid.room in
    record {
      some = laid.some;
      few = few-rows count width 4080 laid.some room;
      room = room;
      wide = length-drop 16 page ∙ omega arith;
      behind = subst (λ (n : ℕ). AreBlank (drop (n * width) (body_of page))) (sym is) laid.behind;
      starts = subst (λ (n : ℕ). Reworked page page n (body_of page)) (sym is) (reworked-none page size laid.bytes);
      lists = ap (λ (n : ℕ). pieces n width (body_of page)) is;
    }

-- so many bytes from a place of the body on
pub part-place : (at n : ℕ) (page : List ℕ) → part (16 + at) n page ≡ take n (drop at (body_of page))
part-place at n page = ap (take n) (sym (drop-drop at 16 page))

-- so many bytes of a page, up to a place
pub piece-is : (at size : ℕ) (page bytes : List ℕ) → bytes ≡ page → take (at + size - at) (drop at bytes) ≡ part at size page
piece-is at size page bytes e =
    let n : at + size - at ≡ size = omega arith in
    ap (λ (m : ℕ). take m (drop at bytes)) n ∙ ap (part at size) e

-- so many rows from a place of the body on
pub some-rows : (k width at : ℕ) (body rest : List ℕ) → at + k * width ≤ length body → pieces k width (take (k * width) (drop at body) ++ rest) ≡ pieces k width (drop at body)
some-rows k width at body rest h =
    let front : List ℕ = take (k * width) (drop at body) in
    let wide : length front ≡ k * width = length-take-le (k * width) (drop at body) (omega (arith, length-drop at body)) in
    pieces-append k width front rest wide ∙ pieces-front k width (k * width) (drop at body) (omega arith)

pub insert-done : (width index count : ℕ) (page row shifted written new : List ℕ) → Laid width page → index ≤ count_of page → length row ≡ width → (count_of page + 1) * width ≤ 4080 → IsBytes row → count ≡ count_of page
    → shifted ≡ with_part (16 + index * width + width) (part (16 + index * width) ((count - index) * width) page) page
    → written ≡ with_part (16 + index * width) row shifted → new ≡ with_count (count + 1) written
    → Done width page new (take index (rows_of width page) ++ row ∷ drop index (rows_of width page))
insert-done width index count page row shifted written new laid within wide room sound is shifts writes counts =
    let old : Counted width count page = counted-from width count page laid is in
    let at : ℕ = index * width in
    let k : ℕ = count - index in
    let body : List ℕ = body_of page in
    let body_wide : length body ≡ 4080 = old.wide in
    let rows : List (List ℕ) = pieces count width body in
    let inside : index ≤ count = omega arith in
    let sum : count * width ≡ at + k * width = ap (λ (n : ℕ). n * width) {x = count} {y = index + k} (omega arith) ∙ add-mul index k width in
    let more : (count + 1) * width ≡ count * width + width = omega (arith, add-mul count 1 width) in
    let top : (count + 1) * width ≤ 4080 = subst (λ (n : ℕ). (n + 1) * width ≤ 4080) (sym is) room in
    let low : count + 1 < 65536 = omega (arith, few-rows (count + 1) width 4080 old.some top) in
    let moved : List ℕ = part (16 + at) (k * width) page in
    let moved_is : moved ≡ take (k * width) (drop at body) = part-place at (k * width) page in
    let moved_wide : length moved ≡ k * width = ap length moved_is ∙ length-take-le (k * width) (drop at body) (omega (arith, length-drop at body)) in
    let first : List ℕ = with_part (at + width) moved body in
    let first_wide : length first ≡ 4080 = whole-length (at + width) moved body (omega arith) ∙ body_wide in
    let last : List ℕ = with_part at row first in
    let rest : List ℕ = drop (at + width + length moved) body in
    let one : Reworked page shifted count first =
    subst (λ (p : List ℕ). Reworked page p count first) (sym shifts)
    (reworked-part page page count body (16 + at + width) (at + width) moved old.starts (omega arith) (omega arith) (bytes-take (k * width) (drop (16 + at) page) (bytes-drop (16 + at) page laid.bytes))) in
    let two : Reworked page written count last =
    subst (λ (p : List ℕ). Reworked page p count last) (sym writes) (reworked-part page shifted count first (16 + at) at row one refl (omega arith) sound) in
    let three : Reworked page new (count + 1) last =
    subst (λ (p : List ℕ). Reworked page p (count + 1) last) (sym counts) (reworked-count page written count last (count + 1) two low) in
    let front : take at last ≡ take at body =
    before-part at row first (omega arith) ∙ before-stays (at + width) at moved body (omega arith) (omega arith) in
    let tail : drop at last ≡ row ++ (moved ++ rest) =
    from-part at row first (omega arith) ∙ ap (λ (n : ℕ). row ++ drop (at + n) first) wide
    ∙ ap (λ (xs : List ℕ). row ++ xs) (from-part (at + width) moved body (omega arith)) in
    let both : length (row ++ moved) ≡ width + k * width = omega (arith, length-append row moved) in
    let total : (count + 1) * width ≡ at + (width + k * width) = omega arith in
    let over : drop ((count + 1) * width) last ≡ rest =
    ap (λ (n : ℕ). drop n last) total ∙ sym (drop-drop (width + k * width) at last) ∙ ap (drop (width + k * width)) (tail ∙ sym (append_assoc row moved rest))
    ∙ drop_at (row ++ moved) rest (width + k * width) both in
    let rest_is : drop width (drop (count * width) body) ≡ rest = drop-drop width (count * width) body ∙ ap (λ (n : ℕ). drop n body) (omega arith) in
    let behind : AreBlank (drop ((count + 1) * width) last) =
    subst AreBlank (rest_is ∙ sym over) (blank-rest width (drop (count * width) body) old.behind) in
    let left : count + 1 - index ≡ suc k = omega arith in
    let are : pieces (count + 1) width last ≡ take index rows ++ row ∷ drop index rows =
    pieces-from index count (count + 1) width body last inside (omega arith) front
    ∙ ap (λ (n : ℕ). take index rows ++ pieces n width (drop at last)) left
    ∙ ap (λ (xs : List ℕ). take index rows ++ pieces (suc k) width xs) tail
    ∙ ap (λ (xs : List (List ℕ)). take index rows ++ xs) (pieces-cons k width row (moved ++ rest) wide)
    ∙ ap (λ (xs : List ℕ). take index rows ++ row ∷ pieces k width (xs ++ rest)) moved_is
    ∙ ap (λ (xs : List (List ℕ)). take index rows ++ row ∷ xs) (some-rows k width at body rest (omega arith) ∙ sym (drop-pieces index count width body inside)) in
    reworked-done width page new (count + 1) last (take index (rows_of width page) ++ row ∷ drop index (rows_of width page)) three old.some top behind
    (are ∙ ap (λ (xs : List (List ℕ)). take index xs ++ row ∷ drop index xs) old.lists)

-- the row at an index
pub row-is : (width index : ℕ) (page : List ℕ) → Laid width page → index < count_of page → slice_get (rows_of width page) index ≡ Some (part (16 + index * width) width page)
row-is width index page laid within =
    piece-at index (count_of page) width (body_of page) within ∙ ap (λ (row : List ℕ). Some row) (sym (part-place (index * width) width page))

pub replace-done : (width index : ℕ) (page row new : List ℕ) → Laid width page → index < count_of page → length row ≡ width → IsBytes row
    → new ≡ with_part (16 + index * width) row page → Done width page new (take index (rows_of width page) ++ row ∷ drop (index + 1) (rows_of width page))
replace-done width index page row new laid within wide sound writes =
    let count : ℕ = count_of page in
    let old : Counted width count page = counted-from width count page laid refl in
    let at : ℕ = index * width in
    let k : ℕ = count - (index + 1) in
    let body : List ℕ = body_of page in
    let body_wide : length body ≡ 4080 = old.wide in
    let top : count * width ≤ 4080 = old.room in
    let rows : List (List ℕ) = pieces count width body in
    let next : (index + 1) * width ≡ at + width = omega (arith, add-mul index 1 width) in
    let sum : count * width ≡ at + width + k * width =
    ap (λ (n : ℕ). n * width) {x = count} {y = index + 1 + k} (omega arith) ∙ omega (arith, add-mul (index + 1) k width) in
    let last : List ℕ = with_part at row body in
    let rest : List ℕ = drop (at + width) body in
    let one : Reworked page new count last =
    subst (λ (p : List ℕ). Reworked page p count last) (sym writes) (reworked-part page page count body (16 + at) at row old.starts refl (omega arith) sound) in
    let front : take at last ≡ take at body = before-part at row body (omega arith) in
    let tail : drop at last ≡ row ++ rest = from-part at row body (omega arith) ∙ ap (λ (n : ℕ). row ++ drop (at + n) body) wide in
    let over : drop (count * width) last ≡ drop (count * width) body = behind-stays at (count * width) row body (omega arith) (omega arith) in
    let left : count - index ≡ suc k = omega arith in
    let are : pieces count width last ≡ take index rows ++ row ∷ drop (index + 1) rows =
    pieces-from index count count width body last (omega arith) (omega arith) front
    ∙ ap (λ (n : ℕ). take index rows ++ pieces n width (drop at last)) left
    ∙ ap (λ (xs : List ℕ). take index rows ++ pieces (suc k) width xs) tail
    ∙ ap (λ (xs : List (List ℕ)). take index rows ++ xs) (pieces-cons k width row rest wide)
    ∙ ap (λ (n : ℕ). take index rows ++ row ∷ pieces k width (drop n body)) (sym next)
    ∙ ap (λ (xs : List (List ℕ)). take index rows ++ row ∷ xs) (sym (drop-pieces (index + 1) count width body (omega arith))) in
    reworked-done width page new count last (take index rows ++ row ∷ drop (index + 1) rows) one old.some top (subst AreBlank (sym over) old.behind) are

-- the row that is there already
pub replace-same : (width index : ℕ) (page row new : List ℕ) → Laid width page → index < count_of page → new ≡ with_part (16 + index * width) row page
    → slice_get (rows_of width page) index ≡ Some row → new ≡ page
replace-same width index page row new laid within writes there =
    let old : Counted width (count_of page) page = counted-from width (count_of page) page laid refl in
    let place : ℕ = 16 + index * width in
    let size : length page ≡ 4096 = laid.size in
    let top : count_of page * width ≤ 4080 = old.room in
    let k : ℕ = count_of page - (index + 1) in
    let sum : count_of page * width ≡ index * width + width + k * width =
    ap (λ (n : ℕ). n * width) {x = count_of page} {y = index + 1 + k} (omega arith) ∙ omega (arith, add-mul (index + 1) k width, add-mul index 1 width) in
    let same : row ≡ part place width page = inner (sym there ∙ row-is width index page laid within) in
    let wide : length (part place width page) ≡ width = length-take-le width (drop place page) (omega (arith, length-drop place page)) in
    writes ∙ ap (λ (xs : List ℕ). with_part place xs page) same ∙ part-same place width page wide
  where
    inner : {a b : List ℕ} → Some a ≡ Some b → a ≡ b
    inner e = cc

pub remove-done : (width index count : ℕ) (page shifted cleared new : List ℕ) → Laid width page → index < count_of page → count ≡ count_of page
    → shifted ≡ with_part (16 + index * width) (part (16 + index * width + width) ((count - index - 1) * width) page) page
    → cleared ≡ with_part (16 + index * width + (count - index - 1) * width) (replicate width 0) shifted → new ≡ with_count (count - 1) cleared
    → Done width page new (take index (rows_of width page) ++ drop (index + 1) (rows_of width page))
remove-done width index count page shifted cleared new laid within is shifts clears counts =
    let old : Counted width count page = counted-from width count page laid is in
    let at : ℕ = index * width in
    let k : ℕ = count - index - 1 in
    let body : List ℕ = body_of page in
    let body_wide : length body ≡ 4080 = old.wide in
    let top : count * width ≤ 4080 = old.room in
    let few : count ≤ 4080 = old.few in
    let rows : List (List ℕ) = pieces count width body in
    let next : (index + 1) * width ≡ at + width = omega (arith, add-mul index 1 width) in
    let sum : count * width ≡ at + width + k * width =
    ap (λ (n : ℕ). n * width) {x = count} {y = index + 1 + k} (omega arith) ∙ omega (arith, add-mul (index + 1) k width) in
    let less : (count - 1) * width ≡ at + k * width =
    ap (λ (n : ℕ). n * width) {x = count - 1} {y = index + k} (omega arith) ∙ add-mul index k width in
    let from : 16 + at + width ≡ 16 + (at + width) = omega arith in
    let moved : List ℕ = part (16 + at + width) (k * width) page in
    let moved_is : moved ≡ take (k * width) (drop (at + width) body) =
    ap (λ (n : ℕ). part n (k * width) page) from ∙ part-place (at + width) (k * width) page in
    let moved_wide : length moved ≡ k * width = ap length moved_is ∙ length-take-le (k * width) (drop (at + width) body) (omega (arith, length-drop (at + width) body)) in
    let zeros : List ℕ = replicate width 0 in
    let zeros_wide : length zeros ≡ width = length-replicate width 0 in
    let first : List ℕ = with_part at moved body in
    let first_wide : length first ≡ 4080 = whole-length at moved body (omega arith) ∙ body_wide in
    let last : List ℕ = with_part (at + k * width) zeros first in
    let rest : List ℕ = drop (at + length moved) body in
    let one : Reworked page shifted count first =
    subst (λ (p : List ℕ). Reworked page p count first) (sym shifts)
    (reworked-part page page count body (16 + at) at moved old.starts refl (omega arith) (bytes-take (k * width) (drop (16 + at + width) page) (bytes-drop (16 + at + width) page laid.bytes))) in
    let two : Reworked page cleared count last =
    subst (λ (p : List ℕ). Reworked page p count last) (sym clears) (reworked-part page shifted count first (16 + at + k * width) (at + k * width) zeros one (omega arith) (omega arith) (bytes-zeros width)) in
    let three : Reworked page new (count - 1) last =
    subst (λ (p : List ℕ). Reworked page p (count - 1) last) (sym counts) (reworked-count page cleared count last (count - 1) two (omega arith)) in
    let front : take at first ≡ take at body = before-part at moved body (omega arith) in
    let tail : drop at first ≡ moved ++ rest = from-part at moved body (omega arith) in
    let kept : take ((count - 1) * width) last ≡ take ((count - 1) * width) first =
    before-stays (at + k * width) ((count - 1) * width) zeros first (omega arith) (omega arith) in
    let over : drop ((count - 1) * width) last ≡ zeros ++ drop (count * width) body =
    ap (λ (n : ℕ). drop n last) less ∙ from-part (at + k * width) zeros first (omega arith)
    ∙ ap (λ (n : ℕ). zeros ++ drop n first) {x = at + k * width + length zeros} {y = count * width} (omega arith)
    ∙ ap (λ (xs : List ℕ). zeros ++ xs) (behind-stays at (count * width) moved body (omega arith) (omega arith)) in
    let left : count - 1 - index ≡ k = omega arith in
    let other : k ≡ count - (index + 1) = omega arith in
    let are : pieces (count - 1) width last ≡ take index rows ++ drop (index + 1) rows =
    same-front (count - 1) width last first kept
    ∙ pieces-from index count (count - 1) width body first (omega arith) (omega arith) front
    ∙ ap (λ (n : ℕ). take index rows ++ pieces n width (drop at first)) left
    ∙ ap (λ (xs : List ℕ). take index rows ++ pieces k width xs) (tail ∙ ap (λ (xs : List ℕ). xs ++ rest) moved_is)
    ∙ ap (λ (xs : List (List ℕ)). take index rows ++ xs) (some-rows k width (at + width) body rest (omega arith))
    ∙ ap (λ (n : ℕ). take index rows ++ pieces k width (drop n body)) (sym next)
    ∙ ap (λ (n : ℕ). take index rows ++ pieces n width (drop ((index + 1) * width) body)) other
    ∙ ap (λ (xs : List (List ℕ)). take index rows ++ xs) (sym (drop-pieces (index + 1) count width body (omega arith))) in
    reworked-done width page new (count - 1) last (take index (rows_of width page) ++ drop (index + 1) (rows_of width page)) three old.some (omega arith)
    (subst AreBlank (sym over) (blank-append zeros (drop (count * width) body) (blank-filled width) old.behind))
    (are ∙ ap (λ (xs : List (List ℕ)). take index xs ++ drop (index + 1) xs) old.lists)
