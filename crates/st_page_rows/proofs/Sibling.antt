-- A page that is like another in front, with some of its rows; and what is left of that one.
use Rattle.std.proofs.Common.{◌≡◌, ℕ, ◌+◌, ◌-◌, ◌*◌, ◌^◌, ◌<◌, ◌≤◌, List, ◌∷◌, ◌++◌, length, take, drop, replicate, refl, sym, ap, subst, ◌∙◌, arith}
use Rattle.std.proofs.Math.Nat.{add-mul}
use Rattle.std.proofs.lemmas.List.{drop-drop, drop-replicate, drop_at, length-append, length-drop, length-replicate, length-take-le}
use Rattle.std.specs.Int.{w16, w32, to_be_bytes, bytes_high_first}
use Rattle.st_image.specs.Bytes.{AreBlank, IsBytes, number, part}
use Rattle.st_image.specs.Fields.{blank, kind_of, count_of, store_of, next_of, body_of, pieces, rows_of, with_part, with_kind, with_count, with_store, with_next}
use Rattle.st_image.proofs.Numbers.{bytes-append, bytes-cons, bytes-drop, bytes-take, number-lt}
use Rattle.st_image.proofs.RowParts.{spelled, spelled-bytes}
use Rattle.st_image.proofs.Zeros.{bytes-zeros}
use Rattle.st_page_rows.specs.PageRows.{Laid, IsSibling}
use Rattle.st_page_rows.proofs.Pieces.{drop-pieces, same-front, take-pieces}
use Rattle.st_page_rows.proofs.Parts.{before-part, blank-append, blank-filled, from-part}
use Rattle.st_page_rows.proofs.Reworked.{Done, Reworked, reworked-count, reworked-done, reworked-part}
use Rattle.st_page_rows.proofs.Changed.{Counted, counted-from, part-place, some-rows}

-- sixteen zeros in front of others
abbrev fielded : List ℕ → List ℕ
fielded rest = 0 ∷ 0 ∷ 0 ∷ 0 ∷ 0 ∷ 0 ∷ 0 ∷ 0 ∷ 0 ∷ 0 ∷ 0 ∷ 0 ∷ 0 ∷ 0 ∷ 0 ∷ 0 ∷ rest

-- a page by its fields and what stands behind them
abbrev headed : ℕ → ℕ → ℕ → ℕ → List ℕ → List ℕ
headed kind count store next rest = kind ∷ 0 ∷ to_be_bytes w16 count ++ to_be_bytes w32 store ++ to_be_bytes w32 next ++ to_be_bytes w32 0 ++ rest

headed-is : (kind count store next n : ℕ) (piece page : List ℕ) → page ≡ fielded (replicate n 0)
    → with_part 16 piece (with_count count (with_next next (with_store store (with_kind kind page)))) ≡ headed kind count store next (piece ++ replicate (n - length piece) 0)
headed-is kind count store next n piece page e =
    ap (λ (p : List ℕ). with_part 16 piece (with_count count (with_next next (with_store store (with_kind kind p))))) e
    ∙ ap (λ (rest : List ℕ). headed kind count store next (piece ++ rest))
    (sym (drop-drop (length piece) 16 (with_count count (with_next next (with_store store (with_kind kind (fielded (replicate n 0))))))) ∙ drop-replicate (length piece) n 0)

blank-is : blank ≡ fielded (replicate 4080 0)
unfolding blank
blank-is = refl

-- a field of four bytes is below 2 ^ 32
field-small : (at : ℕ) (page : List ℕ) → length page ≡ 4096 → at + 4 ≤ 4096 → IsBytes page → number (part at 4 page) < 2 ^ 32
field-small at page size within sound =
    let wide : length (part at 4 page) ≡ 4 = length-take-le 4 (drop at page) (omega (arith, length-drop at page)) in
    let low : number (part at 4 page) < 256 ^ length (part at 4 page) = number-lt (part at 4 page) (bytes-take 4 (drop at page) (bytes-drop at page sound)) in
    let below : number (part at 4 page) < 256 ^ 4 = subst (λ (n : ℕ). number (part at 4 page) < 256 ^ n) wide low in
    omega arith

-- what is asked of the page with the rows that are taken out
pub record Apart (width : ℕ) (page other : List ℕ) (rows : List (List ℕ)) : Type 0 where
  pub laid : Laid width other
  pub head : IsSibling page other
  pub lists : rows_of width other ≡ rows

headed-done : (width count : ℕ) (page piece : List ℕ) (rows : List (List ℕ)) → 1 ≤ width → length page ≡ 4096 → IsBytes page → count * width ≤ 4080 → count < 65536 → length piece ≡ count * width → IsBytes piece
    → pieces count width (piece ++ replicate (4080 - length piece) 0) ≡ rows
    → Apart width page (headed (kind_of page) count (store_of page) (next_of page) (piece ++ replicate (4080 - length piece) 0)) rows
headed-done width count page piece rows some size sound room few wide bytes are =
    let kind : ℕ = kind_of page in
    let store : ℕ = store_of page in
    let next : ℕ = next_of page in
    let zeros : List ℕ = replicate (4080 - length piece) 0 in
    let body : List ℕ = piece ++ zeros in
    let body_wide : length body ≡ 4080 = omega (arith, length-append piece zeros, length-replicate {A = ℕ} (4080 - length piece) 0) in
    let other : List ℕ = headed kind count store next body in
    let counts : count_of other ≡ count = spelled 2 count few in
    let behind : List ℕ = bytes_high_first 4 0 ++ body in
    let from-next : List ℕ = bytes_high_first 4 next ++ behind in
    let from-store : List ℕ = bytes_high_first 4 store ++ from-next in
    let from-count : List ℕ = bytes_high_first 2 count ++ from-store in
    record {
      laid = record {
        some = some;
        size = omega (arith, body_wide);
        bytes = bytes-cons kind (0 ∷ from-count) (sound 0) (bytes-cons 0 from-count (omega arith)
            (bytes-append (bytes_high_first 2 count) from-store (spelled-bytes 2 count)
            (bytes-append (bytes_high_first 4 store) from-next (spelled-bytes 4 store)
            (bytes-append (bytes_high_first 4 next) behind (spelled-bytes 4 next)
            (bytes-append (bytes_high_first 4 0) body (spelled-bytes 4 0)
            (bytes-append piece zeros bytes (bytes-zeros (4080 - length piece))))))));
        room = subst (λ (n : ℕ). n * width ≤ 4080) (sym counts) room;
        behind = subst (λ (n : ℕ). AreBlank (drop (n * width) body)) (sym counts) (subst AreBlank (sym (drop_at piece zeros (count * width) wide)) (blank-filled (4080 - length piece)));
      };
      head = record {
        kind = refl;
        spare = refl;
        store = spelled 4 store (field-small 4 page size (omega arith) sound);
        next = spelled 4 next (field-small 8 page size (omega arith) sound);
        serial = spelled 4 0 (omega arith);
      };
      lists = ap (λ (n : ℕ). pieces n width body) counts ∙ are;
    }

-- the rows from an index on, in a page of their own
pub apart-done : (width index count : ℕ) (page piece other : List ℕ) → Laid width page → index ≤ count_of page → count ≡ count_of page → piece ≡ part (16 + index * width) ((count - index) * width) page
    → other ≡ with_part 16 piece (with_count (count - index) (with_next (next_of page) (with_store (store_of page) (with_kind (kind_of page) blank))))
    → Apart width page other (drop index (rows_of width page))
apart-done width index count page piece other laid within is piece_is writes =
    let old : Counted width count page = counted-from width count page laid is in
    let at : ℕ = index * width in
    let k : ℕ = count - index in
    let body : List ℕ = body_of page in
    let body_wide : length body ≡ 4080 = old.wide in
    let top : count * width ≤ 4080 = old.room in
    let few : count ≤ 4080 = old.few in
    let sum : count * width ≡ at + k * width = ap (λ (n : ℕ). n * width) {x = count} {y = index + k} (omega arith) ∙ add-mul index k width in
    let stood : piece ≡ take (k * width) (drop at body) = piece_is ∙ part-place at (k * width) page in
    let wide : length piece ≡ k * width = ap length stood ∙ length-take-le (k * width) (drop at body) (omega (arith, length-drop at body)) in
    let sound : IsBytes piece = subst IsBytes (sym piece_is) (bytes-take (k * width) (drop (16 + at) page) (bytes-drop (16 + at) page laid.bytes)) in
    let rest : List ℕ = replicate (4080 - length piece) 0 in
    let are : pieces k width (piece ++ rest) ≡ drop index (rows_of width page) =
    ap (λ (xs : List ℕ). pieces k width (xs ++ rest)) stood ∙ some-rows k width at body rest (omega arith)
    ∙ sym (drop-pieces index count width body (omega arith)) ∙ ap (drop index) old.lists in
    subst (λ (p : List ℕ). Apart width page p (drop index (rows_of width page)))
    (sym (writes ∙ headed-is (kind_of page) k (store_of page) (next_of page) 4080 piece blank blank-is))
    (headed-done width k page piece (drop index (rows_of width page)) old.some laid.size laid.bytes (omega arith) (omega arith) wide sound are)

-- the rows in front of an index are left
pub cut-done : (width index count : ℕ) (page cleared new : List ℕ) → Laid width page → index ≤ count_of page → count ≡ count_of page
    → cleared ≡ with_part (16 + index * width) (replicate ((count - index) * width) 0) page → new ≡ with_count index cleared
    → Done width page new (take index (rows_of width page))
cut-done width index count page cleared new laid within is clears counts =
    let old : Counted width count page = counted-from width count page laid is in
    let at : ℕ = index * width in
    let k : ℕ = count - index in
    let body : List ℕ = body_of page in
    let body_wide : length body ≡ 4080 = old.wide in
    let top : count * width ≤ 4080 = old.room in
    let few : count ≤ 4080 = old.few in
    let sum : count * width ≡ at + k * width = ap (λ (n : ℕ). n * width) {x = count} {y = index + k} (omega arith) ∙ add-mul index k width in
    let zeros : List ℕ = replicate (k * width) 0 in
    let zeros_wide : length zeros ≡ k * width = length-replicate (k * width) 0 in
    let last : List ℕ = with_part at zeros body in
    let one : Reworked page cleared count last =
    subst (λ (p : List ℕ). Reworked page p count last) (sym clears) (reworked-part page page count body (16 + at) at zeros old.starts refl (omega arith) (bytes-zeros (k * width))) in
    let two : Reworked page new index last = subst (λ (p : List ℕ). Reworked page p index last) (sym counts) (reworked-count page cleared count last index one (omega arith)) in
    let over : drop at last ≡ zeros ++ drop (count * width) body =
    from-part at zeros body (omega arith) ∙ ap (λ (n : ℕ). zeros ++ drop n body) {x = at + length zeros} {y = count * width} (omega arith) in
    reworked-done width page new index last (take index (rows_of width page)) two old.some (omega arith)
    (subst AreBlank (sym over) (blank-append zeros (drop (count * width) body) (blank-filled (k * width)) old.behind))
    (same-front index width last body (before-part at zeros body (omega arith)) ∙ sym (take-pieces index count width body (omega arith)) ∙ ap (take index) old.lists)

-- a blank page, field by field
pub written-apart : (kind store next n : ℕ) (page piece bare kinded stored linked counted other : List ℕ) → kind ≡ kind_of page → store ≡ store_of page → next ≡ next_of page
    → bare ≡ blank → kinded ≡ with_kind kind bare → stored ≡ with_store store kinded → linked ≡ with_next next stored → counted ≡ with_count n linked → other ≡ with_part 16 piece counted
    → other ≡ with_part 16 piece (with_count n (with_next (next_of page) (with_store (store_of page) (with_kind (kind_of page) blank))))
written-apart kind store next n page piece bare kinded stored linked counted other k s x a b c d e f =
    f ∙ ap (λ (p : List ℕ). with_part 16 piece p) (e ∙ ap (with_count n) (d ∙ ap (with_next next) (c ∙ ap (with_store store) (b ∙ ap (with_kind kind) a))))
    ∙ ap (λ (v : ℕ). with_part 16 piece (with_count n (with_next next (with_store store (with_kind v blank))))) k
    ∙ ap (λ (v : ℕ). with_part 16 piece (with_count n (with_next next (with_store v (with_kind (kind_of page) blank))))) s
    ∙ ap (λ (v : ℕ). with_part 16 piece (with_count n (with_next v (with_store (store_of page) (with_kind (kind_of page) blank))))) x
