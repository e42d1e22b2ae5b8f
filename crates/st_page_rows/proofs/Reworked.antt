-- A page that was changed, in its rows and in how many it counts.
use Rattle.std.proofs.Common.{◌≡◌, ℕ, ◌+◌, ◌*◌, ◌<◌, ◌≤◌, List, length, drop, refl, sym, ap, subst, ◌∙◌, inl, inr, arith}
use Rattle.std.specs.Int.{w16, to_be_bytes}
use Rattle.st_image.specs.Bytes.{AreBlank, IsBytes, number}
use Rattle.st_image.specs.Fields.{count_of, body_of, pieces, rows_of, with_part, with_count}
use Rattle.st_image.proofs.RowParts.{spelled-bytes}
use Rattle.st_image.proofs.Written.{behind-stays, elsewhere-stays, read-back, two-bytes, whole-length}
use Rattle.st_page_rows.specs.PageRows.{Laid, SameHead}
use Rattle.st_page_rows.proofs.Parts.{byte-before, bytes-part, part-behind}

-- the other page is the page with another count and another body
pub record Reworked (page other : List ℕ) (count : ℕ) (body : List ℕ) : Type 0 where
  pub size : length other ≡ 4096
  pub bytes : IsBytes other
  pub head : SameHead page other
  pub counts : count_of other ≡ count
  pub has : body_of other ≡ body

-- what is asked of a changed page, whose rows are known
pub record Done (width : ℕ) (page other : List ℕ) (rows : List (List ℕ)) : Type 0 where
  pub laid : Laid width other
  pub head : SameHead page other
  pub lists : rows_of width other ≡ rows

pub reworked-none : (page : List ℕ) → length page ≡ 4096 → IsBytes page → Reworked page page (count_of page) (body_of page)
reworked-none page size bytes = record {
  size = size;
  bytes = bytes;
  head = record { kind = refl; spare = refl; store = refl; next = refl; serial = refl };
  counts = refl;
  has = refl;
}

pub reworked-part : (page other : List ℕ) (count : ℕ) (body : List ℕ) (place at : ℕ) (bytes : List ℕ) → Reworked page other count body → place ≡ 16 + at → at + length bytes ≤ 4080 → IsBytes bytes
    → Reworked page (with_part place bytes other) count (with_part at bytes body)
reworked-part page other count body place at bytes old is within sound =
    let size : length other ≡ 4096 = old.size in
    let head : SameHead page other = old.head in
    let room : place + length bytes ≤ length other = omega arith in
    let place_body : body_of (with_part place bytes other) ≡ body_of (with_part (16 + at) bytes other) = ap (λ (n : ℕ). body_of (with_part n bytes other)) is in
    record {
      size = whole-length place bytes other room ∙ size;
      bytes = bytes-part place bytes other sound old.bytes;
      head = record {
        kind = byte-before place 0 bytes other room (omega arith) ∙ head.kind;
        spare = byte-before place 1 bytes other room (omega arith) ∙ head.spare;
        store = ap number (elsewhere-stays place 4 4 bytes other room (inl (omega arith))) ∙ head.store;
        next = ap number (elsewhere-stays place 8 4 bytes other room (inl (omega arith))) ∙ head.next;
        serial = ap number (elsewhere-stays place 12 4 bytes other room (inl (omega arith))) ∙ head.serial;
      };
      counts = ap number (elsewhere-stays place 2 2 bytes other room (inl (omega arith))) ∙ old.counts;
      has = place_body ∙ part-behind 16 at bytes other (omega arith) ∙ ap (with_part at bytes) old.has;
    }

pub reworked-count : (page other : List ℕ) (count : ℕ) (body : List ℕ) (n : ℕ) → Reworked page other count body → n < 65536 → Reworked page (with_count n other) n body
reworked-count page other count body n old small =
    let bytes : List ℕ = to_be_bytes w16 n in
    let size : length other ≡ 4096 = old.size in
    let head : SameHead page other = old.head in
    let room : 2 + length bytes ≤ length other = omega arith in
    record {
      size = whole-length 2 bytes other room ∙ size;
      bytes = bytes-part 2 bytes other (spelled-bytes 2 n) old.bytes;
      head = record {
        kind = byte-before 2 0 bytes other room (omega arith) ∙ head.kind;
        spare = byte-before 2 1 bytes other room (omega arith) ∙ head.spare;
        store = ap number (elsewhere-stays 2 4 4 bytes other room (inr (omega arith))) ∙ head.store;
        next = ap number (elsewhere-stays 2 8 4 bytes other room (inr (omega arith))) ∙ head.next;
        serial = ap number (elsewhere-stays 2 12 4 bytes other room (inr (omega arith))) ∙ head.serial;
      };
      counts = ap number (read-back 2 bytes other room) ∙ two-bytes n (omega arith);
      has = behind-stays 2 16 bytes other room (omega arith) ∙ old.has;
    }

pub reworked-done : (width : ℕ) (page other : List ℕ) (count : ℕ) (body : List ℕ) (rows : List (List ℕ)) → Reworked page other count body → 1 ≤ width → count * width ≤ 4080 → AreBlank (drop (count * width) body)
    → pieces count width body ≡ rows → Done width page other rows
reworked-done width page other count body rows new some room behind are =
    let count_is : count_of other ≡ count = new.counts in
    record {
      laid = record {
        some = some;
        size = new.size;
        bytes = new.bytes;
        room = subst (λ (n : ℕ). n * width ≤ 4080) (sym count_is) room;
        behind = subst (λ (n : ℕ). AreBlank (drop (n * width) (body_of other))) (sym count_is) (subst (λ (xs : List ℕ). AreBlank (drop (count * width) xs)) (sym new.has) behind);
      };
      head = new.head;
      lists = ap (λ (n : ℕ). pieces n width (body_of other)) count_is ∙ ap (pieces count width) new.has ∙ are;
    }
