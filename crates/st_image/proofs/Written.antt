-- Bytes that are written into a page.
use Rattle.std.proofs.Common.{◌≡◌, ℕ, ◌+◌, ◌-◌, ◌^◌, ◌<◌, ◌≤◌, ◌⊎◌, List, ◌++◌, length, take, drop, get_or, refl, sym, ap, subst, ◌∙◌, inl, inr, arith}
use Rattle.std.proofs.lemmas.List.{append_assoc, drop-drop, drop-take, drop_at, get_or-take, length-append, length-drop, length-take-le, take-append-drop, take-append-le, take-take, take_at}
use Rattle.std.proofs.lemmas.Bool.{lt-ltb}
use Rattle.std.specs.Int.{w16, w32, to_be_bytes}
use Rattle.st_image.specs.Bytes.{IsBytes, number, part}
use Rattle.st_image.specs.Fields.{body_of, count_of, last_serial_of, next_of, pieces, rows_of, with_last_serial, with_part}
use Rattle.st_image.specs.Grammar.{AreRows, HasHeader, IsRowPage, rows_header, serial_limit}
use Rattle.st_image.specs.Prefixes.{IsFirstWrong}
use Rattle.st_image.proofs.Numbers.{bytes-append, bytes-drop, bytes-take}
use Rattle.st_image.proofs.RowParts.{spelled, spelled-bytes}

pub wrong-not : (Is : List ℕ → Type 0) (page : List ℕ) (place : ℕ) → IsFirstWrong Is page place → Is page → ⊥
wrong-not Is page place h k = h.ends (drop (place + 1) page, subst Is (sym (take-append-drop (place + 1) page)) k)

front-wide : (at : ℕ) (bytes page : List ℕ) → at + length bytes ≤ length page → length (take at page ++ bytes) ≡ at + length bytes
front-wide at bytes page h =
    let sum : length (take at page ++ bytes) ≡ length (take at page) + length bytes = length-append (take at page) bytes in
    let wide : length (take at page) ≡ at = length-take-le at page (omega arith) in
    omega (arith, sum, wide)

pub read-back : (at : ℕ) (bytes page : List ℕ) → at + length bytes ≤ length page → part at (length bytes) (with_part at bytes page) ≡ bytes
read-back at bytes page h =
    let wide : length (take at page) ≡ at = length-take-le at page (omega arith) in
    ap (λ (xs : List ℕ). take (length bytes) (drop at xs)) (append_assoc (take at page) bytes (drop (at + length bytes) page))
    ∙ ap (take (length bytes)) (drop_at (take at page) (bytes ++ drop (at + length bytes) page) at wide)
    ∙ take_at bytes (drop (at + length bytes) page) (length bytes) refl

pub whole-length : (at : ℕ) (bytes page : List ℕ) → at + length bytes ≤ length page → length (with_part at bytes page) ≡ length page
whole-length at bytes page h =
    let sum : length (with_part at bytes page) ≡ length (take at page ++ bytes) + length (drop (at + length bytes) page) = length-append (take at page ++ bytes) (drop (at + length bytes) page) in
    let rest : length (drop (at + length bytes) page) ≡ length page - (at + length bytes) = length-drop (at + length bytes) page in
    omega (arith, sum, rest, front-wide at bytes page h)

-- what is in front stays
pub before-stays : (at n : ℕ) (bytes page : List ℕ) → at + length bytes ≤ length page → n ≤ at → take n (with_part at bytes page) ≡ take n page
before-stays at n bytes page h k =
    let wide : length (take at page) ≡ at = length-take-le at page (omega arith) in
    ap (take n) (append_assoc (take at page) bytes (drop (at + length bytes) page))
    ∙ take-append-le n (take at page) (bytes ++ drop (at + length bytes) page) (omega arith)
    ∙ take-take n at page k

-- what is behind stays
pub behind-stays : (at n : ℕ) (bytes page : List ℕ) → at + length bytes ≤ length page → at + length bytes ≤ n → drop n (with_part at bytes page) ≡ drop n page
behind-stays at n bytes page h k =
    let end : ℕ = at + length bytes in
    let e : end + (n - end) ≡ n = omega arith in
    ap (λ (m : ℕ). drop m (with_part at bytes page)) (sym e)
    ∙ sym (drop-drop (n - end) end (with_part at bytes page))
    ∙ ap (drop (n - end)) (drop_at (take at page ++ bytes) (drop end page) end (front-wide at bytes page h))
    ∙ drop-drop (n - end) end page
    ∙ ap (λ (m : ℕ). drop m page) e

pub elsewhere-stays : (at place size : ℕ) (bytes page : List ℕ) → at + length bytes ≤ length page → (place + size ≤ at) ⊎ (at + length bytes ≤ place)
    → part place size (with_part at bytes page) ≡ part place size page
elsewhere-stays at place size bytes page h (inl front) =
    sym (drop-take place size (with_part at bytes page)) ∙ ap (drop place) (before-stays at (place + size) bytes page h front) ∙ drop-take place size page
elsewhere-stays at place size bytes page h (inr behind) = ap (take size) (behind-stays at place bytes page h behind)

byte-stays : (at i : ℕ) (bytes page : List ℕ) → at + length bytes ≤ length page → i < at → get_or (with_part at bytes page) i 0 ≡ get_or page i 0
byte-stays at i bytes page h k =
    sym (get_or-take at (with_part at bytes page) i 0 k)
    ∙ ap (λ (xs : List ℕ). get_or xs i 0) (before-stays at at bytes page h (omega arith))
    ∙ get_or-take at page i 0 k

pub two-bytes : (n : ℕ) → n < 2 ^ 16 → number (to_be_bytes w16 n) ≡ n
two-bytes n h = spelled 2 n (omega arith)

pub four-bytes : (n : ℕ) → n < 2 ^ 32 → number (to_be_bytes w32 n) ≡ n
four-bytes n h = spelled 4 n (omega arith)

any-serial : (store serial : ℕ) → store < 65536 → serial < 2 ^ 32 → serial ≤ serial_limit store
any-serial store serial h k =
    let e = lt-ltb store 65536 h in
    rw e (omega arith)

pub serial-stays : (kind store key width serial : ℕ) (page : List ℕ) → store < 65536 → serial < 2 ^ 32 → IsRowPage kind store key width page
    → IsRowPage kind store key width (with_last_serial serial page) × (rows_of width (with_last_serial serial page) ≡ rows_of width page)
    × (next_of (with_last_serial serial page) ≡ next_of page) × (last_serial_of (with_last_serial serial page) ≡ serial)
serial-stays kind store key width serial page below small h =
    let bytes : List ℕ = to_be_bytes w32 serial in
    let size : length page ≡ 4096 = h.size in
    let room : 12 + length bytes ≤ length page = omega arith in
    let new : List ℕ = with_last_serial serial page in
    let fields : HasHeader (rows_header kind store width) page = h.has_header in
    let count : count_of new ≡ count_of page = ap number (elsewhere-stays 12 2 2 bytes page room (inl (omega arith))) in
    let own : part 4 4 new ≡ part 4 4 page = elsewhere-stays 12 4 4 bytes page room (inl (omega arith)) in
    let next : next_of new ≡ next_of page = ap number (elsewhere-stays 12 8 4 bytes page room (inl (omega arith))) in
    let last : last_serial_of new ≡ serial = ap number (read-back 12 bytes page room) ∙ four-bytes serial small in
    let body : body_of new ≡ body_of page = behind-stays 12 16 bytes page room (omega arith) in
    let sound : IsBytes new = bytes-append (take 12 page ++ bytes) (drop (12 + length bytes) page) (bytes-append (take 12 page) bytes (bytes-take 12 page h.bytes) (spelled-bytes 4 serial)) (bytes-drop (12 + length bytes) page h.bytes) in (
      record {
        size = whole-length 12 bytes page room ∙ size;
        bytes = sound;
        has_header = record {
          kind = byte-stays 12 0 bytes page room (omega arith) ∙ fields.kind;
          spare = byte-stays 12 1 bytes page room (omega arith) ∙ fields.spare;
          least = omega arith;
          most = omega (arith, count, fields.most);
          store = ap number own ∙ fields.store;
          next = omega (arith, next, fields.next);
          last = omega (arith, last, any-serial store serial below small);
        };
        body = subst (λ (xs : List ℕ). AreRows key width (count_of new) xs) (sym body) (subst (λ (n : ℕ). AreRows key width n (body_of page)) (sym count) h.body);
      },
      ap (λ (n : ℕ). pieces n width (body_of new)) count ∙ ap (pieces (count_of page) width) body,
      next,
      last,
    )
