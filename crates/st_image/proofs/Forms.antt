-- The forms of pages, by their fields and as one part behind the other.
use Rattle.std.proofs.Common.{◌≡◌, ℕ, ◌+◌, ◌-◌, ◌*◌, ◌^◌, ◌<◌, ◌≤◌, Bool, true, Option, Some, None, List, length, take, drop, get_or, sym, ap, subst, ◌∙◌, arith}
use Rattle.std.proofs.lemmas.List.{drop-drop, drop-take, length-drop, length-take-le, take-append-drop, take-take}
use Rattle.std.specs.List.{All}
use Rattle.st_image.specs.Bytes.{IsBytes, number, part}
use Rattle.st_image.specs.Fields.{body_of, count_of, pieces}
use Rattle.st_image.specs.Grammar.{AreRows, HasHeader, Header, IsForm, IsPiece}
use Rattle.st_image.specs.Parts.{Field, Finds, IsHead, IsText, Rows, Seq, counted}
use Rattle.st_image.proofs.Laid.{all-keys, laid-rows, length-pieces, rows-laid}
use Rattle.st_image.proofs.Numbers.{bytes-append, bytes-drop, bytes-take, number-more}
use Rattle.st_image.proofs.Ordered.{order-pairs, ordered-room, pairs-order}
use Rattle.st_image.proofs.Wrong.{seq-wide, wrong-same}
use Rattle.st_image.proofs.Zeros.{blank-number, number-blank}

pub finds-same : (Is Other : List ℕ → Type 0) (bytes : List ℕ) (fault : Option ℕ) → ((xs : List ℕ) → Is xs → Other xs) → ((xs : List ℕ) → Other xs → Is xs) → Finds Is bytes fault → Finds Other bytes fault
finds-same Is Other bytes None to from h = to bytes h
finds-same Is Other bytes (Some place) to from h = (h.0, wrong-same Is Other bytes place to from h.1)

-- ---- the front

inner : (at n m : ℕ) (xs : List ℕ) → at + n ≤ m → take n (drop at (take m xs)) ≡ take n (drop at xs)
inner at n m xs h =
    let e : m ≡ at + (m - at) = omega arith in
    ap (λ (k : ℕ). take n (drop at (take k xs))) e ∙ ap (take n) (drop-take at (m - at) xs) ∙ take-take n (m - at) (drop at xs) (omega arith)

-- a part of the first sixteen bytes
front-part : (a b n : ℕ) (page : List ℕ) → a + b + n ≤ 16 → take n (drop b (drop a (take 16 page))) ≡ take n (drop (a + b) page)
front-part a b n page h = ap (take n) (drop-drop b a (take 16 page)) ∙ inner (a + b) n 16 page h

second : (page : List ℕ) → take 2 (drop 2 (take 16 page)) ≡ part 2 2 page
second page = inner 2 2 16 page (omega arith)

third : (page : List ℕ) → take 4 (drop 2 (drop 2 (take 16 page))) ≡ part 4 4 page
third page = front-part 2 2 4 page (omega arith)

fourth : (page : List ℕ) → take 4 (drop 4 (drop 2 (drop 2 (take 16 page)))) ≡ part 8 4 page
fourth page = ap (λ (xs : List ℕ). take 4 (drop 4 xs)) (drop-drop 2 2 (take 16 page)) ∙ front-part 4 4 4 page (omega arith)

fifth : (page : List ℕ) → 16 ≤ length page → drop 4 (drop 4 (drop 2 (drop 2 (take 16 page)))) ≡ part 12 4 page
fifth page h =
    let whole : drop 4 (drop 4 (drop 2 (drop 2 (take 16 page)))) ≡ drop 12 (take 16 page) =
    ap (λ (xs : List ℕ). drop 4 (drop 4 xs)) (drop-drop 2 2 (take 16 page)) ∙ ap (drop 4) (drop-drop 4 4 (take 16 page)) ∙ drop-drop 4 8 (take 16 page) in
    whole ∙ drop-take 12 4 page

pub front-from : (kind least most store next last : ℕ) (page : List ℕ) → 16 ≤ length page → Field 2 (kind * 256) (kind * 256) (take 2 page) → Field 2 least most (part 2 2 page)
    → Field 4 store store (part 4 4 page) → Field 4 0 next (part 8 4 page) → Field 4 0 last (part 12 4 page) → IsHead kind least most store next last (take 16 page)
front-from kind least most store next last page room a b d e f = record {
  front = subst (Field 2 (kind * 256) (kind * 256)) (sym (take-take 2 16 page (omega arith))) a;
  rest = record {
    front = subst (Field 2 least most) (sym (second page)) b;
    rest = record {
      front = subst (Field 4 store store) (sym (third page)) d;
      rest = record {
        front = subst (Field 4 0 next) (sym (fourth page)) e;
        rest = subst (Field 4 0 last) (sym (fifth page room)) f;
      };
    };
  };
}

pub counted-front : (page : List ℕ) → counted (take 16 page) ≡ counted page
counted-front page = ap number (second page)

pub head-wide : (kind least most store next last : ℕ) (head : List ℕ) → IsHead kind least most store next last head → length head ≡ 16
head-wide kind least most store next last head h =
    seq-wide 2 14 head (h.front).wide
    (seq-wide 2 12 (drop 2 head) ((h.rest).front).wide
    (seq-wide 4 8 (drop 2 (drop 2 head)) (((h.rest).rest).front).wide
    (seq-wide 4 4 (drop 4 (drop 2 (drop 2 head))) ((((h.rest).rest).rest).front).wide
    ((((h.rest).rest).rest).rest).wide)))

whole-sound : (n : ℕ) (xs : List ℕ) → IsBytes (take n xs) → IsBytes (drop n xs) → IsBytes xs
whole-sound n xs h k = subst IsBytes (take-append-drop n xs) (bytes-append (take n xs) (drop n xs) h k)

head-sound : (kind least most store next last : ℕ) (head : List ℕ) → IsHead kind least most store next last head → IsBytes head
head-sound kind least most store next last head h =
    whole-sound 2 head (h.front).sound
    (whole-sound 2 (drop 2 head) ((h.rest).front).sound
    (whole-sound 4 (drop 2 (drop 2 head)) (((h.rest).rest).front).sound
    (whole-sound 4 (drop 4 (drop 2 (drop 2 head))) ((((h.rest).rest).rest).front).sound
    ((((h.rest).rest).rest).rest).sound)))

two-bytes : (page : List ℕ) → 16 ≤ length page → number (take 2 page) ≡ get_or page 0 0 * 256 + get_or page 1 0
two-bytes page h =
    let one : number (take (0 + 1) page) ≡ 0 * 256 + get_or page 0 0 = number-more page 0 (omega arith) in
    let two : number (take (1 + 1) page) ≡ number (take 1 page) * 256 + get_or page 1 0 = number-more page 1 (omega arith) in
    two ∙ ap (λ (n : ℕ). n * 256 + get_or page 1 0) one ∙ omega arith

kind-field : (kind : ℕ) (page : List ℕ) → 16 ≤ length page → IsBytes page → get_or page 0 0 ≡ kind → get_or page 1 0 ≡ 0 → Field 2 (kind * 256) (kind * 256) (take 2 page)
kind-field kind page room sound e f =
    let value : number (take 2 page) ≡ kind * 256 = two-bytes page room ∙ omega (arith, e, f) in
    record {
      wide = length-take-le 2 page (omega arith);
      sound = bytes-take 2 page sound;
      least = omega (arith, value);
      most = omega (arith, value);
    }

kind-spare : (kind : ℕ) (page : List ℕ) → 16 ≤ length page → IsBytes page → Field 2 (kind * 256) (kind * 256) (take 2 page) → (get_or page 0 0 ≡ kind) × (get_or page 1 0 ≡ 0)
kind-spare kind page room sound h =
    let value : number (take 2 page) ≡ get_or page 0 0 * 256 + get_or page 1 0 = two-bytes page room in
    let low : get_or page 1 0 < 256 = sound 1 in
    (omega (arith, value, low, h.least, h.most), omega (arith, value, low, h.least, h.most))

part-field : (at width low high : ℕ) (page : List ℕ) → at + width ≤ length page → IsBytes page → low ≤ number (part at width page) → number (part at width page) ≤ high → Field width low high (part at width page)
part-field at width low high page room sound h k = record {
  wide = length-take-le width (drop at page) (omega (arith, length-drop at page));
  sound = bytes-take width (drop at page) (bytes-drop at page sound);
  least = h;
  most = k;
}

-- ---- a page as a whole

-- a page of a form, as its front and its body
pub parts-from-form : (header : Header) (Is Body : ℕ → List ℕ → Type 0) (most : ℕ) → ((n : ℕ) (body : List ℕ) → length body ≡ 4080 → IsBytes body → header.least ≤ n → n ≤ header.most → Is n body → Body n body × (n ≤ most))
    → (page : List ℕ) → IsForm header Is page → Seq 16 (IsHead header.kind header.least most header.store header.next header.last) (λ head. Body (counted head)) page
parts-from-form header Is Body most turn page h =
    let size : length page ≡ 4096 = h.size in
    let room : 16 ≤ length page = omega arith in
    let fields : HasHeader header page = h.has_header in
    let body : Body (count_of page) (body_of page) × (count_of page ≤ most) =
    turn (count_of page) (body_of page) (omega (arith, length-drop 16 page, size)) (bytes-drop 16 page h.bytes) fields.least fields.most h.body in
    record {
      front = front-from header.kind header.least most header.store header.next header.last page room
          (kind-field header.kind page room h.bytes fields.kind fields.spare)
          (part-field 2 2 header.least most page (omega arith) h.bytes fields.least body.1)
          (part-field 4 4 header.store header.store page (omega arith) h.bytes (omega (arith, fields.store)) (omega (arith, fields.store)))
          (part-field 8 4 0 header.next page (omega arith) h.bytes (omega arith) fields.next)
          (part-field 12 4 0 header.last page (omega arith) h.bytes (omega arith) fields.last);
      rest = subst (λ (n : ℕ). Body n (drop 16 page)) (sym (counted-front page)) body.0;
    }

pub form-from-parts : (header : Header) (Is Body : ℕ → List ℕ → Type 0) (most : ℕ) → most ≤ header.most
    → ((n : ℕ) (body : List ℕ) → header.least ≤ n → n ≤ most → Body n body → Is n body × IsBytes body × (length body ≡ 4080))
    → (page : List ℕ) → Seq 16 (IsHead header.kind header.least most header.store header.next header.last) (λ head. Body (counted head)) page → IsForm header Is page
form-from-parts header Is Body most limit turn page h =
    let head : IsHead header.kind header.least most header.store header.next header.last (take 16 page) = h.front in
    let count : Field 2 header.least most (part 2 2 page) = subst (Field 2 header.least most) (second page) (head.rest).front in
    let store : Field 4 header.store header.store (part 4 4 page) = subst (Field 4 header.store header.store) (third page) ((head.rest).rest).front in
    let next : Field 4 0 header.next (part 8 4 page) = subst (Field 4 0 header.next) (fourth page) (((head.rest).rest).rest).front in
    let rest : Body (count_of page) (drop 16 page) = subst (λ (n : ℕ). Body n (drop 16 page)) (counted-front page) h.rest in
    let body : Is (count_of page) (drop 16 page) × IsBytes (drop 16 page) × (length (drop 16 page) ≡ 4080) = turn (count_of page) (drop 16 page) count.least count.most rest in
    let size : length page ≡ 4096 = seq-wide 16 4080 page (head-wide header.kind header.least most header.store header.next header.last (take 16 page) head) body.2 in
    let room : 16 ≤ length page = omega arith in
    let sound : IsBytes page = whole-sound 16 page (head-sound header.kind header.least most header.store header.next header.last (take 16 page) head) body.1 in
    let last : Field 4 0 header.last (part 12 4 page) = subst (Field 4 0 header.last) (fifth page room) (((head.rest).rest).rest).rest in
    let kind = kind-spare header.kind page room sound (subst (Field 2 (header.kind * 256) (header.kind * 256)) (take-take 2 16 page (omega arith)) head.front) in
    record {
      size = size;
      bytes = sound;
      has_header = record {
        kind = kind.0;
        spare = kind.1;
        least = count.least;
        most = omega (arith, count.most);
        store = omega (arith, store.least, store.most);
        next = next.most;
        last = last.most;
      };
      body = body.0;
    }

-- ---- bodies

pub laid-from : (child : Bool) (key width : ℕ) (first : Bool) (n : ℕ) (body : List ℕ) → key ≤ width → n * width ≤ 4080 → length body ≡ 4080 → IsBytes body → AreRows key width n body
    → (child ≡ true → All (λ (row : List ℕ). number (drop key row) < 65536) (pieces n width body)) → (first ≡ true → number (take key body) ≡ 0)
    → Rows child key width (4080 - n * width) first n 0 body × (n ≤ 256 ^ key)
laid-from child key width first n body within room size sound rows pages zeros =
    let keys = all-keys key width n body within (omega (arith, room, size)) sound in
    let order = pairs-order key (pieces n width body) keys rows.ascend in
    let fits : n ≤ 256 ^ key = omega (arith, ordered-room key 0 (pieces n width body) keys (omega arith) order, length-pieces n width body) in (
      laid-rows child key width (4080 - n * width) first n 0 body within (record {
        size = omega (arith, size, room);
        sound = sound;
        order = order;
        pages = pages;
        first_key = λ e k. zeros e;
        rest = rows.behind;
      }),
      fits,
    )

pub rows-from : (child : Bool) (key width : ℕ) (first : Bool) (n : ℕ) (body : List ℕ) → key ≤ width → n * width ≤ 4080 → Rows child key width (4080 - n * width) first n 0 body
    → AreRows key width n body × IsBytes body × (length body ≡ 4080)
rows-from child key width first n body within room h =
    let laid = rows-laid child key width (4080 - n * width) first n 0 body within h in
    let size : length body ≡ 4080 = omega (arith, laid.size, room) in
    let keys = all-keys key width n body within (omega (arith, room, size)) laid.sound in
    (record { ascend = (order-pairs key 0 (pieces n width body) keys laid.order).0; behind = laid.rest }, laid.sound, size)

pub text-to : (n : ℕ) (body : List ℕ) → length body ≡ 4080 → IsBytes body → n ≤ 4080 → IsPiece n body → IsText n body
text-to n body size sound room h = record {
  front = record { wide = length-take-le n body (omega arith); sound = bytes-take n body sound };
  rest = record { wide = omega (arith, length-drop n body, size); sound = bytes-drop n body sound; least = omega arith; most = omega (arith, blank-number (drop n body) h) };
}

pub text-from : (n : ℕ) (body : List ℕ) → n ≤ 4080 → IsText n body → IsPiece n body × IsBytes body × (length body ≡ 4080)
text-from n body room h =
    (number-blank (drop n body) (omega (arith, (h.rest).most)), whole-sound n body (h.front).sound (h.rest).sound, seq-wide n (4080 - n) body (h.front).wide (h.rest).wide ∙ omega arith)
