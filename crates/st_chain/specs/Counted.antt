-- What the rows of a chain are, and how many pages it has at most: no more than there are keys, but for the first one.
use Rattle.std.proofs.Common.{◌≡◌, ℕ, zero, suc, ◌+◌, ◌*◌, ◌/◌, ◌^◌, ◌<◌, ◌≤◌, ◌⊎◌, ◌==◌, Bool, true, false, if◌then◌else◌, List, [], ◌∷◌, ◌++◌, length, take, drop, IsTrue, refl, sym, ap, subst, ◌∙◌, inl, inr, arith, true≢false}
use Rattle.std.specs.Prelude.{not, ◌&&◌}
use Rattle.std.specs.List.{All, list_all, list_any}
use Rattle.std.specs.Cmp.Lexicographic.{slice_cmp}
use Rattle.std.specs.Ordering.{is_lt, nat_cmp}
use Rattle.std.proofs.Math.Nat.{div-mul-le_self, mul-le-mul_right, pow-le-pow_right, suc-mul}
use Rattle.std.proofs.lemmas.Bool.{cases_order, eqb-true}
use Rattle.std.proofs.lemmas.Bool.Decides.{nat_tests}
use Rattle.std.proofs.lemmas.List.{length-append, length-drop, length-take-le, take_all}
use Rattle.std.proofs.lemmas.List.Elements.{All-append, All-cons, All-head, All-nil, All-tail}
use Rattle.st_values.specs.Arranged.{each_pair}
use Rattle.st_values.proofs.Tests.{both, either, first-of, left, one-of, other-of, right}
use Rattle.st_image.specs.Bytes.{IsBytes}
use Rattle.st_image.specs.Fields.{body_of, count_of, next_of, last_serial_of, pieces, rows_of}
use Rattle.st_image.specs.Grammar.{HasHeader, row_before, rows_header}
use Rattle.st_image.proofs.Laid.{length-pieces}
use Rattle.st_image.proofs.Numbers.{bytes-drop, bytes-take}
use Rattle.st_image.proofs.Ordered.{AllKeys, ordered-room, pairs-order}
use Rattle.st_pages.specs.declared.places.Place.{Place}
use Rattle.st_pages.specs.Attempt.{Array}
use Rattle.st_pages.specs.Chains.{way}
use Rattle.st_store.specs.Rows.{AreOrdered}
use Rattle.st_store.specs.Stores.{among}
use Rattle.st_store.specs.Chain.{AreLater, Follow, IsChainOf, IsChainPage, IsWay, LeadTo, is_on_chain, rows_in}
use Rattle.st_chain.specs.Ways.{differ, follow-page, follow-sound, here, itself, later-test, there}

-- ---- the rows of a page, and those of a chain

pieces-wide : (count width : ℕ) (bytes : List ℕ) → count * width ≤ length bytes → All (λ row. length row ≡ width) (pieces count width bytes)
pieces-wide zero width bytes h = All-nil (λ row. length row ≡ width)
pieces-wide (suc count) width bytes h =
    let sum : suc count * width ≡ count * width + width = suc-mul count width in
    let rest : count * width ≤ length (drop width bytes) = omega (arith, length-drop width bytes, sum) in
    All-cons (λ row. length row ≡ width) (take width bytes) (pieces count width (drop width bytes)) (length-take-le width bytes (omega (arith, sum))) (pieces-wide count width (drop width bytes) rest)

pieces-bytes : (count width : ℕ) (bytes : List ℕ) → IsBytes bytes → All IsBytes (pieces count width bytes)
pieces-bytes zero width bytes h = All-nil IsBytes
pieces-bytes (suc count) width bytes h =
    All-cons IsBytes (take width bytes) (pieces count width (drop width bytes)) (bytes-take width bytes h) (pieces-bytes count width (drop width bytes) (bytes-drop width bytes h))

pub page-wide : (place : Place) (image : List ℕ) → IsChainPage place image → All (λ row. length row ≡ place.width) (rows_of place.width image)
page-wide place image sound =
    let fields : HasHeader (rows_header 2 place.store place.width) image = sound.has_header in
    let size : length image ≡ 4096 = sound.size in
    let most : count_of image ≤ 4080 / place.width = fields.most in
    let up : count_of image * place.width ≤ 4080 / place.width * place.width = mul-le-mul_right place.width most in
    let all : 4080 / place.width * place.width ≤ 4080 = div-mul-le_self 4080 place.width in
    pieces-wide (count_of image) place.width (body_of image) (omega (arith, length-drop 16 image, up, all))

pub page-bytes : (place : Place) (image : List ℕ) → IsChainPage place image → All IsBytes (rows_of place.width image)
page-bytes place image sound = pieces-bytes (count_of image) place.width (body_of image) (bytes-drop 16 image sound.bytes)

pub rows-wide : (place : Place) (array : Array) (pages : List ℕ) → ((q : ℕ) → IsTrue (among pages q) → IsChainPage place (array q)) → All (λ row. length row ≡ place.width) (rows_in place array pages)
rows-wide place array [] sound = All-nil (λ row. length row ≡ place.width)
rows-wide place array (page ∷ pages) sound =
    All-append (λ row. length row ≡ place.width) (rows_of place.width (array page)) (rows_in place array pages)
    (page-wide place (array page) (sound page (here page pages))) (rows-wide place array pages (λ q m. sound q (there page pages q m)))

pub rows-bytes : (place : Place) (array : Array) (pages : List ℕ) → ((q : ℕ) → IsTrue (among pages q) → IsChainPage place (array q)) → All IsBytes (rows_in place array pages)
rows-bytes place array [] sound = All-nil IsBytes
rows-bytes place array (page ∷ pages) sound =
    All-append IsBytes (rows_of place.width (array page)) (rows_in place array pages)
    (page-bytes place (array page) (sound page (here page pages))) (rows-bytes place array pages (λ q m. sound q (there page pages q m)))

pub chain-ordered : (place : Place) (array : Array) (pages : List ℕ) (rows : List (List ℕ)) → IsChainOf place array pages rows → AreOrdered place.key place.width rows
chain-ordered place array pages rows chain =
    let sound : (q : ℕ) → IsTrue (among pages q) → IsChainPage place (array q) = λ q m. follow-sound place array place.first pages q chain.follow m in
    record {
      ascend = chain.ascend;
      wide = subst (λ (xs : List (List ℕ)). All (λ row. length row ≡ place.width) xs) (sym chain.are) (rows-wide place array pages sound);
      bytes = subst (λ (xs : List (List ℕ)). All IsBytes xs) (sym chain.are) (rows-bytes place array pages sound);
    }

-- ---- how many rows there are at most

keyed : (key width : ℕ) (rows : List (List ℕ)) → key ≤ width → All (λ row. length row ≡ width) rows → All IsBytes rows → AllKeys key rows
keyed key width [] h wide bytes = tt
keyed key width (row ∷ rows) h wide bytes =
    let is : length row ≡ width = All-head (λ row. length row ≡ width) row rows wide in (
      record { wide = length-take-le key row (omega (arith, is)); sound = bytes-take key row (All-head IsBytes row rows bytes) },
      keyed key width rows h (All-tail (λ row. length row ≡ width) row rows wide) (All-tail IsBytes row rows bytes),
    )

-- a key that is longer than rows is all of them
short-before : (key width : ℕ) (a b : List ℕ) → width ≤ key → length a ≡ width → length b ≡ width → row_before key a b ≡ row_before width a b
short-before key width a b h e k =
    let one : take key a ≡ take width a = take_all key a (omega (arith, e)) ∙ sym (take_all width a (omega (arith, e))) in
    let other : take key b ≡ take width b = take_all key b (omega (arith, k)) ∙ sym (take_all width b (omega (arith, k))) in
    ap (λ (xs : List ℕ). is_lt (slice_cmp nat_cmp xs (take key b))) one ∙ ap (λ (xs : List ℕ). is_lt (slice_cmp nat_cmp (take width a) xs)) other

short-all : (key width : ℕ) (a : List ℕ) (rows : List (List ℕ)) → width ≤ key → length a ≡ width → All (λ row. length row ≡ width) rows → list_all (row_before key a) rows ≡ true → list_all (row_before width a) rows ≡ true
short-all key width a [] h e wide k = refl
short-all key width a (row ∷ rows) h e wide k =
    let is : length row ≡ width = All-head (λ row. length row ≡ width) row rows wide in
    both (row_before width a row) (list_all (row_before width a) rows) (sym (short-before key width a row h e is) ∙ left (row_before key a row) (list_all (row_before key a) rows) k)
    (short-all key width a rows h e (All-tail (λ row. length row ≡ width) row rows wide) (right (row_before key a row) (list_all (row_before key a) rows) k))

short-pairs : (key width : ℕ) (rows : List (List ℕ)) → width ≤ key → All (λ row. length row ≡ width) rows → each_pair (row_before key) rows ≡ true → each_pair (row_before width) rows ≡ true
short-pairs key width [] h wide k = refl
short-pairs key width (row ∷ rows) h wide k =
    let rest = All-tail (λ row. length row ≡ width) row rows wide in
    both (list_all (row_before width row) rows) (each_pair (row_before width) rows)
    (short-all key width row rows h (All-head (λ row. length row ≡ width) row rows wide) rest (left (list_all (row_before key row) rows) (each_pair (row_before key) rows) k))
    (short-pairs key width rows h rest (right (list_all (row_before key row) rows) (each_pair (row_before key) rows) k))

few-rows : (key width : ℕ) (rows : List (List ℕ)) → key ≤ width → All (λ row. length row ≡ width) rows → All IsBytes rows → each_pair (row_before key) rows ≡ true → length rows ≤ 256 ^ key
few-rows key width rows h wide bytes ascend =
    let keys = keyed key width rows h wide bytes in
    omega (arith, ordered-room key 0 rows keys (omega arith) (pairs-order key rows keys ascend))

pub few : (key width : ℕ) (rows : List (List ℕ)) → AreOrdered key width rows → length rows ≤ 256 ^ key
few key width rows ordered = by (order key width)
  where
    order : (n m : ℕ) → (n ≤ m) ⊎ (m ≤ n)
    order n m = elim (cases_order n m) [
      | inl e ↦ inl (omega (arith, e))
      | inr (inl l) ↦ inl (omega (arith, l))
      | inr (inr l) ↦ inr (omega (arith, l))
    ]

    by : ((key ≤ width) ⊎ (width ≤ key)) → length rows ≤ 256 ^ key
    by (inl h) = few-rows key width rows h ordered.wide ordered.bytes ordered.ascend
    by (inr h) =
        let least : length rows ≤ 256 ^ width = few-rows width width rows (omega arith) ordered.wide ordered.bytes (short-pairs key width rows h ordered.wide ordered.ascend) in
        let up : 256 ^ width ≤ 256 ^ key = pow-le-pow_right {n = 256} (omega arith) h in
        omega (arith, least, up)

-- ---- the way of a chain

later-rows : (place : Place) (array : Array) (pages : List ℕ) → AreLater array pages → length pages ≤ length (rows_in place array pages)
later-rows place array [] h = omega arith
later-rows place array (page ∷ pages) h =
    let test : ℕ → Bool = λ q. not (count_of (array q) == 0) && (last_serial_of (array q) == 0) in
    let some = (later-test (array page) (left (test page) (list_all test pages) h)).0 in
    let wide : length (rows_of place.width (array page)) ≡ count_of (array page) = length-pieces (count_of (array page)) place.width (body_of (array page)) in
    let rest : length pages ≤ length (rows_in place array pages) = later-rows place array pages (right (test page) (list_all test pages) h) in
    let sum : length (rows_of place.width (array page) ++ rows_in place array pages) ≡ length (rows_of place.width (array page)) + length (rows_in place array pages) = length-append (rows_of place.width (array page)) (rows_in place array pages) in
    let one : 1 ≤ count_of (array page) = positive (count_of (array page)) some in
    omega (arith, sum, wide, rest, one)
  where
    positive : (n : ℕ) → (n ≡ 0 → ⊥) → 1 ≤ n
    positive zero h = absurd (h refl)
    positive (suc n) h = omega arith

few-pages : (place : Place) (array : Array) (pages : List ℕ) (rows : List (List ℕ)) → AreLater array (drop 1 pages) → rows ≡ rows_in place array pages → length pages ≤ suc (length rows)
few-pages place array [] rows later are = omega arith
few-pages place array (page ∷ pages) rows later are =
    let rest : length pages ≤ length (rows_in place array pages) = later-rows place array pages later in
    let sum : length (rows_of place.width (array page) ++ rows_in place array pages) ≡ length (rows_of place.width (array page)) + length (rows_in place array pages) = length-append (rows_of place.width (array page)) (rows_in place array pages) in
    let is : length rows ≡ length (rows_of place.width (array page) ++ rows_in place array pages) = ap length are in
    omega (arith, rest, sum, is)

way-is : (place : Place) (array : Array) (first : ℕ) (pages : List ℕ) (most : ℕ) → Follow place array first pages → length pages ≤ most → way most array first ≡ pages
way-is place array first [] most h k = absurd h
way-is place array first (page ∷ pages) zero h k = absurd (omega arith)
way-is place array first (page ∷ pages) (suc most) h k =
    let p = follow-page place array first page pages h in
    ap (λ (n : ℕ). n ∷ (if next_of (array n) == 0 then [] else way most array (next_of (array n)))) (sym p.0)
    ∙ ap (λ (xs : List ℕ). page ∷ xs) (elim (p.2) [
      | inl g ↦ ap (λ (n : ℕ). if n == 0 then [] else way most array (next_of (array page))) g.1 ∙ sym g.0
      | inr g ↦ goes-on (next_of (array page)) (way most array (next_of (array page))) g.0 ∙ way-is place array (next_of (array page)) pages most g.1 (omega arith)
    ])
  where
    goes-on : (n : ℕ) (xs : List ℕ) → 0 < n → (if n == 0 then [] else xs) ≡ xs
    goes-on n xs h =
        let some : (n == 0) ≡ false = grind (arith, nat_tests) in
        rw some refl

pub chain-way : (place : Place) (array : Array) (pages : List ℕ) (rows : List (List ℕ)) (page : ℕ) → IsChainOf place array pages rows → is_on_chain place array page ≡ among pages page
unfolding is_on_chain
chain-way place array pages rows page chain =
    let most : length rows ≤ 256 ^ place.key = few place.key place.width rows (chain-ordered place array pages rows chain) in
    let all : length pages ≤ suc (length rows) = few-pages place array pages rows chain.later chain.are in
    let room : length pages ≤ suc (suc (256 ^ place.key)) = omega (arith, most, all) in
    ap (λ (xs : List ℕ). list_any (λ other. other == page) xs) (way-is place array place.first pages (suc (suc (256 ^ place.key))) chain.follow room)

-- ---- a way that leads to a page

pub lead-sound : (place : Place) (array : Array) (first : ℕ) (pages : List ℕ) (end q : ℕ) → LeadTo place array first pages end → IsTrue (among pages q) → IsChainPage place (array q)
lead-sound place array first [] end q leads m = absurd (true≢false (sym m))
lead-sound place array first (page ∷ pages) end q leads m =
    either (page == q) (λ b. IsChainPage place (array q)) (λ e. subst (λ (n : ℕ). IsChainPage place (array n)) (eqb-true page q e) leads.1)
    (λ e. lead-sound place array (next_of (array page)) pages end q leads.3 (other-of (page == q) (among pages q) m e))

filled-rows : (place : Place) (array : Array) (pages : List ℕ) → list_all (λ page. not (count_of (array page) == 0)) pages ≡ true → length pages ≤ length (rows_in place array pages)
filled-rows place array [] h = omega arith
filled-rows place array (page ∷ pages) h =
    let test : ℕ → Bool = λ q. not (count_of (array q) == 0) in
    let some = differ (count_of (array page)) 0 (left (test page) (list_all test pages) h) in
    let wide : length (rows_of place.width (array page)) ≡ count_of (array page) = length-pieces (count_of (array page)) place.width (body_of (array page)) in
    let rest : length pages ≤ length (rows_in place array pages) = filled-rows place array pages (right (test page) (list_all test pages) h) in
    let sum : length (rows_of place.width (array page) ++ rows_in place array pages) ≡ length (rows_of place.width (array page)) + length (rows_in place array pages) = length-append (rows_of place.width (array page)) (rows_in place array pages) in
    let one : 1 ≤ count_of (array page) = some-rows (count_of (array page)) some in
    omega (arith, sum, wide, rest, one)
  where
    some-rows : (n : ℕ) → (n ≡ 0 → ⊥) → 1 ≤ n
    some-rows zero h = absurd (h refl)
    some-rows (suc n) h = omega arith

-- there are no more pages on a way than there are keys, but for the first one
pub way-few : (place : Place) (array : Array) (pages : List ℕ) (end : ℕ) → IsWay place array pages end → length pages ≤ suc (256 ^ place.key)
way-few place array [] end way = omega arith
way-few place array (page ∷ pages) end way =
    let sound : (q : ℕ) → IsTrue (among (page ∷ pages) q) → IsChainPage place (array q) = λ q m. lead-sound place array place.first (page ∷ pages) end q way.leads m in
    let all : AreOrdered place.key place.width (rows_in place array (page ∷ pages)) = record {
      ascend = way.ascend;
      wide = rows-wide place array (page ∷ pages) sound;
      bytes = rows-bytes place array (page ∷ pages) sound;
    } in
    let most : length (rows_in place array (page ∷ pages)) ≤ 256 ^ place.key = few place.key place.width (rows_in place array (page ∷ pages)) all in
    let rest : length pages ≤ length (rows_in place array pages) = filled-rows place array pages way.filled in
    let sum : length (rows_of place.width (array page) ++ rows_in place array pages) ≡ length (rows_of place.width (array page)) + length (rows_in place array pages) = length-append (rows_of place.width (array page)) (rows_in place array pages) in
    omega (arith, most, rest, sum)

lead-way : (place : Place) (array : Array) (first end most : ℕ) (pages : List ℕ) → LeadTo place array first pages end → length pages < most → list_any (λ other. other == end) (way most array first) ≡ true
lead-way place array first end zero pages leads h = absurd (omega (arith, h))
lead-way place array first end (suc most) [] leads h =
    first-of (first == end) (list_any (λ other. other == end) (if next_of (array first) == 0 then [] else way most array (next_of (array first)))) (ap (λ (n : ℕ). n == end) (sym leads) ∙ itself end)
lead-way place array first end (suc most) (page ∷ pages) leads h =
    let rest : list_any (λ other. other == end) (way most array (next_of (array page))) ≡ true = lead-way place array (next_of (array page)) end most pages leads.3 (omega (arith, h)) in
    one-of (first == end) (list_any (λ other. other == end) (if next_of (array first) == 0 then [] else way most array (next_of (array first))))
    (ap (λ (n : ℕ). list_any (λ other. other == end) (if next_of (array n) == 0 then [] else way most array (next_of (array n)))) (sym leads.0)
    ∙ ap (λ (xs : List ℕ). list_any (λ other. other == end) xs) (goes-on (next_of (array page)) (way most array (next_of (array page))) leads.2) ∙ rest)
  where
    goes-on : (n : ℕ) (xs : List ℕ) → 0 < n → (if n == 0 then [] else xs) ≡ xs
    goes-on n xs k =
        let some : (n == 0) ≡ false = grind (arith, nat_tests) in
        rw some refl

-- a page that a way leads to is one that may be asked for
pub way-reached : (place : Place) (array : Array) (pages : List ℕ) (end : ℕ) → IsWay place array pages end → IsTrue (is_on_chain place array end)
unfolding is_on_chain
way-reached place array pages end way = lead-way place array place.first end (suc (suc (256 ^ place.key))) pages way.leads (let h = way-few place array pages end way in omega (arith, h))
