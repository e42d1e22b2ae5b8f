-- Rows whose keys ascend: the first and the last of them, and how many there can be.
use Rattle.std.proofs.Common.{◌≡◌, ℕ, zero, suc, ◌+◌, ◌^◌, ◌<◌, ◌≤◌, Bool, true, false, List, [], ◌∷◌, ◌++◌, length, take, drop, Some, refl, sym, ap, ◌∙◌, subst, append_assoc, arith}
use Rattle.std.proofs.lemmas.List.{drop_all, take-append-drop, length-append, length-take-le}
use Rattle.std.specs.Prelude.{not, slice_get}
use Rattle.std.specs.List.{list_all, list_any}
use Rattle.std.proofs.Math.Seq.{take-length}
use Rattle.std.specs.Ordering.{is_ge, is_lt, is_some_and, nat_cmp}
use Rattle.std.specs.Cmp.Lexicographic.{lists_agrees, slice_cmp, slice_partial_cmp}
use Rattle.std.specs.declared.cmp.Ordering.{Ordering}
use Rattle.std.specs.declared.cmp.Ordering.TheVariants.{Equal, Greater, Less}
use Rattle.st_values.specs.Arranged.{ascends}
use Rattle.st_values.proofs.Tests.{all-weaken, both, first-of, left, one-of}
use Rattle.st_image.specs.Bytes.{IsBytes, number}
use Rattle.st_image.specs.Grammar.{row_before}
use Rattle.st_image.proofs.Numbers.{bytes-take, number-lt}
use Rattle.st_image.proofs.Ordered.{AllKeys, Ordered, ordered-room, pairs-order}
use Rattle.st_store.specs.Chain.{top}
use Rattle.st_store.proofs.Ordering.{all-append, all-right, before-trans, pairs-append, pairs-between, pairs-left}
use Rattle.st_page_rows.proofs.Standing.{drop-at}

-- ---- the last row, and the first one

pub last-of : (rows : List (List ℕ)) (i : ℕ) (row : List ℕ) → slice_get rows i ≡ Some row → length rows ≤ i + 1 → rows ≡ take i rows ++ row ∷ []
last-of rows i row at end =
    sym (take-append-drop i rows)
    ∙ ap (λ (l : List (List ℕ)). take i rows ++ l) (drop-at rows i row at)
    ∙ ap (λ (l : List (List ℕ)). take i rows ++ row ∷ l) (drop_all (i + 1) rows end)

pub first-of-rows : (rows : List (List ℕ)) (row : List ℕ) → slice_get rows 0 ≡ Some row → rows ≡ row ∷ drop 1 rows
first-of-rows rows row at = drop-at rows 0 row at

-- rows in a row ascend where the first of the ones is above the last of the others
pub ascend-over : (key : ℕ) (front : List (List ℕ)) (last first : List ℕ) (rest : List (List ℕ))
    → ascends (row_before key) (front ++ last ∷ []) ≡ true → ascends (row_before key) (first ∷ rest) ≡ true → row_before key last first ≡ true
    → ascends (row_before key) ((front ++ last ∷ []) ++ first ∷ rest) ≡ true
ascend-over key front last first rest h k l =
    let t : List ℕ → List ℕ → Bool = row_before key in
    let beyond : list_all (t first) rest ≡ true = left (list_all (t first) rest) (ascends t rest) k in
    let from : (a : List ℕ) → t a first ≡ true → list_all (t a) (first ∷ rest) ≡ true =
    λ a e. both (t a first) (list_all (t a) rest) e (all-weaken (t first) (t a) (λ z m. before-trans key a first z e m) rest beyond) in
    pairs-append t (front ++ last ∷ []) (first ∷ rest) h k
    (all-append (λ a. list_all (t a) (first ∷ rest)) front (last ∷ [])
    (all-weaken (λ a. list_all (t a) (last ∷ [])) (λ a. list_all (t a) (first ∷ rest))
    (λ a m. from a (before-trans key a last first (left (t a last) true m) l)) front (pairs-between t front (last ∷ []) h))
    (both (list_all (t last) (first ∷ rest)) true (from last l) refl))

pub over-ascend : (key : ℕ) (front : List (List ℕ)) (last first : List ℕ) (rest : List (List ℕ))
    → ascends (row_before key) ((front ++ last ∷ []) ++ first ∷ rest) ≡ true → row_before key last first ≡ true
over-ascend key front last first rest h =
    let t : List ℕ → List ℕ → Bool = row_before key in
    left (t last first) (list_all (t last) rest)
    (left (list_all (t last) (first ∷ rest)) true
    (all-right (λ a. list_all (t a) (first ∷ rest)) front (last ∷ []) (pairs-between t (front ++ last ∷ []) (first ∷ rest) h)))

-- all rows are below a key where the last one is
pub all-below-last : (key : ℕ) (sought : List ℕ) (front : List (List ℕ)) (last : List ℕ) → ascends (row_before key) (front ++ last ∷ []) ≡ true → row_before key last sought ≡ true
    → list_all (λ row. row_before key row sought) (front ++ last ∷ []) ≡ true
all-below-last key sought front last h k =
    let t : List ℕ → List ℕ → Bool = row_before key in
    all-append (λ row. t row sought) front (last ∷ [])
    (all-weaken (λ a. list_all (t a) (last ∷ [])) (λ a. t a sought) (λ a m. before-trans key a last sought (left (t a last) true m) k) front (pairs-between t front (last ∷ []) h))
    (both (t last sought) true k refl)

pub some-last : (p : List ℕ → Bool) (front : List (List ℕ)) (last : List ℕ) → p last ≡ true → list_any p (front ++ last ∷ []) ≡ true
some-last p [] last h = first-of (p last) false h
some-last p (row ∷ front) last h = one-of (p row) (list_any p (front ++ last ∷ [])) (some-last p front last h)

some-is : (x y : List ℕ) → Some x ≡ Some y → x ≡ y
some-is x y e = cc

-- rows around one of them
pub parts-at : (rows : List (List ℕ)) (i : ℕ) (row : List ℕ) → slice_get rows i ≡ Some row → rows ≡ (take i rows ++ row ∷ []) ++ drop (i + 1) rows
parts-at rows i row at =
    sym (take-append-drop i rows) ∙ ap (λ (l : List (List ℕ)). take i rows ++ l) (drop-at rows i row at)
    ∙ sym (append_assoc (take i rows) (row ∷ []) (drop (i + 1) rows))

pub front-at : (rows : List (List ℕ)) (i : ℕ) (row : List ℕ) → slice_get rows i ≡ Some row → take (i + 1) rows ≡ take i rows ++ row ∷ []
front-at [] i row at = absurd (cc)
front-at (other ∷ rows) zero row at = ap (λ (r : List ℕ). r ∷ []) (some-is other row at)
front-at (other ∷ rows) (suc i) row at =
    let e : suc i + 1 ≡ suc (i + 1) = omega arith in
    ap (λ (n : ℕ). take n (other ∷ rows)) e ∙ ap (λ (l : List (List ℕ)). other ∷ l) (front-at rows i row at)

-- ---- keys as numbers

pub keys-append : (key : ℕ) (xs ys : List (List ℕ)) → AllKeys key xs → AllKeys key ys → AllKeys key (xs ++ ys)
keys-append key [] ys h k = k
keys-append key (row ∷ xs) ys h k = (h.0, keys-append key xs ys h.1 k)

ordered-behind : (key low : ℕ) (xs ys : List (List ℕ)) → Ordered key low (xs ++ ys) → Ordered key (top key low xs) ys
unfolding top
ordered-behind key low [] ys h = h
ordered-behind key low (row ∷ xs) ys h = ordered-behind key (number (take key row) + 1) xs ys h.1

top-room : (key low : ℕ) (rows : List (List ℕ)) → Ordered key low rows → low + length rows ≤ top key low rows
unfolding top
top-room key low [] h = omega arith
top-room key low (row ∷ rows) h =
    let rest : number (take key row) + 1 + length rows ≤ top key (number (take key row) + 1) rows = top-room key (number (take key row) + 1) rows h.1 in
    let low_is = h.0 in
    omega arith

pub top-most : (key low : ℕ) (rows : List (List ℕ)) → AllKeys key rows → low ≤ 256 ^ key → top key low rows ≤ 256 ^ key
unfolding top
top-most key low [] keys h = h
top-most key low (row ∷ rows) keys h =
    let small : number (take key row) < 256 ^ key = subst (λ (n : ℕ). number (take key row) < 256 ^ n) (keys.0).wide (number-lt (take key row) (keys.0).sound) in
    top-most key (number (take key row) + 1) rows keys.1 (omega (arith, small))

top-any : (key low other : ℕ) (rows : List (List ℕ)) → 1 ≤ length rows → top key low rows ≡ top key other rows
unfolding top
top-any key low other [] h = absurd (omega arith)
top-any key low other (row ∷ rows) h = refl

-- it grows from rows to those above them
pub top-grows : (key : ℕ) (xs ys : List (List ℕ)) → AllKeys key (xs ++ ys) → ascends (row_before key) (xs ++ ys) ≡ true → 1 ≤ length ys → top key 0 xs < top key 0 ys
top-grows key xs ys keys ascend some =
    let room = top-room key (top key 0 xs) ys (ordered-behind key 0 xs ys (pairs-order key (xs ++ ys) keys ascend)) in
    let same = top-any key (top key 0 xs) 0 ys some in
    omega (arith, room, same, some)

pub keys-left : (key : ℕ) (xs ys : List (List ℕ)) → AllKeys key (xs ++ ys) → AllKeys key xs
keys-left key [] ys h = tt
keys-left key (row ∷ xs) ys h = (h.0, keys-left key xs ys h.1)

top-append : (key low : ℕ) (xs ys : List (List ℕ)) → top key low (xs ++ ys) ≡ top key (top key low xs) ys
unfolding top
top-append key low [] ys = refl
top-append key low (row ∷ xs) ys = top-append key (number (take key row) + 1) xs ys

-- it grows with one row more, and from rows to the first of those above them
pub top-more : (key : ℕ) (rows : List (List ℕ)) (i : ℕ) (row : List ℕ) → AllKeys key rows → ascends (row_before key) rows ≡ true → slice_get rows i ≡ Some row
    → top key 0 (take i rows) < top key 0 (take (i + 1) rows)
top-more key rows i row keys ascend at =
    let whole : rows ≡ (take i rows ++ row ∷ []) ++ drop (i + 1) rows = parts-at rows i row at in
    let front = take i rows ++ row ∷ [] in
    let front_keys : AllKeys key front = keys-left key front (drop (i + 1) rows) (subst (AllKeys key) whole keys) in
    let front_ascend : ascends (row_before key) front ≡ true = pairs-left (row_before key) front (drop (i + 1) rows) (ap (ascends (row_before key)) (sym whole) ∙ ascend) in
    let grows = top-grows key (take i rows) (row ∷ []) front_keys front_ascend (omega arith) in
    let is : top key 0 front ≡ top key 0 (row ∷ []) = top-append key 0 (take i rows) (row ∷ []) ∙ top-any key (top key 0 (take i rows)) 0 (row ∷ []) (omega arith) in
    let same : take (i + 1) rows ≡ front = front-at rows i row at in
    subst (λ (n : ℕ). top key 0 (take i rows) < n) (sym (ap (top key 0) same ∙ is)) grows

pub top-next : (key : ℕ) (xs ys : List (List ℕ)) (row : List ℕ) → AllKeys key (xs ++ ys) → ascends (row_before key) (xs ++ ys) ≡ true → slice_get ys 0 ≡ Some row
    → top key 0 xs < top key 0 (take 1 ys)
top-next key xs ys row keys ascend at =
    let first : ys ≡ row ∷ drop 1 ys = first-of-rows ys row at in
    let whole : xs ++ ys ≡ (xs ++ row ∷ []) ++ drop 1 ys = ap (λ (l : List (List ℕ)). xs ++ l) first ∙ sym (append_assoc xs (row ∷ []) (drop 1 ys)) in
    let front = xs ++ row ∷ [] in
    let grows = top-grows key xs (row ∷ []) (keys-left key front (drop 1 ys) (subst (AllKeys key) whole keys))
    (pairs-left (row_before key) front (drop 1 ys) (ap (ascends (row_before key)) (sym whole) ∙ ascend)) (omega arith) in
    let same : take 1 ys ≡ row ∷ [] = ap (take 1) first in
    subst (λ (n : ℕ). top key 0 xs < n) (sym (ap (top key 0) same)) grows

-- so many rows are below a key at most
pub few-below : (key : ℕ) (sought : List ℕ) (rows : List (List ℕ)) → length sought ≡ key → IsBytes sought → AllKeys key rows → ascends (row_before key) rows ≡ true
    → list_all (λ row. row_before key row sought) rows ≡ true → length rows < 256 ^ key
few-below key sought rows wide sound keys ascend below =
    let t : List ℕ → List ℕ → Bool = row_before key in
    let whole : AllKeys key (rows ++ sought ∷ []) = keys-append key rows (sought ∷ []) keys (record { wide = length-take-le key sought (omega (arith, wide)); sound = bytes-take key sought sound }, tt) in
    let order : ascends t (rows ++ sought ∷ []) ≡ true =
    pairs-append t rows (sought ∷ []) ascend refl (all-weaken (λ r. t r sought) (λ r. list_all (t r) (sought ∷ [])) (λ r h. both (t r sought) true h refl) rows below) in
    let room = ordered-room key 0 (rows ++ sought ∷ []) whole (omega arith) (pairs-order key (rows ++ sought ∷ []) whole order) in
    let size = length-append rows (sought ∷ []) in
    omega (arith, room, size)

-- and so many at all
pub few-rows : (key : ℕ) (rows : List (List ℕ)) → AllKeys key rows → ascends (row_before key) rows ≡ true → length rows ≤ 256 ^ key
few-rows key rows keys ascend = let room = ordered-room key 0 rows keys (omega arith) (pairs-order key rows keys ascend) in omega (arith, room)

-- ---- keys that were compared

pub lt-is : (a b : List ℕ) → is_some_and is_lt (slice_partial_cmp (λ x y. Some (nat_cmp x y)) a b) ≡ is_lt (slice_cmp nat_cmp a b)
lt-is a b = ap (is_some_and is_lt) (lists_agrees {R = nat_cmp} {C = λ x y. Some (nat_cmp x y)} (λ x y. refl) a b)

pub ge-is : (a b : List ℕ) → is_some_and is_ge (slice_partial_cmp (λ x y. Some (nat_cmp x y)) a b) ≡ not (is_lt (slice_cmp nat_cmp a b))
ge-is a b = ap (is_some_and is_ge) (lists_agrees {R = nat_cmp} {C = λ x y. Some (nat_cmp x y)} (λ x y. refl) a b) ∙ ge-not (slice_cmp nat_cmp a b)
  where
    ge-not : (o : Ordering) → is_ge o ≡ not (is_lt o)
    ge-not Less = refl
    ge-not Equal = refl
    ge-not Greater = refl

-- the row at an index has a key
abbrev pub KeyAt : ℕ → List (List ℕ) → ℕ → List ℕ → Type 0
KeyAt key rows index bytes = (row : List ℕ) × (slice_get rows index ≡ Some row) × (bytes ≡ take key row) × (length bytes ≡ key)

-- two lists of rows ascend in a row where the last key of one is below the first one of the other
pub above-from : (key : ℕ) (xs ys : List (List ℕ)) (a b : List ℕ) (i : ℕ) (got : Bool) → got ≡ is_lt (slice_cmp nat_cmp a b) → KeyAt key xs i a → KeyAt key ys 0 b → length xs ≤ i + 1
    → ascends (row_before key) xs ≡ true → ascends (row_before key) ys ≡ true → (got ≡ true → ascends (row_before key) (xs ++ ys) ≡ true) × (ascends (row_before key) (xs ++ ys) ≡ true → got ≡ true)
above-from key xs ys a b i got e at first end h k =
    let t : List ℕ → List ℕ → Bool = row_before key in
    let x = at.0 in
    let y = first.0 in
    let last_is : xs ≡ take i xs ++ x ∷ [] = last-of xs i x at.1 end in
    let first_is : ys ≡ y ∷ drop 1 ys = first-of-rows ys y first.1 in
    let got_is : got ≡ t x y = e ∙ ap (λ (l : List ℕ). is_lt (slice_cmp nat_cmp l b)) at.2 ∙ ap (λ (l : List ℕ). is_lt (slice_cmp nat_cmp (take key x) l)) first.2 in
    let both_are : ascends t (xs ++ ys) ≡ ascends t ((take i xs ++ x ∷ []) ++ y ∷ drop 1 ys) =
    ap (λ (l : List (List ℕ)). ascends t (l ++ ys)) last_is ∙ ap (λ (l : List (List ℕ)). ascends t ((take i xs ++ x ∷ []) ++ l)) first_is in (
      λ l. both_are ∙ ascend-over key (take i xs) x y (drop 1 ys) (sym (ap (ascends t) last_is) ∙ h) (sym (ap (ascends t) first_is) ∙ k) (sym got_is ∙ l),
      λ l. got_is ∙ over-ascend key (take i xs) x y (drop 1 ys) (sym both_are ∙ l),
    )

not-not : (b : Bool) → not b ≡ false → b ≡ true
not-not true e = refl
not-not false e = sym e

-- some row isn't below a key where the last one isn't, else all are
pub up-to-last : (key : ℕ) (rows : List (List ℕ)) (a sought : List ℕ) (i : ℕ) (got : Bool) → got ≡ not (is_lt (slice_cmp nat_cmp a sought)) → KeyAt key rows i a → length rows ≤ i + 1
    → length sought ≡ key → ascends (row_before key) rows ≡ true → (got ≡ true → list_any (λ row. not (row_before key row sought)) rows ≡ true) × (got ≡ false → list_all (λ row. row_before key row sought) rows ≡ true)
up-to-last key rows a sought i got e at end wide h =
    let t : List ℕ → List ℕ → Bool = row_before key in
    let x = at.0 in
    let last_is : rows ≡ take i rows ++ x ∷ [] = last-of rows i x at.1 end in
    let whole : sought ≡ take key sought = sym (ap (λ (n : ℕ). take n sought) (sym wide) ∙ take-length sought) in
    let got_is : got ≡ not (t x sought) = e ∙ ap (λ (l : List ℕ). not (is_lt (slice_cmp nat_cmp l sought))) at.2 ∙ ap (λ (l : List ℕ). not (is_lt (slice_cmp nat_cmp (take key x) l))) whole in (
      λ l. ap (list_any (λ row. not (t row sought))) last_is ∙ some-last (λ row. not (t row sought)) (take i rows) x (sym got_is ∙ l),
      λ l. ap (list_all (λ row. t row sought)) last_is ∙ all-below-last key sought (take i rows) x (sym (ap (ascends t) last_is) ∙ h) (not-not (t x sought) (sym got_is ∙ l)),
    )
