-- What the checks of a whole page find.
use Rattle.std.proofs.Common.{◌≡◌, ℕ, ◌+◌, ◌-◌, ◌*◌, ◌^◌, ◌<◌, ◌≤◌, Bool, List, length, take, drop, replicate, refl, sym, ap, subst, ◌∙◌, arith}
use Rattle.std.proofs.lemmas.List.{length-drop, length-replicate, length-take-le, take_rest}
use Rattle.st_image.specs.Bytes.{IsBytes}
use Rattle.st_image.specs.Parts.{Field, Free, IsHead, IsText, Rows, Seq, counted}
use Rattle.st_image.specs.Prefixes.{IsFirstWrong}
use Rattle.st_image.proofs.Forms.{counted-front, head-wide}
use Rattle.st_image.proofs.Numbers.{bytes-take}
use Rattle.st_image.proofs.RowParts.{rows-some}
use Rattle.st_image.proofs.Wrong.{Some, seq-some, wrong-front, wrong-rest}
use Rattle.st_image.proofs.Zeros.{bytes-zeros, zero-field}

-- a page by its front and its body
abbrev pub Page : ℕ → ℕ → ℕ → ℕ → ℕ → ℕ → (ℕ → List ℕ → Type 0) → List ℕ → Type 0
Page kind least most store next last Body = Seq 16 (IsHead kind least most store next last) (λ head. Body (counted head))

pub count-most : (kind least most store next last : ℕ) (page : List ℕ) → IsHead kind least most store next last (take 16 page) → counted page ≤ most
count-most kind least most store next last page h =
    let e = counted-front page in
    omega (arith, e, ((h.rest).front).most)

pub front-wrong : (kind least most store next last : ℕ) (Body : ℕ → List ℕ → Type 0) → ((n : ℕ) → n ≤ most → Some (Body n)) → (page : List ℕ) (place : ℕ) → length page ≡ 4096
    → (place < length (take 16 page)) × IsFirstWrong (IsHead kind least most store next last) (take 16 page) place → (place < length page) × IsFirstWrong (Page kind least most store next last Body) page place
front-wrong kind least most store next last Body some page place size h =
    let wide : length (take 16 page) ≡ 16 = length-take-le 16 page (omega arith) in
    let inside : place < 16 = omega (arith, h.0, wide) in
    (omega arith, wrong-front 16 (IsHead kind least most store next last) (λ head. Body (counted head)) page place (head-wide kind least most store next last) (λ head f. some (counted head) ((f.rest).front).most) inside h.1)

pub body-wrong : (kind least most store next last : ℕ) (Body : ℕ → List ℕ → Type 0) (page : List ℕ) (n place : ℕ) → length page ≡ 4096 → n ≡ counted page → IsHead kind least most store next last (take 16 page)
    → (place < length (take (length page - 16) (drop 16 page))) × IsFirstWrong (Body n) (take (length page - 16) (drop 16 page)) place
    → (16 + place < length page) × IsFirstWrong (Page kind least most store next last Body) page (16 + place)
body-wrong kind least most store next last Body page n place size e head h =
    let rest = take_rest page 16 in
    let count : n ≡ counted (take 16 page) = e ∙ sym (counted-front page) in
    let inside : place < length (drop 16 page) = subst (λ (xs : List ℕ). place < length xs) rest h.0 in
    let wrong : IsFirstWrong (Body n) (drop 16 page) place = subst (λ (xs : List ℕ). IsFirstWrong (Body n) xs place) rest h.1 in
    (omega (arith, inside, length-drop 16 page), wrong-rest 16 (IsHead kind least most store next last) (λ f. Body (counted f)) page place (omega arith) head (subst (λ (k : ℕ). IsFirstWrong (Body k) (drop 16 page) place) count wrong))

pub page-right : (kind least most store next last : ℕ) (Body : ℕ → List ℕ → Type 0) (page : List ℕ) (n : ℕ) → n ≡ counted page → IsHead kind least most store next last (take 16 page)
    → Body n (take (length page - 16) (drop 16 page)) → Page kind least most store next last Body page
page-right kind least most store next last Body page n e head h =
    let count : n ≡ counted (take 16 page) = e ∙ sym (counted-front page) in
    record { front = head; rest = subst (λ (k : ℕ). Body k (drop 16 page)) count (subst (Body n) (take_rest page 16) h) }

pub rows-body-some : (child : Bool) (key width : ℕ) (first : Bool) (most n : ℕ) → key ≤ width → most ≤ 256 ^ key → n ≤ most → Some (Rows child key width (4080 - n * width) first n 0)
rows-body-some child key width first most n within keys h =
    rows-some child key width (4080 - n * width) first n 0 within (omega arith) (λ e. refl)

pub body-size : (page : List ℕ) → length page ≡ 4096 → length (take (length page - 16) (drop 16 page)) ≡ 4080
body-size page h = ap length (take_rest page 16) ∙ omega (arith, length-drop 16 page)

-- ---- text

pub text-some : (n : ℕ) → n ≤ 4080 → Some (IsText n)
text-some n h = seq-some n (Free n) (λ _. Field (4080 - n) 0 0) (λ a f. f.wide)
    (record { bytes = replicate n 0; has = record { wide = length-replicate n 0; sound = bytes-zeros n } })
    (λ a f. record { bytes = replicate (4080 - n) 0; has = zero-field (4080 - n) (replicate (4080 - n) 0) refl })

text-front : (n : ℕ) (body : List ℕ) → n ≤ length body → IsBytes body → Free n (take n body)
text-front n body h sound = record { wide = length-take-le n body h; sound = bytes-take n body sound }

text-size : (n : ℕ) (body : List ℕ) → length body ≡ 4080 → length (drop n body) ≡ 4080 - n
text-size n body h = omega (arith, length-drop n body)

pub text-wrong : (n place : ℕ) (body : List ℕ) → length body ≡ 4080 → n ≤ length body → IsBytes body
    → (place < length (take (length body - n) (drop n body))) × IsFirstWrong (Field (length (take (length body - n) (drop n body))) 0 0) (take (length body - n) (drop n body)) place
    → (n + place < length body) × IsFirstWrong (IsText n) body (n + place)
text-wrong n place body size room sound h =
    let rest = take_rest body n in
    let inside : place < length (drop n body) = subst (λ (xs : List ℕ). place < length xs) rest h.0 in
    let wrong : IsFirstWrong (Field (length (drop n body)) 0 0) (drop n body) place = subst (λ (xs : List ℕ). IsFirstWrong (Field (length xs) 0 0) xs place) rest h.1 in
    (omega (arith, inside, length-drop n body), wrong-rest n (Free n) (λ _. Field (4080 - n) 0 0) body place room (text-front n body room sound) (subst (λ (w : ℕ). IsFirstWrong (Field w 0 0) (drop n body) place) (text-size n body size) wrong))

pub text-right : (n : ℕ) (body : List ℕ) → length body ≡ 4080 → n ≤ length body → IsBytes body
    → Field (length (take (length body - n) (drop n body))) 0 0 (take (length body - n) (drop n body)) → IsText n body
text-right n body size room sound h =
    let zeros : Field (length (drop n body)) 0 0 (drop n body) = subst (λ (xs : List ℕ). Field (length xs) 0 0 xs) (take_rest body n) h in
    record { front = text-front n body room sound; rest = subst (λ (w : ℕ). Field w 0 0 (drop n body)) (text-size n body size) zeros }

-- the rows of a page's body, whose length is known
pub rows-body-wrong : (kind least most store next last : ℕ) (child : Bool) (key width : ℕ) (first : Bool) (page : List ℕ) (n place : ℕ) → length page ≡ 4096 → n ≡ counted page → IsHead kind least most store next last (take 16 page)
    → (place < length (take (length page - 16) (drop 16 page))) × IsFirstWrong (Rows child key width (length (take (length page - 16) (drop 16 page)) - n * width) first n 0) (take (length page - 16) (drop 16 page)) place
    → (16 + place < length page) × IsFirstWrong (Page kind least most store next last (λ m. Rows child key width (4080 - m * width) first m 0)) page (16 + place)
rows-body-wrong kind least most store next last child key width first page n place size e head h =
    body-wrong kind least most store next last (λ m. Rows child key width (4080 - m * width) first m 0) page n place size e head
    (h.0, subst (λ (w : ℕ). IsFirstWrong (Rows child key width (w - n * width) first n 0) (take (length page - 16) (drop 16 page)) place) (body-size page size) h.1)

pub rows-body-right : (kind least most store next last : ℕ) (child : Bool) (key width : ℕ) (first : Bool) (page : List ℕ) (n : ℕ) → length page ≡ 4096 → n ≡ counted page → IsHead kind least most store next last (take 16 page)
    → Rows child key width (length (take (length page - 16) (drop 16 page)) - n * width) first n 0 (take (length page - 16) (drop 16 page))
    → Page kind least most store next last (λ m. Rows child key width (4080 - m * width) first m 0) page
rows-body-right kind least most store next last child key width first page n size e head h =
    page-right kind least most store next last (λ m. Rows child key width (4080 - m * width) first m 0) page n e head
    (subst (λ (w : ℕ). Rows child key width (w - n * width) first n 0 (take (length page - 16) (drop 16 page))) (body-size page size) h)
