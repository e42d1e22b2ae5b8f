-- A page that is full, and a row more, become two pages.
use Rattle.std.proofs.Common.{◌≡◌, ℕ, zero, suc, ◌+◌, ◌-◌, ◌*◌, ◌/◌, ◌<◌, ◌≤◌, List, [], ◌∷◌, ◌++◌, length, take, drop, refl, sym, ap, ◌∙◌, arith}
use Rattle.std.proofs.Math.Nat.{mul-le-mul_right}
use Rattle.std.proofs.lemmas.List.{append_assoc, length-append, length-drop, length-take-le, take-append-drop, take-take}
use Rattle.st_image.specs.Fields.{count_of, rows_of, body_of}
use Rattle.st_image.proofs.Laid.{length-pieces}
use Rattle.st_page_rows.specs.PageRows.{Laid, SameHead, IsSibling}
use Rattle.st_chain.specs.Changes.{IsParted}

pub rows-length : (width : ℕ) (page : List ℕ) → length (rows_of width page) ≡ count_of page
rows-length width page = length-pieces (count_of page) width (body_of page)

-- where a full page is cut: each part has room for a row more
pub record IsCut (width count index cut : ℕ) : Type 0 where
  pub within : cut ≤ count
  pub some : 1 ≤ cut
  pub front : index < cut → (cut + 1) * width ≤ 4080
  pub behind : cut ≤ index → (count - cut + 1) * width ≤ 4080
  pub rest : index < cut → cut < count

-- a full page has some rows
many : (width count : ℕ) → width ≤ 1000 → 4080 < (count + 1) * width → 4 ≤ count
many width zero short full = absurd (omega arith)
many width (suc zero) short full = absurd (omega arith)
many width (suc (suc zero)) short full = absurd (omega arith)
many width (suc (suc (suc zero))) short full = absurd (omega arith)
many width (suc (suc (suc (suc n)))) short full = omega arith

pub cut-whole : (width count index cut : ℕ) → width ≤ 1000 → count * width ≤ 4080 → 4080 < (count + 1) * width → index ≡ count → cut ≡ count → IsCut width count index cut
cut-whole width count index cut short room full at is =
    let four : 4 ≤ count = many width count short full in
    record {
      within = omega arith;
      some = omega arith;
      front = λ h. absurd (omega arith);
      behind = λ h. let one : (count - cut + 1) * width ≡ 1 * width = ap (λ (n : ℕ). n * width) {x = count - cut + 1} {y = 1} (omega arith) in omega arith;
      rest = λ h. absurd (omega arith);
    }

pub cut-half : (width count index cut : ℕ) → width ≤ 1000 → count * width ≤ 4080 → 4080 < (count + 1) * width → cut ≡ count / 2 → IsCut width count index cut
cut-half width count index cut short room full is =
    let four : 4 ≤ count = many width count short full in
    record {
      within = omega arith;
      some = omega arith;
      front = λ h. let up : (cut + 1) * width ≤ count * width = mul-le-mul_right {m = cut + 1} {n = count} width (omega arith) in omega arith;
      behind = λ h. let up : (count - cut + 1) * width ≤ count * width = mul-le-mul_right {m = count - cut + 1} {n = count} width (omega arith) in omega arith;
      rest = λ h. omega arith;
    }

-- ---- the rows of both

rest-behind : {X : Type 0} (i c : ℕ) (xs : List X) → i ≤ c → drop i (take c xs) ++ drop c xs ≡ drop i xs
rest-behind zero c xs h = take-append-drop c xs
rest-behind (suc i) zero xs h = absurd (omega arith)
rest-behind (suc i) (suc c) [] h = refl
rest-behind (suc i) (suc c) (x ∷ xs) h = rest-behind i c xs (omega arith)

rows-front : {X : Type 0} (i c : ℕ) (xs : List X) (x : X) → i ≤ c → (take i (take c xs) ++ x ∷ drop i (take c xs)) ++ drop c xs ≡ take i xs ++ x ∷ drop i xs
rows-front i c xs x h =
    append_assoc (take i (take c xs)) (x ∷ drop i (take c xs)) (drop c xs)
    ∙ ap (λ ys. ys ++ x ∷ (drop i (take c xs) ++ drop c xs)) (take-take i c xs h)
    ∙ ap (λ ys. take i xs ++ x ∷ ys) (rest-behind i c xs h)

rows-behind : {X : Type 0} (c i d : ℕ) (xs : List X) (x : X) → c ≤ i → d ≡ i - c → take c xs ++ (take d (drop c xs) ++ x ∷ drop d (drop c xs)) ≡ take i xs ++ x ∷ drop i xs
rows-behind zero i d xs x h e = let same : d ≡ i = omega arith in ap (λ (n : ℕ). take n xs ++ x ∷ drop n xs) same
rows-behind (suc c) zero d xs x h e = absurd (omega arith)
rows-behind (suc c) (suc i) zero [] x h e = refl
rows-behind (suc c) (suc i) (suc d) [] x h e = refl
rows-behind (suc c) (suc i) d (y ∷ ys) x h e = ap (λ zs. y ∷ zs) (rows-behind c i d ys x (omega arith) (omega arith))

-- ---- both pages

same-then : (page mid new : List ℕ) → SameHead page mid → SameHead mid new → SameHead page new
same-then page mid new h k = record {
  kind = k.kind ∙ h.kind;
  spare = k.spare ∙ h.spare;
  store = k.store ∙ h.store;
  next = k.next ∙ h.next;
  serial = k.serial ∙ h.serial;
}

sibling-then : (page mid new : List ℕ) → IsSibling page mid → SameHead mid new → IsSibling page new
sibling-then page mid new h k = record {
  kind = k.kind ∙ h.kind;
  spare = k.spare ∙ h.spare;
  store = k.store ∙ h.store;
  next = k.next ∙ h.next;
  serial = k.serial ∙ h.serial;
}

-- how many rows a page has, by the list of them
count-by : (width : ℕ) (page : List ℕ) (rows : List (List ℕ)) → rows_of width page ≡ rows → count_of page ≡ length rows
count-by width page rows e = sym (rows-length width page) ∙ ap length e

grown : {X : Type 0} (xs ys : List X) (x : X) → 1 ≤ length (xs ++ x ∷ ys)
grown xs ys x = let e : length (xs ++ x ∷ ys) ≡ length xs + length (x ∷ ys) = length-append xs (x ∷ ys) in let up : length (x ∷ ys) ≡ suc (length ys) = refl in omega arith

pub count-front : (width count cut : ℕ) (page mid : List ℕ) → count ≡ count_of page → cut ≤ count → rows_of width mid ≡ take cut (rows_of width page) → count_of mid ≡ cut
count-front width count cut page mid is within rows =
    let all : length (rows_of width page) ≡ count_of page = rows-length width page in
    count-by width mid (take cut (rows_of width page)) rows ∙ length-take-le cut (rows_of width page) (omega arith)

pub count-behind : (width count cut : ℕ) (page mid : List ℕ) → count ≡ count_of page → rows_of width mid ≡ drop cut (rows_of width page) → count_of mid ≡ count - cut
count-behind width count cut page mid is rows =
    let all : length (rows_of width page) ≡ count_of page = rows-length width page in
    let e : length (drop cut (rows_of width page)) ≡ length (rows_of width page) - cut = length-drop cut (rows_of width page) in
    count-by width mid (drop cut (rows_of width page)) rows ∙ omega arith

pub parted-front : (width index count cut : ℕ) (page mid other left row : List ℕ) → count ≡ count_of page → IsCut width count index cut → index < cut
    → SameHead page mid → rows_of width mid ≡ take cut (rows_of width page) → Laid width other → IsSibling page other → rows_of width other ≡ drop cut (rows_of width page)
    → Laid width left → SameHead mid left → rows_of width left ≡ take index (rows_of width mid) ++ row ∷ drop index (rows_of width mid)
    → IsParted width page left other (take index (rows_of width page) ++ row ∷ drop index (rows_of width page))
parted-front width index count cut page mid other left row is cuts lower mid_head mid_rows other_laid other_head other_rows left_laid left_head left_rows =
    let rows = rows_of width page in
    let more : 1 ≤ length (take index (rows_of width mid) ++ row ∷ drop index (rows_of width mid)) = grown (take index (rows_of width mid)) (drop index (rows_of width mid)) row in
    let some : count_of left ≡ length (take index (rows_of width mid) ++ row ∷ drop index (rows_of width mid)) = count-by width left _ left_rows in
    let other_some : count_of other ≡ count - cut = count-behind width count cut page other is other_rows in
    let rest : cut < count = cuts.rest lower in
    record {
      laid = left_laid;
      head = same-then page mid left mid_head left_head;
      some = omega arith;
      other_laid = other_laid;
      other_head = other_head;
      other_some = omega arith;
      lists =
          ap (λ (l : List (List ℕ)). l ++ rows_of width other) left_rows
          ∙ ap (λ (l : List (List ℕ)). (take index l ++ row ∷ drop index l) ++ rows_of width other) mid_rows
          ∙ ap (λ (l : List (List ℕ)). (take index (take cut rows) ++ row ∷ drop index (take cut rows)) ++ l) other_rows
          ∙ rows-front index cut rows row (omega arith);
    }

pub parted-behind : (width index count cut : ℕ) (page left mid right row : List ℕ) → count ≡ count_of page → IsCut width count index cut → cut ≤ index
    → Laid width left → SameHead page left → rows_of width left ≡ take cut (rows_of width page) → IsSibling page mid → rows_of width mid ≡ drop cut (rows_of width page)
    → Laid width right → SameHead mid right → rows_of width right ≡ take (index - cut) (rows_of width mid) ++ row ∷ drop (index - cut) (rows_of width mid)
    → IsParted width page left right (take index (rows_of width page) ++ row ∷ drop index (rows_of width page))
parted-behind width index count cut page left mid right row is cuts higher left_laid left_head left_rows mid_head mid_rows right_laid right_head right_rows =
    let rows = rows_of width page in
    let d : ℕ = index - cut in
    let more : 1 ≤ length (take d (rows_of width mid) ++ row ∷ drop d (rows_of width mid)) = grown (take d (rows_of width mid)) (drop d (rows_of width mid)) row in
    let other_some : count_of right ≡ length (take d (rows_of width mid) ++ row ∷ drop d (rows_of width mid)) = count-by width right _ right_rows in
    let some : count_of left ≡ cut = count-front width count cut page left is cuts.within left_rows in
    let least : 1 ≤ cut = cuts.some in
    record {
      laid = left_laid;
      head = left_head;
      some = omega arith;
      other_laid = right_laid;
      other_head = sibling-then page mid right mid_head right_head;
      other_some = omega arith;
      lists =
          ap (λ (l : List (List ℕ)). l ++ rows_of width right) left_rows
          ∙ ap (λ (l : List (List ℕ)). take cut rows ++ l) right_rows
          ∙ ap (λ (l : List (List ℕ)). take cut rows ++ (take d l ++ row ∷ drop d l)) mid_rows
          ∙ rows-behind cut index d rows row higher refl;
    }
