-- The chain of the roots' pages, and the roots in them.
use Rattle.std.proofs.Common.{◌≡◌, ℕ, zero, suc, ◌+◌, ◌-◌, ◌*◌, ◌/◌, ◌^◌, ◌<◌, ◌≤◌, List, [], ◌∷◌, ◌++◌, length, take, drop, flat_map, replicate, refl, sym, ap, subst, ◌∙◌, arith}
use Rattle.std.proofs.Math.Seq.{drop-append_seam}
use Rattle.std.proofs.lemmas.List.{length-append, length-drop, length-take, take-append-drop}
use Rattle.std.proofs.lemmas.List.Elements.{All-cons, All-nil}
use Rattle.std.specs.Prelude.{map}
use Rattle.std.specs.Int.{bytes_high_first}
use Rattle.std.specs.List.{All}
use Rattle.st_image.specs.declared.wanted.Wanted.TheVariants.{Roots}
use Rattle.st_image.specs.Bytes.{AreBlank, IsBytes, number}
use Rattle.st_image.specs.Fields.{pieces, body_of, rows_of}
use Rattle.st_image.specs.Grammar.{IsPage, AreEntries, roots_header}
use Rattle.st_image.proofs.Laid.{all-keys, length-pieces}
use Rattle.st_image.proofs.Numbers.{bytes-append, bytes-none}
use Rattle.st_image.proofs.Ordered.{Ordered, order-pairs}
use Rattle.st_image.proofs.RowParts.{spelled, spelled-bytes}
use Rattle.st_image.proofs.Zeros.{bytes-zeros}
use Rattle.st_pages.specs.Attempt.{Array}
use Rattle.st_pages.specs.Chains.{IsChain}
use Rattle.st_catalog.specs.declared.root.Root.{Root}
use Rattle.st_catalog.specs.Catalog.{root_of, roots_in}
use Rattle.st_new_database.specs.New.{root_bytes, page_bytes, pages_for, page_behind, chain_pages, chain_of}
use Rattle.st_new_database.proofs.Fields.{page-form, page-count, page-body, blank-filling}
use Rattle.st_new_database.proofs.Linked.{Stands, AllGood, linked}

-- the bytes of roots
abbrev pub bytes_of : List Root → List ℕ
bytes_of roots = flat_map root_bytes roots

-- stores ascend, from one on
abbrev pub Rises : ℕ → List Root → Type 0
Rises low [] = Unit {0}
Rises low (r ∷ roots) = (low ≤ r.store) × Rises (r.store + 1) roots

-- stores and pages have few enough bytes
abbrev pub AreSmall : List Root → Type 0
AreSmall [] = Unit {0}
AreSmall (r ∷ roots) = (r.store < 2 ^ 32) × (r.first < 65536) × AreSmall roots

-- a piece of the roots' bytes
pub record GoodRoots (piece : List ℕ) : Type 0 where
  pub roots : List Root
  pub spelled : piece ≡ bytes_of roots
  pub short : length roots ≤ 510
  pub rises : Rises 0 roots
  pub small : AreSmall roots

-- ---- the roots of a page

pub size-of : (roots : List Root) → length (bytes_of roots) ≡ 8 * length roots
size-of [] = refl
size-of (r ∷ roots) = omega (arith, length-append (root_bytes r) (bytes_of roots), size-of roots)

sound-of : (roots : List Root) → IsBytes (bytes_of roots)
sound-of [] = bytes-none
sound-of (r ∷ roots) =
    bytes-append (root_bytes r) (bytes_of roots) (bytes-append (bytes_high_first 4 r.store) (bytes_high_first 4 r.first) (spelled-bytes 4 r.store) (spelled-bytes 4 r.first)) (sound-of roots)

rows-are : (roots : List Root) (behind : List ℕ) → pieces (length roots) 8 (bytes_of roots ++ behind) ≡ map root_bytes roots
rows-are [] behind = refl
rows-are (r ∷ roots) behind = ap (λ (rows : List (List ℕ)). root_bytes r ∷ rows) (rows-are roots behind)

store-is : (r : Root) → r.store < 2 ^ 32 → number (take 4 (root_bytes r)) ≡ r.store
store-is r h = spelled 4 r.store (omega arith)

first-is : (r : Root) → r.first < 65536 → number (drop 4 (root_bytes r)) ≡ r.first
first-is r h = spelled 4 r.first (omega arith)

in-order : (low : ℕ) (roots : List Root) → Rises low roots → AreSmall roots → Ordered 4 low (map root_bytes roots)
in-order low [] h k = tt
in-order low (r ∷ roots) h k =
    let e : number (take 4 (root_bytes r)) ≡ r.store = store-is r k.0 in
    let above : low ≤ number (take 4 (root_bytes r)) = omega (arith, e, h.0) in
    (above, subst (λ (n : ℕ). Ordered 4 (n + 1) (map root_bytes roots)) (sym e) (in-order (r.store + 1) roots h.1 k.2))

low-pages : (roots : List Root) → AreSmall roots → All (λ (row : List ℕ). number (drop 4 row) < 65536) (map root_bytes roots)
low-pages [] k = All-nil (λ (row : List ℕ). number (drop 4 row) < 65536)
low-pages (r ∷ roots) k =
    let low : number (drop 4 (root_bytes r)) < 65536 = omega (arith, first-is r k.1, k.1) in
    All-cons (λ (row : List ℕ). number (drop 4 row) < 65536) (root_bytes r) (map root_bytes roots) low (low-pages roots k.2)

entries : (roots : List Root) (n : ℕ) → length roots ≤ 510 → Rises 0 roots → AreSmall roots → AreEntries 4 (length roots) (bytes_of roots ++ replicate n 0)
entries roots n short rises small =
    let body : List ℕ = bytes_of roots ++ replicate n 0 in
    let rows : pieces (length roots) 8 body ≡ map root_bytes roots = rows-are roots (replicate n 0) in
    let keys = all-keys 4 8 (length roots) body (omega arith) (omega (arith, length-append (bytes_of roots) (replicate n 0), size-of roots))
    (bytes-append (bytes_of roots) (replicate n 0) (sound-of roots) (bytes-zeros n)) in
    let ordered : Ordered 4 0 (pieces (length roots) 8 body) = subst (Ordered 4 0) (sym rows) (in-order 0 roots rises small) in
    let size : length roots * 8 ≡ length (bytes_of roots) = omega (arith, size-of roots) in
    record {
      rows = record {
        ascend = (order-pairs 4 0 (pieces (length roots) 8 body) keys ordered).0;
        behind = subst AreBlank (sym (ap (λ (k : ℕ). drop k body) size ∙ drop-append_seam (bytes_of roots) (replicate n 0))) (blank-filling n);
      };
      pages = subst (All (λ (row : List ℕ). number (drop 4 row) < 65536)) (sym rows) (low-pages roots small);
    }

eighth : (n m : ℕ) → n ≡ 8 * m → n / 8 ≡ m
eighth n m e = omega arith

roots-page : (piece : List ℕ) (next : ℕ) → GoodRoots piece → next < 65536 → IsPage Roots (page_bytes 5 (length piece / 8) next piece)
roots-page piece next good low =
    let roots : List Root = good.roots in
    let bytes : List ℕ = bytes_of roots in
    let size : length bytes ≡ 8 * length roots = size-of roots in
    let short : length roots ≤ 510 = good.short in
    let count : length bytes / 8 ≡ length roots = eighth (length bytes) (length roots) size in
    subst (λ (p : List ℕ). IsPage Roots (page_bytes 5 (length p / 8) next p)) (sym good.spelled)
    (subst (λ (n : ℕ). IsPage Roots (page_bytes 5 n next bytes)) (sym count)
    (page-form roots_header (AreEntries 4) 5 (length roots) next bytes refl refl refl (omega arith) (omega arith) (omega arith) (omega arith) low (omega arith) (sound-of roots)
    (entries roots (4080 - length bytes) short good.rises good.small)))

read-back : (roots : List Root) → AreSmall roots → map root_of (map root_bytes roots) ≡ roots
read-back [] h = refl
read-back (r ∷ roots) h =
    ap (λ (n : ℕ). record { store = n; first = number (drop 4 (root_bytes r)) } ∷ map root_of (map root_bytes roots)) (store-is r h.0)
    ∙ ap (λ (n : ℕ). record { store = r.store; first = n } ∷ map root_of (map root_bytes roots)) (first-is r h.1)
    ∙ ap (λ (rest : List Root). r ∷ rest) (read-back roots h.2)

page-roots : (next : ℕ) (piece : List ℕ) (roots : List Root) → piece ≡ bytes_of roots → length roots ≤ 510 → AreSmall roots → map root_of (rows_of 8 (page_bytes 5 (length piece / 8) next piece)) ≡ roots
page-roots next piece roots e short small =
    let bytes : List ℕ = bytes_of roots in
    let count : length bytes / 8 ≡ length roots = eighth (length bytes) (length roots) (size-of roots) in
    ap (λ (p : List ℕ). map root_of (rows_of 8 (page_bytes 5 (length p / 8) next p))) e
    ∙ ap (λ (n : ℕ). map root_of (rows_of 8 (page_bytes 5 n next bytes))) count
    ∙ ap (λ (n : ℕ). map root_of (pieces n 8 (body_of (page_bytes 5 (length roots) next bytes)))) (page-count 5 (length roots) next bytes (omega arith))
    ∙ ap (λ (body : List ℕ). map root_of (pieces (length roots) 8 body)) (page-body 5 (length roots) next bytes)
    ∙ ap (map root_of) (rows-are roots (replicate (4080 - length bytes) 0))
    ∙ read-back roots small

-- ---- the roots of a chain

eight-more : (n : ℕ) → 8 * suc n ≡ suc (suc (suc (suc (suc (suc (suc (suc (8 * n))))))))
eight-more n = omega arith

front-roots : (n : ℕ) (roots : List Root) → take (8 * n) (bytes_of roots) ≡ bytes_of (take n roots)
front-roots zero roots = refl
front-roots (suc n) [] = ap (λ (k : ℕ). take {A = ℕ} k []) (eight-more n)
front-roots (suc n) (r ∷ roots) = ap (λ (k : ℕ). take k (bytes_of (r ∷ roots))) (eight-more n) ∙ ap (λ (rest : List ℕ). root_bytes r ++ rest) (front-roots n roots)

back-roots : (n : ℕ) (roots : List Root) → drop (8 * n) (bytes_of roots) ≡ bytes_of (drop n roots)
back-roots zero roots = refl
back-roots (suc n) [] = ap (λ (k : ℕ). drop {A = ℕ} k []) (eight-more n)
back-roots (suc n) (r ∷ roots) = ap (λ (k : ℕ). drop k (bytes_of (r ∷ roots))) (eight-more n) ∙ back-roots n roots

rises-take : (low n : ℕ) (roots : List Root) → Rises low roots → Rises low (take n roots)
rises-take low zero roots h = tt
rises-take low (suc n) [] h = tt
rises-take low (suc n) (r ∷ roots) h = (h.0, rises-take (r.store + 1) n roots h.1)

rises-less : (low : ℕ) (roots : List Root) → Rises low roots → Rises 0 roots
rises-less low [] h = tt
rises-less low (r ∷ roots) h = (omega arith, h.1)

rises-drop : (low n : ℕ) (roots : List Root) → Rises low roots → Rises 0 (drop n roots)
rises-drop low zero roots h = rises-less low roots h
rises-drop low (suc n) [] h = tt
rises-drop low (suc n) (r ∷ roots) h = rises-drop (r.store + 1) n roots h.1

small-take : (n : ℕ) (roots : List Root) → AreSmall roots → AreSmall (take n roots)
small-take zero roots h = tt
small-take (suc n) [] h = tt
small-take (suc n) (r ∷ roots) h = (h.0, h.1, small-take n roots h.2)

small-drop : (n : ℕ) (roots : List Root) → AreSmall roots → AreSmall (drop n roots)
small-drop zero roots h = h
small-drop (suc n) [] h = tt
small-drop (suc n) (r ∷ roots) h = small-drop n roots h.2

roots-good : (n : ℕ) (roots : List Root) → Rises 0 roots → AreSmall roots → AllGood GoodRoots (pieces n 4080 (bytes_of roots))
roots-good zero roots h k = tt
roots-good (suc n) roots h k = (
  record { roots = take 510 roots; spelled = front-roots 510 roots; short = omega (arith, length-take 510 roots); rises = rises-take 0 510 roots h; small = small-take 510 roots k },
  subst (λ (bytes : List ℕ). AllGood GoodRoots (pieces n 4080 bytes)) (sym (back-roots 510 roots)) (roots-good n (drop 510 roots) (rises-drop 0 510 roots h) (small-drop 510 roots k)),
)

no-roots : (roots : List Root) → length roots ≤ 0 → [] ≡ roots
no-roots [] h = refl
no-roots (r ∷ roots) h = absurd (omega arith)

roots-read : (n second : ℕ) (roots : List Root) → AreSmall roots → length roots ≤ n * 510 → roots_in (chain_pages 5 8 second (pieces n 4080 (bytes_of roots))) ≡ roots
roots-read zero second roots k h = no-roots roots (omega arith)
roots-read (suc n) second roots k h =
    let bytes : List ℕ = bytes_of roots in
    let rest : List (List ℕ) = pieces n 4080 (drop 4080 bytes) in
    let next : ℕ = page_behind second rest in
    let few : length (take 510 roots) ≤ 510 = omega (arith, length-take 510 roots) in
    ap (λ (rs : List Root). rs ++ roots_in (chain_pages 5 8 (second + 1) rest)) (page-roots next (take 4080 bytes) (take 510 roots) (front-roots 510 roots) few (small-take 510 roots k))
    ∙ ap (λ (b : List ℕ). take 510 roots ++ roots_in (chain_pages 5 8 (second + 1) (pieces n 4080 b))) (back-roots 510 roots)
    ∙ ap (λ (rs : List Root). take 510 roots ++ rs) (roots-read n (second + 1) (drop 510 roots) (small-drop 510 roots k) (omega (arith, length-drop 510 roots)))
    ∙ take-append-drop 510 roots

-- what is known of a chain of roots
pub record ChainOfRoots (pages : Array) (roots : List Root) (images : List (List ℕ)) : Type 0 where
  pub chain : IsChain Roots pages 0 images
  pub roots_are : roots_in images ≡ roots

pub rooted : (pages : Array) (second : ℕ) (roots : List Root) → 0 < second → second ≤ 300 → length roots ≤ 2000 → Rises 0 roots → AreSmall roots
    → Stands pages 0 (take 1 (chain_of 5 8 second (bytes_of roots))) → Stands pages second (drop 1 (chain_of 5 8 second (bytes_of roots))) → ChainOfRoots pages roots (chain_of 5 8 second (bytes_of roots))
unfolding chain_of
rooted pages second roots some low few rises small first rest =
    let bytes : List ℕ = bytes_of roots in
    let size : length bytes ≡ 8 * length roots = size-of roots in
    let n : ℕ = (length bytes - 1) / 4080 in
    let count : pages_for (length bytes) ≡ suc n = omega arith in
    let e : chain_of 5 8 second bytes ≡ chain_pages 5 8 second (pieces (suc n) 4080 bytes) = ap (λ (k : ℕ). chain_pages 5 8 second (pieces k 4080 bytes)) count in
    let good : AllGood GoodRoots (pieces (suc n) 4080 bytes) = roots-good (suc n) roots rises small in
    record {
      chain = linked Roots GoodRoots 5 8 roots-page pages 0 second (take 4080 bytes) (pieces n 4080 (drop 4080 bytes)) some (omega (arith, length-pieces n 4080 (drop 4080 bytes))) good.0 good.1
          (chain_of 5 8 second bytes) e first rest;
      roots_are = ap roots_in e ∙ roots-read (suc n) second roots small (omega arith);
    }
