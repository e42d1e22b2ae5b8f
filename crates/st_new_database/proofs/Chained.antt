-- A chain of pages, page by page.
use Rattle.std.proofs.Common.{◌≡◌, ℕ, zero, suc, ◌+◌, ◌-◌, ◌*◌, ◌/◌, ◌^◌, ◌<◌, ◌≤◌, List, [], ◌∷◌, ◌++◌, length, take, drop, flat_map, refl, sym, ap, ◌∙◌, arith, add-one, append_assoc}
use Rattle.std.proofs.lemmas.List.{length-append, length-drop, length-take-le, take_all}
use Rattle.std.specs.List.{range_with_len}
use Rattle.st_image.specs.Fields.{pieces}
use Rattle.st_pages.specs.Attempt.{page_count}
use Rattle.st_image.proofs.Laid.{length-pieces}
use Rattle.st_new_database.specs.New.{page_bytes, pages_for, page_behind, chain_pages, chain_of, schema_chain, roots_chain, both_chains, root, root_bytes, roots_of}

one-page : (n : ℕ) → n ≤ 4080 → pages_for n ≡ 1
one-page n h = omega arith

more-pages : (n m : ℕ) → 4080 < n → m ≡ n - 4080 → pages_for n ≡ suc (pages_for m)
more-pages n m h e = omega arith

-- a chain of at most one piece
pub chain-short : (kind unit second : ℕ) (bytes : List ℕ) → length bytes ≤ 4080 → chain_of kind unit second bytes ≡ page_bytes kind (length bytes / unit) 0 bytes ∷ []
unfolding chain_of
chain-short kind unit second bytes h =
    ap (λ (n : ℕ). chain_pages kind unit second (pieces n 4080 bytes)) (one-page (length bytes) h)
    ∙ ap (λ (p : List ℕ). page_bytes kind (length p / unit) 0 p ∷ []) (take_all 4080 bytes h)

some-pages : (n : ℕ) → pages_for n ≡ suc ((n - 1) / 4080)
some-pages n = omega arith

-- a chain of more: a full page, and the rest
pub chain-long : (kind unit second : ℕ) (bytes : List ℕ) → 4080 < length bytes
    → chain_of kind unit second bytes ≡ page_bytes kind (4080 / unit) second (take 4080 bytes) ∷ chain_of kind unit (second + 1) (drop 4080 bytes)
unfolding chain_of
chain-long kind unit second bytes h =
    let rest : ℕ → List (List ℕ) = λ n. pieces n 4080 (drop 4080 bytes) in
    let behind : ℕ = pages_for (length (drop 4080 bytes)) in
    let next : page_behind second (rest behind) ≡ second = ap (λ (n : ℕ). page_behind second (rest n)) (some-pages (length (drop 4080 bytes))) in
    ap (λ (n : ℕ). chain_pages kind unit second (pieces n 4080 bytes)) (more-pages (length bytes) (length (drop 4080 bytes)) h (length-drop 4080 bytes))
    ∙ ap (λ (n : ℕ). page_bytes kind (length (take 4080 bytes) / unit) n (take 4080 bytes) ∷ chain_pages kind unit (second + 1) (rest behind)) next
    ∙ ap (λ (n : ℕ). page_bytes kind (n / unit) second (take 4080 bytes) ∷ chain_pages kind unit (second + 1) (rest behind)) (length-take-le 4080 bytes (omega arith))

chain-pages-length : (kind unit second : ℕ) (ps : List (List ℕ)) → length (chain_pages kind unit second ps) ≡ length ps
chain-pages-length kind unit second [] = refl
chain-pages-length kind unit second (p ∷ ps) = ap suc (chain-pages-length kind unit (second + 1) ps)

pub chain-length : (kind unit second : ℕ) (bytes : List ℕ) → length (chain_of kind unit second bytes) ≡ pages_for (length bytes)
unfolding chain_of
chain-length kind unit second bytes =
    chain-pages-length kind unit second (pieces (pages_for (length bytes)) 4080 bytes) ∙ length-pieces (pages_for (length bytes)) 4080 bytes

-- one more page is added, and the rest of the chain is left
pub pushed-more : (kind unit second : ℕ) (bytes page : List ℕ) (before whole : List (List ℕ)) → 4080 < length bytes → take 1 (chain_of kind unit second bytes) ≡ page ∷ []
    → before ++ chain_of kind unit second bytes ≡ whole → (before ++ page ∷ []) ++ chain_of kind unit (second + 1) (drop 4080 bytes) ≡ whole
pushed-more kind unit second bytes page before whole h front all =
    let e = chain-long kind unit second bytes h in
    let same : page_bytes kind (4080 / unit) second (take 4080 bytes) ≡ page = same-head (sym (ap (take 1) e) ∙ front) in
    append_assoc before (page ∷ []) (chain_of kind unit (second + 1) (drop 4080 bytes))
    ∙ ap (λ (p : List ℕ). before ++ p ∷ chain_of kind unit (second + 1) (drop 4080 bytes)) (sym same)
    ∙ ap (λ (ps : List (List ℕ)). before ++ ps) (sym e) ∙ all
  where
    same-head : {p q : List ℕ} → p ∷ [] ≡ q ∷ [] → p ≡ q
    same-head e = cc

-- the last page is added
pub pushed-last : (kind unit second : ℕ) (bytes page : List ℕ) (before whole : List (List ℕ)) → length bytes ≤ 4080 → take 1 (chain_of kind unit second bytes) ≡ page ∷ []
    → before ++ chain_of kind unit second bytes ≡ whole → before ++ page ∷ [] ≡ whole
pushed-last kind unit second bytes page before whole h front all =
    let e = chain-short kind unit second bytes h in
    ap (λ (ps : List (List ℕ)). before ++ ps) (sym front ∙ ap (take 1) e ∙ sym e) ∙ all

pub others-none : (kind unit second : ℕ) (bytes : List ℕ) → length bytes ≤ 4080 → drop 1 (chain_of kind unit second bytes) ≡ []
others-none kind unit second bytes h = ap (drop 1) (chain-short kind unit second bytes h)

pub others-more : (kind unit second : ℕ) (bytes : List ℕ) → 4080 < length bytes → drop 1 (chain_of kind unit second bytes) ≡ chain_of kind unit (second + 1) (drop 4080 bytes)
others-more kind unit second bytes h = ap (drop 1) (chain-long kind unit second bytes h)

pub range-more : (a n : ℕ) → range_with_len a (n + 1) ≡ range_with_len a n ++ (a + n) ∷ []
range-more a n = rw add-one (go a n)
  where
    go : (a n : ℕ) → range_with_len a (suc n) ≡ range_with_len a n ++ (a + n) ∷ []
    go a zero = ap (λ (k : ℕ). k ∷ []) (omega arith)
    go a (suc n) = ap (λ (ns : List ℕ). a ∷ ns) (go (a + 1) n ∙ ap (λ (k : ℕ). range_with_len (a + 1) n ++ k ∷ []) (omega arith))

-- how many pages both chains have at most
pub both-length : (schema roots : List ℕ) → length (both_chains schema roots) ≤ pages_for (length schema) + pages_for (length roots) + 1
both-length schema roots =
    let chain : List (List ℕ) = roots_chain (pages_for (length schema)) roots in
    let one : length (take 1 chain) ≤ 1 = at-most-one chain in
    omega (
      arith,
      one,
      length-append (take 1 chain ++ schema_chain schema) (drop 1 chain),
      length-append (take 1 chain) (schema_chain schema),
      length-drop 1 chain,
      chain-length 5 8 (pages_for (length schema) + 1) roots,
      chain-length 1 1 2 schema,
    )
  where
    at-most-one : (xs : List (List ℕ)) → length (take 1 xs) ≤ 1
    at-most-one [] = omega arith
    at-most-one (x ∷ xs) = omega arith

-- how many bytes roots have at most
pub roots-length : (stores firsts : List ℕ) → length (flat_map root_bytes (roots_of stores firsts)) ≤ 8 * length stores
roots-length [] firsts = omega arith
roots-length (s ∷ stores) [] = omega arith
roots-length (s ∷ stores) (f ∷ firsts) =
    omega (arith, length-append (root_bytes (root s f)) (flat_map root_bytes (roots_of stores firsts)), roots-length stores firsts)

pub few-pages : (schema stores firsts : List ℕ) (old new : List (List ℕ)) → old ≡ [] → new ≡ old ++ both_chains schema (flat_map root_bytes (roots_of stores firsts))
    → length schema ≤ 1049350 → length stores ≤ 66560 → length new < 2 ^ 32
few-pages schema stores firsts old new e f h k =
    omega (
      arith,
      ap length e,
      ap length f,
      length-append old (both_chains schema (flat_map root_bytes (roots_of stores firsts))),
      both-length schema (flat_map root_bytes (roots_of stores firsts)),
      roots-length stores firsts,
    )

-- a chain has no more pages than there are
pub within-pages : (n : ℕ) → n ≤ 65536 → n ≤ page_count
unfolding page_count
within-pages n h = h
