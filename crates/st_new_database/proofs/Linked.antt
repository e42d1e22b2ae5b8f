-- The pages of a chain are a chain, where they stand.
use Rattle.std.proofs.Common.{◌≡◌, ℕ, suc, ◌+◌, ◌/◌, ◌<◌, ◌≤◌, List, [], ◌∷◌, ◌++◌, length, take, drop, Some, refl, sym, ap, subst, ◌∙◌, arith}
use Rattle.std.specs.Prelude.{slice_get}
use Rattle.st_image.specs.declared.wanted.Wanted.{Wanted}
use Rattle.st_image.specs.Fields.{next_of}
use Rattle.st_image.specs.Grammar.{IsPage}
use Rattle.st_pages.specs.Attempt.{Array}
use Rattle.st_pages.specs.Chains.{IsChain}
use Rattle.st_new_database.specs.New.{page_bytes, chain_pages}
use Rattle.st_new_database.proofs.Fields.{page-next}

-- images stand one behind the other, from a page on
abbrev pub Stands : Array → ℕ → List (List ℕ) → Type 0
Stands pages at [] = Unit {0}
Stands pages at (image ∷ images) = (pages at ≡ image) × Stands pages (at + 1) images

pub stands-from : (pages : Array) (at : ℕ) (images : List (List ℕ)) → ((n : ℕ) (image : List ℕ) → slice_get images n ≡ Some image → pages (at + n) ≡ image) → Stands pages at images
stands-from pages at [] h = tt
stands-from pages at (image ∷ images) h =
    let e : at ≡ at + 0 = omega arith in
    (ap pages e ∙ h 0 image refl, stands-from pages (at + 1) images (λ n other k. let f : at + 1 + n ≡ at + suc n = omega arith in ap pages f ∙ h (suc n) other k))

pub stands-front : (pages : Array) (at : ℕ) (images others : List (List ℕ)) → Stands pages at (images ++ others) → Stands pages at images
stands-front pages at [] others h = tt
stands-front pages at (image ∷ images) others h = (h.0, stands-front pages (at + 1) images others h.1)

pub stands-behind : (pages : Array) (at : ℕ) (images others : List (List ℕ)) → Stands pages at (images ++ others) → Stands pages (at + length images) others
stands-behind pages at [] others h = subst (λ (n : ℕ). Stands pages n others) (omega arith) h
stands-behind pages at (image ∷ images) others h = subst (λ (n : ℕ). Stands pages n others) (omega arith) (stands-behind pages (at + 1) images others h.1)

-- all pieces are what makes a page that is wanted
abbrev pub AllGood : (List ℕ → Type 0) → List (List ℕ) → Type 0
AllGood Good [] = Unit {0}
AllGood Good (piece ∷ pieces) = Good piece × AllGood Good pieces

pub linked : (wanted : Wanted) (Good : List ℕ → Type 0) (kind unit : ℕ) → ((piece : List ℕ) (next : ℕ) → Good piece → next < 65536 → IsPage wanted (page_bytes kind (length piece / unit) next piece))
    → (pages : Array) (page second : ℕ) (piece : List ℕ) (pieces : List (List ℕ)) → 0 < second → second + length pieces ≤ 65536 → Good piece → AllGood Good pieces
    → (images : List (List ℕ)) → images ≡ chain_pages kind unit second (piece ∷ pieces) → Stands pages page (take 1 images) → Stands pages second (drop 1 images) → IsChain wanted pages page images
linked wanted Good kind unit is-page pages page second piece [] some room good all images e first rest =
    subst (IsChain wanted pages page) (sym e) (
      (subst (λ (xs : List (List ℕ)). Stands pages page (take 1 xs)) e first).0,
      is-page piece 0 good (omega arith),
      page-next kind (length piece / unit) 0 piece (omega arith),
    )
linked wanted Good kind unit is-page pages page second piece (other ∷ pieces) some room good all images e first rest =
    let image : List ℕ = page_bytes kind (length piece / unit) second piece in
    let behind : List (List ℕ) = chain_pages kind unit (second + 1) (other ∷ pieces) in
    let stand = subst (λ (xs : List (List ℕ)). Stands pages second (drop 1 xs)) e rest in
    let next : next_of image ≡ second = page-next kind (length piece / unit) second piece (omega arith) in
    let above : 0 < next_of image = omega (arith, next) in
    let chain : IsChain wanted pages second behind =
    linked wanted Good kind unit is-page pages second (second + 1) other pieces (omega arith) (omega arith) all.0 all.1 behind refl (stand.0, tt) stand.1 in
    subst (IsChain wanted pages page) (sym e) (
      (subst (λ (xs : List (List ℕ)). Stands pages page (take 1 xs)) e first).0,
      is-page piece second good (omega arith),
      above,
      subst (λ (n : ℕ). IsChain wanted pages n behind) (sym next) chain,
    )
