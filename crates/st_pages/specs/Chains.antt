-- Chains of pages: each page names the one behind it, and the last one names none.
use Rattle.std.specs.Prelude.{◌≡◌, ℕ, zero, suc, ◌<◌, ◌==◌, Bool, if◌then◌else◌, List, [], ◌∷◌, length}
use Rattle.std.specs.List.{list_any}
use Rattle.st_image.specs.declared.wanted.Wanted.{Wanted}
use Rattle.st_image.specs.Fields.{next_of}
use Rattle.st_image.specs.Grammar.{IsPage}
use Rattle.st_image.specs.Prefixes.{IsFirstWrong}
use Rattle.st_pages.specs.Attempt.{Array, page_count}

-- images are those of a chain of pages, from its first page on: each is what is wanted
abbrev pub IsChain : Wanted → Array → ℕ → List (List ℕ) → Type 0
IsChain wanted pages page [] = ⊥
IsChain wanted pages page (image ∷ []) = (pages page ≡ image) × IsPage wanted image × (next_of image ≡ 0)
IsChain wanted pages page (image ∷ other ∷ images) =
    (pages page ≡ image) × IsPage wanted image × (0 < next_of image) × IsChain wanted pages (next_of image) (other ∷ images)

-- these images, each what is wanted, are those of a chain's first pages, and they lead on to another page
abbrev pub Leads : Wanted → Array → ℕ → List (List ℕ) → ℕ → Type 0
Leads wanted pages page [] end = end ≡ page
Leads wanted pages page (image ∷ images) end =
    (pages page ≡ image) × IsPage wanted image × (0 < next_of image) × Leads wanted pages (next_of image) images end

-- a chain leads to a page that isn't what is wanted; the first place at which it leaves it
pub record BreaksAt (wanted : Wanted) (pages : Array) (first page place : ℕ) : Type 0 where
  pub images : List (List ℕ)
  pub leads : Leads wanted pages first images page
  pub wrong : IsFirstWrong (IsPage wanted) (pages page) place

-- a chain has no end: it goes on behind as many pages as there are
pub record IsEndless (wanted : Wanted) (pages : Array) (first : ℕ) : Type 0 where
  pub images : List (List ℕ)
  pub many : length images ≡ page_count
  pub end : ℕ
  pub leads : Leads wanted pages first images end

-- the pages on the way of a chain, at most so many, whatever stands in them
abbrev pub way : ℕ → Array → ℕ → List ℕ
way zero pages page = []
way (suc most) pages page = page ∷ (if next_of (pages page) == 0 then [] else way most pages (next_of (pages page)))

-- whether a page is on the way of a chain
unfoldable pub is_on_way : Array → ℕ → ℕ → Bool
is_on_way pages first page = list_any (λ other. other == page) (way page_count pages first)
