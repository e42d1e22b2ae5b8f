-- Images of pages, by their numbers.
use Rattle.std.specs.Prelude.{ℕ, ◌==◌, nat_lt, if◌then◌else◌, List, [], ◌∷◌, Option, find, IsTrue}
use Rattle.std.specs.Option.{option_map}
use Rattle.st_values.specs.Arranged.{ascends}

-- a page's number, and an image of the page
pub record Entry : Type 0 where
  pub page : ℕ
  pub image : List ℕ

abbrev pub entry : ℕ → List ℕ → Entry
entry page image = record { page = page; image = image }

-- entries in the order of their pages, with no page twice
abbrev pub AscendByPage : List Entry → Type 0
AscendByPage entries = IsTrue (ascends (λ a b. nat_lt a.page b.page) entries)

-- the image of a page, if there is one
abbrev pub image_of : ℕ → List Entry → Option (List ℕ)
image_of page entries = option_map (λ e. e.image) (find (λ e. e.page == page) entries)

-- the entries with an image of a page: in place of the one that there is, else in its place by the order
abbrev pub with_image : ℕ → List ℕ → List Entry → List Entry
with_image page image [] = entry page image ∷ []
with_image page image (e ∷ es) =
    if nat_lt e.page page then e ∷ with_image page image es else entry page image ∷ (if e.page == page then es else e ∷ es)
