-- What a chain has of a key where a walk has come to the page on which its row stands or would stand.
use Rattle.std.proofs.Common.{◌≡◌, ◌≢◌, ℕ, ◌≤◌, ◌⊎◌, Bool, true, false, List, [], ◌++◌, take, drop, IsTrue, sym, ap, ◌∙◌, subst, inl, inr, append_assoc}
use Rattle.std.proofs.lemmas.List.{take-append-drop}
use Rattle.std.specs.Prelude.{not}
use Rattle.std.specs.List.{list_all, list_any}
use Rattle.st_values.specs.Arranged.{ascends}
use Rattle.st_image.specs.Fields.{count_of, next_of, rows_of}
use Rattle.st_image.specs.Grammar.{row_before}
use Rattle.st_pages.specs.declared.places.Place.{Place}
use Rattle.st_pages.specs.Attempt.{Array}
use Rattle.st_store.specs.declared.cursor.Cursor.{Cursor}
use Rattle.st_store.specs.Rows.{row_with, rows_from}
use Rattle.st_store.specs.Stores.{Found}
use Rattle.st_store.specs.Chain.{IsAheadInChain, IsAt, IsChainOf, IsChainPage, IsSpot, rows_in}
use Rattle.st_store.proofs.Ordering.{above-behind, pairs-right, row_with-parts, rows_from-parts}
use Rattle.st_chain.specs.declared.walk.Spot.{Spot}
use Rattle.st_chain.specs.Walks.{HasCome, ImageUpTo, IsLocated}
use Rattle.st_chain.proofs.Edits.{around-way}
use Rattle.st_chain.proofs.Walks.{rows-more}

-- rows in three parts: those in front of a page are below a key, and those behind it above
pub record IsParted (place : Place) (key : List ℕ) (rows front here : List (List ℕ)) : Type 0 where
  pub behind : List (List ℕ)
  pub rows_are : rows ≡ front ++ (here ++ behind)
  pub below : list_all (λ row. row_before place.key row key) front ≡ true
  pub above : list_all (λ row. row_before place.key key row) behind ≡ true

above-of : (place : Place) (array : Array) (key image : List ℕ) (front : List (List ℕ)) (behind : List ℕ) → (next_of image ≡ 0 → behind ≡ []) → ascends (row_before place.key) (front ++ (rows_of place.width image ++ rows_in place array behind)) ≡ true
    → ImageUpTo place key image → list_all (λ row. row_before place.key key row) (rows_in place array behind) ≡ true
above-of place array key image front behind ends ascend (inl end) = ap (λ (l : List ℕ). list_all (λ row. row_before place.key key row) (rows_in place array l)) (ends end)
above-of place array key image front behind ends ascend (inr some) =
    above-behind place.key key (rows_of place.width image) (rows_in place array behind) (pairs-right (row_before place.key) front (rows_of place.width image ++ rows_in place array behind) ascend) some

pub parted : (place : Place) (array : Array) (pages : List ℕ) (rows : List (List ℕ)) (key : List ℕ) (spot : Spot) (image : List ℕ) → IsChainOf place array pages rows → (located : IsLocated place array key spot image)
    → IsParted place key rows (rows_in place array located.come.pages) (rows_of place.width image)
parted place array pages rows key spot image chain located =
    let come = located.come in
    let around = around-way place array pages rows come.pages spot.page chain come.way in
    let are : rows ≡ rows_in place array come.pages ++ (rows_of place.width image ++ rows_in place array around.behind) =
    around.rows_are ∙ ap (λ (i : List ℕ). rows_in place array come.pages ++ (rows_of place.width i ++ rows_in place array around.behind)) come.at in
    record {
      behind = rows_in place array around.behind;
      rows_are = are;
      below = come.below;
      above = above-of place array key image (rows_in place array come.pages) around.behind (λ e. around.ends (ap next_of come.at ∙ e)) (sym (ap (ascends (row_before place.key)) are) ∙ chain.ascend) located.up_to;
    }

pub found-in : (place : Place) (array : Array) (pages : List ℕ) (rows : List (List ℕ)) (key : List ℕ) (spot : Spot) (image : List ℕ) (got : Bool) (row : List ℕ) → IsChainOf place array pages rows → IsLocated place array key spot image
    → Found place.key key (rows_of place.width image) got row → Found place.key key rows got row
found-in place array pages rows key spot image got row chain located found =
    let parts = parted place array pages rows key spot image chain located in
    by got (ap (row_with place.key key) parts.rows_are ∙ row_with-parts place.key key (rows_in place array located.come.pages) (rows_of place.width image) parts.behind parts.below parts.above) found
  where
    by : (got : Bool) → row_with place.key key rows ≡ row_with place.key key (rows_of place.width image) → Found place.key key (rows_of place.width image) got row → Found place.key key rows got row
    by true e h = e ∙ h
    by false e h = e ∙ h

pub spot-of : (place : Place) (array : Array) (key : List ℕ) (spot : Spot) (image : List ℕ) → IsLocated place array key spot image → IsSpot place array key spot.page
spot-of place array key spot image located = record {
  pages = located.come.pages;
  way = located.come.way;
  before = located.come.below;
  up_to = subst (λ (i : List ℕ). (next_of i ≡ 0) ⊎ IsTrue (list_any (λ other. not (row_before place.key other key)) (rows_of place.width i))) (sym located.come.at) located.up_to;
}

-- ---- a cursor

pub sits-there : (place : Place) (array : Array) (key : List ℕ) (spot : Spot) (image : List ℕ) (cursor : Cursor) → (come : HasCome place array key spot image) → IsChainPage place image → cursor.number ≡ spot.page → cursor.page ≡ image → cursor.index ≤ count_of image
    → IsAt place array cursor come.pages spot.page
sits-there place array key spot image cursor come sound named is within = record {
  way = come.way;
  number = named;
  image = come.at ∙ sym is;
  filled = subst (λ (i : List ℕ). (come.pages ≡ []) ⊎ (count_of i ≢ 0)) (sym is) come.filled;
  sound = subst (IsChainPage place) (sym is) sound;
  ascend = ap (ascends (row_before place.key)) (rows-more place array come.pages spot.page image come.at) ∙ come.ascend;
  passed = subst (λ (i : List ℕ). cursor.index ≤ count_of i) (sym is) within;
}

-- rows cut at an index of the middle ones
pub cut-middle : (front here behind : List (List ℕ)) (i : ℕ) → front ++ (here ++ behind) ≡ (front ++ take i here) ++ (drop i here ++ behind)
cut-middle front here behind i =
    ap (λ (l : List (List ℕ)). front ++ (l ++ behind)) (sym (take-append-drop i here))
    ∙ ap (λ (l : List (List ℕ)). front ++ l) (append_assoc (take i here) (drop i here) behind)
    ∙ sym (append_assoc front (take i here) (drop i here ++ behind))

pub ahead-there : (place : Place) (array : Array) (pages : List ℕ) (rows : List (List ℕ)) (key : List ℕ) (spot : Spot) (image : List ℕ) (cursor : Cursor) → IsChainOf place array pages rows → IsLocated place array key spot image
    → IsChainPage place image → cursor.number ≡ spot.page → cursor.page ≡ image → cursor.index ≤ count_of image → drop cursor.index (rows_of place.width image) ≡ rows_from place.key key (rows_of place.width image)
    → IsAheadInChain place array cursor (rows_from place.key key rows)
ahead-there place array pages rows key spot image cursor chain located sound named is within from =
    let come = located.come in
    let here = rows_of place.width image in
    let front = rows_in place array come.pages in
    let parts = parted place array pages rows key spot image chain located in
    let rest : rows_from place.key key rows ≡ drop cursor.index here ++ parts.behind =
    ap (rows_from place.key key) parts.rows_are ∙ rows_from-parts place.key key front here parts.behind parts.below parts.above ∙ ap (λ (l : List (List ℕ)). l ++ parts.behind) (sym from) in
    record {
      all_pages = pages;
      rows = rows;
      chain = chain;
      pages = come.pages;
      page = spot.page;
      sits = sits-there place array key spot image cursor come sound named is within;
      rest_is = parts.rows_are ∙ cut-middle front here parts.behind cursor.index
          ∙ ap (λ (i : List ℕ). (front ++ take cursor.index (rows_of place.width i)) ++ (drop cursor.index here ++ parts.behind)) (sym come.at)
          ∙ ap (λ (l : List (List ℕ)). (front ++ take cursor.index (rows_of place.width (array spot.page))) ++ l) (sym rest);
    }
