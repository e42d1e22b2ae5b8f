-- A row is put into a chain, or taken out of it, by way of the page on which it stands or would stand.
use Rattle.std.proofs.Common.{◌≡◌, ◌≢◌, ℕ, ◌⊎◌, ◌==◌, Bool, true, false, List, [], ◌∷◌, ◌++◌, take, Option, None, IsSome, IsTrue, refl, sym, ap, subst, ◌∙◌, inl, inr, append_assoc, arith, true≢false}
use Rattle.std.specs.Prelude.{not, MatchOption, is_some}
use Rattle.std.specs.Cmp.Lexicographic.{slice_cmp}
use Rattle.std.specs.List.{list_all, list_any}
use Rattle.std.specs.Ordering.{is_lt, nat_cmp}
use Rattle.st_values.specs.Arranged.{ascends, each_pair}
use Rattle.st_values.proofs.Tests.{left}
use Rattle.st_image.specs.Fields.{count_of, next_of, last_serial_of, rows_of, with_next}
use Rattle.st_image.specs.Grammar.{row_before}
use Rattle.st_pages.specs.declared.places.Place.{Place}
use Rattle.st_pages.specs.Attempt.{Array, Attempt}
use Rattle.st_store.specs.Rows.{row_with, rows_above, rows_below, with_row, without_row}
use Rattle.st_store.specs.Chain.{IsChainPage, IsChainOf, IsSpot, LeadTo, is_on_chain, rows_in}
use Rattle.st_store.specs.Stores.{Changed, Inserted, Removed, among, drew_between}
use Rattle.st_store.proofs.Ordering.{above-behind, all-right, pairs-between, pairs-left, pairs-right, row_with-parts, with_row-ascends, with_row-parts, without_row-ascends, without_row-parts}
use Rattle.st_chain.specs.declared.walk.Spot.{Spot}
use Rattle.st_chain.specs.Changes.{Elsewhere, IsEdit, IsGone, IsKept, IsMade, IsParted, IsPutIn, IsRid, IsSplit, IsTakenOut, IsUnlinked, NoneDrawn}
use Rattle.st_chain.specs.Walks.{ImageUpTo, IsBehind, IsLocated}
use Rattle.st_chain.proofs.Edits.{IsAround, IsLater, IsNamed, around, around-way, edited, named, split-up, taken-out}
use Rattle.st_chain.specs.Ways.{lead-last}
use Rattle.st_chain.proofs.Leaving.{among-there, leaves-less, leaves-more, leaves-none, leaves-one}
use Rattle.st_chain.proofs.Putting.{page-itself}
use Rattle.st_chain.proofs.Remade.{has-rows, made-page, made-sibling, no-rows}

-- a chain around the page that a walk has come to with a key, by a row that has this key
pub record IsMet (place : Place) (array : Array) (pages : List ℕ) (rows : List (List ℕ)) (row : List ℕ) (front : List ℕ) (page : ℕ) (image : List ℕ) : Type 0 where
  pub chain : IsChainOf place array pages rows
  pub around : IsAround place array pages rows front page
  pub at : array page ≡ image
  pub sound : IsChainPage place image
  pub below : IsTrue (list_all (λ other. row_before place.key other row) (rows_in place array front))
  pub above : IsTrue (list_all (λ other. row_before place.key row other) (rows_in place array around.behind))
  pub are : rows ≡ rows_in place array front ++ (rows_of place.width image ++ rows_in place array around.behind)

up-to-row : (place : Place) (key row image : List ℕ) → take place.key key ≡ take place.key row → ImageUpTo place key image → ImageUpTo place row image
up-to-row place key row image e (inl last) = inl last
up-to-row place key row image e (inr some) =
    inr (subst (λ (t : List ℕ). IsTrue (list_any (λ r. not (is_lt (slice_cmp nat_cmp (take place.key r) t))) (rows_of place.width image))) e some)

below-row : (place : Place) (key row : List ℕ) (rows : List (List ℕ)) → take place.key key ≡ take place.key row → IsTrue (list_all (λ r. row_before place.key r key) rows) → IsTrue (list_all (λ r. row_before place.key r row) rows)
below-row place key row rows e h = subst (λ (t : List ℕ). IsTrue (list_all (λ r. is_lt (slice_cmp nat_cmp (take place.key r) t)) rows)) e h

above-all : (place : Place) (array : Array) (row image : List ℕ) (behind : List ℕ) → ImageUpTo place row image → (next_of image ≡ 0 → behind ≡ [])
    → IsTrue (ascends (row_before place.key) (rows_of place.width image ++ rows_in place array behind)) → IsTrue (list_all (λ r. row_before place.key row r) (rows_in place array behind))
above-all place array row image behind (inl last) ends ascend =
    subst (λ (ps : List ℕ). IsTrue (list_all (λ r. row_before place.key row r) (rows_in place array ps))) (sym (ends last)) refl
above-all place array row image behind (inr some) ends ascend = above-behind place.key row (rows_of place.width image) (rows_in place array behind) ascend some

pub met : (place : Place) (array : Array) (pages : List ℕ) (rows : List (List ℕ)) (key row : List ℕ) (spot : Spot) (image : List ℕ) → IsChainOf place array pages rows → (located : IsLocated place array key spot image)
    → IsChainPage place image → take place.key key ≡ take place.key row → IsMet place array pages rows row located.come.pages spot.page image
met place array pages rows key row spot image chain located sound e =
    let front = located.come.pages in
    let at : IsAround place array pages rows front spot.page = around-way place array pages rows front spot.page chain located.come.way in
    let is : array spot.page ≡ image = located.come.at in
    let are : rows ≡ rows_in place array front ++ (rows_of place.width image ++ rows_in place array at.behind) =
    at.rows_are ∙ ap (λ (x : List ℕ). rows_in place array front ++ (rows_of place.width x ++ rows_in place array at.behind)) is in
    record {
      chain = chain;
      around = at;
      at = is;
      sound = sound;
      below = below-row place key row (rows_in place array front) e located.come.below;
      above = above-all place array row image at.behind (up-to-row place key row image e located.up_to) (λ last. at.ends (ap next_of is ∙ last))
          (pairs-right (row_before place.key) (rows_in place array front) (rows_of place.width image ++ rows_in place array at.behind) (subst (λ (rs : List (List ℕ)). IsTrue (ascends (row_before place.key) rs)) are chain.ascend));
      are = are;
    }

pub spot-of : (place : Place) (array : Array) (key row : List ℕ) (spot : Spot) (image : List ℕ) → IsLocated place array key spot image → take place.key key ≡ take place.key row → IsSpot place array row spot.page
spot-of place array key row spot image located e = record {
  pages = located.come.pages;
  way = located.come.way;
  before = below-row place key row (rows_in place array located.come.pages) e located.come.below;
  up_to = subst (λ (x : List ℕ). ImageUpTo place row x) (sym located.come.at) (up-to-row place key row image e located.up_to);
}

module _ (place : Place) (before : Array) (pages : List ℕ) (rows : List (List ℕ)) (row : List ℕ) (front : List ℕ) (page : ℕ) (image : List ℕ) (m : IsMet place before pages rows row front page image) where
  pub found-there : row_with place.key row rows ≡ row_with place.key row (rows_of place.width image)
  found-there = ap (row_with place.key row) m.are ∙ row_with-parts place.key row (rows_in place before front) (rows_of place.width image) (rows_in place before m.around.behind) m.below m.above

  pub with-there : around place before front (with_row place.key row (rows_of place.width image)) m.around.behind ≡ with_row place.key row rows
  with-there = sym (ap (with_row place.key row) m.are ∙ with_row-parts place.key row (rows_in place before front) (rows_of place.width image) (rows_in place before m.around.behind) m.below m.above)

  pub without-there : around place before front (without_row place.key row (rows_of place.width image)) m.around.behind ≡ without_row place.key row rows
  without-there = sym (ap (without_row place.key row) m.are ∙ without_row-parts place.key row (rows_in place before front) (rows_of place.width image) (rows_in place before m.around.behind) m.below m.above)

  pub with-ascends : IsTrue (ascends (row_before place.key) (around place before front (with_row place.key row (rows_of place.width image)) m.around.behind))
  with-ascends = subst (λ (rs : List (List ℕ)). IsTrue (ascends (row_before place.key) rs)) (sym with-there) (with_row-ascends place.key row rows m.chain.ascend)

  pub without-ascends : IsTrue (ascends (row_before place.key) (around place before front (without_row place.key row (rows_of place.width image)) m.around.behind))
  without-ascends = subst (λ (rs : List (List ℕ)). IsTrue (ascends (row_before place.key) rs)) (sym without-there) (without_row-ascends place.key row rows m.chain.ascend)

  middle-ascends : (middle : List (List ℕ)) → IsTrue (ascends (row_before place.key) (around place before front middle m.around.behind)) → IsTrue (ascends (row_before place.key) middle)
  middle-ascends middle h =
      pairs-left (row_before place.key) middle (rows_in place before m.around.behind)
      (pairs-right (row_before place.key) (rows_in place before front) (middle ++ rows_in place before m.around.behind) h)

  page-here : IsTrue (among pages page)
  page-here = ap (λ (ps : List ℕ). among ps page) m.around.pages_are ∙ among-there front m.around.behind page

  later-of : (new : List ℕ) → last_serial_of new ≡ last_serial_of image → (front ≡ []) ⊎ (count_of new ≢ 0) → IsLater front new
  later-of new serial (inl none) = inl none
  later-of new serial (inr some) = go m.around.later
    where
      go : IsLater front (before page) → IsLater front new
      go (inl none) = inl none
      go (inr was) = inr (some, serial ∙ sym (ap last_serial_of m.at) ∙ was.1)

  -- ---- one page is put

  module _ (asked : (ℕ → Bool) → (ℕ → Bool) → ℕ → Type 0) (a b : Attempt) (after : Array) where
    pub put-one : (new : List ℕ) (middle : List (List ℕ)) → IsMade place.width image new middle → after page ≡ new → Elsewhere before after page → NoneDrawn (drew_between a b)
        → (front ≡ []) ⊎ (count_of new ≢ 0) → IsTrue (ascends (row_before place.key) (around place before front middle m.around.behind))
        → Changed IsChainOf IsSpot asked is_on_chain place a b before after pages (around place before front middle m.around.behind)
    put-one new middle made is elsewhere none stays ascend =
        let lists : rows_of place.width new ≡ middle = made.lists in
        let asc : IsTrue (ascends (row_before place.key) (around place before front (rows_of place.width new) m.around.behind)) =
        subst (λ (rs : List (List ℕ)). IsTrue (ascends (row_before place.key) (around place before front rs m.around.behind))) (sym lists) ascend in
        let sound : IsChainPage place new = made-page place image new m.sound made.laid made.head (middle-ascends (rows_of place.width new) asc) in
        let chain : IsChainOf place after pages (around place before front (rows_of place.width new) m.around.behind) =
        edited place before after pages rows front page new m.chain m.around sound (made.head.next ∙ sym (ap next_of m.at)) (later-of new made.head.serial stays) is elsewhere asc in
        subst (Changed IsChainOf IsSpot asked is_on_chain place a b before after pages)
        (ap (λ (rs : List (List ℕ)). around place before front rs m.around.behind) lists)
        (leaves-one asked place a b before after pages (around place before front (rows_of place.width new) m.around.behind) page chain page-here none elsewhere
        (ap last_serial_of is ∙ made.head.serial ∙ sym (ap last_serial_of m.at)))

    -- ---- a page becomes two

    pub put-two : (middle : List (List ℕ)) → IsSplit place (drew_between a b) before after page image middle → IsTrue (ascends (row_before place.key) (around place before front middle m.around.behind))
        → Changed IsChainOf IsSpot asked is_on_chain place a b before after pages (around place before front middle m.around.behind)
    put-two middle split ascend =
        let one = split.left in
        let two = split.right in
        let parts : IsParted place.width image one two middle = split.parts in
        let both : List (List ℕ) = rows_of place.width one ++ rows_of place.width two in
        let lists : both ≡ middle = parts.lists in
        let asc : IsTrue (ascends (row_before place.key) both) = middle-ascends both (subst (λ (rs : List (List ℕ)). IsTrue (ascends (row_before place.key) (around place before front rs m.around.behind))) (sym lists) ascend) in
        let one_sound : IsChainPage place one = made-page place image one m.sound parts.laid parts.head (pairs-left (row_before place.key) (rows_of place.width one) (rows_of place.width two) asc) in
        let two_sound : IsChainPage place two = made-sibling place image two m.sound parts.other_laid parts.other_head (pairs-right (row_before place.key) (rows_of place.width one) (rows_of place.width two) asc) in
        let names : IsNamed place one split.drawn = named place one split.drawn one_sound split.within in
        let new = with_next split.drawn one in
        let rows_same : rows_of place.width new ++ rows_of place.width two ≡ middle = ap (λ (rs : List (List ℕ)). rs ++ rows_of place.width two) names.rows ∙ lists in
        let serial : last_serial_of new ≡ last_serial_of image = names.serial ∙ parts.head.serial in
        let some : count_of new ≢ 0 = λ e. parts.some (sym names.counts ∙ e) in
        let chain = split-up place before after pages rows front page split.drawn new two m.chain m.around (split.blanks split.drawn split.is_drawn) split.some names.sound two_sound names.names
        (parts.other_head.next ∙ sym (ap next_of m.at)) (later-of new serial (inr some)) parts.other_some parts.other_head.serial split.is split.other split.elsewhere
        (subst (λ (rs : List (List ℕ)). IsTrue (ascends (row_before place.key) (around place before front rs m.around.behind))) (sym rows_same) ascend) in
        subst (λ (ps : List ℕ). Changed IsChainOf IsSpot asked is_on_chain place a b before after ps (around place before front middle m.around.behind)) (sym m.around.pages_are)
        (leaves-more asked place a b before after front m.around.behind page split.drawn (around place before front middle m.around.behind) rows
        (subst (λ (ps : List ℕ). IsChainOf place before ps rows) m.around.pages_are m.chain)
        (subst (IsChainOf place after (front ++ page ∷ split.drawn ∷ m.around.behind)) (ap (λ (rs : List (List ℕ)). around place before front rs m.around.behind) rows_same) chain)
        split.is_drawn split.blanks split.elsewhere (ap last_serial_of split.is ∙ serial ∙ sym (ap last_serial_of m.at)))

    pub put-in : (was : Bool) → IsPutIn place (drew_between a b) before after page image row was → Changed IsChainOf IsSpot asked is_on_chain place a b before after pages (with_row place.key row rows)
    put-in was put = subst (Changed IsChainOf IsSpot asked is_on_chain place a b before after pages) with-there (go put.changed)
      where
        go : IsEdit place (drew_between a b) before after page image (with_row place.key row (rows_of place.width image)) ⊎ IsSplit place (drew_between a b) before after page image (with_row place.key row (rows_of place.width image))
            → Changed IsChainOf IsSpot asked is_on_chain place a b before after pages (around place before front (with_row place.key row (rows_of place.width image)) m.around.behind)
        go (inl edit) = put-one edit.new (with_row place.key row (rows_of place.width image)) edit.made edit.is edit.elsewhere edit.none
            (inr (has-rows place.width edit.new (rows_below place.key row (rows_of place.width image)) (rows_above place.key row (rows_of place.width image)) row edit.made.lists)) with-ascends
        go (inr split) = put-two (with_row place.key row (rows_of place.width image)) split with-ascends

-- whether a row has the key is to be seen on the page that a walk has come to
pub found-on : (place : Place) (array : Array) (pages : List ℕ) (rows : List (List ℕ)) (key row : List ℕ) (spot : Spot) (image : List ℕ) → IsChainOf place array pages rows → IsLocated place array key spot image
    → IsChainPage place image → take place.key key ≡ take place.key row → row_with place.key row rows ≡ row_with place.key row (rows_of place.width image)
found-on place array pages rows key row spot image chain located sound e =
    found-there place array pages rows row located.come.pages spot.page image (met place array pages rows key row spot image chain located sound e)

pub inserted : (asked : (ℕ → Bool) → (ℕ → Bool) → ℕ → Type 0) (place : Place) (a b : Attempt) (before after : Array) (pages : List ℕ) (rows : List (List ℕ)) (key row : List ℕ) (spot : Spot) (image : List ℕ) (was : Bool)
    → IsChainOf place before pages rows → IsLocated place before key spot image → IsChainPage place image → take place.key key ≡ take place.key row → IsSome (b.written spot.page)
    → (IsTrue was → asked (is_on_chain place before) (λ other. other == spot.page) 0) → IsPutIn place (drew_between a b) before after spot.page image row was
    → Inserted IsChainOf IsSpot asked is_on_chain place a b before after pages row rows was
inserted asked place a b before after pages rows key row spot image was chain located sound e written alone put =
    let m = met place before pages rows key row spot image chain located sound e in
    let found : row_with place.key row rows ≡ row_with place.key row (rows_of place.width image) = found-there place before pages rows row located.come.pages spot.page image m in
    record {
      changed = put-in place before pages rows row located.come.pages spot.page image m asked a b after was put;
      was = put.was_there ∙ ap is_some (sym found);
      page = spot.page;
      stood = spot-of place before key row spot image located e;
      put = written;
      alone = alone;
      same = λ there. put.same (sym found ∙ there);
    }

-- ---- a row is taken out

apart-pages : (front behind : List ℕ) (previous page : ℕ) → IsTrue (each_pair (λ p other. not (p == other)) ((front ++ previous ∷ []) ++ page ∷ behind)) → previous ≢ page
apart-pages front behind previous page once e =
    let t : ℕ → ℕ → Bool = λ p other. not (p == other) in
    let all : list_all (λ x. list_all (t x) (page ∷ behind)) (front ++ previous ∷ []) ≡ true = pairs-between t (front ++ previous ∷ []) (page ∷ behind) once in
    let last : list_all (λ x. list_all (t x) (page ∷ behind)) (previous ∷ []) ≡ true = all-right (λ x. list_all (t x) (page ∷ behind)) front (previous ∷ []) all in
    let here : list_all (t previous) (page ∷ behind) ≡ true = left (list_all (t previous) (page ∷ behind)) true last in
    let two : not (previous == page) ≡ true = left (not (previous == page)) (list_all (t previous) behind) here in
    true≢false (sym two ∙ ap not (ap (λ (n : ℕ). n == page) e ∙ page-itself page))

pub gone-out : (asked : (ℕ → Bool) → (ℕ → Bool) → ℕ → Type 0) (place : Place) (a b : Attempt) (before after : Array) (pages : List ℕ) (rows : List (List ℕ)) (key : List ℕ) (front : List ℕ) (previous page : ℕ) (image new : List ℕ)
    → IsMet place before pages rows key (front ++ previous ∷ []) page image → IsChainPage place (before previous) → IsMade place.width image new (without_row place.key key (rows_of place.width image)) → count_of new ≡ 0
    → IsUnlinked before after previous page (next_of new) → NoneDrawn (drew_between a b) → Changed IsChainOf IsSpot asked is_on_chain place a b before after pages (without_row place.key key rows)
gone-out asked place a b before after pages rows key front previous page image new m previous_sound made empty unlinked none =
    let behind = m.around.behind in
    let apart : previous ≢ page = apart-pages front behind previous page (subst (λ (ps : List ℕ). IsTrue (each_pair (λ p other. not (p == other)) ps)) m.around.pages_are m.chain.once) in
    let next_is : next_of new ≡ next_of (before page) = made.head.next ∙ sym (ap next_of m.at) in
    let names : after previous ≡ with_next (next_of (before page)) (before previous) = unlinked.names apart ∙ ap (λ (n : ℕ). with_next n (before previous)) next_is in
    let chain : IsChainOf place after (front ++ previous ∷ behind) (around place before (front ++ previous ∷ []) [] behind) =
    taken-out place before after pages rows front previous page m.chain m.around names unlinked.gone unlinked.elsewhere in
    let rows_same : around place before (front ++ previous ∷ []) [] behind ≡ without_row place.key key rows =
    ap (λ (rs : List (List ℕ)). around place before (front ++ previous ∷ []) rs behind) (sym (no-rows place.width new empty) ∙ made.lists)
    ∙ without-there place before pages rows key (front ++ previous ∷ []) page image m in
    let most = m.around.sound.has_header.next in
    let named_too : IsNamed place (before previous) (next_of (before page)) = named place (before previous) (next_of (before page)) previous_sound (omega arith) in
    let all : front ++ previous ∷ page ∷ behind ≡ pages = sym (m.around.pages_are ∙ append_assoc front (previous ∷ []) (page ∷ behind)) in
    subst (λ (ps : List ℕ). Changed IsChainOf IsSpot asked is_on_chain place a b before after ps (without_row place.key key rows)) all
    (leaves-less asked place a b before after front behind previous page (without_row place.key key rows)
    (subst (IsChainOf place after (front ++ previous ∷ behind)) rows_same chain) none unlinked.elsewhere unlinked.gone (ap last_serial_of names ∙ named_too.serial))

first-stays : (o : Option ℕ) (pages : List ℕ) (new : List ℕ) → MatchOption o (pages ≡ []) (λ page. (front : List ℕ) × (pages ≡ front ++ page ∷ [])) → (o ≡ None) ⊎ (count_of new ≢ 0) → (pages ≡ []) ⊎ (count_of new ≢ 0)
first-stays o pages new behind (inl none) = inl (subst (λ (x : Option ℕ). MatchOption x (pages ≡ []) (λ page. (front : List ℕ) × (pages ≡ front ++ page ∷ []))) none behind)
first-stays o pages new behind (inr some) = inr some

pub removed : (asked : (ℕ → Bool) → (ℕ → Bool) → ℕ → Type 0) (place : Place) (a b : Attempt) (before after : Array) (pages : List ℕ) (rows : List (List ℕ)) (key : List ℕ) (spot : Spot) (image : List ℕ) (was : Bool)
    → IsChainOf place before pages rows → IsLocated place before key spot image → IsChainPage place image → IsSome (b.written spot.page)
    → (was ≡ false → asked (is_on_chain place before) (λ other. other == spot.page) 0) → NoneDrawn (drew_between a b) → IsTakenOut place before after spot image key was
    → Removed IsChainOf IsSpot asked is_on_chain place a b before after pages key rows was
removed asked place a b before after pages rows key spot image true chain located sound written alone none taken =
    let front = located.come.pages in
    let m = met place before pages rows key key spot image chain located sound refl in
    let found : row_with place.key key rows ≡ row_with place.key key (rows_of place.width image) = found-there place before pages rows key front spot.page image m in
    record {
      changed = go front m located.come.behind located.come.way.leads taken.1 taken.1.goes;
      was = sym (ap is_some found ∙ taken.0);
      page = spot.page;
      stood = spot-of place before key key spot image located refl;
      put = written;
      alone = alone;
      same = λ e. absurd (true≢false e);
    }
  where
    go : (front : List ℕ) → IsMet place before pages rows key front spot.page image → IsBehind spot front → LeadTo place before place.first front spot.page
        → (rid : IsRid place before after spot image (without_row place.key key (rows_of place.width image))) → IsKept before after spot rid.new ⊎ IsGone before after spot rid.new
        → Changed IsChainOf IsSpot asked is_on_chain place a b before after pages (without_row place.key key rows)
    go front m behind leads rid (inl kept) =
        subst (Changed IsChainOf IsSpot asked is_on_chain place a b before after pages) (without-there place before pages rows key front spot.page image m)
        (put-one place before pages rows key front spot.page image m asked a b after rid.new (without_row place.key key (rows_of place.width image)) rid.made kept.is kept.elsewhere none
        (first-stays spot.previous front rid.new behind kept.stays) (without-ascends place before pages rows key front spot.page image m))
    go front m behind leads rid (inr gone) =
        let there : (others : List ℕ) × (front ≡ others ++ gone.previous ∷ []) =
        subst (λ (x : Option ℕ). MatchOption x (front ≡ []) (λ page. (others : List ℕ) × (front ≡ others ++ page ∷ []))) gone.front behind in
        gone-out asked place a b before after pages rows key there.0 gone.previous spot.page image rid.new (subst (λ (f : List ℕ). IsMet place before pages rows key f spot.page image) there.1 m)
        ((lead-last place before place.first there.0 gone.previous spot.page (subst (λ (f : List ℕ). LeadTo place before place.first f spot.page) there.1 leads)).1) rid.made gone.empty gone.unlinked none
removed asked place a b before after pages rows key spot image false chain located sound written alone none taken =
    let front = located.come.pages in
    let m = met place before pages rows key key spot image chain located sound refl in
    let found : row_with place.key key rows ≡ row_with place.key key (rows_of place.width image) = found-there place before pages rows key front spot.page image m in
    let rows_same : rows ≡ without_row place.key key rows =
    m.are ∙ ap (λ (rs : List (List ℕ)). around place before front rs m.around.behind) (sym taken.rows) ∙ without-there place before pages rows key front spot.page image m in
    record {
      changed = subst (Changed IsChainOf IsSpot asked is_on_chain place a b before after pages) rows_same (leaves-none asked place a b before after pages rows chain none taken.same);
      was = sym (ap is_some (found ∙ taken.none));
      page = spot.page;
      stood = spot-of place before key key spot image located refl;
      put = written;
      alone = alone;
      same = λ e. taken.same;
    }
