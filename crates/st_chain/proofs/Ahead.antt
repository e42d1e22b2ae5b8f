-- What is ahead of a cursor in a chain, as it goes on.
use Rattle.std.proofs.Common.{true, ◌≡◌, ◌≢◌, ℕ, ◌+◌, ◌-◌, ◌^◌, ◌<◌, ◌≤◌, ◌⊎◌, List, [], ◌∷◌, ◌++◌, length, take, drop, Some, IsTrue, refl, sym, ap, ◌∙◌, subst, inl, inr, arith}
use Rattle.std.proofs.lemmas.List.{append_cancel_left, drop_all, take_all, take-append-drop, length-append}
use Rattle.std.specs.Prelude.{slice_get}
use Rattle.st_values.specs.Arranged.{ascends}
use Rattle.st_page.specs.declared.fault.PageFault.{PageFault}
use Rattle.st_page.specs.declared.fault.PageFault.TheVariants.{BadPage, Conflict, Full, TooManyPages, DiskFault, Closed, Memory}
use Rattle.st_image.specs.Fields.{count_of, next_of, rows_of}
use Rattle.st_image.specs.Grammar.{row_before}
use Rattle.st_image.proofs.Ordered.{AllKeys}
use Rattle.st_pages.specs.declared.places.Place.{Place}
use Rattle.st_pages.specs.Attempt.{Array, Attempt, over}
use Rattle.st_pages.specs.Reading.{ForEach, OfDamage}
use Rattle.st_store.specs.declared.cursor.Cursor.{Cursor}
use Rattle.st_store.specs.Stores.{Advanced, IsPlace, IsRowsOf}
use Rattle.st_store.specs.Chain.{IsAheadInChain, IsAt, IsBadPage, IsChainPage, IsWay, SitsInChain, is_on_chain, left_in_chain, rows_in, top}
use Rattle.st_page_rows.proofs.Standing.{drop-at}
use Rattle.st_chain.specs.Walks.{IsAbove, IsNoNext}
use Rattle.st_chain.proofs.Edits.{around-way}
use Rattle.st_chain.proofs.Keys.{few-rows, keys-append, keys-left, top-more, top-most, top-next}
use Rattle.st_chain.proofs.Located.{cut-middle}
use Rattle.st_chain.proofs.Walks.{all-but-one, ascend-three, at-least, bad-behind, count-rows, filled-rows, on-more, page-keys, rows-more, way-keys, way-on}

-- ---- a cursor that sits in a chain

-- a page behind others has rows
at-filled : (place : Place) (array : Array) (cursor : Cursor) (pages : List ℕ) (page : ℕ) → IsAt place array cursor pages page → (pages ≡ []) ⊎ (count_of cursor.page ≢ 0)
at-filled place array cursor pages page sits = sits.filled

at-ascend : (place : Place) (array : Array) (cursor : Cursor) (pages : List ℕ) (page : ℕ) → IsAt place array cursor pages page → ascends (row_before place.key) (rows_in place array pages ++ rows_of place.width cursor.page) ≡ true
at-ascend place array cursor pages page sits = sym (ap (ascends (row_before place.key)) (rows-more place array pages page cursor.page sits.image)) ∙ sits.ascend

at-behind : (place : Place) (array : Array) (cursor : Cursor) (pages : List ℕ) (page : ℕ) → IsAt place array cursor pages page → 0 < next_of cursor.page → IsWay place array (pages ++ page ∷ []) (next_of cursor.page)
at-behind place array cursor pages page sits more =
    way-on place array pages page cursor.page sits.way sits.image sits.sound more (at-filled place array cursor pages page sits) (at-ascend place array cursor pages page sits)

few-at : (place : Place) (array : Array) (cursor : Cursor) (pages : List ℕ) (page : ℕ) → IsPlace place → IsAt place array cursor pages page → length pages ≤ 256 ^ place.key
few-at place array cursor pages page here sits =
    let front = rows_in place array pages in
    let there = rows_of place.width cursor.page in
    let keys = keys-append place.key front there (way-keys place array place.first pages page here sits.way.leads) (page-keys place cursor.page here (2, sits.sound)) in
    let few = few-rows place.key (front ++ there) keys (at-ascend place array cursor pages page sits) in
    let most = all-but-one place array pages sits.way.filled in
    let size = count-rows place cursor.page in
    let sum = length-append front there in
    by (at-filled place array cursor pages page sits) few most size sum
  where
    by : (pages ≡ []) ⊎ (count_of cursor.page ≢ 0) → length (rows_in place array pages ++ rows_of place.width cursor.page) ≤ 256 ^ place.key → length pages ≤ length (rows_in place array pages) + 1
        → length (rows_of place.width cursor.page) ≡ count_of cursor.page → length (rows_in place array pages ++ rows_of place.width cursor.page) ≡ length (rows_in place array pages) + length (rows_of place.width cursor.page)
        → length pages ≤ 256 ^ place.key
    by (inl none) few most size sum = let e : length pages ≡ 0 = ap length none in omega (arith, e)
    by (inr some) few most size sum = let least = at-least (count_of cursor.page) some in omega (arith, few, most, size, sum, least)

is-on-more : (place : Place) (array : Array) (pages : List ℕ) (page : ℕ) → IsWay place array pages page → length pages ≤ 256 ^ place.key + 1 → IsTrue (is_on_chain place array page)
unfolding is_on_chain
is-on-more place array pages page h few = on-more place array pages page h few

pub next-on : (place : Place) (array : Array) (cursor : Cursor) → IsPlace place → SitsInChain place array cursor → 0 < next_of cursor.page → IsTrue (is_on_chain place array (next_of cursor.page))
next-on place array cursor here sits more =
    let few = few-at place array cursor sits.0 sits.1 here sits.2 in
    let size = length-append sits.0 (sits.1 ∷ []) in
    is-on-more place array (sits.0 ++ sits.1 ∷ []) (next_of cursor.page) (at-behind place array cursor sits.0 sits.1 sits.2 more) (omega (arith, few, size))

moved : (place : Place) (array : Array) (cursor new : Cursor) (pages : List ℕ) (page : ℕ) → IsAt place array cursor pages page → new.number ≡ cursor.number → new.page ≡ cursor.page → new.index ≤ count_of cursor.page → IsAt place array new pages page
moved place array cursor new pages page sits same is within = record {
  way = sits.way;
  number = same ∙ sits.number;
  image = sits.image ∙ sym is;
  filled = subst (λ (i : List ℕ). (pages ≡ []) ⊎ (count_of i ≢ 0)) (sym is) sits.filled;
  sound = subst (IsChainPage place) (sym is) sits.sound;
  ascend = sits.ascend;
  passed = subst (λ (i : List ℕ). new.index ≤ count_of i) (sym is) within;
}

-- on the page behind
pub at-next : (place : Place) (array : Array) (cursor new : Cursor) (pages : List ℕ) (page : ℕ) (next : List ℕ) → IsAt place array cursor pages page → 0 < next_of cursor.page → array (next_of cursor.page) ≡ next → IsChainPage place next
    → IsAbove place cursor.page next → new.number ≡ next_of cursor.page → new.page ≡ next → new.index ≡ 1 → IsAt place array new (pages ++ page ∷ []) (next_of cursor.page)
at-next place array cursor new pages page next sits more at sound above named is first =
    let least = at-least (count_of next) above.some in
    record {
      way = at-behind place array cursor pages page sits more;
      number = named;
      image = at ∙ sym is;
      filled = subst (λ (i : List ℕ). ((pages ++ page ∷ []) ≡ []) ⊎ (count_of i ≢ 0)) (sym is) (inr above.some);
      sound = subst (IsChainPage place) (sym is) sound;
      ascend = ap (ascends (row_before place.key))
          (rows-more place array (pages ++ page ∷ []) (next_of cursor.page) next at ∙ ap (λ (l : List (List ℕ)). l ++ rows_of place.width next) (rows-more place array pages page cursor.page sits.image))
          ∙ ascend-three place.key (rows_in place array pages) (rows_of place.width cursor.page) (rows_of place.width next) (at-ascend place array cursor pages page sits) above.ascend
          (filled-rows place pages array cursor.page (at-filled place array cursor pages page sits));
      passed = subst (λ (i : List ℕ). new.index ≤ count_of i) (sym is) (omega (arith, least, first));
    }

pub sits-next : (place : Place) (array : Array) (cursor new : Cursor) (next : List ℕ) → SitsInChain place array cursor → 0 < next_of cursor.page → array (next_of cursor.page) ≡ next → IsChainPage place next
    → IsAbove place cursor.page next → new.number ≡ next_of cursor.page → new.page ≡ next → new.index ≡ 1 → SitsInChain place array new
sits-next place array cursor new next sits more at sound above named is first =
    (sits.0 ++ sits.1 ∷ [], next_of cursor.page, at-next place array cursor new sits.0 sits.1 next sits.2 more at sound above named is first)

-- ---- what is left

rest-of : (front here behind rest rows : List (List ℕ)) (i : ℕ) → rows ≡ front ++ (here ++ behind) → rows ≡ (front ++ take i here) ++ rest → rest ≡ drop i here ++ behind
rest-of front here behind rest rows i h k = append_cancel_left (front ++ take i here) rest (drop i here ++ behind) (sym k ∙ h ∙ cut-middle front here behind i)

-- a row of the page itself
pub next-row : (place : Place) (array : Array) (cursor new : Cursor) (rest : List (List ℕ)) (row : List ℕ) → IsAheadInChain place array cursor rest → slice_get (rows_of place.width cursor.page) cursor.index ≡ Some row → cursor.index < count_of cursor.page
    → new.number ≡ cursor.number → new.page ≡ cursor.page → new.index ≡ cursor.index + 1 → Advanced (IsAheadInChain place array new) rest true row
next-row place array cursor new rest row ahead at within same is more =
    let around = around-way place array ahead.all_pages ahead.rows ahead.pages ahead.page ahead.chain ahead.sits.way in
    let front = rows_in place array ahead.pages in
    let here = rows_of place.width (array ahead.page) in
    let behind = rows_in place array around.behind in
    let i = cursor.index in
    let here_is : here ≡ rows_of place.width cursor.page = ap (rows_of place.width) ahead.sits.image in
    let at_here : slice_get here i ≡ Some row = ap (λ (l : List (List ℕ)). slice_get l i) here_is ∙ at in (
      drop (i + 1) here ++ behind,
      rest-of front here behind rest ahead.rows i around.rows_are ahead.rest_is ∙ ap (λ (l : List (List ℕ)). l ++ behind) (drop-at here i row at_here),
      record {
        all_pages = ahead.all_pages;
        rows = ahead.rows;
        chain = ahead.chain;
        pages = ahead.pages;
        page = ahead.page;
        sits = moved place array cursor new ahead.pages ahead.page ahead.sits same is (omega (arith, within, more));
        rest_is = around.rows_are ∙ cut-middle front here behind (i + 1) ∙ ap (λ (n : ℕ). (front ++ take n here) ++ (drop (i + 1) here ++ behind)) (sym more);
      },
    )

-- none, where the page is the last one
pub none-left : (place : Place) (array : Array) (cursor : Cursor) (rest : List (List ℕ)) → IsAheadInChain place array cursor rest → next_of cursor.page ≡ 0 → count_of cursor.page ≤ cursor.index → rest ≡ []
none-left place array cursor rest ahead end past =
    let around = around-way place array ahead.all_pages ahead.rows ahead.pages ahead.page ahead.chain ahead.sits.way in
    let here = rows_of place.width (array ahead.page) in
    let here_is : here ≡ rows_of place.width cursor.page = ap (rows_of place.width) ahead.sits.image in
    let size = ap length here_is ∙ count-rows place cursor.page in
    rest-of (rows_in place array ahead.pages) here (rows_in place array around.behind) rest ahead.rows cursor.index around.rows_are ahead.rest_is
    ∙ ap (λ (l : List (List ℕ)). l ++ rows_in place array around.behind) (drop_all cursor.index here (omega (arith, size, past)))
    ∙ ap (rows_in place array) (around.ends (ap next_of ahead.sits.image ∙ end))

-- the first row of the page behind
pub first-row : (place : Place) (array : Array) (cursor new : Cursor) (rest : List (List ℕ)) (row next : List ℕ) → IsAheadInChain place array cursor rest → count_of cursor.page ≤ cursor.index → 0 < next_of cursor.page
    → array (next_of cursor.page) ≡ next → IsChainPage place next → IsAbove place cursor.page next → new.number ≡ next_of cursor.page → new.page ≡ next → new.index ≡ 1 → slice_get (rows_of place.width next) 0 ≡ Some row
    → Advanced (IsAheadInChain place array new) rest true row
first-row place array cursor new rest row next ahead past more at sound above named is first has =
    let sits = at-next place array cursor new ahead.pages ahead.page next ahead.sits more at sound above named is first in
    let pages = ahead.pages ++ ahead.page ∷ [] in
    let page = next_of cursor.page in
    let around = around-way place array ahead.all_pages ahead.rows pages page ahead.chain sits.way in
    let front = rows_in place array pages in
    let here = rows_of place.width (array page) in
    let behind = rows_in place array around.behind in
    let there = rows_of place.width (array ahead.page) in
    let there_is : there ≡ rows_of place.width cursor.page = ap (rows_of place.width) ahead.sits.image in
    let size = ap length there_is ∙ count-rows place cursor.page in
    let whole : take cursor.index there ≡ there = take_all cursor.index there (omega (arith, size, past)) in
    let front_is : front ≡ rows_in place array ahead.pages ++ take cursor.index there =
    rows-more place array ahead.pages ahead.page (array ahead.page) refl ∙ ap (λ (l : List (List ℕ)). rows_in place array ahead.pages ++ l) (sym whole) in
    let at_here : slice_get here 0 ≡ Some row = ap (λ (i : List ℕ). slice_get (rows_of place.width i) 0) at ∙ has in
    let rest_is : rest ≡ here ++ behind = append_cancel_left front rest (here ++ behind) (ap (λ (l : List (List ℕ)). l ++ rest) front_is ∙ sym ahead.rest_is ∙ around.rows_are) in (
      drop 1 here ++ behind,
      rest_is ∙ ap (λ (l : List (List ℕ)). l ++ behind) (drop-at here 0 row at_here),
      record {
        all_pages = ahead.all_pages;
        rows = ahead.rows;
        chain = ahead.chain;
        pages = pages;
        page = page;
        sits = sits;
        rest_is = around.rows_are ∙ cut-middle front here behind 1 ∙ ap (λ (n : ℕ). (front ++ take n here) ++ (drop 1 here ++ behind)) (sym first);
      },
    )

-- ---- the page behind isn't one of the chain

pub bad-ahead : (place : Place) (old new : Attempt) (cursor : Cursor) (fault : PageFault) → 0 < next_of cursor.page
    → OfDamage (λ page at. (page ≡ next_of cursor.page) × ForEach old new (λ array. IsNoNext place cursor.page (array page) at)) fault
    → OfDamage (λ page at. ForEach old new (λ array. SitsInChain place array cursor → IsBadPage place array page at)) fault
bad-ahead place old new cursor (BadPage q at) more bad = λ pages agrees sits.
    let array = over old pages in
    subst (λ (n : ℕ). IsBadPage place array n at) (sym bad.0)
    (bad-behind place array sits.0 sits.1 cursor.page at sits.2.way sits.2.image sits.2.sound more (at-filled place array cursor sits.0 sits.1 sits.2) (at-ascend place array cursor sits.0 sits.1 sits.2)
    (subst (λ (n : ℕ). IsNoNext place cursor.page (array n) at) bad.0 (bad.1 pages agrees)))
bad-ahead place old new cursor (Conflict q holder) more bad = tt
bad-ahead place old new cursor (Full in_use) more bad = tt
bad-ahead place old new cursor (TooManyPages many) more bad = tt
bad-ahead place old new cursor DiskFault more bad = tt
bad-ahead place old new cursor Closed more bad = tt
bad-ahead place old new cursor Memory more bad = tt

-- ---- fewer rows may come

top-take : (key : ℕ) (rows : List (List ℕ)) (i : ℕ) → AllKeys key rows → top key 0 (take i rows) ≤ 256 ^ key
top-take key rows i keys = top-most key 0 (take i rows) (keys-left key (take i rows) (drop i rows) (subst (AllKeys key) (sym (take-append-drop i rows)) keys)) (omega arith)

pub fewer-here : (place : Place) (cursor new : Cursor) (row : List ℕ) → IsPlace place → IsRowsOf place cursor.page → slice_get (rows_of place.width cursor.page) cursor.index ≡ Some row → new.page ≡ cursor.page → new.index ≡ cursor.index + 1
    → left_in_chain place new < left_in_chain place cursor
fewer-here place cursor new row here sound at is more =
    let rows = rows_of place.width cursor.page in
    let keys = page-keys place cursor.page here sound in
    let grows = top-more place.key rows cursor.index row keys sound.1.body.ascend at in
    let most = top-take place.key rows (cursor.index + 1) keys in
    let same : top place.key 0 (take new.index (rows_of place.width new.page)) ≡ top place.key 0 (take (cursor.index + 1) rows) =
    ap (λ (n : ℕ). top place.key 0 (take n (rows_of place.width new.page))) more ∙ ap (λ (i : List ℕ). top place.key 0 (take (cursor.index + 1) (rows_of place.width i))) is in
    subst (λ (n : ℕ). 256 ^ place.key - n < 256 ^ place.key - top place.key 0 (take cursor.index rows)) (sym same) (omega (arith, grows, most))

pub fewer-next : (place : Place) (cursor new : Cursor) (row next : List ℕ) → IsPlace place → IsRowsOf place cursor.page → count_of cursor.page ≤ cursor.index → IsChainPage place next → IsAbove place cursor.page next → new.page ≡ next → new.index ≡ 1
    → slice_get (rows_of place.width next) 0 ≡ Some row → left_in_chain place new < left_in_chain place cursor
fewer-next place cursor new row next here sound past next_sound above is first at =
    let rows = rows_of place.width cursor.page in
    let others = rows_of place.width next in
    let keys = keys-append place.key rows others (page-keys place cursor.page here sound) (page-keys place next here (2, next_sound)) in
    let grows = top-next place.key rows others row keys above.ascend at in
    let most = top-take place.key others 1 (page-keys place next here (2, next_sound)) in
    let size = count-rows place cursor.page in
    let all : take cursor.index rows ≡ rows = take_all cursor.index rows (omega (arith, size, past)) in
    let old : top place.key 0 (take cursor.index rows) ≡ top place.key 0 rows = ap (top place.key 0) all in
    let same : top place.key 0 (take new.index (rows_of place.width new.page)) ≡ top place.key 0 (take 1 others) =
    ap (λ (n : ℕ). top place.key 0 (take n (rows_of place.width new.page))) first ∙ ap (λ (i : List ℕ). top place.key 0 (take 1 (rows_of place.width i))) is in
    subst (λ (n : ℕ). 256 ^ place.key - n < 256 ^ place.key - top place.key 0 (take cursor.index rows)) (sym same) (omega (arith, grows, most, old))
