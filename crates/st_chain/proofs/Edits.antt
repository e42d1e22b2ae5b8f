-- What a chain is when a page of it is changed, split or taken out.
use Rattle.std.proofs.Common.{◌≡◌, ◌≢◌, ℕ, ◌+◌, ◌<◌, ◌≤◌, ◌⊎◌, ◌==◌, List, [], ◌∷◌, ◌++◌, length, drop, IsTrue, refl, sym, ap, subst, ◌∙◌, inl, inr, arith, append_assoc, append-nil, true≢false}
use Rattle.std.proofs.lemmas.Bool.{eqb-true}
use Rattle.std.proofs.lemmas.List.{get_or-replicate}
use Rattle.std.specs.Prelude.{not}
use Rattle.std.specs.Int.{w32, to_be_bytes}
use Rattle.st_values.specs.Arranged.{ascends}
use Rattle.st_values.proofs.Tests.{either}
use Rattle.st_image.specs.Bytes.{number, part}
use Rattle.st_image.specs.Fields.{blank, body_of, count_of, kind_of, next_of, last_serial_of, pieces, rows_of, with_next}
use Rattle.st_image.specs.Grammar.{AreRows, HasHeader, row_before, rows_header}
use Rattle.st_image.proofs.RowParts.{spelled-bytes}
use Rattle.st_image.proofs.Written.{behind-stays, elsewhere-stays, four-bytes, read-back, whole-length}
use Rattle.st_pages.specs.declared.places.Place.{Place}
use Rattle.st_pages.specs.Attempt.{Array}
use Rattle.st_store.specs.Stores.{among}
use Rattle.st_chain.specs.Changes.{Elsewhere, ElsewhereBoth}
use Rattle.st_store.specs.Chain.{Follow, IsChainPage, IsChainOf, IsWay, LeadTo, rows_in}
use Rattle.st_page_rows.proofs.Parts.{byte-before, bytes-part}
use Rattle.st_chain.specs.Ways.{Goes, IsLike, Once, SameOn, among-left, among-right, at-way, follow-from, follow-like, follow-sound, itself, later-same, later-whole, lead-like, lead-on, next-within, once-more, pairs-less, parted, rows-append, rows-same, same-drop, same-like, there}

-- what a page behind a first one has: rows, and no last serial
abbrev pub IsLater : List ℕ → List ℕ → Type 0
IsLater front image = (front ≡ []) ⊎ ((count_of image ≢ 0) × (last_serial_of image ≡ 0))

-- a page of a chain, and the pages in front of it and behind
pub record IsAround (place : Place) (array : Array) (pages : List ℕ) (rows : List (List ℕ)) (front : List ℕ) (page : ℕ) : Type 0 where
  pub behind : List ℕ
  pub pages_are : pages ≡ front ++ page ∷ behind
  pub rows_are : rows ≡ rows_in place array front ++ (rows_of place.width (array page) ++ rows_in place array behind)
  pub sound : IsChainPage place (array page)
  pub later : IsLater front (array page)
  pub ends : next_of (array page) ≡ 0 → behind ≡ []

-- the rows of a chain with other ones in place of those of a page
abbrev pub around : Place → Array → List ℕ → List (List ℕ) → List ℕ → List (List ℕ)
around place array front rows behind = rows_in place array front ++ (rows ++ rows_in place array behind)

-- the way to a page leads along a chain
pub around-way : (place : Place) (array : Array) (pages : List ℕ) (rows : List (List ℕ)) (front : List ℕ) (page : ℕ) → IsChainOf place array pages rows → IsWay place array front page → IsAround place array pages rows front page
around-way place array pages rows front page chain way =
    let at = at-way place array place.first front page pages way.leads chain.follow in
    let p = parted place array front page at.0 rows (subst (λ (xs : List ℕ). IsChainOf place array xs rows) at.1 chain) in
    record {
      behind = at.0;
      pages_are = at.1;
      rows_are = p.rows_are;
      sound = p.sound;
      later = p.later;
      ends = λ e. elim (p.goes) [ inl g ↦ g.0 | inr g ↦ absurd (omega (arith, g.0, e)) ];
    }

-- a page of a chain that names another one
pub record IsNamed (place : Place) (image : List ℕ) (next : ℕ) : Type 0 where
  pub sound : IsChainPage place (with_next next image)
  pub names : next_of (with_next next image) ≡ next
  pub counts : count_of (with_next next image) ≡ count_of image
  pub serial : last_serial_of (with_next next image) ≡ last_serial_of image
  pub rows : rows_of place.width (with_next next image) ≡ rows_of place.width image

pub named : (place : Place) (image : List ℕ) (next : ℕ) → IsChainPage place image → next < 65536 → IsNamed place image next
named place image next sound page =
    let bytes : List ℕ = to_be_bytes w32 next in
    let new : List ℕ = with_next next image in
    let size : length image ≡ 4096 = sound.size in
    let room : 8 + length bytes ≤ length image = omega arith in
    let fields : HasHeader (rows_header 2 place.store place.width) image = sound.has_header in
    let count : count_of new ≡ count_of image = ap number (elsewhere-stays 8 2 2 bytes image room (inl (omega arith))) in
    let store : part 4 4 new ≡ part 4 4 image = elsewhere-stays 8 4 4 bytes image room (inl (omega arith)) in
    let names : next_of new ≡ next = ap number (read-back 8 bytes image room) ∙ four-bytes next (omega (arith, page)) in
    let last : last_serial_of new ≡ last_serial_of image = ap number (elsewhere-stays 8 12 4 bytes image room (inr (omega arith))) in
    let body : body_of new ≡ body_of image = behind-stays 8 16 bytes image room (omega arith) in
    record {
      sound = record {
        size = whole-length 8 bytes image room ∙ size;
        bytes = bytes-part 8 bytes image (spelled-bytes 4 next) sound.bytes;
        has_header = record {
          kind = byte-before 8 0 bytes image room (omega arith) ∙ fields.kind;
          spare = byte-before 8 1 bytes image room (omega arith) ∙ fields.spare;
          least = omega arith;
          most = omega (arith, count, fields.most);
          store = ap number store ∙ fields.store;
          next = omega (arith, names, page);
          last = omega (arith, last, fields.last);
        };
        body = subst (λ (xs : List ℕ). AreRows place.key place.width (count_of new) xs) (sym body) (subst (λ (n : ℕ). AreRows place.key place.width n (body_of image)) (sym count) sound.body);
      };
      names = names;
      counts = count;
      serial = last;
      rows = ap (λ (n : ℕ). pieces n place.width (body_of new)) count ∙ ap (pieces (count_of image) place.width) body;
    }

-- ---- another image of a page

image-like : (place : Place) (before after : Array) (page q : ℕ) (image : List ℕ) → IsChainPage place image → next_of image ≡ next_of (before page) → after page ≡ image → Elsewhere before after page → IsLike place before after q
image-like place before after page q image sound next is elsewhere =
    either (q == page) (λ b. IsLike place before after q)
    (λ e.
    let same : q ≡ page = eqb-true q page e in
    let now : after q ≡ image = ap after same ∙ is in
    λ old. (subst (λ (xs : List ℕ). IsChainPage place xs) (sym now) sound, ap next_of now ∙ next ∙ ap (λ (n : ℕ). next_of (before n)) (sym same)))
    (λ e. same-like place before after q (elsewhere q (λ same. true≢false (sym (ap (λ (n : ℕ). n == page) same ∙ itself page) ∙ e))))

edited-in : (place : Place) (before after : Array) (front : List ℕ) (page : ℕ) (behind : List ℕ) (rows : List (List ℕ)) (image : List ℕ) → IsChainOf place before (front ++ page ∷ behind) rows
    → IsChainPage place image → next_of image ≡ next_of (before page) → IsLater front image → after page ≡ image → Elsewhere before after page
    → IsTrue (ascends (row_before place.key) (around place before front (rows_of place.width image) behind))
    → IsChainOf place after (front ++ page ∷ behind) (around place before front (rows_of place.width image) behind)
edited-in place before after front page behind rows image chain sound next later is elsewhere ascend =
    let p = parted place before front page behind rows chain in
    let same_front : SameOn front before after = λ q m. elsewhere q (p.apart_front q m) in
    let same_behind : SameOn behind before after = λ q m. elsewhere q (p.apart_behind q m) in
    record {
      first = chain.first;
      follow = follow-like place before after place.first (front ++ page ∷ behind) (λ q m. image-like place before after page q image sound next is elsewhere) chain.follow;
      once = chain.once;
      later = later-whole after front page behind (later-same before after (drop 1 front) (same-drop front before after same_front) p.later_front)
          (subst (λ (xs : List ℕ). IsLater front xs) (sym is) later) (later-same before after behind same_behind p.later_behind);
      are = sym (rows-append place after front (page ∷ behind)
          ∙ ap (λ (xs : List (List ℕ)). xs ++ (rows_of place.width (after page) ++ rows_in place after behind)) (rows-same place before after front same_front)
          ∙ ap (λ (xs : List ℕ). rows_in place before front ++ (rows_of place.width xs ++ rows_in place after behind)) is
          ∙ ap (λ (xs : List (List ℕ)). rows_in place before front ++ (rows_of place.width image ++ xs)) (rows-same place before after behind same_behind));
      ascend = ascend;
    }

pub edited : (place : Place) (before after : Array) (pages : List ℕ) (rows : List (List ℕ)) (front : List ℕ) (page : ℕ) (image : List ℕ) → IsChainOf place before pages rows
    → (at : IsAround place before pages rows front page) → IsChainPage place image → next_of image ≡ next_of (before page) → IsLater front image → after page ≡ image → Elsewhere before after page
    → IsTrue (ascends (row_before place.key) (around place before front (rows_of place.width image) at.behind))
    → IsChainOf place after pages (around place before front (rows_of place.width image) at.behind)
edited place before after pages rows front page image chain at sound next later is elsewhere ascend =
    subst (λ (xs : List ℕ). IsChainOf place after xs (around place before front (rows_of place.width image) at.behind)) (sym at.pages_are)
    (edited-in place before after front page at.behind rows image (subst (λ (xs : List ℕ). IsChainOf place before xs rows) at.pages_are chain) sound next later is elsewhere ascend)

-- ---- a page becomes two

-- a blank page is none of a chain
blank-none : (place : Place) → IsChainPage place blank → ⊥
unfolding blank
blank-none place sound =
    let fields : HasHeader (rows_header 2 place.store place.width) blank = sound.has_header in
    let none : kind_of blank ≡ 0 = get_or-replicate 4096 0 0 0 (omega arith) in
    absurd (omega (arith, fields.kind, none))

goes-same : (place : Place) (before after : Array) (page other : ℕ) (behind : List ℕ) → SameOn behind before after → next_of (after other) ≡ next_of (before page) → Goes place before page behind → Goes place after other behind
goes-same place before after page other behind same next (inl g) = inl (g.0, next ∙ g.1)
goes-same place before after page other behind same next (inr g) =
    inr (
      subst (λ (n : ℕ). 0 < n) (sym next) g.0,
      subst (λ (n : ℕ). Follow place after n behind) (sym next) (follow-like place before after (next_of (before page)) behind (λ q m. same-like place before after q (same q m)) g.1),
    )

split-in : (place : Place) (before after : Array) (front : List ℕ) (page drawn : ℕ) (behind : List ℕ) (rows : List (List ℕ)) (left right : List ℕ) → IsChainOf place before (front ++ page ∷ behind) rows
    → before drawn ≡ blank → 0 < drawn → IsChainPage place left → IsChainPage place right → next_of left ≡ drawn → next_of right ≡ next_of (before page)
    → IsLater front left → count_of right ≢ 0 → last_serial_of right ≡ 0 → after page ≡ left → after drawn ≡ right → ElsewhereBoth before after page drawn
    → IsTrue (ascends (row_before place.key) (around place before front (rows_of place.width left ++ rows_of place.width right) behind))
    → IsChainOf place after (front ++ page ∷ drawn ∷ behind) (around place before front (rows_of place.width left ++ rows_of place.width right) behind)
split-in place before after front page drawn behind rows left right chain free some left_sound right_sound names next later filled serial is other elsewhere ascend =
    let p = parted place before front page behind rows chain in
    let new : (q : ℕ) → IsTrue (among (front ++ page ∷ behind) q) → q ≢ drawn =
    λ q m e. blank-none place (subst (λ (xs : List ℕ). IsChainPage place xs) (ap before e ∙ free) (follow-sound place before place.first (front ++ page ∷ behind) q chain.follow m)) in
    let same_front : SameOn front before after = λ q m. elsewhere q (p.apart_front q m) (new q (among-left front (page ∷ behind) q m)) in
    let same_behind : SameOn behind before after = λ q m. elsewhere q (p.apart_behind q m) (new q (among-right front (page ∷ behind) q (there page behind q m))) in
    let end : Goes place after drawn behind = goes-same place before after page drawn behind same_behind (ap next_of other ∙ next) p.goes in
    let to : next_of (after page) ≡ drawn = ap next_of is ∙ names in
    let last : Follow place after (next_of (after page)) (drawn ∷ behind) = follow-from place after (next_of (after page)) drawn behind (sym to) (subst (λ (xs : List ℕ). IsChainPage place xs) (sym other) right_sound) end in
    let lead : LeadTo place after place.first front page = lead-like place before after place.first front page (λ q m. same-like place before after q (same_front q m)) p.leads in
    let joined : (front ++ page ∷ []) ++ behind ≡ front ++ page ∷ behind = append_assoc front (page ∷ []) behind in
    let once : Once ((front ++ page ∷ []) ++ drawn ∷ behind) =
    once-more (front ++ page ∷ []) drawn behind (subst Once (sym joined) chain.once) (λ q m. new q (subst (λ (xs : List ℕ). IsTrue (among xs q)) joined m)) in
    record {
      first = chain.first;
      follow = lead-on place after place.first front page (drawn ∷ behind) lead (subst (λ (xs : List ℕ). IsChainPage place xs) (sym is) left_sound) (inr (subst (λ (n : ℕ). 0 < n) (sym to) some, last));
      once = subst Once (append_assoc front (page ∷ []) (drawn ∷ behind)) once;
      later = later-whole after front page (drawn ∷ behind) (later-same before after (drop 1 front) (same-drop front before after same_front) p.later_front)
          (subst (λ (xs : List ℕ). IsLater front xs) (sym is) later)
          (later-whole after (page ∷ []) drawn behind refl (inr (subst (λ (xs : List ℕ). (count_of xs ≢ 0) × (last_serial_of xs ≡ 0)) (sym other) (filled, serial))) (later-same before after behind same_behind p.later_behind));
      are = sym (rows-append place after front (page ∷ drawn ∷ behind)
          ∙ ap (λ (xs : List (List ℕ)). xs ++ (rows_of place.width (after page) ++ (rows_of place.width (after drawn) ++ rows_in place after behind))) (rows-same place before after front same_front)
          ∙ ap (λ (xs : List ℕ). rows_in place before front ++ (rows_of place.width xs ++ (rows_of place.width (after drawn) ++ rows_in place after behind))) is
          ∙ ap (λ (xs : List ℕ). rows_in place before front ++ (rows_of place.width left ++ (rows_of place.width xs ++ rows_in place after behind))) other
          ∙ ap (λ (xs : List (List ℕ)). rows_in place before front ++ (rows_of place.width left ++ (rows_of place.width right ++ xs))) (rows-same place before after behind same_behind)
          ∙ ap (λ (xs : List (List ℕ)). rows_in place before front ++ xs) (sym (append_assoc (rows_of place.width left) (rows_of place.width right) (rows_in place before behind))));
      ascend = ascend;
    }

pub split-up : (place : Place) (before after : Array) (pages : List ℕ) (rows : List (List ℕ)) (front : List ℕ) (page drawn : ℕ) (left right : List ℕ) → IsChainOf place before pages rows
    → (at : IsAround place before pages rows front page) → before drawn ≡ blank → 0 < drawn → IsChainPage place left → IsChainPage place right → next_of left ≡ drawn → next_of right ≡ next_of (before page)
    → IsLater front left → count_of right ≢ 0 → last_serial_of right ≡ 0 → after page ≡ left → after drawn ≡ right → ElsewhereBoth before after page drawn
    → IsTrue (ascends (row_before place.key) (around place before front (rows_of place.width left ++ rows_of place.width right) at.behind))
    → IsChainOf place after (front ++ page ∷ drawn ∷ at.behind) (around place before front (rows_of place.width left ++ rows_of place.width right) at.behind)
split-up place before after pages rows front page drawn left right chain at free some left_sound right_sound names next later filled serial is other elsewhere ascend =
    split-in place before after front page drawn at.behind rows left right (subst (λ (xs : List ℕ). IsChainOf place before xs rows) at.pages_are chain) free some left_sound right_sound names next later filled serial is other elsewhere ascend

-- ---- a page is taken out, which isn't the first one

out-in : (place : Place) (before after : Array) (front : List ℕ) (previous page : ℕ) (behind : List ℕ) (rows : List (List ℕ)) → IsChainOf place before ((front ++ previous ∷ []) ++ page ∷ behind) rows
    → after previous ≡ with_next (next_of (before page)) (before previous) → after page ≡ blank → ElsewhereBoth before after previous page
    → IsChainOf place after (front ++ previous ∷ behind) (around place before (front ++ previous ∷ []) [] behind)
out-in place before after front previous page behind rows chain is gone elsewhere =
    let joined : (front ++ previous ∷ []) ++ page ∷ behind ≡ front ++ previous ∷ page ∷ behind = append_assoc front (previous ∷ []) (page ∷ behind) in
    let p = parted place before (front ++ previous ∷ []) page behind rows chain in
    let o = parted place before front previous (page ∷ behind) rows (subst (λ (xs : List ℕ). IsChainOf place before xs rows) joined chain) in
    let n = named place (before previous) (next_of (before page)) o.sound (next-within place (before page) p.sound) in
    let same_front : SameOn front before after = λ q m. elsewhere q (o.apart_front q m) (p.apart_front q (among-left front (previous ∷ []) q m)) in
    let same_behind : SameOn behind before after = λ q m. elsewhere q (o.apart_behind q (there page behind q m)) (p.apart_behind q m) in
    let end : Goes place after previous behind = goes-same place before after page previous behind same_behind (ap next_of is ∙ n.names) p.goes in
    let lead : LeadTo place after place.first front previous = lead-like place before after place.first front previous (λ q m. same-like place before after q (same_front q m)) o.leads in
    let once : Once ((front ++ previous ∷ []) ++ behind) = pairs-less (λ page other. not (page == other)) (front ++ previous ∷ []) (page ∷ []) behind chain.once in
    record {
      first = chain.first;
      follow = lead-on place after place.first front previous behind lead (subst (λ (xs : List ℕ). IsChainPage place xs) (sym is) n.sound) end;
      once = subst Once (append_assoc front (previous ∷ []) behind) once;
      later = later-whole after front previous behind (later-same before after (drop 1 front) (same-drop front before after same_front) o.later_front)
          (subst (λ (xs : List ℕ). IsLater front xs) (sym is) (elim (o.later) [
            | inl e ↦ inl e
            | inr s ↦ inr (λ e. s.0 (sym n.counts ∙ e), n.serial ∙ s.1)
          ]))
          (later-same before after behind same_behind p.later_behind);
      are =
          ap (λ (xs : List (List ℕ)). xs ++ rows_in place before behind) (rows-append place before front (previous ∷ []))
          ∙ append_assoc (rows_in place before front) (rows_in place before (previous ∷ [])) (rows_in place before behind)
          ∙ ap (λ (xs : List (List ℕ)). rows_in place before front ++ (xs ++ rows_in place before behind)) (append-nil (rows_of place.width (before previous)))
          ∙ sym (rows-append place after front (previous ∷ behind)
          ∙ ap (λ (xs : List (List ℕ)). xs ++ (rows_of place.width (after previous) ++ rows_in place after behind)) (rows-same place before after front same_front)
          ∙ ap (λ (xs : List (List ℕ)). rows_in place before front ++ (xs ++ rows_in place after behind)) (ap (rows_of place.width) is ∙ n.rows)
          ∙ ap (λ (xs : List (List ℕ)). rows_in place before front ++ (rows_of place.width (before previous) ++ xs)) (rows-same place before after behind same_behind));
      ascend = pairs-less (row_before place.key) (rows_in place before (front ++ previous ∷ [])) (rows_of place.width (before page)) (rows_in place before behind)
          (subst (λ (xs : List (List ℕ)). IsTrue (ascends (row_before place.key) xs)) p.rows_are chain.ascend);
    }

pub taken-out : (place : Place) (before after : Array) (pages : List ℕ) (rows : List (List ℕ)) (front : List ℕ) (previous page : ℕ) → IsChainOf place before pages rows
    → (at : IsAround place before pages rows (front ++ previous ∷ []) page) → after previous ≡ with_next (next_of (before page)) (before previous) → after page ≡ blank → ElsewhereBoth before after previous page
    → IsChainOf place after (front ++ previous ∷ at.behind) (around place before (front ++ previous ∷ []) [] at.behind)
taken-out place before after pages rows front previous page chain at is gone elsewhere =
    out-in place before after front previous page at.behind rows (subst (λ (xs : List ℕ). IsChainOf place before xs rows) at.pages_are chain) is gone elsewhere
