-- The laws of stores, of chains.
use Rattle.std.proofs.Common.{◌≡◌, ℕ, zero, suc, ◌<◌, ◌≤◌, ◌⊎◌, ◌^◌, ◌==◌, if◌then◌else◌, Bool, true, false, List, [], ◌∷◌, ◌++◌, take, drop, Some, IsTrue, refl, sym, ap, subst, ◌∙◌, inl, inr, arith, append_assoc, append-nil, true≢false}
use Rattle.std.specs.Prelude.{not, ◌&&◌, slice_get}
use Rattle.std.specs.List.{list_all, list_any}
use Rattle.std.specs.Ordering.{is_lt, nat_cmp}
use Rattle.std.specs.Cmp.Lexicographic.{slice_cmp}
use Rattle.std.proofs.lemmas.Bool.{eqb-true}
use Rattle.st_values.specs.Arranged.{ascends, each_pair}
use Rattle.st_values.proofs.Tests.{both, either, first-of, left, one-of, other-of, right}
use Rattle.st_image.specs.Fields.{count_of, kind_of, last_serial_of, next_of, store_of, rows_of, with_last_serial}
use Rattle.st_image.specs.Grammar.{HasHeader, IsRowPage, row_before, rows_header}
use Rattle.st_image.proofs.Written.{serial-stays, wrong-not}
use Rattle.st_pages.specs.declared.places.Place.{Place}
use Rattle.st_pages.specs.Attempt.{Array}
use Rattle.st_store.specs.declared.cursor.Cursor.{Cursor}
use Rattle.st_store.specs.Rows.{AreOrdered}
use Rattle.st_store.specs.Stores.{among}
use Rattle.st_store.specs.Chain.{AreLater, Follow, GoesUpTo, IsAheadInChain, IsAt, IsBadPage, IsChainOf, IsChainPage, IsMisplaced, IsSpot, LeadTo, SitsInChain, is_on_chain, rows_in}
use Rattle.st_store.proofs.Ordering.{all-left, all-right, before-irreflexive, pairs-between, pairs-left}
use Rattle.st_chain.specs.Ways.{Goes, IsLike, Parted, SameOn, all-on, among-left, among-right, apart-behind, at-way, cons-none, cut-at, follow-like, follow-page, follow-sound, here, later-same, lead-like, next-within, parted, rows-alike, rows-append, rows-same, same-append, same-drop, same-like}
use Rattle.st_chain.specs.Counted.{chain-ordered, chain-way, way-reached}

-- ---- there is one chain at a place at most

follow-one : (place : Place) (array : Array) (first : ℕ) (pages others : List ℕ) → Follow place array first pages → Follow place array first others → pages ≡ others
follow-one place array first [] others h k = absurd h
follow-one place array first (page ∷ pages) [] h k = absurd k
follow-one place array first (page ∷ pages) (other ∷ others) h k =
    let p = follow-page place array first page pages h in
    let o = follow-page place array first other others k in
    let e : other ≡ page = o.0 ∙ sym p.0 in
    ap (λ (n : ℕ). n ∷ pages) (sym e) ∙ ap (λ (xs : List ℕ). other ∷ xs) (elim (p.2) [
      | inl g ↦ elim (subst (λ (n : ℕ). Goes place array n others) e o.2) [
        | inl t ↦ g.0 ∙ sym t.0
        | inr t ↦ absurd (omega (arith, g.1, t.0))
      ]
      | inr g ↦ elim (subst (λ (n : ℕ). Goes place array n others) e o.2) [
        | inl t ↦ absurd (omega (arith, g.0, t.1))
        | inr t ↦ follow-one place array (next_of (array page)) pages others g.1 t.1
      ]
    ])

pub one : (p : Place) (a : Array) (pages others : List ℕ) (rows more : List (List ℕ)) → IsChainOf p a pages rows → IsChainOf p a others more → (pages ≡ others) × (rows ≡ more)
one p a pages others rows more chain other =
    let same : pages ≡ others = follow-one p a p.first pages others chain.follow other.follow in
    (same, chain.are ∙ ap (λ (xs : List ℕ). rows_in p a xs) same ∙ sym other.are)

pub in-order : (p : Place) (a : Array) (pages : List ℕ) (rows : List (List ℕ)) → IsChainOf p a pages rows → AreOrdered p.key p.width rows
in-order p a pages rows chain = chain-ordered p a pages rows chain

-- ---- its pages

first-among : (place : Place) (array : Array) (first : ℕ) (pages : List ℕ) → Follow place array first pages → IsTrue (among pages first)
first-among place array first [] h = absurd h
first-among place array first (page ∷ pages) h =
    let p = follow-page place array first page pages h in
    subst (λ (n : ℕ). IsTrue (among (page ∷ pages) n)) p.0 (here page pages)

pub has-first : (p : Place) (a : Array) (pages : List ℕ) (rows : List (List ℕ)) → IsChainOf p a pages rows → IsTrue (among pages p.first)
has-first p a pages rows chain = first-among p a p.first pages chain.follow

pub reached : (p : Place) (a : Array) (pages : List ℕ) (rows : List (List ℕ)) (page : ℕ) → IsChainOf p a pages rows → is_on_chain p a page ≡ among pages page
reached p a pages rows page chain = chain-way p a pages rows page chain

follow-within : (place : Place) (array : Array) (first : ℕ) (pages : List ℕ) (q : ℕ) → first < 65536 → Follow place array first pages → IsTrue (among pages q) → q < 65536
follow-within place array first [] q low h k = absurd h
follow-within place array first (page ∷ rest) q low h k =
    let p = follow-page place array first page rest h in
    either (page == q) (λ b. q < 65536)
    (λ e. let same : page ≡ q = eqb-true page q e in omega (arith, same, p.0, low))
    (λ e. let m = other-of (page == q) (among rest q) k e in
    elim (p.2) [
      | inl g ↦ absurd (true≢false (sym m ∙ ap (λ (xs : List ℕ). among xs q) g.0))
      | inr g ↦ follow-within place array (next_of (array page)) rest q (next-within place (array page) p.1) g.1 m
    ])

pub bear : (p : Place) (a : Array) (pages : List ℕ) (rows : List (List ℕ)) (page : ℕ) → IsChainOf p a pages rows → IsTrue (among pages page) → (page < 65536) × (store_of (a page) ≡ p.store) × (2 ≤ kind_of (a page)) × (kind_of (a page) ≤ 4)
bear p a pages rows page chain here =
    let sound : IsChainPage p (a page) = follow-sound p a p.first pages page chain.follow here in
    let fields : HasHeader (rows_header 2 p.store p.width) (a page) = sound.has_header in
    let kind : kind_of (a page) ≡ 2 = fields.kind in
    (follow-within p a p.first pages page chain.first chain.follow here, fields.store, omega (arith, kind), omega (arith, kind))

pub once : (p : Place) (a : Array) (pages : List ℕ) (rows : List (List ℕ)) → IsChainOf p a pages rows → IsTrue (each_pair (λ page other. not (page == other)) pages)
once p a pages rows chain = chain.once

pub extent-first : (p : Place) (a : Array) (pages : List ℕ) (rows : List (List ℕ)) → IsChainOf p a pages rows → p.store < 65536 → IsRowPage 2 p.store p.key p.width (a p.first)
extent-first p a pages rows chain extent = follow-sound p a p.first pages p.first chain.follow (has-first p a pages rows chain)

-- ---- in other arrays

pub depends : (p : Place) (a b : Array) (pages : List ℕ) (rows : List (List ℕ)) → IsChainOf p a pages rows → SameOn pages a b → IsChainOf p b pages rows
depends p a b pages rows chain same = record {
  first = chain.first;
  follow = follow-like p a b p.first pages (λ q m. same-like p a b q (same q m)) chain.follow;
  once = chain.once;
  later = later-same a b (drop 1 pages) (same-drop pages a b same) chain.later;
  are = chain.are ∙ sym (rows-same p a b pages same);
  ascend = chain.ascend;
}

serial-in : (p : Place) (a b : Array) (page : ℕ) (rest : List ℕ) (rows : List (List ℕ)) (serial : ℕ) → p.store < 65536 → serial < 2 ^ 32 → IsChainOf p a (page ∷ rest) rows
    → ((q : ℕ) → b q ≡ (if q == p.first then with_last_serial serial (a q) else a q)) → IsChainOf p b (page ∷ rest) rows
serial-in p a b page rest rows serial extent within chain same =
    let pages : List ℕ = page ∷ rest in
    let head = follow-page p a p.first page rest chain.follow in
    let like : (q : ℕ) → IsLike p a b q = λ q. either (q == p.first) (λ c. IsLike p a b q)
    (λ e sound.
    let now : b q ≡ with_last_serial serial (a q) = same q ∙ ap (λ (c : Bool). if c then with_last_serial serial (a q) else a q) e in
    let stays = serial-stays 2 p.store p.key p.width serial (a q) extent within sound in
    (subst (λ (xs : List ℕ). IsChainPage p xs) (sym now) stays.0, ap next_of now ∙ stays.2))
    (λ e. same-like p a b q (same q ∙ ap (λ (c : Bool). if c then with_last_serial serial (a q) else a q) e)) in
    let rows_like : (q : ℕ) → IsTrue (among pages q) → rows_of p.width (b q) ≡ rows_of p.width (a q) = λ q m. either (q == p.first) (λ c. rows_of p.width (b q) ≡ rows_of p.width (a q))
    (λ e.
    let now : b q ≡ with_last_serial serial (a q) = same q ∙ ap (λ (c : Bool). if c then with_last_serial serial (a q) else a q) e in
    let stays = serial-stays 2 p.store p.key p.width serial (a q) extent within (follow-sound p a p.first pages q chain.follow m) in
    ap (rows_of p.width) now ∙ stays.1)
    (λ e. ap (rows_of p.width) (same q ∙ ap (λ (c : Bool). if c then with_last_serial serial (a q) else a q) e)) in
    let behind : SameOn rest a b = λ q m. either (q == p.first) (λ c. b q ≡ a q)
    (λ e. absurd (apart-behind [] page rest q chain.once m (eqb-true q p.first e ∙ sym head.0)))
    (λ e. same q ∙ ap (λ (c : Bool). if c then with_last_serial serial (a q) else a q) e) in
    record {
      first = chain.first;
      follow = follow-like p a b p.first pages (λ q m. like q) chain.follow;
      once = chain.once;
      later = later-same a b rest behind chain.later;
      are = chain.are ∙ sym (rows-alike p a b pages rows_like);
      ascend = chain.ascend;
    }

pub any-serial : (p : Place) (a b : Array) (pages : List ℕ) (rows : List (List ℕ)) (serial : ℕ) → p.store < 65536 → serial < 2 ^ 32 → IsChainOf p a pages rows
    → ((page : ℕ) → b page ≡ (if page == p.first then with_last_serial serial (a page) else a page)) → IsChainOf p b pages rows
any-serial p a b [] rows serial extent within chain same = absurd chain.follow
any-serial p a b (page ∷ rest) rows serial extent within chain same = serial-in p a b page rest rows serial extent within chain same

-- ---- no page of it is bad

misplaced-not : (p : Place) (a : Array) (front : List ℕ) (page : ℕ) (behind : List ℕ) (rows : List (List ℕ)) → IsTrue (ascends (row_before p.key) rows) → Parted p a front page behind rows → IsMisplaced p a front page → ⊥
misplaced-not p a [] page behind rows ascend parts bad = bad
misplaced-not p a (f ∷ front) page behind rows ascend parts (inl none) =
    elim (parts.later) [ inl e ↦ cons-none f front e | inr s ↦ s.0 none ]
misplaced-not p a (f ∷ front) page behind rows ascend parts (inr bad) =
    let all : List ℕ = f ∷ front in
    let here : List (List ℕ) = rows_of p.width (a page) in
    let cut : rows ≡ (rows_in p a all ++ here) ++ rows_in p a behind = parts.rows_are ∙ sym (append_assoc (rows_in p a all) here (rows_in p a behind)) in
    let so_far = pairs-left (row_before p.key) (rows_in p a all ++ here) (rows_in p a behind) (subst (λ (xs : List (List ℕ)). IsTrue (ascends (row_before p.key) xs)) cut ascend) in
    let is : rows_in p a (all ++ page ∷ []) ≡ rows_in p a all ++ here = rows-append p a all (page ∷ []) ∙ ap (λ (xs : List (List ℕ)). rows_in p a all ++ xs) (append-nil here) in
    bad (subst (λ (xs : List (List ℕ)). IsTrue (ascends (row_before p.key) xs)) (sym is) so_far)

pub never-bad : (p : Place) (a : Array) (pages : List ℕ) (rows : List (List ℕ)) (page at : ℕ) → IsBadPage p a page at → IsChainOf p a pages rows → ⊥
never-bad p a pages rows page at bad chain =
    let r = at-way p a p.first bad.pages page pages bad.way.leads chain.follow in
    let parts = parted p a bad.pages page r.0 rows (subst (λ (xs : List ℕ). IsChainOf p a xs rows) r.1 chain) in
    elim (bad.wrong) [
      | inl w ↦ wrong-not (IsChainPage p) (a page) at w parts.sound
      | inr m ↦ misplaced-not p a bad.pages page r.0 rows chain.ascend parts m.2
    ]

-- ---- where a row stands

-- of two ways one is the front of the other
two-ways : (place : Place) (array : Array) (first : ℕ) (front others : List ℕ) (page other : ℕ) → LeadTo place array first front page → LeadTo place array first others other
    → (page ≡ other) ⊎ (((mid : List ℕ) × (others ≡ front ++ page ∷ mid)) ⊎ ((mid : List ℕ) × (front ≡ others ++ other ∷ mid)))
two-ways place array first [] [] page other h k = inl (h ∙ sym k)
two-ways place array first [] (o ∷ others) page other h k = inr (inl (others, ap (λ (n : ℕ). n ∷ others) (k.0 ∙ sym h)))
two-ways place array first (f ∷ front) [] page other h k = inr (inr (front, ap (λ (n : ℕ). n ∷ front) (h.0 ∙ sym k)))
two-ways place array first (f ∷ front) (o ∷ others) page other h k =
    let e : o ≡ f = k.0 ∙ sym h.0 in
    elim (two-ways place array (next_of (array f)) front others page other h.3 (subst (λ (n : ℕ). LeadTo place array (next_of (array n)) others other) e k.3)) [
      | inl same ↦ inl same
      | inr (inl m) ↦ inr (inl (m.0, ap (λ (n : ℕ). n ∷ others) e ∙ ap (λ (xs : List ℕ). f ∷ xs) m.1))
      | inr (inr m) ↦ inr (inr (m.0, ap (λ (n : ℕ). n ∷ front) (sym e) ∙ ap (λ (xs : List ℕ). o ∷ xs) m.1))
    ]

none-from : (key : ℕ) (row : List ℕ) (rows : List (List ℕ)) → list_all (λ other. row_before key other row) rows ≡ true → list_any (λ other. not (row_before key other row)) rows ≡ true → ⊥
none-from key row [] h k = true≢false (sym k)
none-from key row (r ∷ rows) h k =
    none-from key row rows (right (row_before key r row) (list_all (λ other. row_before key other row) rows) h)
    (other-of (not (row_before key r row)) (list_any (λ other. not (row_before key other row)) rows) k (ap not (left (row_before key r row) (list_all (λ other. row_before key other row) rows) h)))

-- a page that goes on up to a key isn't in front of another one, where all in front are below the key
not-in-front : (p : Place) (a : Array) (key : List ℕ) (page other : ℕ) (front mid : List ℕ) → LeadTo p a p.first (front ++ page ∷ mid) other → list_all (λ row. row_before p.key row key) (rows_in p a (front ++ page ∷ mid)) ≡ true
    → GoesUpTo p a key page → ⊥
not-in-front p a key page other front mid leads below up_to =
    elim up_to [
      | inl none ↦ let more : 0 < next_of (a page) = goes-on p.first front leads in absurd (omega (arith, none, more))
      | inr some ↦
          let test : List ℕ → Bool = λ row. row_before p.key row key in
          let behind = all-right test (rows_in p a front) (rows_of p.width (a page) ++ rows_in p a mid) (subst (λ (xs : List (List ℕ)). list_all test xs ≡ true) (rows-append p a front (page ∷ mid)) below) in
          none-from p.key key (rows_of p.width (a page)) (all-left test (rows_of p.width (a page)) (rows_in p a mid) behind) some
    ]
  where
    goes-on : (first : ℕ) (front : List ℕ) → LeadTo p a first (front ++ page ∷ mid) other → 0 < next_of (a page)
    goes-on first [] l = l.2
    goes-on first (f ∷ front) l = goes-on (next_of (a f)) front l.3

-- the spot of a row depends on its key alone
pub spot-of-key : (p : Place) (a : Array) (row other : List ℕ) (page : ℕ) → take p.key row ≡ take p.key other → IsSpot p a row page → IsSpot p a other page
spot-of-key p a row other page e spot = record {
  pages = spot.pages;
  way = spot.way;
  before = subst (λ (key : List ℕ). list_all (λ x. is_lt (slice_cmp nat_cmp (take p.key x) key)) (rows_in p a spot.pages) ≡ true) e spot.before;
  up_to = elim spot.up_to [
    | inl last ↦ inl last
    | inr up ↦ inr (subst (λ (key : List ℕ). list_any (λ x. not (is_lt (slice_cmp nat_cmp (take p.key x) key))) (rows_of p.width (a page)) ≡ true) e up)
  ];
}

pub one-spot : (p : Place) (a : Array) (pages : List ℕ) (rows : List (List ℕ)) (key : List ℕ) (page other : ℕ) → IsChainOf p a pages rows → IsSpot p a key page → IsSpot p a key other → page ≡ other
one-spot p a pages rows key page other chain spot again =
    let test : List ℕ → Bool = λ row. row_before p.key row key in
    elim (two-ways p a p.first spot.pages again.pages page other spot.way.leads again.way.leads) [
      | inl same ↦ same
      | inr (inl m) ↦ absurd (not-in-front p a key page other spot.pages m.0 (subst (λ (xs : List ℕ). LeadTo p a p.first xs other) m.1 again.way.leads)
          (subst (λ (xs : List ℕ). list_all test (rows_in p a xs) ≡ true) m.1 again.before) spot.up_to)
      | inr (inr m) ↦ absurd (not-in-front p a key other page again.pages m.0 (subst (λ (xs : List ℕ). LeadTo p a p.first xs page) m.1 spot.way.leads)
          (subst (λ (xs : List ℕ). list_all test (rows_in p a xs) ≡ true) m.1 spot.before) again.up_to)
    ]

all-at : {X : Type 0} (test : X → Bool) (xs : List X) (index : ℕ) (x : X) → list_all test xs ≡ true → slice_get xs index ≡ Some x → test x ≡ true
all-at {X = X} test [] index x h k = absurd (none-some index x k)
  where
    none-some : (index : ℕ) (x : X) → slice_get [] index ≡ Some x → ⊥
    none-some zero x e = cc
    none-some (suc index) x e = cc
all-at test (y ∷ xs) zero x h k = subst (λ z. test z ≡ true) (inner k) (left (test y) (list_all test xs) h)
  where
    inner : {X : Type 0} {a b : X} → Some a ≡ Some b → a ≡ b
    inner e = cc
all-at test (y ∷ xs) (suc index) x h k = all-at test xs index x (right (test y) (list_all test xs) h) k

any-at : {X : Type 0} (test : X → Bool) (xs : List X) (index : ℕ) (x : X) → test x ≡ true → slice_get xs index ≡ Some x → list_any test xs ≡ true
any-at {X = X} test [] index x h k = absurd (none-some index x k)
  where
    none-some : (index : ℕ) (x : X) → slice_get [] index ≡ Some x → ⊥
    none-some zero x e = cc
    none-some (suc index) x e = cc
any-at test (y ∷ xs) zero x h k = first-of (test y) (list_any test xs) (subst (λ z. test z ≡ true) (inner (sym k)) h)
  where
    inner : {X : Type 0} {a b : X} → Some a ≡ Some b → a ≡ b
    inner e = cc
any-at test (y ∷ xs) (suc index) x h k = one-of (test y) (list_any test xs) (any-at test xs index x h k)

-- the rows in front of a page are below each of its rows
all-below : (key : ℕ) (xs ys : List (List ℕ)) (index : ℕ) (row : List ℕ) → list_all (λ x. list_all (row_before key x) ys) xs ≡ true → slice_get ys index ≡ Some row → list_all (λ other. row_before key other row) xs ≡ true
all-below key [] ys index row h k = refl
all-below key (x ∷ xs) ys index row h k =
    both (row_before key x row) (list_all (λ other. row_before key other row) xs)
    (all-at (row_before key x) ys index row (left (list_all (row_before key x) ys) (list_all (λ x. list_all (row_before key x) ys) xs) h) k)
    (all-below key xs ys index row (right (list_all (row_before key x) ys) (list_all (λ x. list_all (row_before key x) ys) xs) h) k)

filled-in : (a : Array) (pages : List ℕ) → AreLater a pages → IsTrue (list_all (λ page. not (count_of (a page) == 0)) pages)
filled-in a pages h =
    all-on (λ q. not (count_of (a q) == 0) && (last_serial_of (a q) == 0)) (λ q. not (count_of (a q) == 0)) pages (λ q m k. left (not (count_of (a q) == 0)) (last_serial_of (a q) == 0) k) h

stands-in : (p : Place) (a : Array) (front : List ℕ) (page : ℕ) (behind : List ℕ) (rows : List (List ℕ)) (row : List ℕ) (index : ℕ) → IsTrue (ascends (row_before p.key) rows) → Parted p a front page behind rows
    → slice_get (rows_of p.width (a page)) index ≡ Some row → IsSpot p a row page
stands-in p a front page behind rows row index ascend parts at =
    let here : List (List ℕ) = rows_of p.width (a page) in
    let cut : rows ≡ (rows_in p a front ++ here) ++ rows_in p a behind = parts.rows_are ∙ sym (append_assoc (rows_in p a front) here (rows_in p a behind)) in
    let so_far = pairs-left (row_before p.key) (rows_in p a front ++ here) (rows_in p a behind) (subst (λ (xs : List (List ℕ)). IsTrue (ascends (row_before p.key) xs)) cut ascend) in
    record {
      pages = front;
      way = record {
        leads = parts.leads;
        filled = filled-in a (drop 1 front) parts.later_front;
        ascend = pairs-left (row_before p.key) (rows_in p a front) here so_far;
      };
      before = all-below p.key (rows_in p a front) here index row (pairs-between (row_before p.key) (rows_in p a front) here so_far) at;
      up_to = inr (any-at (λ other. not (row_before p.key other row)) here index row (ap not (before-irreflexive p.key row)) at);
    }

pub stands-there : (p : Place) (a : Array) (pages : List ℕ) (rows : List (List ℕ)) (row : List ℕ) (page index : ℕ) → IsChainOf p a pages rows → IsTrue (among pages page)
    → slice_get (rows_of p.width (a page)) index ≡ Some row → IsSpot p a row page
stands-there p a pages rows row page index chain here at =
    let c = cut-at pages page here in
    stands-in p a c.0 page c.1 rows row index chain.ascend (parted p a c.0 page c.1 rows (subst (λ (xs : List ℕ). IsChainOf p a xs rows) c.2 chain)) at

-- ---- what is ahead of a cursor

at-depends : (p : Place) (a b : Array) (cursor : Cursor) (pages : List ℕ) (page : ℕ) → SameOn pages a b → b page ≡ a page → IsAt p a cursor pages page → IsAt p b cursor pages page
at-depends p a b cursor pages page same is at =
    let joined : SameOn (pages ++ page ∷ []) a b = same-append pages (page ∷ []) a b same (λ q m. ap b (only q m) ∙ is ∙ ap a (sym (only q m))) in
    record {
      way = record {
        leads = lead-like p a b p.first pages page (λ q m. same-like p a b q (same q m)) at.way.leads;
        filled = all-on (λ q. not (count_of (a q) == 0)) (λ q. not (count_of (b q) == 0)) (drop 1 pages)
            (λ q m k. subst (λ (image : List ℕ). not (count_of image == 0) ≡ true) (sym (same-drop pages a b same q m)) k) at.way.filled;
        ascend = subst (λ (xs : List (List ℕ)). IsTrue (ascends (row_before p.key) xs)) (sym (rows-same p a b pages same)) at.way.ascend;
      };
      number = at.number;
      image = is ∙ at.image;
      filled = at.filled;
      sound = at.sound;
      ascend = subst (λ (xs : List (List ℕ)). IsTrue (ascends (row_before p.key) xs)) (sym (rows-same p a b (pages ++ page ∷ []) joined)) at.ascend;
      passed = at.passed;
    }
  where
    only : (q : ℕ) → IsTrue (among (page ∷ []) q) → q ≡ page
    only q m = either (page == q) (λ c. q ≡ page) (λ e. sym (eqb-true page q e)) (λ e. absurd (true≢false (sym (other-of (page == q) false m e))))

pub ahead-depends : (p : Place) (a b : Array) (pages : List ℕ) (rows : List (List ℕ)) (cursor : Cursor) (rest : List (List ℕ)) → IsChainOf p a pages rows → SameOn pages a b → IsAheadInChain p a cursor rest → IsAheadInChain p b cursor rest
ahead-depends p a b pages rows cursor rest chain same ahead =
    let whole = one p a pages ahead.all_pages rows ahead.rows chain ahead.chain in
    let all : SameOn ahead.all_pages a b = subst (λ (xs : List ℕ). SameOn xs a b) whole.0 same in
    let r = at-way p a p.first ahead.pages ahead.page ahead.all_pages ahead.sits.way.leads ahead.chain.follow in
    let split : SameOn (ahead.pages ++ ahead.page ∷ r.0) a b = subst (λ (xs : List ℕ). SameOn xs a b) r.1 all in
    let front : SameOn ahead.pages a b = λ q m. split q (among-left ahead.pages (ahead.page ∷ r.0) q m) in
    let is : b ahead.page ≡ a ahead.page = split ahead.page (among-right ahead.pages (ahead.page ∷ r.0) ahead.page (here ahead.page r.0)) in
    record {
      all_pages = ahead.all_pages;
      rows = ahead.rows;
      chain = depends p a b ahead.all_pages ahead.rows ahead.chain all;
      pages = ahead.pages;
      page = ahead.page;
      sits = at-depends p a b cursor ahead.pages ahead.page front is ahead.sits;
      rest_is =
          ahead.rest_is
          ∙ ap (λ (xs : List (List ℕ)). xs ++ take cursor.index (rows_of p.width (a ahead.page)) ++ rest) (sym (rows-same p a b ahead.pages front))
          ∙ ap (λ (image : List ℕ). rows_in p b ahead.pages ++ take cursor.index (rows_of p.width image) ++ rest) (sym is);
    }

-- where a cursor stands, its page is as it was, and may be asked for
pub stands : (p : Place) (a : Array) (cursor : Cursor) → SitsInChain p a cursor → (a cursor.number ≡ cursor.page) × IsTrue (is_on_chain p a cursor.number)
stands p a cursor sits =
    let at = sits.2 in
    (ap a at.number ∙ at.image, subst (λ (n : ℕ). IsTrue (is_on_chain p a n)) (sym at.number) (way-reached p a sits.0 sits.1 at.way))

pub ahead-sits : (p : Place) (a : Array) (cursor : Cursor) (rest : List (List ℕ)) → IsAheadInChain p a cursor rest → SitsInChain p a cursor
ahead-sits p a cursor rest ahead = (ahead.pages, ahead.page, ahead.sits)
