-- How many rows a state has, at least, of a triple that another state lacks.
use Rattle.std.proofs.Common.{◌≡◌, ℕ, ◌+◌, ◌≤◌, Bool, true, false, List, [], ◌++◌, refl, sym, ap, subst, arith, true≢false}
use Rattle.std.specs.Prelude.{◌==◌, not, ◌&&◌, map, filter, flat_map, if◌then◌else◌}
use Rattle.std.specs.List.{list_any}
use Rattle.st_values.proofs.Tests.{either, left}
use Rattle.st_lattice.specs.declared.attribute.Attribute.{Attribute}
use Rattle.st_lattice.specs.declared.stores.StoreKind.{StoreKind}
use Rattle.st_lattice.specs.declared.stores.StoreKind.TheVariants.{Set, Index, Inverse, Column}
use Rattle.st_lattice.specs.Stores.{keeps}
use Rattle.st_state.specs.declared.triple.Triple.{Triple}
use Rattle.st_state.specs.State.{State, same_triple}
use Rattle.st_state.specs.Rows.{Row, attribute_rows, column_row, entity_row, kept_rows, keyed_row, rows, rows_added, rows_changed, same_cells, same_key}
use Rattle.st_state.proofs.Changed.{number-is}
use Rattle.st_state.proofs.Members.{Member, filter-member}
use Rattle.st_counts.specs.Counts.{kept_count, turned_count}
use Rattle.st_counts.proofs.Tallies.{none-stronger, tally, tally-append, tally-map, tally-member, tally-part, tally-weaken}
use Rattle.st_counts.proofs.Unlike.{Fits, IsKeyed, index-keyed, inverse-keyed, is_low, keyed-fresh, set-keyed}

-- the rows of one attribute of a state
abbrev pub part : State → Attribute → List Row
part s a = attribute_rows a (filter (λ t. t.attribute == a.number) s.triples)

-- how many rows of entities pass a test, and how many of attributes
abbrev pub in_extents : (Row → Bool) → State → ℕ
in_extents p s = tally p (map (entity_row s) s.live)

abbrev pub in_parts : (Row → Bool) → State → ℕ
in_parts p s = tally p (flat_map (part s) s.schema.attributes)

pub rows-tally : (p : Row → Bool) (s : State) → tally p (rows s) ≡ in_extents p s + in_parts p s
rows-tally p s = tally-append p (map (entity_row s) s.live) (flat_map (part s) s.schema.attributes)

-- ---- the rows of a triple

module _ (p : Row → Bool) (a : Attribute) (ts : List Triple) (t : Triple) (there : Member t ts) where
  kept-tally : (kind : StoreKind) (row : Triple → Row) → p (row t) ≡ true → kept_count kind a ≤ tally p (kept_rows kind row a ts)
  kept-tally kind row h =
      either (keeps kind a) (λ b. (if b then 1 else 0) ≤ tally p (if b then map row ts else []))
      (λ _. let same = tally-map p row ts in let some = tally-member (λ u. p (row u)) t ts there h in omega (arith, same, some)) (λ _. omega arith)

  part-tally : ((kind : StoreKind) → IsKeyed kind → p (keyed_row kind t) ≡ true) → kept_count Set a + turned_count a ≤ tally p (attribute_rows a ts)
  part-tally h =
      let set = kept_rows Set (keyed_row Set) a ts in
      let index = kept_rows Index (keyed_row Index) a ts in
      let inverse = kept_rows Inverse (keyed_row Inverse) a ts in
      let column = kept_rows Column column_row a ts in
      let one = tally-append p ((set ++ index) ++ inverse) column in
      let two = tally-append p (set ++ index) inverse in
      let three = tally-append p set index in
      let in_set = kept-tally Set (keyed_row Set) (h Set set-keyed) in
      let in_index = kept-tally Index (keyed_row Index) (h Index index-keyed) in
      let in_inverse = kept-tally Inverse (keyed_row Inverse) (h Inverse inverse-keyed) in
      sums (kept_count Set a) (kept_count Index a) (kept_count Inverse a) (tally p set) (tally p index) (tally p inverse) (tally p column) (tally p (set ++ index)) (tally p ((set ++ index) ++ inverse))
      (tally p (((set ++ index) ++ inverse) ++ column)) in_set in_index in_inverse three two one
    where
      sums : (a b c d e f g m n o : ℕ) → a ≤ d → b ≤ e → c ≤ f → m ≡ d + e → n ≡ m + f → o ≡ n + g → a + (b + c) ≤ o
      sums a b c d e f g m n o h i j k l q = omega (arith, h, i, j, k, l, q)

-- the rows of a triple of an attribute of a state, where all of them pass
pub parts-tally : (p : Row → Bool) (s : State) (a : Attribute) (t : Triple) → Member a s.schema.attributes → Member t s.triples → (t.attribute == a.number) ≡ true
    → ((kind : StoreKind) → IsKeyed kind → p (keyed_row kind t) ≡ true) → kept_count Set a + turned_count a ≤ in_parts p s
parts-tally p s a t inside there its h =
    let here = part-tally p a (filter (λ u. u.attribute == a.number) s.triples) t (filter-member (λ u. u.attribute == a.number) t s.triples there its) h in
    let all = tally-part p (part s) a s.schema.attributes inside in
    omega (arith, here, all)

-- ---- rows that another state lacks

-- whether a state has no row that matches one
abbrev pub lacks : (Row → Row → Bool) → State → Row → Bool
lacks match s r = not (list_any (match r) (rows s))

-- whether two rows have one key and the same content
abbrev pub same_row : Row → Row → Bool
same_row r other = same_key r other && same_cells r.cells other.cells

-- a match of rows that have one key
abbrev pub MatchesKeys : (Row → Row → Bool) → Type 0
MatchesKeys match = (r other : Row) → match r other ≡ true → same_key r other ≡ true

pub same_key-matches : MatchesKeys same_key
same_key-matches r other h = h

pub same_row-matches : MatchesKeys same_row
same_row-matches r other h = left (same_key r other) (same_cells r.cells other.cells) h

-- the rows of a triple that the other state lacks
pub fresh-parts : (match : Row → Row → Bool) → MatchesKeys match → (s new : State) → Fits s → (a : Attribute) → Member a new.schema.attributes → is_low a.number ≡ true
    → (t : Triple) → Member t new.triples → (t.attribute == a.number) ≡ true → list_any (same_triple t) s.triples ≡ false → kept_count Set a + turned_count a ≤ in_parts (lacks match s) new
fresh-parts match keys s new ok a inside low t there its fresh =
    parts-tally (lacks match s) new a t inside there its
    (λ kind is. ap not (none-stronger (same_key (keyed_row kind t)) (match (keyed_row kind t)) (λ x m. keys (keyed_row kind t) x m) (rows s) (keyed-fresh s ok t low-triple fresh kind is)))
  where
    low-triple : is_low t.attribute ≡ true
    low-triple = subst (λ n. is_low n ≡ true) (sym (number-is t.attribute a.number its)) low

-- what a change adds, by the rows of entities and of attributes
pub added-is : (s new : State) → rows_added s new ≡ in_extents (lacks same_key s) new + in_parts (lacks same_key s) new
added-is s new = rows-tally (lacks same_key s) new

-- what a change adds, and what its converse adds, it changes
pub changed-most : (s new : State) → rows_added s new + rows_added new s ≤ rows_changed s new
changed-most s new =
    let more = tally-weaken (lacks same_key s) (lacks same_row s) (λ r h. stronger r h) (rows new) in
    sums (rows_added s new) (rows_added new s) (tally (lacks same_row s) (rows new)) more
  where
    twice : (b : Bool) → not b ≡ true → b ≡ false
    twice true h = absurd (true≢false (sym h))
    twice false h = refl

    stronger : (r : Row) → lacks same_key s r ≡ true → lacks same_row s r ≡ true
    stronger r h = ap not (none-stronger (same_key r) (same_row r) (λ x m. same_row-matches r x m) (rows s) (twice (list_any (same_key r) (rows s)) h))

    sums : (a b c : ℕ) → a ≤ c → a + b ≤ c + b
    sums a b c h = omega (arith, h)
