-- The places of stores, one after the other.
use Rattle.std.proofs.Common.{◌≡◌, ℕ, zero, suc, ◌+◌, ◌*◌, ◌<◌, ◌≤◌, ◌||◌, not, nat_lt, Bool, true, false, List, [], ◌∷◌, ◌++◌, length, map, filter, take, get_or, IsTrue, refl, sym, ap, ◌∙◌, subst, arith}
use Rattle.std.specs.List.{list_all, range_with_len}
use Rattle.std.proofs.lemmas.Bool.Decides.{nat_tests}
use Rattle.st_values.proofs.Tests.{both, left, right}
use Rattle.st_values.specs.Arranged.{ascends}
use Rattle.st_lattice.specs.Outline.{Outline, attribute}
use Rattle.st_lattice.specs.Lattice.{below}
use Rattle.st_lattice.specs.declared.stores.StoreKind.{StoreKind}
use Rattle.st_lattice.specs.declared.stores.StoreKind.TheVariants.{Extent, Set, Index, Inverse, Column}
use Rattle.st_lattice.specs.Stores.{store, stores_of, stores_below, keeps_one}
use Rattle.st_pages.specs.declared.places.Place.{Place}
use Rattle.st_catalog.specs.declared.root.Root.{Root}
use Rattle.st_catalog.specs.Catalog.{stores_in}
use Rattle.st_catalog.specs.Stores.{placed, is_known}

-- the store of a root passes what all stores pass
pub passes-at : (roots : List Root) (test : ℕ → Bool) (i : ℕ) (d : Root) → i < length roots → list_all test (stores_in roots) ≡ true → test (get_or roots i d).store ≡ true
passes-at [] test i d within all = absurd (omega (arith, within))
passes-at (x ∷ roots) test zero d within all = left (test x.store) (list_all test (stores_in roots)) all
passes-at (x ∷ roots) test (suc i) d within all = passes-at roots test i d (omega (arith, within)) (right (test x.store) (list_all test (stores_in roots)) all)

-- the places of the roots in front of one have stores below its store
pub below-all : (schema : Outline) (roots : List Root) (i : ℕ) (d : Root) → i < length roots → ascends nat_lt (stores_in roots) ≡ true → list_all (λ p. nat_lt p.store (get_or roots i d).store) (map (placed schema) (take i roots)) ≡ true
below-all schema [] i d within all = absurd (omega (arith, within))
below-all schema (x ∷ roots) zero d within all = refl
below-all schema (x ∷ roots) (suc i) d within all =
    let more : i < length roots = omega (arith, within) in
    both (nat_lt x.store (get_or roots i d).store) (list_all (λ p. nat_lt p.store (get_or roots i d).store) (map (placed schema) (take i roots)))
    (passes-at roots (nat_lt x.store) i d more (left (list_all (nat_lt x.store) (stores_in roots)) (ascends nat_lt (stores_in roots)) all))
    (below-all schema roots i d more (right (list_all (nat_lt x.store) (stores_in roots)) (ascends nat_lt (stores_in roots)) all))

pub pushed-below : (schema : Outline) (roots : List Root) (i : ℕ) (d : Root) (place : Place) (places : List Place) → i < length roots → ascends nat_lt (stores_in roots) ≡ true → place ≡ placed schema (get_or roots i d) → places ≡ map (placed schema) (take i roots)
    → IsTrue (list_all (λ p. nat_lt p.store place.store) places)
pushed-below schema roots i d place places within all is are =
    subst (λ (q : Place). IsTrue (list_all (λ p. nat_lt p.store q.store) places)) (sym is) (subst (λ (ps : List Place). IsTrue (list_all (λ p. nat_lt p.store (get_or roots i d).store) ps)) (sym are) (below-all schema roots i d within all))

-- ---- the stores of a schema

all-append : {A : Type 0} (test : A → Bool) (xs ys : List A) → list_all test xs ≡ true → list_all test ys ≡ true → list_all test (xs ++ ys) ≡ true
all-append test [] ys all more = more
all-append test (x ∷ xs) ys all more = both (test x) (list_all test (xs ++ ys)) (left (test x) (list_all test xs) all) (all-append test xs ys (right (test x) (list_all test xs) all) more)

or-left : (b c : Bool) → b ≡ true → (b || c) ≡ true
or-left true c e = refl
or-left false c e = cc

or-right : (b c : Bool) → c ≡ true → (b || c) ≡ true
or-right true c e = refl
or-right false c e = e

high : (schema : Outline) (n : ℕ) → 65536 ≤ n → is_known schema n ≡ true
high schema n h =
    let far : nat_lt n 65536 ≡ false = grind (arith, nat_tests) in
    or-left (not (nat_lt n 65536)) (nat_lt n (length schema.names)) (ap not far)

low : (schema : Outline) (n : ℕ) → n < length schema.names → is_known schema n ≡ true
low schema n h =
    let near : nat_lt n (length schema.names) ≡ true = grind (arith, nat_tests) in
    or-right (not (nat_lt n 65536)) (nat_lt n (length schema.names)) near

extents-known : (schema : Outline) (from count : ℕ) → from + count ≤ length schema.names → list_all (is_known schema) (map (store Extent) (range_with_len from count)) ≡ true
extents-known schema from zero within = refl
extents-known schema from (suc count) within =
    both (is_known schema (store Extent from)) (list_all (is_known schema) (map (store Extent) (range_with_len (from + 1) count)))
    (low schema (0 * 65536 + from) (omega (arith, within))) (extents-known schema (from + 1) count (omega (arith, within)))

others-known : (schema : Outline) (kind : StoreKind) (numbers : List ℕ) → ((n : ℕ) → 65536 ≤ store kind n) → list_all (is_known schema) (map (store kind) numbers) ≡ true
others-known schema kind [] above = refl
others-known schema kind (n ∷ numbers) above =
    both (is_known schema (store kind n)) (list_all (is_known schema) (map (store kind) numbers)) (high schema (store kind n) (above n)) (others-known schema kind numbers above)

-- each store of a schema is one of its types' or none of a type
pub all-known : (schema : Outline) → list_all (is_known schema) (stores_of schema) ≡ true
all-known schema =
    let test = is_known schema in
    let sets = stores_below schema Set schema.next in
    let indexes = stores_below schema Index schema.next in
    let inverses = stores_below schema Inverse schema.next in
    let columns = stores_below schema Column schema.next in
    let kept : StoreKind → List ℕ = λ kind. filter (λ number. keeps_one kind (attribute schema number)) (below schema.next) in
    let extents = map (store Extent) (below (length schema.names)) in
    let one = all-append test extents sets (extents-known schema 0 (length schema.names) (omega arith)) (others-known schema Set (kept Set) (λ n. omega arith)) in
    let two = all-append test (extents ++ sets) indexes one (others-known schema Index (kept Index) (λ n. omega arith)) in
    let three = all-append test (extents ++ sets ++ indexes) inverses two (others-known schema Inverse (kept Inverse) (λ n. omega arith)) in
    all-append test (extents ++ sets ++ indexes ++ inverses) columns three (others-known schema Column (kept Column) (λ n. omega arith))

all-mapped : (test : ℕ → Bool) (roots : List Root) → list_all test (stores_in roots) ≡ true → list_all (λ (r : Root). test r.store) roots ≡ true
all-mapped test [] all = refl
all-mapped test (r ∷ roots) all = both (test r.store) (list_all (λ (r : Root). test r.store) roots) (left (test r.store) (list_all test (stores_in roots)) all) (all-mapped test roots (right (test r.store) (list_all test (stores_in roots)) all))

pub roots-known : (schema : Outline) (roots : List Root) → stores_in roots ≡ stores_of schema → list_all (λ (r : Root). is_known schema r.store) roots ≡ true
roots-known schema roots same = all-mapped (is_known schema) roots (ap (list_all (is_known schema)) same ∙ all-known schema)
