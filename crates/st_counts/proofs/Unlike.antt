-- Which rows of a state have not the key of a row.
use Rattle.std.proofs.Common.{◌≡◌, ℕ, ◌+◌, ◌*◌, ◌<◌, ◌≤◌, Bool, true, false, List, [], ◌∷◌, ◌++◌, length, refl, sym, ap, subst, ◌∙◌, arith, true≢false}
use Rattle.std.specs.Prelude.{◌==◌, not, ◌&&◌, map, filter, flat_map, nat_lt, if◌then◌else◌}
use Rattle.std.specs.List.{All, list_all, list_any}
use Rattle.std.proofs.lemmas.List.Elements.{All-head, All-tail}
use Rattle.std.proofs.lemmas.List.Folds.{list_all-append, list_all-map}
use Rattle.st_values.specs.declared.value.EntityId.{EntityId}
use Rattle.st_values.specs.Order.{same_entity, same_value}
use Rattle.st_values.proofs.Tests.{all-weaken, both, either, left, never, right}
use Rattle.st_lattice.specs.declared.attribute.Attribute.{Attribute}
use Rattle.st_lattice.specs.declared.stores.StoreKind.{StoreKind}
use Rattle.st_lattice.specs.declared.stores.StoreKind.TheVariants.{Extent, Set, Index, Inverse, Column}
use Rattle.st_lattice.specs.Stores.{store, keeps, kind_number}
use Rattle.st_state.specs.declared.triple.Triple.{Triple}
use Rattle.st_state.specs.State.{State, same_triple}
use Rattle.st_state.specs.Legal.{IsNearlyLegal, is_counted}
use Rattle.st_state.specs.Rows.{Row, attribute_rows, column_row, entity_row, kept_rows, keyed_row, rows, same_key}
use Rattle.st_state.proofs.Changed.{number-is, number-itself}
use Rattle.st_state.proofs.Members.{Member, all-members, member-filter, member-passes}
use Rattle.st_counts.proofs.Tallies.{all-parts, any-none, member-none}

-- ---- numbers of stores

less-is : (m n : ℕ) → nat_lt m n ≡ true → m < n
less-is m n h = grind (arith, h)

is-less : (m n : ℕ) → m < n → nat_lt m n ≡ true
is-less m n h = grind (arith, h)

pub same-number : (k j m n : ℕ) → m < 65536 → n < 65536 → k * 65536 + m ≡ j * 65536 + n → m ≡ n
same-number k j m n h i e = omega (arith, h, i, e)

pub same-kind : (k j m n : ℕ) → m < 65536 → n < 65536 → k * 65536 + m ≡ j * 65536 + n → k ≡ j
same-kind k j m n h i e = omega (arith, h, i, e)

-- whether a number of a type or an attribute has its place in the number of a store
abbrev pub is_low : ℕ → Bool
is_low number = nat_lt number 65536

-- stores of two kinds
pub other-store : (k j m n : ℕ) → is_low m ≡ true → is_low n ≡ true → (k ≡ j → ⊥) → (k * 65536 + m == j * 65536 + n) ≡ false
other-store k j m n h i d =
    never (k * 65536 + m == j * 65536 + n) (λ e. d (same-kind k j m n (less-is m 65536 h) (less-is n 65536 i) (number-is (k * 65536 + m) (j * 65536 + n) e)))

-- the numbers of the types of live entities and of the attributes of a state are such
pub record Fits (s : State) : Type 0 where
  pub types : list_all (λ e. is_low e.ty) s.live ≡ true
  pub numbers : list_all (λ a. is_low a.number) s.schema.attributes ≡ true

low-all : (xs : List Attribute) → All (λ a. a.number < 65536) xs → list_all (λ a. is_low a.number) xs ≡ true
low-all [] h = refl
low-all (x ∷ xs) h =
    both (is_low x.number) (list_all (λ a. is_low a.number) xs) (is-less x.number 65536 (All-head (λ a. a.number < 65536) x xs h)) (low-all xs (All-tail (λ a. a.number < 65536) x xs h))

pub low-type : (s : State) → IsNearlyLegal s → (ty : ℕ) → ty < length s.schema.names → is_low ty ≡ true
low-type s n ty h = let few = n.orderly.few_types in is-less ty 65536 (omega (arith, few, h))

pub fits : (s : State) → IsNearlyLegal s → All (λ a. a.number < 65536) s.schema.attributes → Fits s
fits s n low = record {
  types = all-weaken (is_counted s) (λ e. is_low e.ty)
      (λ e h. low-type s n e.ty (less-is e.ty (length s.schema.names) (left (nat_lt e.ty (length s.schema.names)) (nat_lt 0 e.serial && _) h))) s.live n.counted;
  numbers = low-all s.schema.attributes low;
}

-- ---- what all rows have

-- a kind of stores whose keys are a triple's entity and value
pub record IsKeyed (kind : StoreKind) : Type 0 where
  pub above : 1 ≤ kind_number kind
  pub below : kind_number kind ≤ 3

pub set-keyed : IsKeyed Set
set-keyed = record { above = omega arith; below = omega arith }

pub index-keyed : IsKeyed Index
index-keyed = record { above = omega arith; below = omega arith }

pub inverse-keyed : IsKeyed Inverse
inverse-keyed = record { above = omega arith; below = omega arith }

kept-all : (p : Row → Bool) (kind : StoreKind) (row : Triple → Row) (a : Attribute) (ts : List Triple) → list_all (λ t. p (row t)) ts ≡ true → list_all p (kept_rows kind row a ts) ≡ true
kept-all p kind row a ts h =
    either (keeps kind a) (λ b. list_all p (if b then map row ts else []) ≡ true) (λ _. list_all-map p row ts ∙ h) (λ _. refl)

all-both : (p : Row → Bool) (xs ys : List Row) → list_all p xs ≡ true → list_all p ys ≡ true → list_all p (xs ++ ys) ≡ true
all-both p xs ys h k = list_all-append p xs ys ∙ both (list_all p xs) (list_all p ys) h k

attribute-all : (p : Row → Bool) (a : Attribute) (ts : List Triple) → ((kind : StoreKind) → IsKeyed kind → list_all (λ t. p (keyed_row kind t)) ts ≡ true) → list_all (λ t. p (column_row t)) ts ≡ true
    → list_all p (attribute_rows a ts) ≡ true
attribute-all p a ts h k =
    let set = kept_rows Set (keyed_row Set) a ts in
    let index = kept_rows Index (keyed_row Index) a ts in
    let inverse = kept_rows Inverse (keyed_row Inverse) a ts in
    let column = kept_rows Column column_row a ts in
    all-both p ((set ++ index) ++ inverse) column
    (all-both p (set ++ index) inverse
    (all-both p set index (kept-all p Set (keyed_row Set) a ts (h Set set-keyed)) (kept-all p Index (keyed_row Index) a ts (h Index index-keyed)))
    (kept-all p Inverse (keyed_row Inverse) a ts (h Inverse inverse-keyed)))
    (kept-all p Column column_row a ts k)

module _ (s : State) (ok : Fits s) (p : Row → Bool) where
  part-all : (a : Attribute) → is_low a.number ≡ true → ((kind : StoreKind) → IsKeyed kind → (u : Triple) → Member u s.triples → is_low u.attribute ≡ true → p (keyed_row kind u) ≡ true)
      → ((u : Triple) → is_low u.attribute ≡ true → p (column_row u) ≡ true) → list_all p (attribute_rows a (filter (λ t. t.attribute == a.number) s.triples)) ≡ true
  part-all a low keyed column =
      attribute-all p a (filter is_its s.triples)
      (λ kind is. all-members (λ t. p (keyed_row kind t)) (filter is_its s.triples) (λ u m. keyed kind is u (member-filter is_its u s.triples m) (its-low u m)))
      (all-members (λ t. p (column_row t)) (filter is_its s.triples) (λ u m. column u (its-low u m)))
    where
      is_its : Triple → Bool
      is_its t = t.attribute == a.number

      its-low : (u : Triple) → Member u (filter is_its s.triples) → is_low u.attribute ≡ true
      its-low u m = subst (λ n. is_low n ≡ true) (sym (number-is u.attribute a.number (member-passes is_its u s.triples m))) low

  -- what the rows of entities, and those of triples, have, all rows have
  pub rows-all : list_all (λ e. p (entity_row s e)) s.live ≡ true → ((kind : StoreKind) → IsKeyed kind → (u : Triple) → Member u s.triples → is_low u.attribute ≡ true → p (keyed_row kind u) ≡ true)
      → ((u : Triple) → is_low u.attribute ≡ true → p (column_row u) ≡ true) → list_all p (rows s) ≡ true
  rows-all entities keyed column =
      all-both p (map (entity_row s) s.live) (flat_map (λ a. attribute_rows a (filter (λ t. t.attribute == a.number) s.triples)) s.schema.attributes)
      (list_all-map p (entity_row s) s.live ∙ entities)
      (all-parts p (λ a. attribute_rows a (filter (λ t. t.attribute == a.number) s.triples)) s.schema.attributes
      (all-weaken (λ a. is_low a.number) (λ a. list_all p (attribute_rows a (filter (λ t. t.attribute == a.number) s.triples))) (λ a low. part-all a low keyed column) s.schema.attributes ok.numbers))

-- ---- rows that no row has the key of

module _ (s : State) (ok : Fits s) where
  -- a triple's row in such a store, where the state lacks the triple
  module _ (t : Triple) (low : is_low t.attribute ≡ true) (fresh : list_any (same_triple t) s.triples ≡ false) (kind : StoreKind) (keyed : IsKeyed kind) where
    abbrev unlike : Row → Bool
    unlike r = not (same_key (keyed_row kind t) r)

    apart-store : (r : Row) → (store kind t.attribute == r.store) ≡ false → unlike r ≡ true
    apart-store r h = ap (λ b. not (b && (same_entity t.entity r.entity && same_value t.value r.value))) h

    pub keyed-fresh : list_any (same_key (keyed_row kind t)) (rows s) ≡ false
    keyed-fresh =
        any-none (same_key (keyed_row kind t)) (rows s)
        (rows-all s ok unlike
        (all-weaken (λ e. is_low e.ty) (λ e. unlike (entity_row s e))
        (λ e h. apart-store (entity_row s e) (other-store (kind_number kind) 0 t.attribute e.ty low h (λ z. omega (arith, z, keyed.above)))) s.live ok.types)
        (λ k is u m h. ap not (never (same_key (keyed_row kind t) (keyed_row k u)) (λ e. same-triple k u m h e)))
        (λ u h. apart-store (column_row u) (other-store (kind_number kind) 4 t.attribute u.attribute low h (λ z. omega (arith, z, keyed.below)))))
      where
        same-triple : (k : StoreKind) (u : Triple) → Member u s.triples → is_low u.attribute ≡ true → same_key (keyed_row kind t) (keyed_row k u) ≡ true → ⊥
        same-triple k u m h e =
            let rest = same_entity t.entity u.entity && same_value t.value u.value in
            let is : t.attribute ≡ u.attribute =
            same-number (kind_number kind) (kind_number k) t.attribute u.attribute (less-is t.attribute 65536 low) (less-is u.attribute 65536 h)
            (number-is (store kind t.attribute) (store k u.attribute) (left (store kind t.attribute == store k u.attribute) rest e)) in
            let same : same_triple t u ≡ true =
            both (t.attribute == u.attribute) rest (subst (λ n. (t.attribute == n) ≡ true) is (number-itself t.attribute)) (right (store kind t.attribute == store k u.attribute) rest e) in
            true≢false (sym same ∙ member-none (same_triple t) u s.triples m fresh)

  -- an entity's row meets only entities' rows
  module _ (e : EntityId) (low : is_low e.ty ≡ true) where
    pub extent-fresh : (r : Row) → r.store ≡ store Extent e.ty → (match : Row → Bool) → ((x : Row) → match x ≡ true → (r.store == x.store) ≡ true)
        → list_all (λ x. not (match (entity_row s x))) s.live ≡ true → list_any match (rows s) ≡ false
    extent-fresh r at match stored entities =
        any-none match (rows s)
        (rows-all s ok (λ x. not (match x)) entities
        (λ k is u m h. elsewhere (keyed_row k u) (other-store 0 (kind_number k) e.ty u.attribute low h (λ z. omega (arith, z, is.above))))
        (λ u h. elsewhere (column_row u) (other-store 0 4 e.ty u.attribute low h (λ z. omega (arith, z)))))
      where
        elsewhere : (x : Row) → (store Extent e.ty == x.store) ≡ false → not (match x) ≡ true
        elsewhere x h = ap not (never (match x) (λ m. true≢false (sym (stored x m) ∙ ap (λ z. z == x.store) at ∙ h)))
