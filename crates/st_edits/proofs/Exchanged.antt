-- A value in place of one of the cells of a row.
use Rattle.std.proofs.Common.{◌≡◌, ℕ, zero, suc, ◌+◌, ◌<◌, Bool, true, false, cond, List, [], ◌∷◌, ◌++◌, length, Some, None, refl, sym, ap, ◌∙◌, subst, arith, true≢false}
use Rattle.std.specs.Prelude.{◌&&◌, ◌||◌, ◌==◌, not, nat_lt, filter, find, flat_map, position, slice_get, slice_set, slice_index_or}
use Rattle.std.specs.List.{position_or_len}
use Rattle.std.proofs.lemmas.Bool.Decides.{nat_tests}
use Rattle.st_values.specs.declared.value.Kind.{Kind}
use Rattle.st_values.specs.declared.value.Value.{Value}
use Rattle.st_values.specs.declared.value.Value.TheVariants.{Null, Int, Bool as Truth, Text, Entity}
use Rattle.st_values.proofs.Tests.{both, either}
use Rattle.st_lattice.specs.Outline.{Outline, attribute}
use Rattle.st_lattice.specs.Lattice.{attributes_in, isa}
use Rattle.st_lookups.proofs.Celled.{all-cells}
use Rattle.st_lattice.specs.declared.attribute.Attribute.{Attribute}
use Rattle.st_rows.specs.declared.field.Field.TheVariants.{Cell}
use Rattle.st_rows.specs.Rows.{AreHeld, HoldsInCell, cell_of}
use Rattle.st_index.specs.Turned.{IsOrNull}
use Rattle.st_lookups.specs.Looks.{is_cell}

-- what a cell holds is null, or fits
from-cell : (k : Kind) (v : Value) → HoldsInCell k v → IsOrNull k v
from-cell k Null h = tt
from-cell k (Int i) h = h
from-cell k (Truth b) h = h
from-cell k (Text t) h = h
from-cell k (Entity x) h = h

in-cell : (k : Kind) (v : Value) → IsOrNull k v → HoldsInCell k v
in-cell k Null h = tt
in-cell k (Int i) h = h
in-cell k (Truth b) h = h
in-cell k (Text t) h = h
in-cell k (Entity x) h = h

-- the cells that fields hold, by the attributes that have them
module _ (a : Attribute) (v : Value) where
  pub record Fit (xs : List Attribute) (cells : List Value) (index : ℕ) : Type 0 where
    pub within : index < length cells
    pub old : IsOrNull a.kind (slice_index_or cells index Null)
    pub new : IsOrNull a.kind v → AreHeld (flat_map cell_of xs) (slice_set cells index v)

  none-some : {X : Type 0} (x : X) → None ≡ Some x → ⊥
  none-some x e = cc

  some-is : (x y : Attribute) → Some x ≡ Some y → x ≡ y
  some-is x y e = cc

  -- a cell more in front
  first-held : (x : Attribute) (xs : List Attribute) (many column : Bool) (cells : List Value) (index : ℕ) → ((cs : List Value) (i : ℕ) → AreHeld (flat_map cell_of xs) cs → slice_get (filter is_cell xs) i ≡ Some a → Fit xs cs i)
      → AreHeld (cond (many || column) [] (Cell x.kind ∷ []) ++ flat_map cell_of xs) cells → slice_get (cond (not many && not column) (x ∷ filter is_cell xs) (filter is_cell xs)) index ≡ Some a
      → (index < length cells) × IsOrNull a.kind (slice_index_or cells index Null) × (IsOrNull a.kind v → AreHeld (cond (many || column) [] (Cell x.kind ∷ []) ++ flat_map cell_of xs) (slice_set cells index v))
  first-held x xs true column cells index rest h at = let r = rest cells index h at in (r.within, r.old, r.new)
  first-held x xs false true cells index rest h at = let r = rest cells index h at in (r.within, r.old, r.new)
  first-held x xs false false [] index rest h at = absurd h
  first-held x xs false false (c ∷ cs) zero rest h at =
      let is : x ≡ a = some-is x a at in
      (omega arith, subst (λ (y : Attribute). IsOrNull y.kind c) is (from-cell x.kind c h.0), λ fits. (in-cell x.kind v (subst (λ (y : Attribute). IsOrNull y.kind v) (sym is) fits), h.1))
  first-held x xs false false (c ∷ cs) (suc index) rest h at = let r = rest cs index h.1 at in (let w = r.within in omega (arith, w), r.old, λ fits. (h.0, r.new fits))

  pub cells-fit : (xs : List Attribute) (cells : List Value) (index : ℕ) → AreHeld (flat_map cell_of xs) cells → slice_get (filter is_cell xs) index ≡ Some a → Fit xs cells index
  cells-fit [] cells index h at = absurd (nothing index at)
    where
      nothing : (i : ℕ) → slice_get [] i ≡ Some a → ⊥
      nothing i e = cc
  cells-fit (x ∷ xs) cells index h at =
      let r = first-held x xs x.many x.column cells index (λ cs i. cells-fit xs cs i) h at in
      record { within = r.0; old = r.1; new = r.2 }

-- ---- the place of an attribute's cell

some-index : (m n : ℕ) → Some m ≡ Some n → m ≡ n
some-index m n e = cc

-- the first one of all that passes, where it is kept, is the first of those that are kept
pub kept-place : (test q : Attribute → Bool) (xs : List Attribute) (a : Attribute) → find test xs ≡ Some a → q a ≡ true
    → (position_or_len test (filter q xs) < length (filter q xs)) × (slice_get (filter q xs) (position_or_len test (filter q xs)) ≡ Some a)
kept-place test q [] a e k = absurd (nothing e)
  where
    nothing : None ≡ Some a → ⊥
    nothing h = cc
kept-place test q (x ∷ xs) a e k = by (λ h. kept-place test q xs a h k) (test x) refl e
  where
    Is : List Attribute → Type 0
    Is ys = (position_or_len test ys < length ys) × (slice_get ys (position_or_len test ys) ≡ Some a)

    one : (y : Attribute) → Some y ≡ Some a → y ≡ a
    one y h = cc

    first : (t : Bool) → t ≡ true → x ≡ a → (cond (not t) (1 + position_or_len test (filter q xs)) 0 < length (x ∷ filter q xs)) × (slice_get (x ∷ filter q xs) (cond (not t) (1 + position_or_len test (filter q xs)) 0) ≡ Some a)
    first true h is = (omega arith, ap Some is)
    first false h is = absurd (true≢false (sym h))

    later : (t : Bool) → t ≡ false → Is (filter q xs) → (cond (not t) (1 + position_or_len test (filter q xs)) 0 < length (x ∷ filter q xs)) × (slice_get (x ∷ filter q xs) (cond (not t) (1 + position_or_len test (filter q xs)) 0) ≡ Some a)
    later true h r = absurd (true≢false h)
    later false h r = (let w = r.0 in omega (arith, w), ap (slice_get (x ∷ filter q xs)) (next (position_or_len test (filter q xs))) ∙ r.1)
      where
        next : (n : ℕ) → 1 + n ≡ suc n
        next n = omega arith

    by : (find test xs ≡ Some a → Is (filter q xs)) → (t : Bool) → test x ≡ t → cond t (Some x) (find test xs) ≡ Some a → Is (filter q (x ∷ xs))
    by more true t h =
        let is = one x h in
        subst (λ (b : Bool). Is (cond b (x ∷ filter q xs) (filter q xs))) (sym (ap q is ∙ k)) (first (test x) t is)
    by more false t h =
        let r = more h in
        either (q x) (λ b. Is (cond b (x ∷ filter q xs) (filter q xs))) (λ _. later (test x) t r) (λ _. r)

below : (m n : ℕ) → m < n → nat_lt m n ≡ true
below m n h = grind (arith, nat_tests)

-- it stands there among the cells of a type's rows
pub cell-place : (schema : Outline) (ty : ℕ) (a : Attribute) → attribute schema a.number ≡ Some a → is_cell a ≡ true → isa schema ty a.owner ≡ true
    → (index : ℕ) × (position (λ b. b.number == a.number) (filter is_cell (attributes_in schema ty)) ≡ Some index) × (slice_get (filter is_cell (attributes_in schema ty)) index ≡ Some a)
cell-place schema ty a f cell here =
    let test : Attribute → Bool = λ b. b.number == a.number in
    let Is : List Attribute → Type 0 = λ xs. (index : ℕ) × (position test xs ≡ Some index) × (slice_get xs index ≡ Some a) in
    let q : Attribute → Bool = λ b. isa schema ty b.owner && is_cell b in
    let k = kept-place test q schema.attributes a f (both (isa schema ty a.owner) (is_cell a) here cell) in
    let index = position_or_len test (filter q schema.attributes) in
    subst Is (sym (all-cells schema ty)) (index, ap (λ (b : Bool). cond b (Some index) None) (below index (length (filter q schema.attributes)) k.0), k.1)
