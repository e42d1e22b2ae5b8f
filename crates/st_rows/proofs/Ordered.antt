-- Rows stand in the order of their values, and tell them apart.
use Rattle.std.proofs.Common.{◌≡◌, ℕ, ◌+◌, ◌^◌, ◌<◌, pos, negsuc, Bool, true, false, List, [], ◌∷◌, ◌++◌, length, replicate, refl, sym, ap, ◌∙◌, ◌<ℤ◌, length-append, arith}
use Rattle.std.proofs.lemmas.List.{length-replicate}
use Rattle.std.proofs.lemmas.Cmp.{ranked, tied_itself}
use Rattle.std.proofs.lemmas.Bool.Decides.{nat_tests}
use Rattle.std.proofs.lemmas.Int.{ints}
use Rattle.std.specs.Cmp.{int_cmp_is}
use Rattle.std.specs.declared.cmp.Ordering.{Ordering}
use Rattle.std.specs.declared.cmp.Ordering.TheVariants.{Less, Equal, Greater}
use Rattle.std.specs.Ordering.{nat_cmp, int_cmp, ordering_then, MatchOrdering}
use Rattle.std.specs.Cmp.Lexicographic.{slice_cmp, nat_list_cmp_total}
use Rattle.std.specs.Int.{w32, to_be_bytes}
use Rattle.st_values.specs.declared.value.EntityId.{EntityId}
use Rattle.st_values.specs.declared.value.Kind.{Kind}
use Rattle.st_values.specs.declared.value.Value.{Value}
use Rattle.st_values.specs.declared.value.Value.TheVariants.{Null, Int}
use Rattle.st_values.specs.Order.{value_order, entity_order}
use Rattle.st_values.proofs.Exact.{exact_values}
use Rattle.st_keys.specs.Keys.{width, Fits, IsEntity, key}
use Rattle.st_rows.specs.declared.field.Field.{Field}
use Rattle.st_rows.specs.declared.field.Field.TheVariants.{Serial, Cell, Key}
use Rattle.st_rows.specs.Rows.{field_width, fields_width, HoldsInCell, Holds, serial_bytes, cell_bytes, spelled, AreHeld, row, pair_fields, pair_values, pair_order}

abbrev pub by_bytes : List ℕ → List ℕ → Ordering
by_bytes = slice_cmp nat_cmp

abbrev pub by_values : List Value → List Value → Ordering
by_values = slice_cmp value_order

-- what `laws_of_keys` says of widths
abbrev pub KeysAreWide : Type 0
KeysAreWide = (kind : Kind) (a : Value) → Fits kind a → length (key kind a) ≡ width kind

-- what `laws_of_keys` says of the order
abbrev pub KeysAreOrdered : Type 0
KeysAreOrdered = (kind : Kind) (a b : Value) → Fits kind a → Fits kind b → slice_cmp nat_cmp (key kind a) (key kind b) ≡ value_order a b

-- ---- widths

serial-width : (a : Value) → Holds Serial a → length (serial_bytes a) ≡ 4
serial-width (Int (pos n)) h = refl
serial-width (Int (negsuc n)) h = absurd h
serial-width _ h = absurd h

cell-width : KeysAreWide → (kind : Kind) (a : Value) → HoldsInCell kind a → length (cell_bytes kind a) ≡ 1 + width kind
cell-width wide kind Null h = omega (arith, length-replicate {A = ℕ} (width kind) 0)
cell-width wide kind a h = omega (arith, wide kind a h)

pub spelled-width : KeysAreWide → (field : Field) (a : Value) → Holds field a → length (spelled field a) ≡ field_width field
spelled-width wide Serial a h = serial-width a h
spelled-width wide (Cell kind) a h = cell-width wide kind a h
spelled-width wide (Key kind) a h = wide kind a h

pub row-width : KeysAreWide → (fields : List Field) (values : List Value) → AreHeld fields values → length (row fields values) ≡ fields_width fields
row-width wide [] [] h = refl
row-width wide [] (a ∷ values) h = absurd h
row-width wide (field ∷ fields) [] h = absurd h
row-width wide (field ∷ fields) (a ∷ values) h =
    omega (arith, length-append (spelled field a) (row fields values), spelled-width wide field a h.0, row-width wide fields values h.1)

-- ---- the order

-- the bytes of serials stand in the order of the serials
pub serial-order : (m n : ℕ) → m < 2 ^ 32 → n < 2 ^ 32 → by_bytes (to_be_bytes w32 m) (to_be_bytes w32 n) ≡ nat_cmp m n
serial-order m n small less = grind (arith, nat_tests)

moved : (m n : ℕ) (o : Ordering) → MatchOrdering o (m < n) (m ≡ n) (n < m) → MatchOrdering o (pos m <ℤ pos n) (pos m ≡ pos n) (pos n <ℤ pos m)
moved m n Less h = omega (arith, ints)
moved m n Equal h = ap pos h
moved m n Greater h = omega (arith, ints)

naturals : (m n : ℕ) → nat_cmp m n ≡ int_cmp (pos m) (pos n)
naturals m n = int_cmp_is (pos m) (pos n) (nat_cmp m n) (moved m n (nat_cmp m n) (ranked m n (nat_cmp m n) refl))

of-serials : (a b : Value) → Holds Serial a → Holds Serial b → by_bytes (serial_bytes a) (serial_bytes b) ≡ value_order a b
of-serials (Int (pos m)) (Int (pos n)) f g = serial-order m n f.1 g.1 ∙ naturals m n
of-serials (Int (pos m)) (Int (negsuc n)) f g = absurd g
of-serials (Int (pos m)) _ f g = absurd g
of-serials (Int (negsuc m)) b f g = absurd f
of-serials _ b f g = absurd f

same : (xs : List ℕ) → by_bytes xs xs ≡ Equal
same xs = tied_itself nat_list_cmp_total xs

of-cells : KeysAreOrdered → (kind : Kind) (a b : Value) → HoldsInCell kind a → HoldsInCell kind b → by_bytes (cell_bytes kind a) (cell_bytes kind b) ≡ value_order a b
of-cells ordered kind Null Null f g = same (0 ∷ replicate (width kind) 0)
of-cells ordered kind Null b f g = refl
of-cells ordered kind a Null f g = refl
of-cells ordered kind a b f g = ordered kind a b f g

pub spelled-order : KeysAreOrdered → (field : Field) (a b : Value) → Holds field a → Holds field b → by_bytes (spelled field a) (spelled field b) ≡ value_order a b
spelled-order ordered Serial a b f g = of-serials a b f g
spelled-order ordered (Cell kind) a b f g = of-cells ordered kind a b f g
spelled-order ordered (Key kind) a b f g = ordered kind a b f g

regroup : (a b c : Ordering) → ordering_then a (ordering_then b c) ≡ ordering_then (ordering_then a b) c
regroup Less b c = refl
regroup Equal b c = refl
regroup Greater b c = refl

-- of two lists with fronts of one length the fronts decide, and then the rest
by-parts : (xs ys us vs : List ℕ) → length xs ≡ length ys → by_bytes (xs ++ us) (ys ++ vs) ≡ ordering_then (by_bytes xs ys) (by_bytes us vs)
by-parts [] [] us vs h = refl
by-parts [] (y ∷ ys) us vs h = absurd (omega arith)
by-parts (x ∷ xs) [] us vs h = absurd (omega arith)
by-parts (x ∷ xs) (y ∷ ys) us vs h =
    ap (λ (o : Ordering). ordering_then (nat_cmp x y) o) (by-parts xs ys us vs (omega arith)) ∙ regroup (nat_cmp x y) (by_bytes xs ys) (by_bytes us vs)

pub row-order : KeysAreWide → KeysAreOrdered → (fields : List Field) (xs ys : List Value) → AreHeld fields xs → AreHeld fields ys
    → by_bytes (row fields xs) (row fields ys) ≡ by_values xs ys
row-order wide ordered [] [] [] f g = refl
row-order wide ordered [] [] (b ∷ ys) f g = absurd g
row-order wide ordered [] (a ∷ xs) ys f g = absurd f
row-order wide ordered (field ∷ fields) [] ys f g = absurd f
row-order wide ordered (field ∷ fields) (a ∷ xs) [] f g = absurd g
row-order wide ordered (field ∷ fields) (a ∷ xs) (b ∷ ys) f g =
    by-parts (spelled field a) (spelled field b) (row fields xs) (row fields ys) (spelled-width wide field a f.0 ∙ sym (spelled-width wide field b g.0))
    ∙ (λ i. ordering_then (spelled-order ordered field a b f.0 g.0 i) (row-order wide ordered fields xs ys f.1 g.1 i))

-- ---- no two lists of values have one row

parts : (a b : Ordering) → ordering_then a b ≡ Equal → (a ≡ Equal) × (b ≡ Equal)
parts Equal b e = (refl, e)
parts Less b e = cc
parts Greater b e = cc

exact-lists : (xs ys : List Value) → by_values xs ys ≡ Equal → xs ≡ ys
exact-lists [] [] e = refl
exact-lists [] (b ∷ ys) e = cc
exact-lists (a ∷ xs) [] e = cc
exact-lists (a ∷ xs) (b ∷ ys) e =
    let p = parts (value_order a b) (by_values xs ys) e in
    λ i. exact_values a b p.0 i ∷ exact-lists xs ys p.1 i

pub row-once : KeysAreWide → KeysAreOrdered → (fields : List Field) (xs ys : List Value) → AreHeld fields xs → AreHeld fields ys
    → row fields xs ≡ row fields ys → xs ≡ ys
row-once wide ordered fields xs ys f g e =
    exact-lists xs ys (sym (row-order wide ordered fields xs ys f g) ∙ ap (by_bytes (row fields xs)) (sym e) ∙ same (row fields xs))

-- ---- the rows of pairs

then-equal : (a b : Ordering) → ordering_then a (ordering_then b Equal) ≡ ordering_then a b
then-equal Less b = refl
then-equal Greater b = refl
then-equal Equal Less = refl
then-equal Equal Equal = refl
then-equal Equal Greater = refl

pub pair-order : KeysAreWide → KeysAreOrdered → (kind : Kind) (turned : Bool) (a b : Value) (x y : EntityId) → Fits kind a → Fits kind b → IsEntity x → IsEntity y
    → by_bytes (row (pair_fields kind turned) (pair_values turned a x)) (row (pair_fields kind turned) (pair_values turned b y)) ≡ pair_order turned a x b y
pair-order wide ordered kind true a b x y f g h k =
    row-order wide ordered (pair_fields kind true) (pair_values true a x) (pair_values true b y) (f, (h, tt)) (g, (k, tt)) ∙ then-equal (value_order a b) (entity_order x y)
pair-order wide ordered kind false a b x y f g h k =
    row-order wide ordered (pair_fields kind false) (pair_values false a x) (pair_values false b y) (h, (f, tt)) (k, (g, tt)) ∙ then-equal (entity_order x y) (value_order a b)
