-- A row of a serial and zeros is that of an entity with no values.
use Rattle.std.proofs.Common.{◌≡◌, ℕ, suc, ◌+◌, ◌-◌, Bool, true, false, cond, List, [], ◌∷◌, ◌++◌, pos, take, ◌≤◌, refl, sym, ap, ◌∙◌, arith}
use Rattle.std.specs.Prelude.{◌&&◌, ◌||◌, not, if◌then◌else◌, filter, flat_map, map, replicate}
use Rattle.std.specs.Int.{w32, to_be_bytes}
use Rattle.std.specs.List.{sum_by}
use Rattle.std.proofs.lemmas.List.{replicate-append-replicate, take-replicate}
use Rattle.std.proofs.lemmas.List.Sums.{sum_by-cons}
use Rattle.st_values.specs.declared.value.Kind.{Kind}
use Rattle.st_values.specs.declared.value.Kind.TheVariants as kind
use Rattle.st_values.specs.declared.value.Value.{Value}
use Rattle.st_values.specs.declared.value.Value.TheVariants.{Int, Null}
use Rattle.st_lattice.specs.declared.attribute.Attribute.{Attribute}
use Rattle.st_lattice.specs.Lattice.{attributes_in}
use Rattle.st_lattice.specs.Outline.{Outline}
use Rattle.st_lattice.specs.Stores.{cell_width, key_width, row_width}
use Rattle.st_keys.specs.Keys.{width}
use Rattle.st_rows.specs.declared.field.Field.TheVariants.{Cell}
use Rattle.st_rows.specs.Rows.{cell_of, row, row_fields}
use Rattle.st_edits.specs.Steps.{new_row}

same-width : (k : Kind) → key_width k ≡ width k
same-width kind.Int = refl
same-width kind.Bool = refl
same-width (kind.Text limit) = refl
same-width (kind.Entity ty) = refl

abbrev zeros : ℕ → List ℕ
zeros n = replicate n 0

abbrev pub in_row : Attribute → Bool
in_row a = not a.many && not a.column

abbrev pub nulls : List Attribute → List Value
nulls xs = map (λ _. Null) (filter in_row xs)

-- cells that are null are zeros
none-more : (n : ℕ) → n ≡ 0 + n
none-more n = omega arith

cells-blank : (xs : List Attribute) → row (flat_map cell_of xs) (nulls xs) ≡ replicate (sum_by cell_width xs) 0
cells-blank [] = refl
cells-blank (a ∷ xs) = by (cells-blank xs) a.many a.column ∙ ap (λ n. replicate n 0) (sym (sum_by-cons cell_width a xs))
  where
    by : row (flat_map cell_of xs) (map (λ _. Null) (filter in_row xs)) ≡ zeros (sum_by cell_width xs) → (m c : Bool) → row (cond (m || c) [] (Cell a.kind ∷ []) ++ flat_map cell_of xs) (map (λ _. Null) (cond (not m && not c) (a ∷ filter in_row xs) (filter in_row xs)))
        ≡ zeros ((if m || c then 0 else key_width a.kind + 1) + sum_by cell_width xs)
    by rest true c = rest ∙ ap zeros (none-more (sum_by cell_width xs))
    by rest false true = rest ∙ ap zeros (none-more (sum_by cell_width xs))
    by rest false false =
        ap (λ (l : List ℕ). (0 ∷ replicate (width a.kind) 0) ++ l) rest
        ∙ ap (λ (l : List ℕ). 0 ∷ l) (replicate-append-replicate (width a.kind) (sum_by cell_width xs) 0)
        ∙ ap zeros (one-more (width a.kind) (key_width a.kind) (sum_by cell_width xs) (same-width a.kind))
      where
        one-more : (w k n : ℕ) → k ≡ w → suc (w + n) ≡ k + 1 + n
        one-more w k n e = omega (arith, e)

four-less : (n : ℕ) → (4 + n) - 4 ≡ n
four-less n = omega arith

pub blank-is : (schema : Outline) (ty serial : ℕ) → new_row (row_width schema ty) serial ≡ row (row_fields schema ty) (Int (pos serial) ∷ nulls (attributes_in schema ty))
blank-is schema ty serial =
    ap (λ (l : List ℕ). to_be_bytes w32 serial ++ l) (ap (λ n. replicate n 0) (four-less (sum_by cell_width (attributes_in schema ty))) ∙ sym (cells-blank (attributes_in schema ty)))

-- the front of a widest such row is one
pub front-is : (wide serial : ℕ) → 4 ≤ wide → wide ≤ 1000 → take wide (to_be_bytes w32 serial ++ replicate 996 0) ≡ new_row wide serial
front-is wide serial most short =
    ap (λ n. take n (to_be_bytes w32 serial ++ replicate 996 0)) (split wide most)
    ∙ ap (λ (l : List ℕ). to_be_bytes w32 serial ++ l) (take-replicate (wide - 4) 996 0 (less wide short))
  where
    split : (w : ℕ) → 4 ≤ w → w ≡ suc (suc (suc (suc (w - 4))))
    split w h = omega (arith, h)

    less : (w : ℕ) → w ≤ 1000 → w - 4 ≤ 996
    less w h = omega (arith, h)
