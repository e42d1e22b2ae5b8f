-- How changes of a list are undone. No public clause cites this module.
use Rattle.std.specs.Prelude.{ℕ, List, [], ◌∷◌, length, max, insert, remove, slice_set}
use Rattle.st_undo.specs.declared.change.Change.{Change}
use Rattle.st_undo.specs.declared.change.Change.TheVariants.{Put, Took, Replaced}

module _ {A : Type 0} where
  -- the list before one change. It is total: a place past the end is the end
  abbrev pub undo : Change A → List A → List A
  undo (Put place) xs = remove xs place
  undo (Took place x) xs = insert xs place x
  undo (Replaced place x) xs = slice_set xs place x

  -- the list before some changes, the oldest of which is named first and undone last
  abbrev pub undone : List (Change A) → List A → List A
  undone [] xs = xs
  undone (c ∷ cs) xs = undo c (undone cs xs)

  -- the greatest length on the way back
  abbrev pub longest : List (Change A) → List A → ℕ
  longest [] xs = length xs
  longest (c ∷ cs) xs = max (length (undone (c ∷ cs) xs)) (longest cs xs)
