use Rattle.std.proofs.Common.{◌≡◌, ◌+◌, ◌++◌, ◌≤◌, length, take, vec_len}
use Rattle.std.specs.List.{enumerate_from}
use Rattle.std.specs.Vec.Iter.{into_iter_items}
use Rattle.st_new_database.proofs.database.push_numbered.Given as goal

-- the pages so far with their numbers, and those that are left
abbrev pub invariant-loop-image : goal.invariant-loop-image
invariant-loop-image l =
    (goal.iterator-loop-image).can_next l.image-iterator
    × (goal.iterator-loop-image).is_finite l.image-iterator
    × (l.pages.items ++ enumerate_from l.number (into_iter_items l.image-iterator) ≡ l.initial.pages.items ++ enumerate_from 0 l.fn.images.items)
    × (l.number + length (into_iter_items l.image-iterator) ≡ length l.fn.images.items)
    × (take (vec_len l.initial.pages) l.pages.items ≡ l.initial.pages.items)
    × (vec_len l.initial.pages ≤ vec_len l.pages)
