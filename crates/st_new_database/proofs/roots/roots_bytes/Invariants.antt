use Rattle.std.proofs.Common.{◌≡◌, ◌*◌, ◌++◌, flat_map, drop, length}
use Rattle.st_new_database.specs.New.{root_bytes, roots_of}
use Rattle.st_new_database.proofs.roots.roots_bytes.Given as goal

-- the bytes so far, and those of the roots that are left, are those of all roots
abbrev pub invariant-loop-i : goal.invariant-loop-i
invariant-loop-i l =
    (l.bytes.items ++ flat_map root_bytes (roots_of (drop l.i l.stores) (drop l.i l.firsts)) ≡ flat_map root_bytes (roots_of l.stores l.firsts))
    × (length l.bytes.items ≡ 8 * l.i)
