use Rattle.std.proofs.Common.{◌≡◌, ◌++◌, map, drop}
use Rattle.st_new_database.specs.New.{first_page}
use Rattle.st_new_database.proofs.roots.push_first_pages.Given as goal

-- what was added, and the pages of the stores that are left, are those of all stores
abbrev pub invariant-loop-store : goal.invariant-loop-store
invariant-loop-store l =
    l.pages.items ++ map first_page (drop l.store-index l.stores) ≡ l.fn.pages.items ++ map first_page l.stores
