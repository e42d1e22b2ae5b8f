use Rattle.std.proofs.Common.{◌≤◌, length, sym, arith}
use Rattle.st_memory_pages.proofs.Beginning.{blanks-most, used-are, new-sound}
use Rattle.st_memory_pages.proofs.Counting.{page_count-is}
use Rattle.st_memory_pages.proofs.attempted.Attempted.new.Goals as goal

pub blanks-left-requires : goal.blanks-left-requires
blanks-left-requires c = sym page_count-is

pub overflow_sub-in_use : goal.overflow_sub-in_use
overflow_sub-in_use c = blanks-most c.args.images.items _ (rw c.deref-2.ensures.value at c.blanks-left.ensures)

pub overflow_cast-result : goal.overflow_cast-result
overflow_cast-result c =
    let most = blanks-most c.args.images.items _ (rw c.deref-2.ensures.value at c.blanks-left.ensures) in
    omega (arith, most)

pub invariant_of-result : goal.invariant_of-result
invariant_of-result c =
    let short : length c.args.images.items ≤ 65536 = omega arith in
    record {
      sound = new-sound c.args.images.items c.in_ok-table.table.items c.blanks-left.result short c.in_ok-table.ensures.size
          (rw c.deref.ensures.value at c.in_ok-table.ensures.images) (rw c.deref.ensures.value at c.in_ok-table.ensures.each)
          (rw c.deref-2.ensures.value at c.blanks-left.ensures);
    }

pub returns-clause-room : goal.returns-clause-room
returns-clause-room c =
    let blanks = rw c.deref-2.ensures.value at c.blanks-left.ensures in
    let used = used-are c.args.images.items _ blanks in
    λ i. record { in_use = used i; left = blanks i }
