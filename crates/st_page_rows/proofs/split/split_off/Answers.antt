use Rattle.std.proofs.Common.{ℕ, ◌+◌, ◌-◌, ◌*◌, List, take, drop}
use Rattle.st_image.specs.Fields.{rows_of}
use Rattle.st_page_rows.proofs.Reworked.{Done}
use Rattle.st_page_rows.proofs.Changed.{piece-is}
use Rattle.st_page_rows.proofs.Sibling.{Apart, apart-done, cut-done, written-apart}
use Rattle.st_page_rows.proofs.split.split_off.Goals as goal

pub returns : goal.returns
returns c =
    let index : ℕ = c.args.index in
    let width : ℕ = c.args.width in
    let count : ℕ = c.count-count.result in
    let page : List ℕ = c.args.page.now in
    let at : ℕ = 16 + index * width in
    let size : ℕ = (count - index) * width in
    let piece : List ℕ = take (at + size - at) (drop at c.bytes.result.now) in
    let left : Done width page c.set_count-2.new.self (take index (rows_of width page)) =
    cut-done width index count page c.clear.new.self c.set_count-2.new.self c.requires.laid c.requires.within c.count-count.ensures c.clear.ensures c.set_count-2.ensures in
    let apart : Apart width page c.write.new.self (drop index (rows_of width page)) =
    apart-done width index count page piece c.write.new.self c.requires.laid c.requires.within c.count-count.ensures (piece-is at size page c.bytes.result.now c.bytes.ensures.same)
    (written-apart c.kind.result c.store.result c.next.result (count - index) page piece c.blank-other.result c.set_kind.new.self c.set_store.new.self c.set_next.new.self c.set_count.new.self c.write.new.self
    c.kind.ensures c.store.ensures c.next.ensures c.blank-other.ensures c.set_kind.ensures c.set_store.ensures c.set_next.ensures c.set_count.ensures c.write.ensures) in
    record { laid = left.laid; head = left.head; rows = left.lists; other_laid = apart.laid; other_head = apart.head; other_rows = apart.lists }
