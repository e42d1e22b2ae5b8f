use Rattle.std.proofs.Common.{length, sym, ◌∙◌, true≢false}
use Rattle.std.proofs.Math.Seq.{take-length}
use Rattle.st_image.specs.Fields.{body_of, count_of, rows_of}
use Rattle.st_image.proofs.Laid.{length-pieces}
use Rattle.st_page_rows.proofs.Halves.{absent-at, absent-end, there-at}
use Rattle.st_page_rows.proofs.look.search.Goals as goal

pub returns-then-place-count-clause-absent : goal.returns-then-place-count-clause-absent
returns-then-place-count-clause-absent c =
    let key = c.args.key.now in
    let page = c.args.page.now in
    absent-end (length key) key (rows_of c.args.width page) c.place_of-place.result c.requires.ascend c.place_of-place.ensures.below
    (c.if-place-count.true ∙ c.count.ensures ∙ sym (length-pieces (count_of page) c.args.width (body_of page)))

pub returns-then-has_key-clause-there : goal.returns-then-has_key-clause-there
returns-then-has_key-clause-there c =
    let key = c.args.key.now in
    let place = c.place_of-place in
    there-at (length key) key (rows_of c.args.width c.args.page.now) place.result c.requires.ascend place.ensures.below c.row_at-row.result.now c.row_at-row.ensures.row place.ensures.behind
    (c.has_key.ensures.0 c.if-has_key.true)

pub returns-else-has_key-clause-absent : goal.returns-else-has_key-clause-absent
returns-else-has_key-clause-absent c =
    let key = c.args.key.now in
    let place = c.place_of-place in
    absent-at (length key) key (rows_of c.args.width c.args.page.now) place.result c.requires.ascend place.ensures.below c.row_at-row.result.now c.row_at-row.ensures.row place.ensures.behind
    (λ k. true≢false (sym (c.has_key.ensures.1 (k ∙ take-length key)) ∙ c.if-has_key.false))
