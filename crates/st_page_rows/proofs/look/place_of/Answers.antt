use Rattle.std.proofs.Common.{length, refl, sym, ◌∙◌, arith}
use Rattle.std.specs.Prelude.{not}
use Rattle.st_image.specs.Fields.{body_of, count_of, rows_of}
use Rattle.st_image.specs.Grammar.{row_before}
use Rattle.st_image.proofs.Laid.{length-pieces}
use Rattle.st_page_rows.proofs.Halves.{all-past, below-more, behind-more}
use Rattle.st_page_rows.proofs.look.place_of.Goals as goal

pub loop-low-init : goal.loop-low-init
loop-low-init c =
    let key = c.args.key.now in
    let page = c.args.page.now in
    record {
      ordered = omega arith;
      within = omega arith;
      below = refl;
      behind = all-past (λ row. not (row_before (length key) row key)) (rows_of c.args.width page) c.count-high.result (omega (arith, length-pieces (count_of page) c.args.width (body_of page)));
    }

pub loop-low-preserved-then-is_below : goal.loop-low-preserved-then-is_below
loop-low-preserved-then-is_below c =
    let key = c.args.key.now in
    record {
      ordered = omega arith;
      within = omega arith;
      below = below-more (length key) key (rows_of c.args.width c.args.page.now) _ c.row_at-row.result.now c.requires.ascend c.row_at-row.ensures.row (sym c.is_below.ensures ∙ c.if-is_below.true);
      behind = c.loop-low.invariant.behind;
    }

pub loop-low-preserved : goal.loop-low-preserved
loop-low-preserved c =
    let key = c.args.key.now in
    record {
      ordered = omega arith;
      within = omega arith;
      below = c.loop-low.invariant.below;
      behind = behind-more (length key) key (rows_of c.args.width c.args.page.now) _ c.row_at-row.result.now c.requires.ascend c.row_at-row.ensures.row (sym c.is_below.ensures ∙ c.if-is_below.false);
    }
