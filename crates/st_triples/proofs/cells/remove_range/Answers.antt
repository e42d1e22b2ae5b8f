use Rattle.std.proofs.Common.{◌≤◌, length, ap, ◌∙◌, arith}
use Rattle.std.specs.Prelude.{remove}
use Rattle.st_triples.proofs.Changes.{remove-more}
use Rattle.st_triples.proofs.cells.remove_range.Goals as goal

pub loop-preserved : goal.loop-preserved
loop-preserved c = record {
  items =
      c.remove.ensures.items ∙ ap (λ z. remove z c.args.from) c.loop.invariant.items
      ∙ (let low : c.args.from ≤ length c.args.cells.now.items = omega arith in remove-more c.args.cells.now.items c.args.from c.loop.counter low);
  mark = c.remove.ensures.mark ∙ c.loop.invariant.mark;
  room = omega arith;
}
