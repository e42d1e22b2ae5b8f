use Rattle.std.proofs.Common.{ap, ◌∙◌, arith}
use Rattle.st_undo.proofs.Sifted.{step_took, step_kept}
use Rattle.st_undo.proofs.sift.sift_out.Goals as goal
use Rattle.st_undo.proofs.sift.sift_out.Goals.{then-takes, else-takes}

pub loop-place-preserved : goal.loop-place-preserved
loop-place-preserved g c = elim c.if-takes.branch [
  | then-takes w ↦
      let known = c.loop-place.invariant in
      let s = step_took (g.S.Sieve.takes c.args.sieve.now) c.args.items.now.items c.loop-place.items.items c.loop-place.kept c.loop-place.place c.takes.result c.index.result.now w.replace-item.result w.replace-item.new.dest
      c.args.changes.now.items c.loop-place.changes.items w.log.new.changes.items known.in_place known.sifts
      (omega (arith, c.loop-place-test.true, c.len-place-end.ensures, known.in_place.long, c.args.items.now.ok.0))
      c.takes.ensures w.if-takes.true c.index.ensures (rw w.replace-item.ensures.value w.index_mut.ensures.value) w.log.ensures.items in
      record {
        in_place = rw (w.items-is, w.kept-is) s.0;
        sifts = rw w.changes-is s.1;
        items_capacity = ap (λ v. v.cap) w.items-is ∙ known.items_capacity;
        capacity = omega (arith, ap (λ v. v.cap) w.changes-is, w.log.ensures.capacity, known.capacity);
      }
  | else-takes w ↦
      let known = c.loop-place.invariant in
      let s = step_kept (g.S.Sieve.takes c.args.sieve.now) c.args.items.now.items c.loop-place.items.items w.swap.new.self.items c.loop-place.kept c.loop-place.place c.takes.result c.index.result.now
      c.args.changes.now.items c.loop-place.changes.items known.in_place known.sifts
      (omega (arith, c.loop-place-test.true, c.len-place-end.ensures, known.in_place.long, c.args.items.now.ok.0))
      c.takes.ensures w.if-takes.false c.index.ensures w.swap.ensures.by_index in
      record {
        in_place = rw (w.items-is, w.kept-is) s.0;
        sifts = rw w.changes-is s.1;
        items_capacity = ap (λ v. v.cap) w.items-is ∙ w.swap.ensures.capacity ∙ known.items_capacity;
        capacity = omega (arith, ap (λ v. v.cap) w.changes-is, known.capacity);
      }
]
