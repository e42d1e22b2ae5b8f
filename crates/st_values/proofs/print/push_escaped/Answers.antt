use Rattle.st_values.proofs.Escapes.{flat_map-past_char}
use Rattle.st_values.proofs.Kept.{kept-after}
use Rattle.st_values.proofs.print.push_escaped.Goals as goal

pub loop-letter-preserved : goal.loop-letter-preserved
loop-letter-preserved c = record {
  whole =
      rw c.in_ok-push_letter.ensures.ok
      (flat_map-past_char _ _ _ _ c.in-Some.letter c.in-Some.ensures.steps.0 c.loop-letter.invariant.whole);
  kept = kept-after _ _ _ c.loop-letter.invariant.kept c.push_letter.ensures.kept;
}
