use Rattle.std.proofs.Common.{◌≡◌, take}
use Rattle.std.specs.Prelude.{flat_map}
use Rattle.st_meaning.specs.Lines.{line}
use Rattle.st_output.proofs.turn.answer_lines.Given as goal

abbrev pub invariant-loop-answer : goal.invariant-loop-answer
invariant-loop-answer l = l.text ≡ flat_map (line l.turn.number l.turn.client l.turn.transaction) (take l.answer-index l.answers)
