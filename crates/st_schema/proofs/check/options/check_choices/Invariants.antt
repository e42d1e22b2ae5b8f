use Rattle.std.proofs.Common.{◌≡◌, drop}
use Rattle.st_schema.specs.Checks.{choice_fault}
use Rattle.st_schema.proofs.check.options.check_choices.Given as goal

abbrev pub invariant-loop-choice : goal.invariant-loop-choice
invariant-loop-choice l = choice_fault l.worded l.many (drop l.choice-index l.choices) ≡ choice_fault l.worded l.many l.choices
