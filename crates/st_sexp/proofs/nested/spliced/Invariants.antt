use Rattle.std.proofs.Common.{◌≡◌, ◌++◌, length, reverse}
use Rattle.std.specs.List.{flat_map}
use Rattle.st_sexp.specs.Flat.{all_tokens}
use Rattle.st_sexp.specs.Nested.{spliced}
use Rattle.st_sexp.proofs.nested.spliced.Given as goal

abbrev pub invariant-loop-form : goal.invariant-loop-form
invariant-loop-form l = flat_map (spliced l.word) l.work ++ reverse l.reversed ≡ spliced l.word l.fn.form

abbrev pub decreases-loop-form : goal.decreases-loop-form
decreases-loop-form l = length (all_tokens l.work)
