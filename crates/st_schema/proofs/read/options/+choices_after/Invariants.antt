use Rattle.std.proofs.Common.{length}
use Rattle.st_schema.proofs.read.options.+choices_after.Given as goal

abbrev pub decreases-choices_after : goal.decreases-choices_after
decreases-choices_after l = length l.forms.now
