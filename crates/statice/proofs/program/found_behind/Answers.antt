use Rattle.statice.proofs.Finding.{all_written, over_read}
use Rattle.statice.proofs.program.found_behind.Goals as goal

pub returns-in-Ok : goal.returns-in-Ok
returns-in-Ok c = (
  over_read c.args.schema c.args.script c.in-Ok.script c.in-Ok.ensures.read,
  record { legal = c.requires; written = all_written c.in-Ok.script c.in-Ok.ensures.written },
)
