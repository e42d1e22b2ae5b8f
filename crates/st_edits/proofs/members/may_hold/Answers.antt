use Rattle.st_edits.proofs.Setting.{like-held}
use Rattle.st_edits.proofs.members.may_hold.Goals as goal

pub returns-clause-all : goal.returns-clause-all
returns-clause-all c = λ s all h. c.fits.ensures.like (like-held s all c.args.kind c.args.value.now h)
