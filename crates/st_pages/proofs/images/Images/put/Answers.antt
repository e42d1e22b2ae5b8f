use Rattle.st_pages.proofs.Imaged.{no-gap}
use Rattle.st_pages.proofs.images.Images.put.Goals as goal

pub returns-in-Err-clause-replaces : goal.returns-in-Err-clause-replaces
returns-in-Err-clause-replaces c =
    λ there.
    absurd (no-gap c.args.page c.args.self.now c.in-Err.place (rw (c.deref.ensures.value, c.self.view_is) at c.in-Err.ensures.absent) there)
