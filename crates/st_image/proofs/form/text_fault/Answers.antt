use Rattle.st_image.proofs.PageChecks.{text-right, text-wrong}
use Rattle.st_image.proofs.Sides.{are-bytes}
use Rattle.st_image.proofs.form.text_fault.Goals as goal

pub returns-in-Some : goal.returns-in-Some
returns-in-Some c = text-wrong c.args.count c.in-Some.place c.args.body.now c.requires.size c.requires.room (are-bytes c.args.body.now c.type_inv.body) c.in-Some.ensures

pub returns-in-None : goal.returns-in-None
returns-in-None c = text-right c.args.count c.args.body.now c.requires.size c.requires.room (are-bytes c.args.body.now c.type_inv.body) c.in-None.ensures
