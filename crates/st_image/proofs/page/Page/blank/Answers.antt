use Rattle.std.proofs.Common.{refl}
use Rattle.st_image.specs.Fields.{blank}
use Rattle.st_image.proofs.page.Page.blank.Goals as goal

pub returns : goal.returns
unfolding blank
returns c = refl
