use Rattle.st_pages.proofs.Carried.{looked}
use Rattle.st_pages.proofs.get.get_image.Goals as goal

pub returns-clause-looks : goal.returns-clause-looks
returns-clause-looks g c =
    looked c.get.result c.args.page (g.P.Pages.counts c.args.pages.now) (g.P.Pages.counts c.get.new.self) (g.P.Pages.is_closed c.args.pages.now) c.get.ensures.cause
