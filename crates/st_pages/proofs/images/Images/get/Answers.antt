use Rattle.std.proofs.Common.{Some, ap, ◌∙◌, sym}
use Rattle.st_pages.proofs.Imaged.{image_of-found}
use Rattle.st_pages.proofs.images.Images.get.Goals as goal

pub returns-in-Ok-clause-image : goal.returns-in-Ok-clause-image
returns-in-Ok-clause-image c =
    let there = rw (c.deref.ensures.value, c.self.view_is) at c.in-Ok.ensures.there in
    let item = rw c.self.view_is at c.index.ensures in
    ap Some (c.image.ensures ∙ ap (λ e. e.image) item) ∙ sym (image_of-found c.args.page c.args.self.now c.in-Ok.place c.index.result.now there)
