use Rattle.std.proofs.Common.{ap, ◌∙◌, arith}
use Rattle.st_pages.proofs.Searched.{none-to-end, none-at}
use Rattle.st_pages.proofs.images.search.Goals as goal

pub returns-then-place-slots-clause-absent : goal.returns-then-place-slots-clause-absent
returns-then-place-slots-clause-absent c =
    let p = c.place_of-place.ensures in
    record {
      within = p.within;
      front = p.front;
      none = none-to-end (λ e. e.page) c.args.page c.args.slots.now c.place_of-place.result p.front c.if-place-slots.true;
    }

pub returns-else-page-clause-absent : goal.returns-else-page-clause-absent
returns-else-page-clause-absent c =
    let p = c.place_of-place.ensures in
    record {
      within = p.within;
      front = p.front;
      none =
          none-at (λ e. e.page) c.args.page c.args.slots.now c.place_of-place.result c.index-slots-place.result c.requires p.front (let k = p.within in omega arith)
          (λ e. c.if-page.false (c.page.ensures ∙ ap (λ x. x.page) c.index-slots-place.is ∙ e));
    }
