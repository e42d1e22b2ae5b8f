use Rattle.std.proofs.Common.{arith}
use Rattle.st_pages.proofs.Searched.{none-to-end, none-at}
use Rattle.st_pages.proofs.places.search.Goals as goal

pub returns-then-index-places-clause-absent : goal.returns-then-index-places-clause-absent
returns-then-index-places-clause-absent c =
    let p = c.index_of-index.ensures in
    record {
      within = p.within;
      front = p.front;
      none = none-to-end (λ p. p.store) c.args.store c.args.places.now c.index_of-index.result p.front c.if-index-places.true;
    }

pub returns-else-places-index-clause-absent : goal.returns-else-places-index-clause-absent
returns-else-places-index-clause-absent c =
    let p = c.index_of-index.ensures in
    record {
      within = p.within;
      front = p.front;
      none =
          none-at (λ p. p.store) c.args.store c.args.places.now c.index_of-index.result (record { store = 0; first = 0; key = 0; width = 0 }) c.requires p.front
          (let k = p.within in omega arith) c.if-places-index.false;
    }
