use Rattle.st_pages.specs.Attempt.{over}
use Rattle.st_index.proofs.Counted.{differences-few}
use Rattle.st_index.proofs.noting.keep_row.Goals as goal

pub returns-in-Ok-clause-few : goal.returns-in-Ok-clause-few
returns-in-Ok-clause-few g c = λ pages agrees.
    differences-few (g.S.Store.location c.args.store.now).first (over (g.P.Pages.attempt c.args.pages.now) pages) (over (g.P.Pages.attempt c.insert.new.pages) pages) 34 (c.insert.ensures.few pages agrees)

pub returns-in-Err-clause-few : goal.returns-in-Err-clause-few
returns-in-Err-clause-few g c = λ pages agrees.
    differences-few (g.S.Store.location c.args.store.now).first (over (g.P.Pages.attempt c.args.pages.now) pages) (over (g.P.Pages.attempt c.insert.new.pages) pages) 34 (c.insert.ensures.few pages agrees)
