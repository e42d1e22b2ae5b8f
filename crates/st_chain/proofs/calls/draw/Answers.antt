use Rattle.st_pages.specs.Calls.{no_page}
use Rattle.st_chain.proofs.calls.draw.Goals as goal

pub returns-clause-asked : goal.returns-clause-asked
returns-clause-asked g c =
    g.met.P.Pages.asked_on c.args.pages.now c.fresh.new.self c.fresh-2.new.self no_page no_page 1 1 c.fresh.ensures.follows c.fresh-2.ensures.follows c.fresh.ensures.asked c.fresh-2.ensures.asked
