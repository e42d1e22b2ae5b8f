use Rattle.std.proofs.Common.{arith}
use Rattle.st_pages.specs.Calls.{no_page, only}
use Rattle.st_chain.specs.Changes.{either_of}
use Rattle.st_chain.proofs.Asking.{nowhere, first-within, second-within}
use Rattle.st_chain.proofs.calls.put_both.Goals as goal

pub returns-clause-asked : goal.returns-clause-asked
returns-clause-asked g c =
    let both = either_of c.args.page c.args.second in
    g.met.P.Pages.asked_on c.args.pages.now c.put_one.new.pages c.put_one-2.new.pages no_page both 0 0 c.put_one.ensures.follows c.put_one-2.ensures.follows
    (g.met.P.Pages.asked_more _ _ no_page (only c.args.page) no_page both 0 0 (nowhere no_page) (first-within c.args.page c.args.second) (omega arith) c.put_one.ensures.asked)
    (g.met.P.Pages.asked_more _ _ no_page (only c.args.second) no_page both 0 0 (nowhere no_page) (second-within c.args.page c.args.second) (omega arith) c.put_one-2.ensures.asked)
