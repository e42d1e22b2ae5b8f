use Rattle.st_image.specs.Fields.{next_of}
use Rattle.st_chain.proofs.Faults.{no-next}
use Rattle.st_chain.proofs.above.next_page.Goals as goal

pub returns-in-Err-clause-bad : goal.returns-in-Err-clause-bad
returns-in-Err-clause-bad g c =
    let attempt = g.P.Pages.attempt in
    no-next c.args.place c.chain_page.result (attempt c.args.pages.now) (attempt c.get_wanted.new.pages) c.args.frame.now c.next-page.result (next_of c.args.frame.now) c.in-Err.fault
    c.chain_page.ensures c.next-page.ensures c.in-Err.ensures.bad
