use Rattle.std.proofs.Common.{refl, inl}
use Rattle.st_chain.proofs.Numbered.{one-put}
use Rattle.st_chain.proofs.remove.leave.Goals as goal

pub returns-then-count-eq0-clause-numbers : goal.returns-then-count-eq0-clause-numbers
returns-then-count-eq0-clause-numbers g c = λ array agrees of. c.unlink.ensures.numbers array agrees

pub returns-else-count-eq0-clause-numbers : goal.returns-else-count-eq0-clause-numbers
returns-else-count-eq0-clause-numbers g c = λ array agrees of.
    let old = g.P.Pages.attempt c.args.pages.now in
    one-put old (g.P.Pages.attempt c.put_one.new.pages) array c.put_one.result old c.args.spot.page c.args.frame.now c.put_one.ensures.ok c.put_one.ensures.err refl (inl of)

pub returns-in-None-clause-numbers : goal.returns-in-None-clause-numbers
returns-in-None-clause-numbers g c = λ array agrees of.
    let old = g.P.Pages.attempt c.args.pages.now in
    one-put old (g.P.Pages.attempt c.put_one-in-None.new.pages) array c.put_one-in-None.result old c.args.spot.page c.args.frame.now c.put_one-in-None.ensures.ok c.put_one-in-None.ensures.err refl (inl of)
