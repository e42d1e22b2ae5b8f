use Rattle.std.proofs.Common.{Some, ap, ◌∙◌, sym}
use Rattle.st_pages.proofs.Searched.{found}
use Rattle.st_pages.proofs.places.Places.find.Goals as goal

pub returns-in-Ok-clause-place : goal.returns-in-Ok-clause-place
returns-in-Ok-clause-place c =
    let there = rw (c.deref.ensures.value, c.self.view_is) at c.in-Ok.ensures.there in
    let item = rw c.self.view_is at c.index.ensures in
    ap Some item ∙ sym (found (λ p. p.store) c.args.store c.args.self.now c.in-Ok.index c.index.result.now there.front there.within (there.is c.index.result.now))
