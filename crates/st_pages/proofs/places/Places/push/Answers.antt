use Rattle.st_pages.proofs.Searched.{ascends-push}
use Rattle.st_pages.proofs.places.Places.push.Goals as goal

pub invariant_of-self-2 : goal.invariant_of-self-2
invariant_of-self-2 c =
    rw (c.in_ok-push.ensures.items, c.self.view_is)
    (ascends-push (λ p. p.store) c.args.self.now c.args.place (rw c.self.view_is at c.self.invariant) c.requires)
