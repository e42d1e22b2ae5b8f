use Rattle.st_paged.specs.Laws.{asks-nothing}
use Rattle.st_paged.specs.Paged.{AsksFor, IsReached, StandsIn}
use Rattle.st_paged.proofs.OfForm.{form, spot}
use Rattle.st_paged.proofs.Selecting.{known-looks, unknown-looks}
use Rattle.st_paged.proofs.paged.Paged.known_in.Goals as goal

pub returns-in-Some-clause-looks : goal.returns-in-Some-clause-looks
returns-in-Some-clause-looks g c = λ w s agrees stands.
    let b = c.known_of.new.self in
    known-looks (StandsIn g.P.Pages.attempt form b w) (AsksFor g.P.Pages.attempt g.P.Pages.follows form spot g.P.Pages.asked c.args.self.now b w) (λ e n. IsReached g.P.Pages.attempt b w e) s c.args.ty c.in-Some.ty c.known_of.result c.in-Some.is
    (c.known_of.ensures.gives w s agrees stands) c.known_of.ensures.own (c.known_of.ensures.asks w s agrees stands)

pub returns-in-None-clause-looks : goal.returns-in-None-clause-looks
returns-in-None-clause-looks g c = λ w s agrees stands.
    let a = c.args.self.now in
    unknown-looks (StandsIn g.P.Pages.attempt form a w) (AsksFor g.P.Pages.attempt g.P.Pages.follows form spot g.P.Pages.asked a a w) (λ e n. IsReached g.P.Pages.attempt a w e) s c.args.ty c.new.result c.in-None.is c.new.ensures stands
    (asks-nothing g.P.Pages.attempt g.P.Pages.follows form spot g.P.Pages.asked g.met.P.Pages.asked_nothing a w)
