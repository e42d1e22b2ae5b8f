use Rattle.std.proofs.Common.{ℕ, List, subst}
use Rattle.st_pages.specs.Attempt.{over}
use Rattle.st_store.specs.Stores.{Found}
use Rattle.st_store.specs.Chain.{IsChainOf, IsSpot}
use Rattle.st_chain.proofs.Located.{found-in, spot-of}
use Rattle.st_chain.proofs.chain.ChainStore.find.Goals as goal

pub returns-in-Ok-clause-found : goal.returns-in-Ok-clause-found
returns-in-Ok-clause-found g c = λ array agrees.
    let under = over (g.P.Pages.attempt c.args.pages.now) array in
    subst (λ p. (pages : List ℕ) (rows : List (List ℕ)) → IsChainOf p under pages rows → Found p.key c.args.key.now rows c.copy_found.result c.copy_found.new.row) c.self.view_is
    (λ pages rows chain. found-in c.self.inside.place under pages rows c.args.key.now c.in-Ok.field-0 c.locate.new.frame c.copy_found.result c.copy_found.new.row chain (c.in-Ok.ensures.located array agrees) c.copy_found.ensures)

pub returns-in-Ok-clause-seen : goal.returns-in-Ok-clause-seen
returns-in-Ok-clause-seen g c = λ array agrees pages rows chain.
    let under = over (g.P.Pages.attempt c.args.pages.now) array in
    (c.in-Ok.field-0.page, subst (λ p. IsSpot p under c.args.key.now c.in-Ok.field-0.page) c.self.view_is (spot-of c.self.inside.place under c.args.key.now c.in-Ok.field-0 c.locate.new.frame (c.in-Ok.ensures.located array agrees)), c.in-Ok.ensures.seen)
