use Rattle.std.proofs.Common.{ℕ, List, subst}
use Rattle.st_pages.specs.Attempt.{over}
use Rattle.st_store.specs.Rows.{rows_from}
use Rattle.st_store.specs.Chain.{IsAheadInChain, IsChainOf, SitsInChain}
use Rattle.st_chain.proofs.Located.{ahead-there, sits-there}
use Rattle.st_chain.proofs.chain.ChainStore.seek.Goals as goal

pub returns-in-Ok-clause-sits : goal.returns-in-Ok-clause-sits
returns-in-Ok-clause-sits g c = λ array agrees.
    let under = over (g.P.Pages.attempt c.args.pages.now) array in
    let located = c.in-Ok.ensures.located array agrees in
    subst (λ p. SitsInChain p under c.cursor_on.result) c.self.view_is (
      located.come.pages,
      c.in-Ok.spot.page,
      sits-there c.self.inside.place under c.args.key.now c.in-Ok.spot c.locate.new.frame c.cursor_on.result located.come
          c.in-Ok.ensures.sound c.cursor_on.ensures.number c.cursor_on.ensures.page c.cursor_on.ensures.within,
    )

pub returns-in-Ok-clause-ahead : goal.returns-in-Ok-clause-ahead
returns-in-Ok-clause-ahead g c = λ array agrees.
    let under = over (g.P.Pages.attempt c.args.pages.now) array in
    subst (λ p. (pages : List ℕ) (rows : List (List ℕ)) → IsChainOf p under pages rows → IsAheadInChain p under c.cursor_on.result (rows_from p.key c.args.key.now rows)) c.self.view_is
    (λ pages rows chain. ahead-there c.self.inside.place under pages rows c.args.key.now c.in-Ok.spot c.locate.new.frame c.cursor_on.result chain (c.in-Ok.ensures.located array agrees)
    c.in-Ok.ensures.sound c.cursor_on.ensures.number c.cursor_on.ensures.page c.cursor_on.ensures.within c.cursor_on.ensures.from)
