use Rattle.std.proofs.Common.{◌≡◌, ℕ, List}
use Rattle.st_pages.specs.Calls.{no_page}
use Rattle.st_pages.specs.Reading.{ForEach}
use Rattle.st_store.specs.Stores.{Fits}
use Rattle.st_lookups.proofs.Walked.{Walked, TookRows}
use Rattle.st_lookups.proofs.walks.take_all.Given as goal

-- which rows were taken, and which are still ahead
abbrev pub invariant-loop-fault : goal.invariant-loop-fault
invariant-loop-fault g l =
    let attempt = g.P.Pages.attempt in
    let place = g.S.Store.location l.store in
    record {
      follows : g.P.Pages.follows l.fn.pages l.pages;
      written : (attempt l.pages).written ≡ (attempt l.fn.pages).written;
      fits : Fits place l.cursor;
      asked : ForEach (attempt l.fn.pages) (attempt l.pages) (λ array. g.S.Store.sits place array l.fn.cursor → g.P.Pages.asked l.fn.pages l.pages (g.S.Store.reach place array) no_page 0);
      sits : ForEach (attempt l.fn.pages) (attempt l.pages) (λ array. g.S.Store.sits place array l.fn.cursor → g.S.Store.sits place array l.cursor);
      wide : (width : ℕ) → g.V.Visit.wide l.fn.visit width → g.V.Visit.wide l.visit width;
      sound : (other : List ℕ) → g.V.Visit.sound l.fn.visit other → g.V.Visit.sound l.visit other;
      goes : g.V.Visit.goes l.visit ≡ g.V.Visit.goes l.fn.visit;
      told : ForEach (attempt l.fn.pages) (attempt l.pages) (λ array. (rest : List (List ℕ)) → g.S.Store.ahead place array l.fn.cursor rest →
          Walked (g.S.Store.ahead place array l.cursor) (g.V.Visit.goes l.fn.visit) (TookRows g.V.Visit.told l.fn.visit l.visit) rest);
    }

abbrev pub decreases-loop-fault : goal.decreases-loop-fault
decreases-loop-fault g l = g.S.Store.left (g.S.Store.location l.store) l.cursor
