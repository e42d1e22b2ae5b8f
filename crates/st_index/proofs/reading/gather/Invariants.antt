use Rattle.std.proofs.Common.{◌≡◌, ℕ, ◌++◌, List}
use Rattle.st_pages.specs.Calls.{no_page}
use Rattle.st_pages.specs.Reading.{ForEach}
use Rattle.st_state.specs.State.{Pair}
use Rattle.st_store.specs.Stores.{Fits}
use Rattle.st_index.specs.Turned.{AreOfPairs}
use Rattle.st_index.specs.Bad.{AreNamed}
use Rattle.st_index.specs.Found.{front_with}
use Rattle.st_index.proofs.reading.gather.Given as goal

-- what was found so far, and the rows that are still ahead
abbrev pub invariant-loop-entity : goal.invariant-loop-entity
invariant-loop-entity g l =
    let attempt = g.P.Pages.attempt in
    let place = g.S.Store.location l.store in
    record {
      follows : g.P.Pages.follows l.fn.pages l.pages;
      written : (attempt l.pages).written ≡ (attempt l.fn.pages).written;
      fits : Fits place l.cursor;
      asked : ForEach (attempt l.fn.pages) (attempt l.pages) (λ array. g.S.Store.sits place array l.fn.cursor → g.P.Pages.asked l.fn.pages l.pages (g.S.Store.reach place array) no_page 0);
      sits : ForEach (attempt l.fn.pages) (attempt l.pages) (λ array. g.S.Store.sits place array l.fn.cursor → g.S.Store.sits place array l.cursor);
      found : ForEach (attempt l.fn.pages) (attempt l.pages) (λ array. (rest : List (List ℕ)) → g.S.Store.ahead place array l.fn.cursor rest → (pairs : List Pair) → AreOfPairs l.attribute.kind rest pairs →
          (others : List (List ℕ)) × (more : List Pair) × g.S.Store.ahead place array l.cursor others × AreOfPairs l.attribute.kind others more × (front_with l.value pairs ≡ l.found ++ front_with l.value more));
      named : ForEach (attempt l.fn.pages) (attempt l.pages) (λ array. (rest : List (List ℕ)) → g.S.Store.ahead place array l.fn.cursor rest → AreNamed l.schema l.attribute rest →
          (others : List (List ℕ)) × g.S.Store.ahead place array l.cursor others × AreNamed l.schema l.attribute others);
    }

abbrev pub decreases-loop-entity : goal.decreases-loop-entity
decreases-loop-entity g l = g.S.Store.left (g.S.Store.location l.store) l.cursor
