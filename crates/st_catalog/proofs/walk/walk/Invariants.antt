use Rattle.std.proofs.Common.{◌≡◌, ◌<◌}
use Rattle.st_pages.specs.Calls.{no_page}
use Rattle.st_pages.specs.Chains.{is_on_way}
use Rattle.st_pages.specs.Reading.{ForEach}
use Rattle.st_catalog.proofs.Walking.{Far}
use Rattle.st_catalog.proofs.walk.walk.Given as goal

-- the pages so far lead to the page that is next, and no others were asked for
abbrev pub invariant-loop : goal.invariant-loop
invariant-loop g l =
    let attempt = g.P.Pages.attempt in
    record {
      page : l.page < 65536;
      follows : g.P.Pages.follows l.fn.pages l.pages;
      written : (attempt l.pages).written ≡ (attempt l.fn.pages).written;
      far : ForEach (attempt l.fn.pages) (attempt l.pages) (λ array. Far l.wanted array l.first l.page l.counter (g.G.Gather.told l.gather));
      asked : ForEach (attempt l.fn.pages) (attempt l.pages) (λ array. g.P.Pages.asked l.fn.pages l.pages (is_on_way array l.first) no_page 0);
    }
