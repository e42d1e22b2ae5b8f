use Rattle.std.proofs.Common.{◌≡◌, ◌+◌, ◌-◌, ◌^◌, ◌<◌, IfSome, IsSome}
use Rattle.st_image.specs.Fields.{rows_of}
use Rattle.st_pages.specs.Calls.{no_page}
use Rattle.st_pages.specs.Reading.{ForEach}
use Rattle.st_store.specs.Chain.{IsChainPage, is_on_chain, top}
use Rattle.st_chain.specs.Walks.{HasCome}
use Rattle.st_chain.proofs.walk.locate.Given as goal

-- the walk has come to the page whose image is in the frame, and asked for no other pages than those on the chain
abbrev pub invariant-loop-alloc : goal.invariant-loop-alloc
invariant-loop-alloc g l =
    let attempt = g.P.Pages.attempt in
    record {
      follows : g.P.Pages.follows l.fn.pages l.pages;
      written : (attempt l.pages).written ≡ (attempt l.fn.pages).written;
      page : l.spot.page < 65536;
      front : IfSome l.spot.previous (λ page. page < 65536);
      seen : IsSome ((attempt l.pages).seen l.spot.page);
      sound : IsChainPage l.place l.frame;
      come : ForEach (attempt l.fn.pages) (attempt l.pages) (λ array. HasCome l.place array l.key l.spot l.frame);
      asked : ForEach (attempt l.fn.pages) (attempt l.pages) (λ array. g.P.Pages.asked l.fn.pages l.pages (is_on_chain l.place array) no_page 0);
    }

-- the last key grows from page to page
abbrev pub decreases-loop-alloc : goal.decreases-loop-alloc
decreases-loop-alloc g l = 256 ^ l.place.key + 1 - top l.place.key 0 (rows_of l.place.width l.frame)
