use Rattle.std.proofs.Common.{◌≡◌, ℕ, ◌+◌, ◌≤◌, ◌||◌, Bool, take, IfOk, IsSome, IsTrue, Some, false, refl, sym, ap, subst, ◌∙◌, arith}
use Rattle.std.specs.Prelude.{is_some}
use Rattle.st_image.specs.Fields.{kind_of}
use Rattle.st_pages.specs.Attempt.{Array, Agrees, may_put, over, page_count}
use Rattle.st_pages.specs.Calls.{no_page, only}
use Rattle.st_pages.specs.declared.places.Place.{Place}
use Rattle.st_pages.proofs.Carried.{only-within, over-same}
use Rattle.st_store.specs.Rows.{row_with}
use Rattle.st_store.specs.Stores.{ForBoth, Inserted, IsSame, OfStore, any_page, changes, drew_between}
use Rattle.st_store.specs.Chain.{IsChainOf, IsSpot, is_on_chain}
use Rattle.st_store.proofs.Ordering.{key-of-key}
use Rattle.st_chain.specs.Changes.{IsPutIn, page_or_drawn}
use Rattle.st_chain.proofs.Asking.{if-ok, itself, nowhere, reach-within}
use Rattle.st_chain.proofs.Counted.{drew-none, drew-same, few, few-drawn, few-none, may-grow, may-put-page, may-within, seen-agrees, seen_array}
use Rattle.st_chain.proofs.Numbered.{keep-under, same-under}
use Rattle.st_chain.proofs.Stored.{found-on, inserted}
use Rattle.st_chain.proofs.chain.ChainStore.insert.Goals as goal

pub returns-in-Err-clause-kinds : goal.returns-in-Err-clause-kinds
returns-in-Err-clause-kinds g c = λ stores.
    let attempt = g.P.Pages.attempt in
    let old = attempt c.args.pages.now in
    let mid = attempt c.locate.new.pages in
    g.met.P.Pages.asked_more c.args.pages.now c.locate.new.pages (is_on_chain c.self.inside.place (over old (seen_array mid))) no_page any_page (may_put mid) 0 17
    (λ p h. refl) (nowhere (may_put mid)) (omega arith) (c.locate.ensures.asked (seen_array mid) (seen-agrees mid))

pub returns-in-Err-clause-few : goal.returns-in-Err-clause-few
returns-in-Err-clause-few g c = λ array agrees.
    let attempt = g.P.Pages.attempt in
    let old = attempt c.args.pages.now in
    let mid = attempt c.locate.new.pages in
    let got = is_on_chain c.self.inside.place (over old array) in
    let most : changes c.args.self.now.first (over old array) (over mid array) ≤ 1 + 0 = few old mid got no_page 0 0 c.args.self.now.first array
    (g.met.P.Pages.asked_tells c.args.pages.now c.locate.new.pages got no_page 0 c.locate.ensures.follows (c.locate.ensures.asked array agrees)) (few-none page_count) in
    omega (arith, most)

pub returns-clause-asked : goal.returns-clause-asked
returns-clause-asked g c = λ array agrees.
    let attempt = g.P.Pages.attempt in
    let old = attempt c.args.pages.now in
    let mid = attempt c.locate.new.pages in
    let new = attempt c.put_in.new.pages in
    let reach = is_on_chain c.self.inside.place (over old array) in
    let put : ℕ → Bool = λ p. reach p || drew_between old new p in
    let earlier : Agrees mid array = λ p image e. agrees p image (g.met.P.Pages.seen_stays c.locate.new.pages c.put_in.new.pages c.put_in.ensures.follows p image e) in
    subst (λ (q : Place). g.P.Pages.asked c.args.pages.now c.put_in.new.pages (is_on_chain q (over old array)) (λ p. is_on_chain q (over old array) p || drew_between old new p) 17) c.self.view_is
    (g.met.P.Pages.asked_on c.args.pages.now c.locate.new.pages c.put_in.new.pages reach put 0 17 c.locate.ensures.follows c.put_in.ensures.follows
    (g.met.P.Pages.asked_more _ _ reach no_page reach put 0 0 (itself reach) (nowhere put) (omega arith) (c.locate.ensures.asked array earlier))
    (g.met.P.Pages.asked_more _ _ no_page (page_or_drawn mid new c.in-Ok.spot.page) reach put 2 17 (nowhere reach)
    (reach-within reach old mid new c.in-Ok.spot.page (c.in-Ok.ensures.reached array earlier) (g.met.P.Pages.drawn_stays c.args.pages.now c.locate.new.pages c.locate.ensures.follows)) (omega arith) c.put_in.ensures.asked))

pub returns-clause-kinds : goal.returns-clause-kinds
returns-clause-kinds g c = λ stores.
    let attempt = g.P.Pages.attempt in
    let old = attempt c.args.pages.now in
    let mid = attempt c.locate.new.pages in
    let new = attempt c.put_in.new.pages in
    let page = c.in-Ok.spot.page in
    let may : IsTrue (may_put mid page) = may-put-page old mid page stores c.locate.ensures.written
    (g.met.P.Pages.seen_stays c.args.pages.now c.locate.new.pages c.locate.ensures.follows) (g.met.P.Pages.drawn_stays c.args.pages.now c.locate.new.pages c.locate.ensures.follows)
    (λ array agrees. ap kind_of (c.in-Ok.ensures.located array agrees).come.at ∙ c.in-Ok.ensures.sound.has_header.kind) in
    let now : IsTrue (may_put new page) = may-grow mid new page (g.met.P.Pages.seen_stays c.locate.new.pages c.put_in.new.pages c.put_in.ensures.follows)
    (g.met.P.Pages.drawn_stays c.locate.new.pages c.put_in.new.pages c.put_in.ensures.follows) may in
    g.met.P.Pages.asked_on c.args.pages.now c.locate.new.pages c.put_in.new.pages any_page (may_put new) 0 17 c.locate.ensures.follows c.put_in.ensures.follows
    (g.met.P.Pages.asked_more _ _ (is_on_chain c.self.inside.place (over old (seen_array mid))) no_page any_page (may_put new) 0 0
    (λ p h. refl) (nowhere (may_put new)) (omega arith) (c.locate.ensures.asked (seen_array mid) (seen-agrees mid)))
    (g.met.P.Pages.asked_more _ _ no_page (page_or_drawn mid new page) any_page (may_put new) 2 17 (nowhere any_page) (may-within mid new page now) (omega arith) c.put_in.ensures.asked)

pub returns-clause-few : goal.returns-clause-few
returns-clause-few g c = λ array agrees.
    let attempt = g.P.Pages.attempt in
    let old = attempt c.args.pages.now in
    let mid = attempt c.locate.new.pages in
    let new = attempt c.put_in.new.pages in
    let page = c.in-Ok.spot.page in
    let tells = g.met.P.Pages.asked_tells c.locate.new.pages c.put_in.new.pages no_page (page_or_drawn mid new page) 2 c.put_in.ensures.follows c.put_in.ensures.asked in
    let most : changes c.args.self.now.first (over mid array) (over new array) ≤ 1 + 3 = few mid new no_page (page_or_drawn mid new page) 2 3 c.args.self.now.first array tells
    (few-drawn mid new no_page (page_or_drawn mid new page) page tells (g.met.P.Pages.drawn_stays c.locate.new.pages c.put_in.new.pages c.put_in.ensures.follows)) in
    subst (λ (before : Array). changes c.args.self.now.first before (over new array) ≤ 34) (over-same old mid array c.locate.ensures.written) (omega (arith, most))

pub returns-clause-inserted : goal.returns-clause-inserted
returns-clause-inserted g c =
    let attempt = g.P.Pages.attempt in
    let old = attempt c.args.pages.now in
    let mid = attempt c.locate.new.pages in
    let new = attempt c.put_in.new.pages in
    let place = c.self.inside.place in
    let spot = c.in-Ok.spot in
    let frame = c.locate.new.frame in
    let row = c.args.row.now in
    let drawn = g.met.P.Pages.drawn_stays c.args.pages.now c.locate.new.pages c.locate.ensures.follows in
    let got = is_on_chain place (over old (seen_array mid)) in
    let none : (p : ℕ) → drew_between old mid p ≡ false = drew-none old mid got no_page
    (g.met.P.Pages.asked_tells c.args.pages.now c.locate.new.pages got no_page 0 c.locate.ensures.follows (c.locate.ensures.asked (seen_array mid) (seen-agrees mid))) drawn (g.met.P.Pages.is_sound c.locate.new.pages) in
    subst (λ (q : Place). IfOk c.put_in.result (λ was. ForBoth old new (λ before after. OfStore IsChainOf q before (λ reached rows.
    Inserted IsChainOf IsSpot (g.P.Pages.asked c.args.pages.now c.put_in.new.pages) is_on_chain q old new before after reached row rows was)))) c.self.view_is
    (if-ok c.put_in.result
    (λ was. ForBoth mid new (λ before after. before spot.page ≡ frame → IsPutIn place (drew_between mid new) before after spot.page frame row was))
    (λ was. IsTrue was → g.P.Pages.asked c.locate.new.pages c.put_in.new.pages no_page (only spot.page) 0) (IsSome (new.written spot.page))
    (λ was. ForBoth old new (λ before after. OfStore IsChainOf place before (λ reached rows.
    Inserted IsChainOf IsSpot (g.P.Pages.asked c.args.pages.now c.put_in.new.pages) is_on_chain place old new before after reached row rows was)))
    c.put_in.ensures.put_in c.put_in.ensures.alone c.put_in.ensures.put
    (λ was put alone written array agrees pages rows chain.
    let earlier : Agrees mid array = λ p image e. agrees p image (g.met.P.Pages.seen_stays c.locate.new.pages c.put_in.new.pages c.put_in.ensures.follows p image e) in
    let reach = is_on_chain place (over old array) in
    let same : over mid array ≡ over old array = over-same old mid array c.locate.ensures.written in
    let located = c.in-Ok.ensures.located array earlier in
    let there : IsPutIn place (drew_between mid new) (over mid array) (over new array) spot.page frame row was = put array agrees (ap (λ (x : Array). x spot.page) same ∙ located.come.at) in
    inserted (g.P.Pages.asked c.args.pages.now c.put_in.new.pages) place old new (over old array) (over new array) pages rows (take place.key row) row spot frame was chain located c.in-Ok.ensures.sound
    (key-of-key place.key row) written
    (λ is. g.met.P.Pages.asked_on c.args.pages.now c.locate.new.pages c.put_in.new.pages reach (only spot.page) 0 0 c.locate.ensures.follows c.put_in.ensures.follows
    (g.met.P.Pages.asked_more _ _ reach no_page reach (only spot.page) 0 0 (itself reach) (nowhere (only spot.page)) (omega arith) (c.locate.ensures.asked array earlier))
    (g.met.P.Pages.asked_more _ _ no_page (only spot.page) reach (only spot.page) 0 0 (nowhere reach) (itself (only spot.page)) (omega arith) (alone is)))
    (subst (λ (x : Array). IsPutIn place (drew_between old new) x (over new array) spot.page frame row was) same
    (subst (λ (d : ℕ → Bool). IsPutIn place d (over mid array) (over new array) spot.page frame row was) (drew-same old mid new drawn none) there))))

pub returns-clause-numbers : goal.returns-clause-numbers
returns-clause-numbers g c = λ array agrees pages rows chain.
    let attempt = g.P.Pages.attempt in
    let old = attempt c.args.pages.now in
    let mid = attempt c.locate.new.pages in
    let new = attempt c.put_in.new.pages in
    let spot = c.in-Ok.spot in
    let earlier : Agrees mid array = λ p image e. agrees p image (g.met.P.Pages.seen_stays c.locate.new.pages c.put_in.new.pages c.put_in.ensures.follows p image e) in
    let same : over mid array ≡ over old array = over-same old mid array c.locate.ensures.written in
    keep-under old mid new array c.locate.ensures.written (g.met.P.Pages.drawn_stays c.args.pages.now c.locate.new.pages c.locate.ensures.follows)
    (c.put_in.ensures.numbers array agrees (ap (λ (x : Array). x spot.page) same ∙ (c.in-Ok.ensures.located array earlier).come.at))

pub returns-clause-there : goal.returns-clause-there
returns-clause-there g c = λ array agrees.
    let attempt = g.P.Pages.attempt in
    let old = attempt c.args.pages.now in
    let mid = attempt c.locate.new.pages in
    let place = c.self.inside.place in
    let spot = c.in-Ok.spot in
    let row = c.args.row.now in
    let reach = is_on_chain place (over old array) in
    let earlier : Agrees mid array = λ p image e. agrees p image (g.met.P.Pages.seen_stays c.locate.new.pages c.put_in.new.pages c.put_in.ensures.follows p image e) in
    subst (λ (q : Place). OfStore IsChainOf q (over old array) (λ _ rows. IsTrue (is_some (row_with q.key row rows)) →
    g.P.Pages.asked c.args.pages.now c.put_in.new.pages (is_on_chain q (over old array)) (is_on_chain q (over old array)) 0)) c.self.view_is
    (λ pages rows chain some.
    let found = found-on place (over old array) pages rows (take place.key row) row spot c.locate.new.frame chain (c.in-Ok.ensures.located array earlier) c.in-Ok.ensures.sound (key-of-key place.key row) in
    g.met.P.Pages.asked_on c.args.pages.now c.locate.new.pages c.put_in.new.pages reach reach 0 0 c.locate.ensures.follows c.put_in.ensures.follows
    (g.met.P.Pages.asked_more _ _ reach no_page reach reach 0 0 (itself reach) (nowhere reach) (omega arith) (c.locate.ensures.asked array earlier))
    (g.met.P.Pages.asked_more _ _ no_page (only spot.page) reach reach 0 0 (nowhere reach) (only-within reach spot.page (c.in-Ok.ensures.reached array earlier)) (omega arith)
    (c.put_in.ensures.there (ap is_some (sym found) ∙ some))))

pub returns-clause-same : goal.returns-clause-same
returns-clause-same g c = λ array agrees.
    let attempt = g.P.Pages.attempt in
    let old = attempt c.args.pages.now in
    let mid = attempt c.locate.new.pages in
    let new = attempt c.put_in.new.pages in
    let place = c.self.inside.place in
    let spot = c.in-Ok.spot in
    let row = c.args.row.now in
    let earlier : Agrees mid array = λ p image e. agrees p image (g.met.P.Pages.seen_stays c.locate.new.pages c.put_in.new.pages c.put_in.ensures.follows p image e) in
    let same : over mid array ≡ over old array = over-same old mid array c.locate.ensures.written in
    let located = c.in-Ok.ensures.located array earlier in
    subst (λ (q : Place). OfStore IsChainOf q (over old array) (λ _ rows. row_with q.key row rows ≡ Some row → IsSame (over old array) (over new array))) c.self.view_is
    (λ pages rows chain is.
    let found = found-on place (over old array) pages rows (take place.key row) row spot c.locate.new.frame chain located c.in-Ok.ensures.sound (key-of-key place.key row) in
    same-under old mid new array c.locate.ensures.written (c.put_in.ensures.same (sym found ∙ is) array agrees (ap (λ (x : Array). x spot.page) same ∙ located.come.at)))
