use Rattle.std.proofs.Common.{◌≡◌, ℕ, ◌+◌, ◌≤◌, IfOk, IfSome, IsSome, IsTrue, None, false, refl, sym, ap, subst, ◌∙◌, arith}
use Rattle.st_image.specs.Fields.{kind_of}
use Rattle.st_pages.specs.Attempt.{Array, Agrees, may_put, over, page_count}
use Rattle.st_pages.specs.Calls.{no_page, only}
use Rattle.st_pages.specs.declared.places.Place.{Place}
use Rattle.st_pages.proofs.Carried.{over-same}
use Rattle.st_store.specs.Rows.{row_with}
use Rattle.st_store.specs.Stores.{ForBoth, IsSame, OfStore, Removed, any_page, changes, drew_between}
use Rattle.st_store.specs.Chain.{IsChainOf, IsSpot, is_on_chain}
use Rattle.st_chain.specs.Changes.{IsTakenOut, is_previous, spot_or_previous}
use Rattle.st_chain.proofs.Asking.{around-within, front-each, front-within, if-ok, itself, nowhere}
use Rattle.st_chain.proofs.Counted.{drew-more, drew-none, few, few-around, few-none, front-may, may-grow, may-put-page, seen-agrees, seen_array, some-both}
use Rattle.st_chain.proofs.Fronts.{front-kind}
use Rattle.st_chain.proofs.Numbered.{keep-under, same-under}
use Rattle.st_chain.proofs.Stored.{found-on, removed}
use Rattle.st_chain.proofs.chain.ChainStore.remove.Goals as goal

pub returns-in-Err-clause-kinds : goal.returns-in-Err-clause-kinds
returns-in-Err-clause-kinds g c = λ stores.
    let attempt = g.P.Pages.attempt in
    let old = attempt c.args.pages.now in
    let mid = attempt c.locate.new.pages in
    g.met.P.Pages.asked_more c.args.pages.now c.locate.new.pages (is_on_chain c.self.inside.place (over old (seen_array mid))) no_page any_page (may_put mid) 0 0
    (λ p h. refl) (nowhere (may_put mid)) (omega arith) (c.locate.ensures.asked (seen_array mid) (seen-agrees mid))

pub returns-in-Err-clause-few : goal.returns-in-Err-clause-few
returns-in-Err-clause-few g c = λ array agrees.
    let attempt = g.P.Pages.attempt in
    let old = attempt c.args.pages.now in
    let mid = attempt c.locate.new.pages in
    let got = is_on_chain c.self.inside.place (over old array) in
    let most : changes c.args.self.now.first (over old array) (over mid array) ≤ 1 + 0 = few old mid got no_page 0 0 c.args.self.now.first array
    (g.met.P.Pages.asked_tells c.args.pages.now c.locate.new.pages got no_page 0 c.locate.ensures.follows (c.locate.ensures.asked array agrees)) (few-none page_count) in
    omega (arith, most)

pub returns-clause-asked : goal.returns-clause-asked
returns-clause-asked g c = λ array agrees.
    let attempt = g.P.Pages.attempt in
    let old = attempt c.args.pages.now in
    let mid = attempt c.locate.new.pages in
    let spot = c.in-Ok.spot in
    let reach = is_on_chain c.self.inside.place (over old array) in
    let earlier : Agrees mid array = λ p image e. agrees p image (g.met.P.Pages.seen_stays c.locate.new.pages c.take_out.new.pages c.take_out.ensures.follows p image e) in
    let front : IfSome spot.previous (λ p. IsTrue (reach p)) = front-each spot.previous old mid (λ x p. IsTrue (is_on_chain c.self.inside.place x p)) c.in-Ok.ensures.front_reached array earlier in
    subst (λ (q : Place). g.P.Pages.asked c.args.pages.now c.take_out.new.pages (is_on_chain q (over old array)) (is_on_chain q (over old array)) 0) c.self.view_is
    (g.met.P.Pages.asked_on c.args.pages.now c.locate.new.pages c.take_out.new.pages reach reach 0 0 c.locate.ensures.follows c.take_out.ensures.follows
    (g.met.P.Pages.asked_more _ _ reach no_page reach reach 0 0 (itself reach) (nowhere reach) (omega arith) (c.locate.ensures.asked array earlier))
    (g.met.P.Pages.asked_more _ _ (is_previous spot) (spot_or_previous spot) reach reach 0 0 (front-within reach spot front) (around-within reach spot (c.in-Ok.ensures.reached array earlier) front) (omega arith) c.take_out.ensures.asked))

pub returns-clause-kinds : goal.returns-clause-kinds
returns-clause-kinds g c = λ stores.
    let attempt = g.P.Pages.attempt in
    let old = attempt c.args.pages.now in
    let mid = attempt c.locate.new.pages in
    let new = attempt c.take_out.new.pages in
    let spot = c.in-Ok.spot in
    let seen = g.met.P.Pages.seen_stays c.args.pages.now c.locate.new.pages c.locate.ensures.follows in
    let drawn = g.met.P.Pages.drawn_stays c.args.pages.now c.locate.new.pages c.locate.ensures.follows in
    let seen_on = g.met.P.Pages.seen_stays c.locate.new.pages c.take_out.new.pages c.take_out.ensures.follows in
    let drawn_on = g.met.P.Pages.drawn_stays c.locate.new.pages c.take_out.new.pages c.take_out.ensures.follows in
    let may : IsTrue (may_put new spot.page) = may-grow mid new spot.page seen_on drawn_on
    (may-put-page old mid spot.page stores c.locate.ensures.written seen drawn (λ array agrees. ap kind_of (c.in-Ok.ensures.located array agrees).come.at ∙ c.in-Ok.ensures.sound.has_header.kind)) in
    let front : IfSome spot.previous (λ p. IsTrue (may_put new p)) = some-both spot.previous (λ p. IsTrue (may_put mid p)) (λ p. IsTrue (may_put new p)) (λ p. may-grow mid new p seen_on drawn_on)
    (front-may spot.previous old mid stores c.locate.ensures.written seen drawn (λ array agrees. front-kind c.self.inside.place (over old array) c.args.key.now spot c.locate.new.frame (c.in-Ok.ensures.located array agrees))) in
    g.met.P.Pages.asked_on c.args.pages.now c.locate.new.pages c.take_out.new.pages any_page (may_put new) 0 0 c.locate.ensures.follows c.take_out.ensures.follows
    (g.met.P.Pages.asked_more _ _ (is_on_chain c.self.inside.place (over old (seen_array mid))) no_page any_page (may_put new) 0 0
    (λ p h. refl) (nowhere (may_put new)) (omega arith) (c.locate.ensures.asked (seen_array mid) (seen-agrees mid)))
    (g.met.P.Pages.asked_more _ _ (is_previous spot) (spot_or_previous spot) any_page (may_put new) 0 0 (λ p h. refl) (around-within (may_put new) spot may front) (omega arith) c.take_out.ensures.asked)

pub returns-clause-few : goal.returns-clause-few
returns-clause-few g c = λ array agrees.
    let attempt = g.P.Pages.attempt in
    let old = attempt c.args.pages.now in
    let mid = attempt c.locate.new.pages in
    let new = attempt c.take_out.new.pages in
    let spot = c.in-Ok.spot in
    let tells = g.met.P.Pages.asked_tells c.locate.new.pages c.take_out.new.pages (is_previous spot) (spot_or_previous spot) 0 c.take_out.ensures.follows c.take_out.ensures.asked in
    let most : changes c.args.self.now.first (over mid array) (over new array) ≤ 1 + 2 = few mid new (is_previous spot) (spot_or_previous spot) 0 2 c.args.self.now.first array tells (few-around spot page_count) in
    subst (λ (before : Array). changes c.args.self.now.first before (over new array) ≤ 34) (over-same old mid array c.locate.ensures.written) (omega (arith, most))

pub returns-clause-removed : goal.returns-clause-removed
returns-clause-removed g c =
    let attempt = g.P.Pages.attempt in
    let old = attempt c.args.pages.now in
    let mid = attempt c.locate.new.pages in
    let new = attempt c.take_out.new.pages in
    let place = c.self.inside.place in
    let spot = c.in-Ok.spot in
    let frame = c.locate.new.frame in
    let key = c.args.key.now in
    let drawn = g.met.P.Pages.drawn_stays c.args.pages.now c.locate.new.pages c.locate.ensures.follows in
    let drawn_on = g.met.P.Pages.drawn_stays c.locate.new.pages c.take_out.new.pages c.take_out.ensures.follows in
    let got = is_on_chain place (over old (seen_array mid)) in
    let none_yet : (p : ℕ) → drew_between old mid p ≡ false = drew-none old mid got no_page
    (g.met.P.Pages.asked_tells c.args.pages.now c.locate.new.pages got no_page 0 c.locate.ensures.follows (c.locate.ensures.asked (seen_array mid) (seen-agrees mid))) drawn (g.met.P.Pages.is_sound c.locate.new.pages) in
    let none_on : (p : ℕ) → drew_between mid new p ≡ false = drew-none mid new (is_previous spot) (spot_or_previous spot)
    (g.met.P.Pages.asked_tells c.locate.new.pages c.take_out.new.pages (is_previous spot) (spot_or_previous spot) 0 c.take_out.ensures.follows c.take_out.ensures.asked) drawn_on (g.met.P.Pages.is_sound c.take_out.new.pages) in
    let none : (p : ℕ) → drew_between old new p ≡ false = drew-more old mid new drawn none_yet none_on in
    subst (λ (q : Place). IfOk c.take_out.result (λ was. ForBoth old new (λ before after. OfStore IsChainOf q before (λ reached rows.
    Removed IsChainOf IsSpot (g.P.Pages.asked c.args.pages.now c.take_out.new.pages) is_on_chain q old new before after reached key rows was)))) c.self.view_is
    (if-ok c.take_out.result
    (λ was. ForBoth mid new (λ before after. before spot.page ≡ frame → IsTakenOut place before after spot frame key was))
    (λ was. was ≡ false → g.P.Pages.asked c.locate.new.pages c.take_out.new.pages no_page (only spot.page) 0) (IsSome (new.written spot.page))
    (λ was. ForBoth old new (λ before after. OfStore IsChainOf place before (λ reached rows.
    Removed IsChainOf IsSpot (g.P.Pages.asked c.args.pages.now c.take_out.new.pages) is_on_chain place old new before after reached key rows was)))
    c.take_out.ensures.taken c.take_out.ensures.alone c.take_out.ensures.put
    (λ was taken alone written array agrees pages rows chain.
    let earlier : Agrees mid array = λ p image e. agrees p image (g.met.P.Pages.seen_stays c.locate.new.pages c.take_out.new.pages c.take_out.ensures.follows p image e) in
    let reach = is_on_chain place (over old array) in
    let same : over mid array ≡ over old array = over-same old mid array c.locate.ensures.written in
    let located = c.in-Ok.ensures.located array earlier in
    let there : IsTakenOut place (over mid array) (over new array) spot frame key was = taken array agrees (ap (λ (x : Array). x spot.page) same ∙ located.come.at) in
    removed (g.P.Pages.asked c.args.pages.now c.take_out.new.pages) place old new (over old array) (over new array) pages rows key spot frame was chain located c.in-Ok.ensures.sound written
    (λ is. g.met.P.Pages.asked_on c.args.pages.now c.locate.new.pages c.take_out.new.pages reach (only spot.page) 0 0 c.locate.ensures.follows c.take_out.ensures.follows
    (g.met.P.Pages.asked_more _ _ reach no_page reach (only spot.page) 0 0 (itself reach) (nowhere (only spot.page)) (omega arith) (c.locate.ensures.asked array earlier))
    (g.met.P.Pages.asked_more _ _ no_page (only spot.page) reach (only spot.page) 0 0 (nowhere reach) (itself (only spot.page)) (omega arith) (alone is)))
    none (subst (λ (x : Array). IsTakenOut place x (over new array) spot frame key was) same there)))

pub returns-clause-numbers : goal.returns-clause-numbers
returns-clause-numbers g c = λ array agrees pages rows chain.
    let attempt = g.P.Pages.attempt in
    let old = attempt c.args.pages.now in
    let mid = attempt c.locate.new.pages in
    let new = attempt c.take_out.new.pages in
    let spot = c.in-Ok.spot in
    let earlier : Agrees mid array = λ p image e. agrees p image (g.met.P.Pages.seen_stays c.locate.new.pages c.take_out.new.pages c.take_out.ensures.follows p image e) in
    let same : over mid array ≡ over old array = over-same old mid array c.locate.ensures.written in
    keep-under old mid new array c.locate.ensures.written (g.met.P.Pages.drawn_stays c.args.pages.now c.locate.new.pages c.locate.ensures.follows)
    (c.take_out.ensures.numbers array agrees (ap (λ (x : Array). x spot.page) same ∙ (c.in-Ok.ensures.located array earlier).come.at))

pub returns-clause-same : goal.returns-clause-same
returns-clause-same g c = λ array agrees.
    let attempt = g.P.Pages.attempt in
    let old = attempt c.args.pages.now in
    let mid = attempt c.locate.new.pages in
    let new = attempt c.take_out.new.pages in
    let place = c.self.inside.place in
    let spot = c.in-Ok.spot in
    let key = c.args.key.now in
    let earlier : Agrees mid array = λ p image e. agrees p image (g.met.P.Pages.seen_stays c.locate.new.pages c.take_out.new.pages c.take_out.ensures.follows p image e) in
    let same : over mid array ≡ over old array = over-same old mid array c.locate.ensures.written in
    let located = c.in-Ok.ensures.located array earlier in
    subst (λ (q : Place). OfStore IsChainOf q (over old array) (λ _ rows. row_with q.key key rows ≡ None → IsSame (over old array) (over new array))) c.self.view_is
    (λ pages rows chain none.
    let found = found-on place (over old array) pages rows key key spot c.locate.new.frame chain located c.in-Ok.ensures.sound refl in
    same-under old mid new array c.locate.ensures.written (c.take_out.ensures.same (sym found ∙ none) array agrees (ap (λ (x : Array). x spot.page) same ∙ located.come.at)))
