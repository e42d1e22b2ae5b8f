use Rattle.std.proofs.Common.{ℕ, List, [], ◌∷◌, Result, Err, ◌∙◌, subst}
use Rattle.std.specs.Prelude.{not}
use Rattle.st_page.specs.declared.fault.PageFault.{PageFault}
use Rattle.std.specs.List.{All}
use Rattle.std.proofs.lemmas.List.Elements.{All-filter}
use Rattle.st_image.specs.Grammar.{row_before}
use Rattle.st_pages.specs.declared.places.Place.{Place}
use Rattle.st_pages.specs.Attempt.{over}
use Rattle.st_pages.specs.Calls.{no_page}
use Rattle.st_pages.specs.Reading.{ForEach, OfDamage}
use Rattle.st_pages.proofs.Carried.{Stays, under}
use Rattle.st_store.specs.Rows.{rows_from}
use Rattle.st_store.specs.Stores.{OfStore}
use Rattle.st_index.proofs.Called.{PageLaws, earlier}
use Rattle.st_index.proofs.Changes.{damage-weaken}
use Rattle.st_index.proofs.Looked.{err-weaken, ok-weaken}
use Rattle.st_database.specs.Touches.{WithStore}
use Rattle.st_database.proofs.Frames.{StoreLaws}
use Rattle.st_lookups.specs.Looks.{Finds, taken_from}
use Rattle.st_lookups.proofs.Found.{finds-looked, if-ok}
use Rattle.st_lookups.proofs.Walked.{TookRows}
use Rattle.st_lookups.proofs.walks.walk.Given as given
use Rattle.st_lookups.proofs.walks.walk.Goals as goal

stores : (g : given.Over) → StoreLaws g.S.Store.holds g.S.Store.reach
stores g = record {
  basic = record { one = g.met.S.Store.one; has_first = g.met.S.Store.has_first; reached = g.met.S.Store.reached; bear = g.met.S.Store.bear; depends = g.met.S.Store.depends };
  once = g.met.S.Store.once;
  any_serial = g.met.S.Store.any_serial;
  extent_first = g.met.S.Store.extent_first;
}

laws : (g : given.Over) → PageLaws g.P.Pages.attempt g.P.Pages.follows g.P.Pages.asked
laws g = record {
  is_sound = g.met.P.Pages.is_sound;
  seen_stays = g.met.P.Pages.seen_stays;
  drawn_stays = g.met.P.Pages.drawn_stays;
  drawn_unwritten = g.met.P.Pages.drawn_unwritten;
  follows_on = g.met.P.Pages.follows_on;
  asked_more = g.met.P.Pages.asked_more;
  asked_on = g.met.P.Pages.asked_on;
  asked_tells = g.met.P.Pages.asked_tells;
}

pub returns-in-Ok-clause-finds : goal.returns-in-Ok-clause-finds
returns-in-Ok-clause-finds g c =
    let pages-laws = g.met.P.Pages in
    let attempt = g.P.Pages.attempt in
    let loc = g.S.Store.location c.at-store.result in
    let from = c.args.from.now in
    let A = attempt c.args.pages.now in
    let B = attempt c.seek.new.pages in
    let C = attempt c.take_all.new.pages in
    let T = TookRows g.V.Visit.told c.args.visit.now c.take_all.new.visit in
    let goes = g.V.Visit.goes c.args.visit.now in
    let sound = g.V.Visit.sound c.args.visit.now in
    let stays : Stays B C = pages-laws.seen_stays c.seek.new.pages c.take_all.new.pages c.take_all.ensures.follows in
    subst (λ (p : Place). WithStore g.S.Store.holds A C p (λ array schema places view. All sound (view.rows p.store) →
    Finds (g.P.Pages.asked c.args.pages.now c.take_all.new.pages) A C array (λ _. T (taken_from goes (rows_from p.key from (view.rows p.store)))) (p.store ∷ []) c.take_all.result)) c.at-store.ensures
    (finds-looked attempt g.P.Pages.follows g.P.Pages.asked (laws g) c.args.pages.now c.take_all.new.pages g.S.Store.holds g.S.Store.reach (stores g) loc
    (All sound) (λ _ rows. T (taken_from goes (rows_from loc.key from rows))) g.S.Store.bad g.met.S.Store.never_bad c.take_all.result (c.take_all.ensures.written ∙ c.seek.ensures.written)
    (λ pages agrees.
    let mid = earlier B C pages stays agrees in
    pages-laws.asked_on c.args.pages.now c.seek.new.pages c.take_all.new.pages (g.S.Store.reach loc (over A pages)) no_page 0 0 c.seek.ensures.follows c.take_all.ensures.follows (c.seek.ensures.asked pages mid)
    (under A B C (λ a. g.S.Store.sits loc a c.in-Ok.cursor → g.P.Pages.asked c.seek.new.pages c.take_all.new.pages (g.S.Store.reach loc a) no_page 0) c.seek.ensures.written c.take_all.ensures.asked pages agrees (c.in-Ok.ensures.sits pages mid)))
    (ok-weaken (λ _. ForEach B C (λ array. (rest : List (List ℕ)) → g.S.Store.ahead loc array c.in-Ok.cursor rest → T (taken_from goes rest)))
    (λ _. ForEach A C (λ array. OfStore g.S.Store.holds loc array (λ _ rows. T (taken_from goes (rows_from loc.key from rows))))) c.take_all.result
    (λ _ got pages agrees had rows holds.
    let mid = earlier B C pages stays agrees in
    under A B C (λ a. (rest : List (List ℕ)) → g.S.Store.ahead loc a c.in-Ok.cursor rest → T (taken_from goes rest)) c.seek.ensures.written got pages agrees (rows_from loc.key from rows) (c.in-Ok.ensures.ahead pages mid had rows holds))
    (if-ok (ForEach B C (λ array. (rest : List (List ℕ)) → g.S.Store.ahead loc array c.in-Ok.cursor rest → T (taken_from goes rest))) c.take_all.result c.take_all.ensures.told))
    (err-weaken (OfDamage (λ page at. ForEach B C (λ array. (rest : List (List ℕ)) → g.S.Store.ahead loc array c.in-Ok.cursor rest → All sound rest → g.S.Store.bad loc array page at)))
    (OfDamage (λ page at. ForEach A C (λ array. OfStore g.S.Store.holds loc array (λ _ rows. All sound rows → g.S.Store.bad loc array page at)))) c.take_all.result
    (damage-weaken (λ page at. ForEach B C (λ array. (rest : List (List ℕ)) → g.S.Store.ahead loc array c.in-Ok.cursor rest → All sound rest → g.S.Store.bad loc array page at))
    (λ page at. ForEach A C (λ array. OfStore g.S.Store.holds loc array (λ _ rows. All sound rows → g.S.Store.bad loc array page at)))
    (λ page at wrong pages agrees had rows holds all.
    let mid = earlier B C pages stays agrees in
    under A B C (λ x. (rest : List (List ℕ)) → g.S.Store.ahead loc x c.in-Ok.cursor rest → All sound rest → g.S.Store.bad loc x page at) c.seek.ensures.written wrong pages agrees
    (rows_from loc.key from rows) (c.in-Ok.ensures.ahead pages mid had rows holds) (All-filter (λ other. not (row_before loc.key other from)) sound rows all)))
    c.take_all.ensures.bad))

pub returns-clause-finds : goal.returns-clause-finds
returns-clause-finds g c =
    let attempt = g.P.Pages.attempt in
    let loc = g.S.Store.location c.at-store.result in
    let from = c.args.from.now in
    let A = attempt c.args.pages.now in
    let B = attempt c.seek.new.pages in
    let T = TookRows g.V.Visit.told c.args.visit.now c.args.visit.now in
    let goes = g.V.Visit.goes c.args.visit.now in
    let sound = g.V.Visit.sound c.args.visit.now in
    let ended : Result Unit PageFault = Err c.in-Err.fault in
    subst (λ (p : Place). WithStore g.S.Store.holds A B p (λ array schema places view. All sound (view.rows p.store) →
    Finds (g.P.Pages.asked c.args.pages.now c.seek.new.pages) A B array (λ _. T (taken_from goes (rows_from p.key from (view.rows p.store)))) (p.store ∷ []) ended)) c.at-store.ensures
    (finds-looked attempt g.P.Pages.follows g.P.Pages.asked (laws g) c.args.pages.now c.seek.new.pages g.S.Store.holds g.S.Store.reach (stores g) loc
    (All sound) (λ _ rows. T (taken_from goes (rows_from loc.key from rows))) g.S.Store.bad g.met.S.Store.never_bad ended c.in-Err.ensures.written
    c.in-Err.ensures.asked tt
    (damage-weaken (λ page at. ForEach A B (λ array. g.S.Store.bad loc array page at))
    (λ page at. ForEach A B (λ array. OfStore g.S.Store.holds loc array (λ _ rows. All sound rows → g.S.Store.bad loc array page at)))
    (λ page at wrong pages agrees had rows holds all. wrong pages agrees) c.in-Err.fault c.in-Err.ensures.bad))
