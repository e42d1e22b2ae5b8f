use Rattle.std.proofs.Common.{ℕ, ◌*◌, ◌||◌, List, IfErr, OnOk, subst, arith}
use Rattle.st_values.proofs.Tests.{first-of}
use Rattle.st_pages.specs.declared.places.Place.{Place}
use Rattle.st_pages.specs.Attempt.{Array, Agrees, over}
use Rattle.st_pages.specs.Reading.{ForEach, OfDamage}
use Rattle.st_store.specs.Stores.{Changed, ForBoth, KeepNumbers, OfStore, drew_between}
use Rattle.st_index.specs.Turned.{noted, without_value, with_value}
use Rattle.st_index.specs.Noted.{rows_for}
use Rattle.st_index.proofs.Changes.{Laws, damage-weaken}
use Rattle.st_index.proofs.Called.{PageLaws, earlier, few-then, kinds-then, one-asked, one-numbers, changed-then, bad-then}
use Rattle.st_index.proofs.noting.note_in.Given as given
use Rattle.st_index.proofs.noting.note_in.Goals as goal

stores : (g : given.Over) → Laws g.S.Store.holds g.S.Store.reach
stores g = record { one = g.met.S.Store.one; has_first = g.met.S.Store.has_first; reached = g.met.S.Store.reached; bear = g.met.S.Store.bear; depends = g.met.S.Store.depends }

laws : (g : given.Over) → PageLaws g.P.Pages.attempt g.P.Pages.follows g.P.Pages.asked
laws g = record {
  is_sound = g.met.P.Pages.is_sound;
  seen_stays = g.met.P.Pages.seen_stays;
  drawn_stays = g.met.P.Pages.drawn_stays;
  drawn_unwritten = g.met.P.Pages.drawn_unwritten;
  follows_on = g.met.P.Pages.follows_on;
  asked_more = g.met.P.Pages.asked_more;
  asked_on = g.met.P.Pages.asked_on;
  asked_tells = g.met.P.Pages.asked_tells;
}

pub returns-in-Ok-clause-asked : goal.returns-in-Ok-clause-asked
returns-in-Ok-clause-asked g c =
    let attempt = g.P.Pages.attempt in
    let loc = g.S.Store.location c.at-store.result in
    let n : ℕ = 17 * rows_for c.args.new.now in
    subst (λ (p : Place). (pages : Array) → Agrees (attempt c.keep.new.pages) pages → OfStore g.S.Store.holds p (over (attempt c.args.pages.now) pages) (λ had rows.
    g.P.Pages.asked c.args.pages.now c.keep.new.pages (g.S.Store.reach p (over (attempt c.args.pages.now) pages)) (λ page. g.S.Store.reach p (over (attempt c.args.pages.now) pages) page || drew_between (attempt c.args.pages.now) (attempt c.keep.new.pages) page) n))
    c.at-store.ensures
    (λ pages agrees had rows holds.
    let mid = earlier (attempt c.forget.new.pages) (attempt c.keep.new.pages) pages (g.met.P.Pages.seen_stays c.forget.new.pages c.keep.new.pages c.keep.ensures.follows) agrees in
    one-asked attempt g.P.Pages.follows g.P.Pages.asked (laws g) c.args.pages.now c.forget.new.pages c.keep.new.pages c.forget.ensures.follows c.keep.ensures.follows g.S.Store.holds g.S.Store.spot g.S.Store.reach (stores g) loc
    (over (attempt c.args.pages.now) pages) (over (attempt c.forget.new.pages) pages) had rows (without_value c.args.kind c.args.entity c.args.old.now rows) n holds (c.in-Ok.ensures.changed pages mid had rows holds)
    (c.forget.ensures.asked pages mid) (c.keep.ensures.asked pages agrees))

pub returns-in-Ok-clause-kinds : goal.returns-in-Ok-clause-kinds
returns-in-Ok-clause-kinds g c =
    kinds-then g.P.Pages.attempt g.P.Pages.follows g.P.Pages.asked (laws g) c.args.pages.now c.forget.new.pages c.keep.new.pages c.forget.ensures.follows c.keep.ensures.follows 0 (17 * rows_for c.args.new.now) (17 * rows_for c.args.new.now) (omega arith)
    c.forget.ensures.kinds c.keep.ensures.kinds

pub returns-in-Ok-clause-few : goal.returns-in-Ok-clause-few
returns-in-Ok-clause-few g c =
    few-then (g.P.Pages.attempt c.args.pages.now) (g.P.Pages.attempt c.forget.new.pages) (g.P.Pages.attempt c.keep.new.pages) (34 * rows_for c.args.old.now) (34 * rows_for c.args.new.now) _
    (g.met.P.Pages.seen_stays c.forget.new.pages c.keep.new.pages c.keep.ensures.follows) (omega arith) c.forget.ensures.few c.keep.ensures.few

pub returns-in-Ok-clause-changed : goal.returns-in-Ok-clause-changed
returns-in-Ok-clause-changed g c =
    let attempt = g.P.Pages.attempt in
    let f : List (List ℕ) → List (List ℕ) = λ rows. without_value c.args.kind c.args.entity c.args.old.now rows in
    let h : List (List ℕ) → List (List ℕ) = λ rows. with_value c.args.kind c.args.entity c.args.new.now rows in
    subst (λ (p : Place). OnOk c.keep.result (ForBoth (attempt c.args.pages.now) (attempt c.keep.new.pages) (λ before after. OfStore g.S.Store.holds p before (λ had rows.
    Changed g.S.Store.holds g.S.Store.spot (g.P.Pages.asked c.args.pages.now c.keep.new.pages) g.S.Store.reach p (attempt c.args.pages.now) (attempt c.keep.new.pages) before after had (noted c.args.kind c.args.entity c.args.old.now c.args.new.now rows)))))
    c.at-store.ensures
    (changed-then attempt g.P.Pages.follows g.P.Pages.asked (laws g) c.args.pages.now c.forget.new.pages c.keep.new.pages c.forget.ensures.follows c.keep.ensures.follows g.S.Store.holds g.S.Store.spot g.S.Store.reach (stores g)
    (g.S.Store.location c.at-store.result) f h c.keep.result c.in-Ok.ensures.changed c.keep.ensures.changed)

pub returns-in-Ok-clause-bad : goal.returns-in-Ok-clause-bad
returns-in-Ok-clause-bad g c =
    let attempt = g.P.Pages.attempt in
    let f : List (List ℕ) → List (List ℕ) = λ rows. without_value c.args.kind c.args.entity c.args.old.now rows in
    subst (λ (p : Place). IfErr c.keep.result (OfDamage (λ page at. ForEach (attempt c.args.pages.now) (attempt c.keep.new.pages) (λ array. OfStore g.S.Store.holds p array (λ _ _. ⊥)))))
    c.at-store.ensures
    (bad-then attempt g.P.Pages.follows g.P.Pages.asked (laws g) c.args.pages.now c.forget.new.pages c.keep.new.pages c.forget.ensures.follows c.keep.ensures.follows g.S.Store.holds g.S.Store.spot g.S.Store.reach (stores g)
    (g.S.Store.location c.at-store.result) f g.S.Store.bad g.met.S.Store.never_bad c.keep.result c.in-Ok.ensures.changed c.keep.ensures.bad)

pub returns-clause-bad : goal.returns-clause-bad
returns-clause-bad g c =
    let attempt = g.P.Pages.attempt in
    let loc = g.S.Store.location c.at-store.result in
    subst (λ (p : Place). OfDamage (λ page at. ForEach (attempt c.args.pages.now) (attempt c.forget.new.pages) (λ array. OfStore g.S.Store.holds p array (λ _ _. ⊥))) c.in-Err.fault)
    c.at-store.ensures
    (damage-weaken (λ page at. ForEach (attempt c.args.pages.now) (attempt c.forget.new.pages) (λ array. g.S.Store.bad loc array page at)) (λ page at. ForEach (attempt c.args.pages.now) (attempt c.forget.new.pages) (λ array. OfStore g.S.Store.holds loc array (λ _ _. ⊥)))
    (λ page at wrong pages agrees had rows holds. g.met.S.Store.never_bad loc (over (attempt c.args.pages.now) pages) had rows page at (wrong pages agrees) holds) c.in-Err.fault c.in-Err.ensures.bad)

pub returns-clause-asked : goal.returns-clause-asked
returns-clause-asked g c =
    let attempt = g.P.Pages.attempt in
    let A = attempt c.args.pages.now in
    let B = attempt c.forget.new.pages in
    let loc = g.S.Store.location c.at-store.result in
    let reach = g.S.Store.reach in
    let n : ℕ = 17 * rows_for c.args.new.now in
    subst (λ (p : Place). (pages : Array) → Agrees B pages → OfStore g.S.Store.holds p (over A pages) (λ had rows.
    g.P.Pages.asked c.args.pages.now c.forget.new.pages (reach p (over A pages)) (λ page. reach p (over A pages) page || drew_between A B page) n))
    c.at-store.ensures
    (λ pages agrees had rows holds.
    g.met.P.Pages.asked_more c.args.pages.now c.forget.new.pages (reach loc (over A pages)) (reach loc (over A pages)) (reach loc (over A pages)) (λ page. reach loc (over A pages) page || drew_between A B page) 0 n
    (λ page e. e) (λ page e. first-of (reach loc (over A pages) page) (drew_between A B page) e) (omega arith) (c.forget.ensures.asked pages agrees))

pub returns-in-Ok-clause-numbers : goal.returns-in-Ok-clause-numbers
returns-in-Ok-clause-numbers g c =
    let attempt = g.P.Pages.attempt in
    let f : List (List ℕ) → List (List ℕ) = λ rows. without_value c.args.kind c.args.entity c.args.old.now rows in
    subst (λ (p : Place). ForBoth (attempt c.args.pages.now) (attempt c.keep.new.pages) (λ before after. OfStore g.S.Store.holds p before (λ _ _. KeepNumbers (attempt c.args.pages.now) (attempt c.keep.new.pages) before after)))
    c.at-store.ensures
    (one-numbers attempt g.P.Pages.follows g.P.Pages.asked (laws g) c.args.pages.now c.forget.new.pages c.keep.new.pages c.forget.ensures.follows c.keep.ensures.follows g.S.Store.holds g.S.Store.spot g.S.Store.reach (stores g)
    (g.S.Store.location c.at-store.result) f c.in-Ok.ensures.changed c.forget.ensures.numbers c.keep.ensures.numbers)

pub returns-clause-numbers : goal.returns-clause-numbers
returns-clause-numbers g c =
    let attempt = g.P.Pages.attempt in
    subst (λ (p : Place). ForBoth (attempt c.args.pages.now) (attempt c.forget.new.pages) (λ before after. OfStore g.S.Store.holds p before (λ _ _. KeepNumbers (attempt c.args.pages.now) (attempt c.forget.new.pages) before after)))
    c.at-store.ensures c.forget.ensures.numbers
