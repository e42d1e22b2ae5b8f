use Rattle.std.proofs.Common.{ℕ, ◌+◌, ◌*◌, ◌||◌, List, ◌++◌, length, inl, inr, ◌∙◌, arith}
use Rattle.std.proofs.lemmas.List.{length-append}
use Rattle.std.proofs.lemmas.List.Folds.{list_any-append}
use Rattle.st_values.proofs.Tests.{first-of, one-of}
use Rattle.st_pages.specs.declared.places.Place.{Place}
use Rattle.st_pages.specs.Attempt.{over}
use Rattle.st_pages.specs.Reading.{ForEach}
use Rattle.st_store.specs.Stores.{drew_between}
use Rattle.st_index.specs.Turned.{noted}
use Rattle.st_index.specs.Noted.{AllHold, reach_any, rows_for}
use Rattle.st_index.specs.Change.{one_place, two_places}
use Rattle.st_index.proofs.Counted.{or-cases}
use Rattle.st_index.proofs.Changes.{Laws, all-first, damage-weaken}
use Rattle.st_index.proofs.Called.{PageLaws, both-asked, both-bad, both-moved, both-numbers, few-then, kinds-then, times}
use Rattle.st_index.proofs.noting.note_both.Given as given
use Rattle.st_index.proofs.noting.note_both.Goals as goal

stores : (g : given.Over) → Laws g.S.Store.holds g.S.Store.reach
stores g = record { one = g.met.S.Store.one; has_first = g.met.S.Store.has_first; reached = g.met.S.Store.reached; bear = g.met.S.Store.bear; depends = g.met.S.Store.depends }

laws : (g : given.Over) → PageLaws g.P.Pages.attempt g.P.Pages.follows g.P.Pages.asked
laws g = record {
  is_sound = g.met.P.Pages.is_sound;
  seen_stays = g.met.P.Pages.seen_stays;
  drawn_stays = g.met.P.Pages.drawn_stays;
  drawn_unwritten = g.met.P.Pages.drawn_unwritten;
  follows_on = g.met.P.Pages.follows_on;
  asked_more = g.met.P.Pages.asked_more;
  asked_on = g.met.P.Pages.asked_on;
  asked_tells = g.met.P.Pages.asked_tells;
}

pub returns-in-Ok-clause-asked : goal.returns-in-Ok-clause-asked
returns-in-Ok-clause-asked g c =
    both-asked g.P.Pages.attempt g.P.Pages.follows g.P.Pages.asked (laws g) c.args.pages.now c.note_at.new.pages c.note_at-in-Ok.new.pages c.note_at.ensures.follows c.note_at-in-Ok.ensures.follows g.S.Store.holds g.S.Store.reach (stores g)
    (one_place c.args.index) (one_place c.args.inverse) c.requires.apart (λ rows. noted c.args.kind c.args.entity c.args.old.now c.args.new.now rows) c.in-Ok.ensures.moved
    (rows_for c.args.new.now) (17 * length (two_places c.args.index c.args.inverse) * rows_for c.args.new.now)
    (times 17 (length (one_place c.args.index)) (length (one_place c.args.inverse)) (length (two_places c.args.index c.args.inverse)) (rows_for c.args.new.now) (length-append (one_place c.args.index) (one_place c.args.inverse)))
    c.note_at.ensures.asked c.note_at-in-Ok.ensures.asked

pub returns-in-Ok-clause-kinds : goal.returns-in-Ok-clause-kinds
returns-in-Ok-clause-kinds g c =
    kinds-then g.P.Pages.attempt g.P.Pages.follows g.P.Pages.asked (laws g) c.args.pages.now c.note_at.new.pages c.note_at-in-Ok.new.pages c.note_at.ensures.follows c.note_at-in-Ok.ensures.follows
    (17 * length (one_place c.args.index) * rows_for c.args.new.now) (17 * length (one_place c.args.inverse) * rows_for c.args.new.now) (17 * length (two_places c.args.index c.args.inverse) * rows_for c.args.new.now)
    (times 17 (length (one_place c.args.index)) (length (one_place c.args.inverse)) (length (two_places c.args.index c.args.inverse)) (rows_for c.args.new.now) (length-append (one_place c.args.index) (one_place c.args.inverse)))
    c.note_at.ensures.kinds c.note_at-in-Ok.ensures.kinds

pub returns-in-Ok-clause-few : goal.returns-in-Ok-clause-few
returns-in-Ok-clause-few g c =
    let sum : ℕ = rows_for c.args.old.now + rows_for c.args.new.now in
    few-then (g.P.Pages.attempt c.args.pages.now) (g.P.Pages.attempt c.note_at.new.pages) (g.P.Pages.attempt c.note_at-in-Ok.new.pages) (34 * length (one_place c.args.index) * sum) (34 * length (one_place c.args.inverse) * sum)
    (34 * length (two_places c.args.index c.args.inverse) * sum) (g.met.P.Pages.seen_stays c.note_at.new.pages c.note_at-in-Ok.new.pages c.note_at-in-Ok.ensures.follows)
    (times 34 (length (one_place c.args.index)) (length (one_place c.args.inverse)) (length (two_places c.args.index c.args.inverse)) sum (length-append (one_place c.args.index) (one_place c.args.inverse)))
    c.note_at.ensures.few c.note_at-in-Ok.ensures.few

pub returns-in-Ok-clause-moved : goal.returns-in-Ok-clause-moved
returns-in-Ok-clause-moved g c =
    both-moved g.P.Pages.attempt g.P.Pages.follows g.P.Pages.asked (laws g) c.args.pages.now c.note_at.new.pages c.note_at-in-Ok.new.pages c.note_at.ensures.follows c.note_at-in-Ok.ensures.follows g.S.Store.holds g.S.Store.reach (stores g)
    (one_place c.args.index) (one_place c.args.inverse) c.requires.apart (λ rows. noted c.args.kind c.args.entity c.args.old.now c.args.new.now rows) c.in-Ok.ensures.moved
    c.note_at-in-Ok.result c.note_at-in-Ok.ensures.moved

pub returns-in-Ok-clause-numbers : goal.returns-in-Ok-clause-numbers
returns-in-Ok-clause-numbers g c =
    both-numbers g.P.Pages.attempt g.P.Pages.follows g.P.Pages.asked (laws g) c.args.pages.now c.note_at.new.pages c.note_at-in-Ok.new.pages c.note_at.ensures.follows c.note_at-in-Ok.ensures.follows g.S.Store.holds g.S.Store.reach (stores g)
    (one_place c.args.index) (one_place c.args.inverse) c.requires.apart (λ rows. noted c.args.kind c.args.entity c.args.old.now c.args.new.now rows) c.in-Ok.ensures.moved
    c.note_at.ensures.numbers c.note_at-in-Ok.ensures.numbers

pub returns-in-Ok-clause-bad : goal.returns-in-Ok-clause-bad
returns-in-Ok-clause-bad g c =
    both-bad g.P.Pages.attempt g.P.Pages.follows g.P.Pages.asked (laws g) c.args.pages.now c.note_at.new.pages c.note_at-in-Ok.new.pages c.note_at.ensures.follows c.note_at-in-Ok.ensures.follows g.S.Store.holds g.S.Store.reach (stores g)
    (one_place c.args.index) (one_place c.args.inverse) c.requires.apart (λ rows. noted c.args.kind c.args.entity c.args.old.now c.args.new.now rows) c.in-Ok.ensures.moved
    c.note_at-in-Ok.result c.note_at-in-Ok.ensures.bad

pub returns-in-Err-clause-asked : goal.returns-in-Err-clause-asked
returns-in-Err-clause-asked g c = λ pages agrees all.
    let A = g.P.Pages.attempt c.args.pages.now in
    let B = g.P.Pages.attempt c.note_at.new.pages in
    let holds = g.S.Store.holds in
    let reach = g.S.Store.reach in
    let array = over A pages in
    let ps : List Place = one_place c.args.index in
    let qs : List Place = one_place c.args.inverse in
    let held : AllHold holds reach ps array = all-first (λ q. (had : List ℕ) × (rows : List (List ℕ)) × holds q array had rows) ps qs all in
    g.met.P.Pages.asked_more c.args.pages.now c.note_at.new.pages (reach_any holds reach ps array) (λ page. reach_any holds reach ps array page || drew_between A B page)
    (reach_any holds reach (ps ++ qs) array) (λ page. reach_any holds reach (ps ++ qs) array page || drew_between A B page)
    (17 * length ps * rows_for c.args.new.now) (17 * length (two_places c.args.index c.args.inverse) * rows_for c.args.new.now)
    (λ page h. list_any-append (λ p. reach p array page) ps qs ∙ first-of (reach_any holds reach ps array page) (reach_any holds reach qs array page) h)
    (λ page h. elim (or-cases (reach_any holds reach ps array page) (drew_between A B page) h) [
      | inl k ↦ first-of (reach_any holds reach (ps ++ qs) array page) (drew_between A B page) (list_any-append (λ p. reach p array page) ps qs ∙ first-of (reach_any holds reach ps array page) (reach_any holds reach qs array page) k)
      | inr d ↦ one-of (reach_any holds reach (ps ++ qs) array page) (drew_between A B page) d
    ])
    (let sum = times 17 (length ps) (length qs) (length (two_places c.args.index c.args.inverse)) (rows_for c.args.new.now) (length-append ps qs) in omega (arith, sum))
    (c.note_at.ensures.asked pages agrees held)

pub returns-in-Err-clause-numbers : goal.returns-in-Err-clause-numbers
returns-in-Err-clause-numbers g c = λ pages agrees all.
    let A = g.P.Pages.attempt c.args.pages.now in
    c.note_at.ensures.numbers pages agrees (all-first (λ q. (had : List ℕ) × (rows : List (List ℕ)) × g.S.Store.holds q (over A pages) had rows) (one_place c.args.index) (one_place c.args.inverse) all)

pub returns-in-Err-clause-bad : goal.returns-in-Err-clause-bad
returns-in-Err-clause-bad g c =
    let A = g.P.Pages.attempt c.args.pages.now in
    let B = g.P.Pages.attempt c.note_at.new.pages in
    let ps : List Place = one_place c.args.index in
    let qs : List Place = one_place c.args.inverse in
    damage-weaken (λ page at. ForEach A B (λ array. AllHold g.S.Store.holds g.S.Store.reach ps array → ⊥)) (λ page at. ForEach A B (λ array. AllHold g.S.Store.holds g.S.Store.reach (ps ++ qs) array → ⊥))
    (λ page at wrong pages agrees all. wrong pages agrees (all-first (λ q. (had : List ℕ) × (rows : List (List ℕ)) × g.S.Store.holds q (over A pages) had rows) ps qs all)) c.in-Err.fault c.in-Err.ensures.bad
