use Rattle.std.proofs.Common.{◌≡◌, ◌<◌, ◌+◌, ◌∙◌, List, ℕ, suc, true, Some, refl, sym, ap, subst, arith}
use Rattle.std.specs.Prelude.{slice_get}
use Rattle.st_image.specs.Fields.{next_of, rows_of}
use Rattle.st_pages.specs.Attempt.{over}
use Rattle.st_pages.specs.Calls.{no_page, only}
use Rattle.st_pages.specs.Reading.{ForEach, OfDamage}
use Rattle.st_pages.proofs.Carried.{only-within}
use Rattle.st_store.specs.declared.cursor.Cursor.{Cursor}
use Rattle.st_store.specs.Stores.{Advanced, IsRowsOf}
use Rattle.st_store.specs.Chain.{IsAheadInChain, IsBadPage, SitsInChain, is_on_chain, left_in_chain}
use Rattle.st_chain.proofs.Ahead.{bad-ahead, fewer-here, fewer-next, first-row, next-on, next-row, none-left, sits-next}
use Rattle.st_chain.proofs.chain.ChainStore.advance.Goals as goal

pub returns-then-cursor-count-clause-next : goal.returns-then-cursor-count-clause-next
returns-then-cursor-count-clause-next g c = λ pages agrees.
    let array = over (g.P.Pages.attempt c.args.pages.now) pages in
    let cursor = c.args.cursor.now in
    subst (λ p. (rest : List (List ℕ)) → IsAheadInChain p array cursor rest → Advanced (IsAheadInChain p array (record { number = cursor.number; page = cursor.page; index = cursor.index + 1 })) rest true c.copy_from_slice.new.self) c.self.view_is
    (λ rest ahead. next-row c.self.inside.place array cursor (record { number = cursor.number; page = cursor.page; index = cursor.index + 1 }) rest c.copy_from_slice.new.self ahead
    (c.row_at.ensures.row ∙ ap Some (sym c.copy_from_slice.ensures.after)) (omega (arith, c.if-cursor-count.true, c.count.ensures)) refl refl refl)

pub returns-then-cursor-count-clause-row : goal.returns-then-cursor-count-clause-row
returns-then-cursor-count-clause-row g c = λ more.
    let i = c.args.cursor.now.index in
    let e : i + 1 ≡ suc i = omega arith in (
      i,
      e,
      subst (λ p. slice_get (rows_of p.width c.args.cursor.now.page) i ≡ Some c.copy_from_slice.new.self) c.self.view_is (c.row_at.ensures.row ∙ ap Some (sym c.copy_from_slice.ensures.after)),
    )

pub returns-then-cursor-count-clause-fewer : goal.returns-then-cursor-count-clause-fewer
returns-then-cursor-count-clause-fewer g c = λ more.
    let cursor = c.args.cursor.now in
    let new : Cursor = record { number = cursor.number; page = cursor.page; index = cursor.index + 1 } in
    subst (λ p. left_in_chain p new < left_in_chain p cursor) c.self.view_is
    (fewer-here c.self.inside.place cursor new _ c.self.invariant (subst (λ p. IsRowsOf p cursor.page) (sym c.self.view_is) c.requires.fits) c.row_at.ensures.row refl refl)

pub returns-clause-fewer : goal.returns-clause-fewer
returns-clause-fewer g c = λ more.
    let cursor = c.args.cursor.now in
    let new : Cursor = record { number = c.next-cursor.result; page = c.next_page.new.frame; index = 1 } in
    subst (λ p. left_in_chain p new < left_in_chain p cursor) c.self.view_is
    (fewer-next c.self.inside.place cursor new _ c.next_page.new.frame c.self.invariant (subst (λ p. IsRowsOf p cursor.page) (sym c.self.view_is) c.requires.fits)
    (omega (arith, c.if-cursor-count.false, c.count.ensures)) c.in-Ok.ensures.sound c.in-Ok.ensures.above refl refl c.row_at-2.ensures.row)

pub returns-then-next-eq0-clause-next : goal.returns-then-next-eq0-clause-next
returns-then-next-eq0-clause-next g c = λ pages agrees rest ahead.
    none-left c.args.self.now (over (g.P.Pages.attempt c.args.pages.now) pages) c.args.cursor.now rest ahead (sym c.next.ensures ∙ c.if-next-eq0.true) (omega (arith, c.if-cursor-count.false, c.count.ensures))

pub returns-clause-asked : goal.returns-clause-asked
returns-clause-asked g c = λ pages agrees.
    let laws = g.met.P.Pages in
    let array = over (g.P.Pages.attempt c.args.pages.now) pages in
    let next = next_of c.args.cursor.now.page in
    let more : 0 < next = omega (arith, c.next.ensures, c.if-next-eq0.false) in
    subst (λ p. SitsInChain p array c.args.cursor.now → g.P.Pages.asked c.args.pages.now c.next_page.new.pages (is_on_chain p array) no_page 0) c.self.view_is
    (λ sits. laws.asked_more c.args.pages.now c.next_page.new.pages (only next) no_page (is_on_chain c.self.inside.place array) no_page 0 0
    (only-within (is_on_chain c.self.inside.place array) next (next-on c.self.inside.place array c.args.cursor.now c.self.invariant sits more)) (λ p e. e) (omega arith) c.next_page.ensures.asked)

pub returns-clause-sits : goal.returns-clause-sits
returns-clause-sits g c = λ pages agrees.
    let array = over (g.P.Pages.attempt c.args.pages.now) pages in
    let more : 0 < next_of c.args.cursor.now.page = omega (arith, c.next.ensures, c.if-next-eq0.false) in
    subst (λ p. SitsInChain p array c.args.cursor.now → SitsInChain p array (record { number = c.next-cursor.result; page = c.next_page.new.frame; index = 1 })) c.self.view_is
    (λ sits. sits-next c.self.inside.place array c.args.cursor.now (record { number = c.next-cursor.result; page = c.next_page.new.frame; index = 1 }) c.next_page.new.frame sits more (c.in-Ok.ensures.image pages agrees) c.in-Ok.ensures.sound
    c.in-Ok.ensures.above c.next-cursor.ensures refl refl)

pub returns-clause-next : goal.returns-clause-next
returns-clause-next g c = λ pages agrees.
    let array = over (g.P.Pages.attempt c.args.pages.now) pages in
    let cursor = c.args.cursor.now in
    let more : 0 < next_of cursor.page = omega (arith, c.next.ensures, c.if-next-eq0.false) in
    subst (λ p. (rest : List (List ℕ)) → IsAheadInChain p array cursor rest → Advanced (IsAheadInChain p array (record { number = c.next-cursor.result; page = c.next_page.new.frame; index = 1 })) rest true c.copy_from_slice-2.new.self) c.self.view_is
    (λ rest ahead. first-row c.self.inside.place array cursor (record { number = c.next-cursor.result; page = c.next_page.new.frame; index = 1 }) rest c.copy_from_slice-2.new.self c.next_page.new.frame ahead
    (omega (arith, c.if-cursor-count.false, c.count.ensures)) more (c.in-Ok.ensures.image pages agrees) c.in-Ok.ensures.sound c.in-Ok.ensures.above c.next-cursor.ensures refl refl
    (c.row_at-2.ensures.row ∙ ap Some (sym c.copy_from_slice-2.ensures.after)))

pub returns-in-Err-clause-asked : goal.returns-in-Err-clause-asked
returns-in-Err-clause-asked g c = λ pages agrees.
    let laws = g.met.P.Pages in
    let array = over (g.P.Pages.attempt c.args.pages.now) pages in
    let next = next_of c.args.cursor.now.page in
    let more : 0 < next = omega (arith, c.next.ensures, c.if-next-eq0.false) in
    subst (λ p. SitsInChain p array c.args.cursor.now → g.P.Pages.asked c.args.pages.now c.next_page.new.pages (is_on_chain p array) no_page 0) c.self.view_is
    (λ sits. laws.asked_more c.args.pages.now c.next_page.new.pages (only next) no_page (is_on_chain c.self.inside.place array) no_page 0 0
    (only-within (is_on_chain c.self.inside.place array) next (next-on c.self.inside.place array c.args.cursor.now c.self.invariant sits more)) (λ p e. e) (omega arith) c.next_page.ensures.asked)

pub returns-in-Err-clause-bad : goal.returns-in-Err-clause-bad
returns-in-Err-clause-bad g c =
    let attempt = g.P.Pages.attempt in
    let more : 0 < next_of c.args.cursor.now.page = omega (arith, c.next.ensures, c.if-next-eq0.false) in
    subst (λ p. OfDamage (λ page at. ForEach (attempt c.args.pages.now) (attempt c.next_page.new.pages) (λ array. SitsInChain p array c.args.cursor.now → IsBadPage p array page at)) c.in-Err.fault) c.self.view_is
    (bad-ahead c.self.inside.place (attempt c.args.pages.now) (attempt c.next_page.new.pages) c.args.cursor.now c.in-Err.fault more c.in-Err.ensures.bad)
