use Rattle.std.proofs.Common.{◌≤◌, ◌∙◌, ap, Ok, length, refl, sym, inl, arith}
use Rattle.std.proofs.lemmas.List.{length-take-le}
use Rattle.st_pages.specs.Attempt.{Attempt, over}
use Rattle.st_chain.proofs.Numbered.{keep-none, of-made, one-put, same-none, same-put}
use Rattle.st_chain.proofs.Putting.{found-at, index-absent, index-there, no-row, no-some, none-at, put-new, put-over}
use Rattle.st_chain.proofs.insert.put_in.Goals as goal

pub replace-requires-clause-within : goal.replace-requires-clause-within
replace-requires-clause-within g c =
    let within : c.args.place.key ≤ length c.args.row.now = omega arith in
    index-there c.args.place c.args.frame.now c.args.row.now _ _ c.in-Ok.index (length-take-le c.args.place.key c.args.row.now within) refl c.in-Ok.ensures.there

pub add-requires-clause-within : goal.add-requires-clause-within
add-requires-clause-within g c =
    let within : c.args.place.key ≤ length c.args.row.now = omega arith in
    index-absent c.args.place c.args.frame.now c.args.row.now _ _ c.in-Err.index (length-take-le c.args.place.key c.args.row.now within) refl c.in-Err.ensures.absent

pub returns-in-Ok-replace-clause-put_in : goal.returns-in-Ok-replace-clause-put_in
returns-in-Ok-replace-clause-put_in g c = λ array agrees at.
    let within : c.args.place.key ≤ length c.args.row.now = omega arith in
    put-over c.args.place c.args.frame.now c.args.row.now _ _ c.in-Ok.index (length-take-le c.args.place.key c.args.row.now within) refl (g.P.Pages.attempt c.args.pages.now) (g.P.Pages.attempt c.replace.new.pages) array c.args.page c.replace.new.frame
    c.in-Ok.ensures.there c.in-Ok-replace.ensures.ok c.replace.ensures.made c.replace.ensures.same at

pub returns-in-Ok-add-clause-put_in : goal.returns-in-Ok-add-clause-put_in
returns-in-Ok-add-clause-put_in g c = λ array agrees at.
    let within : c.args.place.key ≤ length c.args.row.now = omega arith in
    put-new c.args.place c.args.frame.now c.args.row.now _ _ c.in-Err.index (length-take-le c.args.place.key c.args.row.now within) refl (g.P.Pages.attempt c.args.pages.now) (g.P.Pages.attempt c.add.new.pages) _ _ c.args.page
    c.in-Err.ensures.absent (c.in-Ok-add.ensures.added array agrees at)

pub returns-in-Ok-replace-clause-same : goal.returns-in-Ok-replace-clause-same
returns-in-Ok-replace-clause-same g c = λ found array agrees at.
    let within : c.args.place.key ≤ length c.args.row.now = omega arith in
    let there = found-at c.args.place c.args.frame.now c.args.row.now _ _ c.in-Ok.index (length-take-le c.args.place.key c.args.row.now within) refl c.in-Ok.ensures.there in
    same-put (g.P.Pages.attempt c.args.pages.now) (g.P.Pages.attempt c.replace.new.pages) array c.args.page c.replace.new.frame c.in-Ok-replace.ensures.ok (at ∙ sym (c.replace.ensures.same (sym there ∙ found)))

pub returns-in-Ok-replace-clause-numbers : goal.returns-in-Ok-replace-clause-numbers
returns-in-Ok-replace-clause-numbers g c = λ array agrees at.
    let old = g.P.Pages.attempt c.args.pages.now in
    one-put old (g.P.Pages.attempt c.replace.new.pages) array (Ok tt) old c.args.page c.replace.new.frame c.in-Ok-replace.ensures.ok tt refl
    (inl (of-made c.args.frame.now c.replace.new.frame (over old array c.args.page) c.replace.ensures.made.head at))

pub returns-in-Err-replace-clause-same : goal.returns-in-Err-replace-clause-same
returns-in-Err-replace-clause-same g c = λ found array agrees at.
    same-none (g.P.Pages.attempt c.args.pages.now) (g.P.Pages.attempt c.replace.new.pages) array (ap (λ (x : Attempt). x.written) c.in-Err-replace.ensures.err)

pub returns-in-Err-replace-clause-numbers : goal.returns-in-Err-replace-clause-numbers
returns-in-Err-replace-clause-numbers g c = λ array agrees at.
    let old = g.P.Pages.attempt c.args.pages.now in
    let new = g.P.Pages.attempt c.replace.new.pages in
    keep-none old new array new (ap (λ (x : Attempt). x.written) c.in-Err-replace.ensures.err)

pub returns-in-Ok-add-clause-there : goal.returns-in-Ok-add-clause-there
returns-in-Ok-add-clause-there g c = λ some.
    let within : c.args.place.key ≤ length c.args.row.now = omega arith in
    absurd (no-some _ (none-at c.args.place c.args.frame.now c.args.row.now _ _ c.in-Err.index (length-take-le c.args.place.key c.args.row.now within) refl c.in-Err.ensures.absent) some)

pub returns-in-Ok-add-clause-same : goal.returns-in-Ok-add-clause-same
returns-in-Ok-add-clause-same g c = λ found.
    let within : c.args.place.key ≤ length c.args.row.now = omega arith in
    absurd (no-row c.args.row.now (sym (none-at c.args.place c.args.frame.now c.args.row.now _ _ c.in-Err.index (length-take-le c.args.place.key c.args.row.now within) refl c.in-Err.ensures.absent) ∙ found))

pub returns-in-Err-add-clause-there : goal.returns-in-Err-add-clause-there
returns-in-Err-add-clause-there g c = λ some.
    let within : c.args.place.key ≤ length c.args.row.now = omega arith in
    absurd (no-some _ (none-at c.args.place c.args.frame.now c.args.row.now _ _ c.in-Err.index (length-take-le c.args.place.key c.args.row.now within) refl c.in-Err.ensures.absent) some)

pub returns-in-Err-add-clause-same : goal.returns-in-Err-add-clause-same
returns-in-Err-add-clause-same g c = λ found.
    let within : c.args.place.key ≤ length c.args.row.now = omega arith in
    absurd (no-row c.args.row.now (sym (none-at c.args.place c.args.frame.now c.args.row.now _ _ c.in-Err.index (length-take-le c.args.place.key c.args.row.now within) refl c.in-Err.ensures.absent) ∙ found))
