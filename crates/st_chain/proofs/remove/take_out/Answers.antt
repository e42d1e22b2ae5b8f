use Rattle.std.proofs.Common.{ap}
use Rattle.st_pages.specs.Attempt.{Attempt, over}
use Rattle.st_chain.proofs.Numbered.{keep-same, of-made, same-none, same-put}
use Rattle.st_chain.proofs.Putting.{as-it-was, index-in, some-at, taken-away}
use Rattle.st_chain.proofs.remove.take_out.Goals as goal

pub remove_row-requires-clause-within : goal.remove_row-requires-clause-within
remove_row-requires-clause-within g c =
    index-in c.args.place c.args.frame.now c.args.key.now _ c.in-Ok.index c.requires.key c.requires.key c.in-Ok.ensures.there

pub returns-in-Ok-leave-clause-taken : goal.returns-in-Ok-leave-clause-taken
returns-in-Ok-leave-clause-taken g c = λ array agrees at.
    taken-away c.args.place c.args.frame.now c.args.key.now _ c.in-Ok.index c.requires.key c.requires.key _ _ c.args.spot c.remove_row.new.page c.in-Ok.ensures.there
    (record { laid = c.remove_row.ensures.laid; head = c.remove_row.ensures.head; lists = c.remove_row.ensures.rows }) (c.in-Ok-leave.ensures.left array agrees)

pub returns-in-Ok-put_one-clause-taken : goal.returns-in-Ok-put_one-clause-taken
returns-in-Ok-put_one-clause-taken g c = λ array agrees at.
    as-it-was c.args.place c.args.frame.now c.args.key.now _ c.in-Err.field-0 c.requires.key c.requires.key (g.P.Pages.attempt c.args.pages.now) (g.P.Pages.attempt c.put_one.new.pages) array c.args.spot.page
    c.in-Err.ensures.absent c.in-Ok-put_one.ensures.ok at

pub returns-in-Ok-leave-clause-same : goal.returns-in-Ok-leave-clause-same
returns-in-Ok-leave-clause-same g c = λ none.
    absurd (some-at c.args.place c.args.frame.now c.args.key.now _ c.in-Ok.index c.requires.key c.requires.key c.in-Ok.ensures.there none)

pub returns-in-Ok-leave-clause-numbers : goal.returns-in-Ok-leave-clause-numbers
returns-in-Ok-leave-clause-numbers g c = λ array agrees at.
    c.leave.ensures.numbers array agrees (of-made c.args.frame.now c.remove_row.new.page (over (g.P.Pages.attempt c.args.pages.now) array c.args.spot.page) c.remove_row.ensures.head at)

pub returns-in-Err-leave-clause-same : goal.returns-in-Err-leave-clause-same
returns-in-Err-leave-clause-same g c = λ none.
    absurd (some-at c.args.place c.args.frame.now c.args.key.now _ c.in-Ok.index c.requires.key c.requires.key c.in-Ok.ensures.there none)

pub returns-in-Err-leave-clause-numbers : goal.returns-in-Err-leave-clause-numbers
returns-in-Err-leave-clause-numbers g c = λ array agrees at.
    c.leave.ensures.numbers array agrees (of-made c.args.frame.now c.remove_row.new.page (over (g.P.Pages.attempt c.args.pages.now) array c.args.spot.page) c.remove_row.ensures.head at)

pub returns-in-Ok-put_one-clause-same : goal.returns-in-Ok-put_one-clause-same
returns-in-Ok-put_one-clause-same g c = λ none array agrees at.
    same-put (g.P.Pages.attempt c.args.pages.now) (g.P.Pages.attempt c.put_one.new.pages) array c.args.spot.page c.args.frame.now c.in-Ok-put_one.ensures.ok at

pub returns-in-Ok-put_one-clause-numbers : goal.returns-in-Ok-put_one-clause-numbers
returns-in-Ok-put_one-clause-numbers g c = λ array agrees at.
    keep-same (g.P.Pages.attempt c.args.pages.now) (g.P.Pages.attempt c.put_one.new.pages) array
    (same-put (g.P.Pages.attempt c.args.pages.now) (g.P.Pages.attempt c.put_one.new.pages) array c.args.spot.page c.args.frame.now c.in-Ok-put_one.ensures.ok at)

pub returns-in-Err-put_one-clause-same : goal.returns-in-Err-put_one-clause-same
returns-in-Err-put_one-clause-same g c = λ none array agrees at.
    same-none (g.P.Pages.attempt c.args.pages.now) (g.P.Pages.attempt c.put_one.new.pages) array (ap (λ (x : Attempt). x.written) c.in-Err-put_one.ensures.err)

pub returns-in-Err-put_one-clause-numbers : goal.returns-in-Err-put_one-clause-numbers
returns-in-Err-put_one-clause-numbers g c = λ array agrees at.
    keep-same (g.P.Pages.attempt c.args.pages.now) (g.P.Pages.attempt c.put_one.new.pages) array
    (same-none (g.P.Pages.attempt c.args.pages.now) (g.P.Pages.attempt c.put_one.new.pages) array (ap (λ (x : Attempt). x.written) c.in-Err-put_one.ensures.err))
