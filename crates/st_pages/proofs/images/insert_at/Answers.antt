use Rattle.std.proofs.Common.{ap, ◌∙◌}
use Rattle.std.specs.Prelude.{insert}
use Rattle.st_pages.proofs.Imaged.{insert-gap, ascends-with}
use Rattle.st_pages.proofs.images.insert_at.Goals as goal

pub returns-clause-ok : goal.returns-clause-ok
returns-clause-ok c =
    c.in_ok-insert.ensures.items ∙ ap (λ e. insert c.args.slots.now.items c.args.place e) c.in_ok-slot.ensures
    ∙ insert-gap c.args.page c.args.image.now c.args.slots.now.items c.args.place c.requires.absent.front c.requires.absent.none

pub returns-clause-in_order : goal.returns-clause-in_order
returns-clause-in_order c = rw (returns-clause-ok c) (ascends-with c.args.page c.args.image.now c.args.slots.now.items c.requires.in_order)
