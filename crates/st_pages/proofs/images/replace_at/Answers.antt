use Rattle.std.proofs.Common.{set, ap, ◌∙◌}
use Rattle.st_pages.specs.Images.{entry}
use Rattle.st_pages.proofs.Imaged.{set-there, ascends-with}
use Rattle.st_pages.proofs.images.replace_at.Goals as goal

pub returns-clause-items : goal.returns-clause-items
returns-clause-items c =
    let there = c.requires.there in
    let old = c.index_mut.result.now in
    ap (set c.args.slots.now.items c.args.place) (c.replace.ensures ∙ ap (λ n. entry n c.args.image.now) (ap (λ e. e.page) c.index_mut.ensures.value ∙ there.is old))
    ∙ set-there c.args.page c.args.image.now c.args.slots.now.items c.args.place old there.front there.within (there.is old)

pub returns-clause-in_order : goal.returns-clause-in_order
returns-clause-in_order c = rw (returns-clause-items c) (ascends-with c.args.page c.args.image.now c.args.slots.now.items c.requires.in_order)
