use Rattle.std.proofs.Common.{◌∙◌, sym, ap, drop}
use Rattle.st_select.proofs.Known.{walk-known}
use Rattle.st_select.proofs.meaning.meaning_at.Goals as goal

pub returns-in-Some-clause-looks : goal.returns-in-Some-clause-looks
returns-in-Some-clause-looks g c = λ w s agrees stands holds admits.
    walk-known s c.args.known.now c.in-Some.value holds _ _ _ c.walk.result c.args.route.now c.others.result.now
    (sym c.in-Some.is ∙ c.in_ok-value.ensures) (c.others.ensures ∙ ap (drop 1) c.as_slice.ensures)
    (c.walk.ensures.looks w s agrees stands) admits
