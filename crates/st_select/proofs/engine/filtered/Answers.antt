use Rattle.std.proofs.Common.{subst, sym}
use Rattle.st_known.specs.Known.{AreKnown}
use Rattle.st_select.proofs.Finding.{listed-selects}
use Rattle.st_select.proofs.engine.filtered.Goals as goal

pub returns-clause-looks : goal.returns-clause-looks
returns-clause-looks g c = λ w s agrees stands variables query is checked.
    let laws = g.met.B.Base in
    let first = c.in_ok-entities.ensures in
    let last = c.filtered_known.ensures in
    let f = first.looks w s (laws.seen_stays _ _ w last.keeps.below agrees) stands in
    listed-selects s variables query c.args.search.now is checked _ _ _ _ _ _ _
    (λ f h. laws.asks_on _ _ _ w f h first.keeps.below last.keeps.below) (λ e n. laws.reached_stays _ _ w e n last.keeps.below)
    c.in_ok-entities.entities c.as_slice.result.now c.as_slice-2.result.now c.filtered_known.result c.as_slice.ensures
    (subst (AreKnown s c.as_slice.result.now) (sym c.as_slice-2.ensures) (c.in_ok-known.ensures s))
    f (last.looks w s agrees f.answers.1 variables query is checked)
