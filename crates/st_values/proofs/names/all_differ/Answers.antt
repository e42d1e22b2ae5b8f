use Rattle.std.proofs.Common.{◌∙◌, sym, arith}
use Rattle.st_values.proofs.Differing.{name_repeated, name_alone}
use Rattle.st_values.proofs.names.all_differ.Goals as goal

pub returns-then-has : goal.returns-then-has
returns-then-has c =
    sym (name_repeated c.args.names.now c.loop-index.index c.index-names-index.result (omega arith) c.index-names-index.is (rw c.as_slice.ensures.value at c.if-has.ensures))
    ∙ c.loop-index.invariant

pub loop-index-preserved : goal.loop-index-preserved
loop-index-preserved c =
    sym (name_alone c.args.names.now c.loop-index.index c.index-names-index.result (omega arith) c.index-names-index.is (rw c.as_slice.ensures.value at c.if-has.ensures))
    ∙ c.loop-index.invariant
