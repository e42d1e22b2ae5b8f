use Rattle.std.proofs.Common.{sym, ap, ◌∙◌}
use Rattle.st_edge.specs.Memory.{Memory}
use Rattle.st_edge.proofs.Steps.{drop-given}
use Rattle.st_edge.proofs.memory_source.MemorySourceSource.read.Goals as goal

pub returns-clause-taken : goal.returns-clause-taken
returns-clause-taken c =
    let copied = rw c.deref.ensures.value at c.copy_front-count.ensures.copied in
    sym (ap (λ (m : Memory). m.bytes) c.self.view_is) ∙ drop-given c.self.inside.bytes.items _ c.self.inside.at c.copy_front-count.result copied
