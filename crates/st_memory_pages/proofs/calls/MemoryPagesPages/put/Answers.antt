use Rattle.std.proofs.Common.{ap, ◌∙◌}
use Rattle.st_pages.specs.Calls.{Met, met_behind}
use Rattle.st_memory_pages.specs.Memory.{memory_of}
use Rattle.st_memory_pages.specs.Tried.{tried_memory}
use Rattle.st_memory_pages.specs.Laws as laws
use Rattle.st_memory_pages.proofs.Stopping.{stopped-put, tells}
use Rattle.st_memory_pages.proofs.calls.MemoryPagesPages.put.Goals as goal

pub invariant_of-self : goal.invariant_of-self
invariant_of-self c =
    let was = memory_of c.args.self.now in
    let tried = tried_memory c.put-answer.new.self in
    let now = tried_memory (record { held = c.put-answer.new.self.held; tally = c.meet.new.self }) in
    let met = c.meet.ensures.met ∙ ap (λ (m : Met). met_behind m c.put-answer.result) c.put-answer.ensures.met in
    record {
      stopped = tells now (stopped-put was.met now.met was.attempt tried.attempt was.room tried.room c.put-answer.result c.args.page c.args.image.now was.counts tried.counts
          (laws.is-sound c.args.self.now) c.requires c.put-answer.ensures.err c.put-answer.ensures.room_err c.put-answer.ensures.cause met (laws.is-stopped c.args.self.now));
    }
