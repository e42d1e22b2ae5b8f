use Rattle.std.proofs.Common.{ap, arith}
use Rattle.st_memory_pages.specs.declared.tally.Tally.{Tally}
use Rattle.st_memory_pages.specs.Attempted.{attempt, room}
use Rattle.st_memory_pages.proofs.Following.{fresh-grows, fresh-asked, fresh-took}
use Rattle.st_memory_pages.proofs.memory_pages.Tried.fresh.Goals as goal

pub returns-clause-follows : goal.returns-clause-follows
returns-clause-follows c =
    let old = c.args.self.now.held in
    let new = c.fresh.new.self in
    let rooms = fresh-took c.fresh.result (room old) (room new) c.fresh.ensures.room c.fresh.ensures.room_err in
    let tallied = c.fails.ensures.counted in
    let gets = ap (λ (t : Tally). t.gets) tallied in
    let met = ap (λ (t : Tally). t.met) tallied in
    let more_faults = c.fails.ensures.faults in
    record {
      array = c.fresh.ensures.array;
      grows = fresh-grows c.fresh.result (attempt old) (attempt new) c.fresh.ensures.drawn c.fresh.ensures.ok c.fresh.ensures.err;
      counts = record { gets = omega (arith, gets); conflicts = omega arith; faults = more_faults };
      met = omega (arith, met);
      in_use = rooms.0;
      left = rooms.1;
    }

pub returns-clause-asked : goal.returns-clause-asked
returns-clause-asked c =
    fresh-asked c.fresh.result (attempt c.args.self.now.held) (attempt c.fresh.new.self) c.fresh.ensures.drawn c.fresh.ensures.ok c.fresh.ensures.err
