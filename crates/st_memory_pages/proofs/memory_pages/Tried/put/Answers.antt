use Rattle.std.proofs.Common.{ap, arith}
use Rattle.st_memory_pages.specs.declared.tally.Tally.{Tally}
use Rattle.st_memory_pages.specs.Attempted.{attempt, room}
use Rattle.st_memory_pages.proofs.Following.{put-grows, put-asked, put-took}
use Rattle.st_memory_pages.proofs.memory_pages.Tried.put.Goals as goal

pub returns-clause-follows : goal.returns-clause-follows
returns-clause-follows c =
    let old = c.args.self.now.held in
    let new = c.put.new.self in
    let rooms = put-took c.put.result (attempt old) c.args.page (room old) (room new) c.put.ensures.room c.put.ensures.room_err in
    let tallied = c.fails.ensures.counted in
    let gets = ap (λ (t : Tally). t.gets) tallied in
    let met = ap (λ (t : Tally). t.met) tallied in
    let more_faults = c.fails.ensures.faults in
    record {
      array = c.put.ensures.array;
      grows = put-grows c.put.result (attempt old) (attempt new) c.args.page c.args.image.now c.put.ensures.ok c.put.ensures.err;
      counts = record { gets = omega (arith, gets); conflicts = omega arith; faults = more_faults };
      met = omega (arith, met);
      in_use = rooms.0;
      left = rooms.1;
    }

pub returns-clause-asked : goal.returns-clause-asked
returns-clause-asked c =
    put-asked c.put.result (attempt c.args.self.now.held) (attempt c.put.new.self) c.args.page c.args.image.now c.put.ensures.ok c.put.ensures.err
