use Rattle.std.proofs.Common.{◌≡◌, true, false, ap, sym, ◌∙◌, arith}
use Rattle.std.proofs.lemmas.Bool.{true≢false}
use Rattle.st_memory_pages.specs.declared.tally.Tally.{Tally}
use Rattle.st_memory_pages.specs.Attempted.{attempt, room}
use Rattle.st_memory_pages.proofs.Following.{get-grows, get-asked, same-room}
use Rattle.st_memory_pages.proofs.memory_pages.Tried.get.Goals as goal

pub returns-clause-follows : goal.returns-clause-follows
returns-clause-follows c =
    let rooms = same-room (room c.args.self.now.held) (room c.get.new.self) c.get.ensures.room in
    let counted = c.count_get.ensures.counted in
    let tallied = c.fails.ensures.counted in
    let gets = ap (λ (t : Tally). t.gets) tallied in
    let faults = ap (λ (t : Tally). t.faults) counted in
    let met = ap (λ (t : Tally). t.met) tallied in
    let met_before = ap (λ (t : Tally). t.met) counted in
    let more_gets = c.count_get.ensures.gets in
    let more_faults = c.fails.ensures.faults in
    record {
      array = c.get.ensures.array;
      grows = get-grows (attempt c.args.self.now.held) (attempt c.get.new.self) c.args.page c.get.new.frame c.get.ensures.saw;
      counts = record { gets = omega (arith, gets, more_gets); conflicts = omega arith; faults = omega (arith, faults, more_faults) };
      met = omega (arith, met, met_before);
      in_use = rooms.0;
      left = rooms.1;
    }

pub returns-clause-asked : goal.returns-clause-asked
returns-clause-asked c =
    get-asked (attempt c.args.self.now.held) (attempt c.get.new.self) c.args.page c.get.new.frame c.get.ensures.saw

pub returns-clause-fails : goal.returns-clause-fails
returns-clause-fails c =
    λ e.
    let fails = rw c.count_get.ensures.counted at c.fails.ensures.fails in
    let both : true ≡ false = sym e ∙ sym fails ∙ c.if-fails.false in
    absurd (true≢false both)
