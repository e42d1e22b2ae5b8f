use Rattle.std.proofs.Common.{◌≡◌, Option, Some, Result, IfSome, subst}
use Rattle.std.specs.Option.{ForSome}
use Rattle.st_page.specs.declared.fault.PageFault.{PageFault}
use Rattle.st_pages.specs.Attempt.{Attempt}
use Rattle.st_pages.specs.Calls.{IsStopped, Met, Room}
use Rattle.st_plain.specs.declared.fault.BaseFault.{BaseFault}
use Rattle.st_plain.specs.Base.{fault_behind}
use Rattle.st_index.proofs.Called.{PageLaws}
use Rattle.st_terms.specs.Checked.{present}
use Rattle.st_running.specs.Ran.{IsOnward}
use Rattle.st_paged_steps.proofs.Using.{step-in-pages}
use Rattle.st_paged_steps.proofs.stepping.step.Given as given
use Rattle.st_paged_steps.proofs.stepping.step.Goals as goal

laws : (g : given.Over) → PageLaws g.P.Pages.attempt g.P.Pages.follows g.P.Pages.asked
laws g = record {
  is_sound = g.met.P.Pages.is_sound;
  seen_stays = g.met.P.Pages.seen_stays;
  drawn_stays = g.met.P.Pages.drawn_stays;
  drawn_unwritten = g.met.P.Pages.drawn_unwritten;
  follows_on = g.met.P.Pages.follows_on;
  asked_more = g.met.P.Pages.asked_more;
  asked_on = g.met.P.Pages.asked_on;
  asked_tells = g.met.P.Pages.asked_tells;
}

stops : {A : Type 0} (met : Met) (b : Attempt) (room : Option Room) (result : Result A BaseFault) → IfSome met.last (IsStopped b room) → ((fault : PageFault) → fault_behind result ≡ Some fault → met.last ≡ Some fault) → ForSome (fault_behind result) (IsStopped b room)
stops met b room result stopped last = λ fault e. subst (λ (o : Option PageFault). IfSome o (IsStopped b room)) (last fault e) stopped

pub returns-clause-stopped : goal.returns-clause-stopped
returns-clause-stopped g c =
    stops (g.P.Pages.met c.step.new.engine.pages) (g.P.Pages.attempt c.step.new.engine.pages) (g.P.Pages.room c.step.new.engine.pages) c.step.result (g.met.P.Pages.is_stopped c.step.new.engine.pages) (λ fault e. (c.step.ensures.keeps.met.is_last fault e).0)

pub returns-clause-steps : goal.returns-clause-steps
returns-clause-steps g c = λ array s agrees stands legal statement found written.
    let p = present s c.args.running.now.variables in
    step-in-pages g.P.Pages.attempt g.P.Pages.follows g.P.Pages.asked (laws g) _ _ c.args.base.now c.step.new.engine array p statement
    (IsOnward p statement c.args.running.now c.step.new.self) c.laws_of_states.ensures.statement (c.laws_of_footprints.ensures p.state.schema p.variables statement)
    g.P.Pages.room g.met.P.Pages.room_stays g.met.P.Pages.is_all_room agrees c.step.ensures.keeps.below.below c.step.result
    (stops (g.P.Pages.met c.step.new.engine.pages) (g.P.Pages.attempt c.step.new.engine.pages) (g.P.Pages.room c.step.new.engine.pages) c.step.result (g.met.P.Pages.is_stopped c.step.new.engine.pages) (λ fault e. (c.step.ensures.keeps.met.is_last fault e).0))
    legal written
    (c.step.ensures.steps array s agrees stands legal statement found written)
