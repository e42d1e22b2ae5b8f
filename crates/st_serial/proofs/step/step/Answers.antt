use Rattle.std.proofs.Common.{refl, sym}
use Rattle.st_query.specs.Written.{is_written}
use Rattle.st_terms.specs.Checked.{present}
use Rattle.st_serial.proofs.Ongoing.{next_of}
use Rattle.st_serial.proofs.Stepping.{at_place, went, refused, never}
use Rattle.st_serial.proofs.step.step.Goals as goal

pub unreachable-requires : goal.unreachable-requires
unreachable-requires c =
    let old = c.args.running.now in
    let next = next_of old.statements old.ran c.requires.left in
    let told = rw c.in-Err-Page.field-0-is at c.in-Err-Page.ensures in
    let steps = told.steps tt c.args.plain.now.state tt refl c.requires.legal (next.0) (next.1) (at_place is_written old.statements old.ran (next.0) c.requires.written (next.1)) in
    never c.in-Err-Page.field-0-0 steps.concludes told.keeps.own told.keeps.met

pub returns-in-Ok-clause-steps : goal.returns-in-Ok-clause-steps
returns-in-Ok-clause-steps c = λ statement is.
    let old = c.args.running.now in
    let p = present c.args.plain.now.state old.variables in
    let steps = c.in-Ok.ensures.steps tt c.args.plain.now.state tt refl c.requires.legal statement is (at_place is_written old.statements old.ran statement c.requires.written is) in
    let none = steps.concludes.0 in
    let onward = steps.concludes.1 in
    let stands = steps.concludes.2 in
    went p statement old c.step.new.self c.step.new.engine.state c.in-Ok.lines none (onward.0) (onward.1) (sym stands)

pub returns-in-Err-Refused-clause-steps : goal.returns-in-Err-Refused-clause-steps
returns-in-Err-Refused-clause-steps c = λ statement is.
    let old = c.args.running.now in
    let p = present c.args.plain.now.state old.variables in
    let told = rw c.in-Err-Refused.field-0-is at c.in-Err-Refused.ensures in
    let steps = told.steps tt c.args.plain.now.state tt refl c.requires.legal statement is (at_place is_written old.statements old.ran statement c.requires.written is) in
    refused p statement old c.step.new.self c.step.new.engine.state _ c.in-Err-Refused.refusal steps.concludes told.keeps.met
