use Rattle.std.proofs.Common.{◌∙◌, ◌++◌, ℕ, List, ap, refl}
use Rattle.st_plain.specs.declared.fault.BaseFault.TheVariants.{Memory}
use Rattle.st_terms.specs.Checked.{present}
use Rattle.st_terms.proofs.Loops.{handed}
use Rattle.st_running.specs.Steps.{Steps}
use Rattle.st_running.proofs.Stepping.{step-failed, step-starved, step-answered, next-is, said-of, ran-built, onward-said}
use Rattle.st_running.proofs.running.Running.step.Goals as goal

pub returns-in_err-outcome-clause-steps : goal.returns-in_err-outcome-clause-steps
returns-in_err-outcome-clause-steps g c = λ w s agrees stands legal statement found written.
    let p = present s c.args.self.now.variables in
    let next = next-is c.as_slice.result.now c.args.self.now.statements c.self.inside.ran c.args.self.now.ran c.index-as_slice-self.result (c.as_slice.ensures ∙ ap (λ r. r.statements) c.self.view_is) (ap (λ r. r.ran) c.self.view_is) c.index-as_slice-self.is c.requires.left statement found in
    let ran = said-of s c.as_slice-2.result.now c.args.self.now.variables c.index-as_slice-self.result statement _ _ _ _ (c.as_slice-2.ensures.value ∙ ap (λ r. r.variables) c.self.view_is) next written (c.in_err-outcome.ensures.steps w s agrees stands legal) in
    handed (Steps p statement _ _ _ _) c.in_err-outcome.field-0.0 _ c.from_residual.ensures (step-failed p statement _ _ _ _ _ c.in_err-outcome.field-0.0 ran)

pub returns-in_err-bind_outcome-clause-steps : goal.returns-in_err-bind_outcome-clause-steps
returns-in_err-bind_outcome-clause-steps g c = λ w s agrees stands legal statement found written.
    let p = present s c.args.self.now.variables in
    let next = next-is c.as_slice.result.now c.args.self.now.statements c.self.inside.ran c.args.self.now.ran c.index-as_slice-self.result (c.as_slice.ensures ∙ ap (λ r. r.statements) c.self.view_is) (ap (λ r. r.ran) c.self.view_is) c.index-as_slice-self.is c.requires.left statement found in
    let ran = said-of s c.as_slice-2.result.now c.args.self.now.variables c.index-as_slice-self.result statement _ _ _ _ (c.as_slice-2.ensures.value ∙ ap (λ r. r.variables) c.self.view_is) next written (c.in_ok-outcome.ensures.steps w s agrees stands legal) in
    handed (Steps p statement _ _ _ _) Memory _ c.from_residual-in_err-bind_outcome.ensures (step-starved p statement _ _ _ _ _ _ ran)

pub returns-in_err-push_lines-clause-steps : goal.returns-in_err-push_lines-clause-steps
returns-in_err-push_lines-clause-steps g c = λ w s agrees stands legal statement found written.
    let p = present s c.args.self.now.variables in
    let next = next-is c.as_slice.result.now c.args.self.now.statements c.self.inside.ran c.args.self.now.ran c.index-as_slice-self.result (c.as_slice.ensures ∙ ap (λ r. r.statements) c.self.view_is) (ap (λ r. r.ran) c.self.view_is) c.index-as_slice-self.is c.requires.left statement found in
    let ran = said-of s c.as_slice-2.result.now c.args.self.now.variables c.index-as_slice-self.result statement _ _ _ _ (c.as_slice-2.ensures.value ∙ ap (λ r. r.variables) c.self.view_is) next written (c.in_ok-outcome.ensures.steps w s agrees stands legal) in
    handed (Steps p statement _ _ _ _) Memory _ c.from_residual-in_err-push_lines.ensures (step-starved p statement _ _ _ _ _ _ ran)

pub returns-clause-steps : goal.returns-clause-steps
returns-clause-steps g c = λ w s agrees stands legal statement found written.
    let p = present s c.args.self.now.variables in
    let next = next-is c.as_slice.result.now c.args.self.now.statements c.self.inside.ran c.args.self.now.ran c.index-as_slice-self.result (c.as_slice.ensures ∙ ap (λ r. r.statements) c.self.view_is) (ap (λ r. r.ran) c.self.view_is) c.index-as_slice-self.is c.requires.left statement found in
    let ran = said-of s c.as_slice-2.result.now c.args.self.now.variables c.index-as_slice-self.result statement _ _ _ _ (c.as_slice-2.ensures.value ∙ ap (λ r. r.variables) c.self.view_is) next written (c.in_ok-outcome.ensures.steps w s agrees stands legal) in
    step-answered p statement _ _ _ _ _ _ _ (onward-said p statement c.args.self.now _ c.in_ok-outcome.outcome _ refl refl
    (ran-built c.args.self.now c.index-as_slice-self.result statement c.in_ok-outcome.outcome c.self.inside.transaction.statements c.self.inside.ran c.self.inside.variables c.bind_outcome.new.variables c.self.inside.answers.items c.push_lines.new.into.items c.self.view_is next c.in_ok-bind_outcome.ensures.ok (c.in_ok-push_lines.ensures ∙ ap (λ (ls : List (List ℕ)). c.self.inside.answers.items ++ ls) c.as_slice-3.ensures))) ran
