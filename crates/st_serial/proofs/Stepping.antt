-- What a statement gives over lists, from what it gives over any base.
use Rattle.std.proofs.Common.{◌≡◌, ℕ, Bool, true, false, List, Option, Some, None, refl, sym, ap, subst, arith}
use Rattle.std.specs.Prelude.{IsTrue, flat_map, slice_get, zero, suc, [], ◌∷◌}
use Rattle.std.specs.List.{list_all}
use Rattle.st_values.proofs.Tests.{left, right}
use Rattle.st_query.specs.Written.{is_written}
use Rattle.st_state.specs.Legal.{IsLegal}
use Rattle.st_page.specs.declared.fault.PageFault.{PageFault}
use Rattle.st_page.specs.declared.fault.PageFault.TheVariants as page
use Rattle.st_query.specs.declared.statement.Statement.{Statement}
use Rattle.st_state.specs.declared.refusal.Refusal.{Refusal}
use Rattle.st_state.specs.declared.refusal.Refusal.TheVariants.{UnknownName, WrongType, NullNotAllowed, NotUnique, NoSuchEntity, StillNeeded, NotASet, TextTooLong, NumbersSpent, Aborted, NullEntity, TooManyPages, Full}
use Rattle.st_state.specs.State.{State}
use Rattle.st_meaning.specs.Rules.{refusal}
use Rattle.st_meaning.specs.Statements.{Present, does, answers}
use Rattle.st_meaning.specs.Lines.{line, refused_tail}
use Rattle.st_meaning.specs.Runs as runs
use Rattle.st_meaning.specs.Runs.{outcome, runs_statement}
use Rattle.st_output.specs.declared.turn.Turn.{Turn}
use Rattle.st_plain.specs.Base.{Refuses, TellsMet, behind, met_fault, is_damage, is_of_pages, nothing_met}
use Rattle.st_running.specs.Ran.{Ran, onward}
use Rattle.st_serial.specs.Turns.{Goes, IsStepped, has_gone, IsTurned, stepped_lines, turn_lines}
use Rattle.st_serial.specs.declared.step.Stepped.{Stepped}
use Rattle.st_serial.specs.declared.step.Stepped.TheVariants.{Went, Refused}

-- a statement that no rule refuses
pub went : (p : Present) (s : Statement) (old new : Ran) (state : State) (lines : List (List ℕ)) → refusal p s ≡ None → lines ≡ answers p s → new ≡ onward p s old → (does p s).state ≡ state → IsStepped (runs_statement p s) old new state (Went lines)
unfolding runs_statement
went p s old new state lines none is on left = rw none (is, (sym left, on))

-- over lists no fault of pages is met
none_met : (fault : PageFault) → TellsMet nothing_met nothing_met (Some fault) → ⊥
none_met fault told = let rose = (told.is_last fault refl).1 in let less = rose (omega arith) in omega arith

by_rule : (p : Present) (s : Statement) (old new : Ran) (state : State) (r : Refusal) → refusal p s ≡ Some r → IsStepped (runs_statement p s) old new state (Refused r)
unfolding runs_statement
by_rule p s old new state r is = rw is refl

-- a statement that is refused
pub refused : (p : Present) (s : Statement) (old new : Ran) (state : State) (same : Type 0) (r : Refusal) → Refuses (refusal p s) same r → TellsMet nothing_met nothing_met (behind r) → IsStepped (runs_statement p s) old new state (Refused r)
refused p s old new state same (TooManyPages count) due told = absurd (none_met (page.TooManyPages count) told)
refused p s old new state same (Full in_use) due told = absurd (none_met (page.Full in_use) told)
refused p s old new state same (UnknownName name) due told = by_rule p s old new state _ due.0
refused p s old new state same WrongType due told = by_rule p s old new state _ due.0
refused p s old new state same (NullNotAllowed attribute) due told = by_rule p s old new state _ due.0
refused p s old new state same (NotUnique attribute holder) due told = by_rule p s old new state _ due.0
refused p s old new state same (NoSuchEntity entity) due told = by_rule p s old new state _ due.0
refused p s old new state same (StillNeeded entity attribute) due told = by_rule p s old new state _ due.0
refused p s old new state same (NotASet name) due told = by_rule p s old new state _ due.0
refused p s old new state same (TextTooLong size limit) due told = by_rule p s old new state _ due.0
refused p s old new state same (NumbersSpent ty) due told = by_rule p s old new state _ due.0
refused p s old new state same Aborted due told = by_rule p s old new state _ due.0
refused p s old new state same NullEntity due told = by_rule p s old new state _ due.0

-- no fault of pages is answered
pub never : (fault : PageFault) → is_damage fault ≡ false → IsTrue (is_of_pages fault) → TellsMet nothing_met nothing_met (met_fault fault) → ⊥
never (page.BadPage number place) sound own told = cc sound
never (page.Conflict number holder) sound own told = none_met _ told
never (page.Full in_use) sound own told = cc own
never (page.TooManyPages count) sound own told = cc own
never page.DiskFault sound own told = none_met _ told
never page.Closed sound own told = none_met _ told
never page.Memory sound own told = cc own

-- the lines of what came of a statement are those of its outcome
pub same_lines : (turn : Turn) (names : List (List ℕ)) (commits : ℕ) (o : runs.Outcome) (old new : Ran) (state : State) (stepped : Stepped) → IsStepped o old new state stepped → stepped_lines turn names commits stepped ≡ turn_lines turn names commits o
same_lines turn names commits (runs.Went next given) old new state (Went lines) is = ap (λ x. flat_map (line turn.number turn.client turn.transaction) x) (is.0)
same_lines turn names commits (runs.Refused r) old new state (Refused told) is = ap (λ x. line turn.number turn.client turn.transaction (refused_tail names commits x)) is
same_lines turn names commits (runs.Went next given) old new state (Refused told) is = absurd is
same_lines turn names commits (runs.Refused r) old new state (Went lines) is = absurd is

-- what came of a statement tells whether it was run
pub turned : (o : runs.Outcome) (old new : Ran) (state : State) (stepped : Stepped) → IsStepped o old new state stepped → IsTurned o old new state (has_gone stepped)
turned (runs.Went next lines) old new state (Went told) is = is.1
turned (runs.Went next lines) old new state (Refused told) is = absurd is
turned (runs.Refused r) old new state (Went told) is = absurd is
turned (runs.Refused r) old new state (Refused told) is = tt

-- the statement at a place can be written where all can
pub at_place : {X : Type 0} (p : X → Bool) (xs : List X) (i : ℕ) (x : X) → list_all p xs ≡ true → slice_get xs i ≡ Some x → p x ≡ true
at_place p [] i x all is = cc is
at_place p (y ∷ ys) zero x all is = subst (λ z. p z ≡ true) (some_same y x is) (left (p y) (list_all p ys) all)
  where
    some_same : {X : Type 0} (a b : X) → Some a ≡ Some b → a ≡ b
    some_same a b e = cc
at_place p (y ∷ ys) (suc i) x all is = at_place p ys i x (right (p y) (list_all p ys) all) is

-- a statement leaves a legal state
abbrev pub KeepsLegal : Type 0
KeepsLegal = (p : Present) → IsLegal p.state → (s : Statement) → IsTrue (is_written s) → refusal p s ≡ None → IsLegal (does p s).state

legal_by : KeepsLegal → (p : Present) (s : Statement) (old new : Ran) (state : State) → IsLegal p.state → IsTrue (is_written s) → (r : Option Refusal) → refusal p s ≡ r → Goes (outcome p s r) old new state → IsLegal state
legal_by keeps p s old new state legal written None e goes = subst IsLegal (sym (goes.0)) (keeps p legal s written e)
legal_by keeps p s old new state legal written (Some r) e goes = absurd goes

pub stays_legal : KeepsLegal → (p : Present) (s : Statement) (old new : Ran) (state : State) → IsLegal p.state → IsTrue (is_written s) → Goes (runs_statement p s) old new state → IsLegal state
unfolding runs_statement
stays_legal keeps p s old new state legal written goes = legal_by keeps p s old new state legal written (refusal p s) refl goes
