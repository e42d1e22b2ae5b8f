-- A transaction from its first statement to its end.
use Rattle.std.proofs.Common.{◌≡◌, ◌∙◌, ℕ, zero, suc, ◌+◌, ◌≤◌, ◌<◌, Bool, true, false, List, [], ◌∷◌, ◌++◌, length, drop, take, Option, Some, None, refl, sym, ap, subst, append_assoc, append-nil, add-one, arith}
use Rattle.std.specs.Prelude.{is_none, flat_map, slice_get}
use Rattle.std.specs.Io.KnownBytes.{Appends}
use Rattle.st_query.specs.declared.statement.Statement.{Statement}
use Rattle.st_state.specs.State.{State}
use Rattle.st_terms.specs.Checked.{present}
use Rattle.st_meaning.specs.Lines.{line, answer_lines, commit_tail, refused_tail, end_tail, run_lines}
use Rattle.st_meaning.specs.Runs as runs
use Rattle.st_meaning.specs.Runs.{Outcome, Run, RefusedAt, runs, runs_from, runs_statement, followed}
use Rattle.st_output.specs.declared.turn.Turn.{Turn}
use Rattle.st_running.specs.Ran as ran
use Rattle.st_running.specs.Ran.{Ran}
use Rattle.st_serial.specs.Turns.{Goes, IsTurned, turn_lines}
use Rattle.st_serial.proofs.Pieces.{Owes, owes_all, owes_less, owes_none, owes_front}

-- what is left of a transaction that began in a state
abbrev pub rest_of : State → State → Ran → Run
rest_of old state r = runs_from old (r.ran + 1) (present state r.variables) (drop r.ran r.statements)

-- How far a transaction has run: what was printed, with what the rest prints, is all that it prints; and it ends as the rest ends.
pub record Ongoing (before : State) (first : Turn) (commits : ℕ) (all : List Statement) (number : ℕ) (state : State) (r : Ran) (old new : Option (List ℕ)) : Type 0 where
  pub owes : Owes (run_lines first.number first.client first.transaction commits (runs before all)) (run_lines number first.client first.transaction commits (rest_of before state r)) old new
  pub leaves : (rest_of before state r).state ≡ (runs before all).state
  pub refuses : (rest_of before state r).refused ≡ (runs before all).refused
  pub counted : number + length (rest_of before state r).answers ≡ first.number + length (runs before all).answers

pub started : (before : State) (first : Turn) (commits : ℕ) (all : List Statement) (state : State) (r : Ran) (old : Option (List ℕ)) → state ≡ before → r ≡ ran.begun all → Ongoing before first commits all first.number state r old old
unfolding runs
started before first commits all state r old s e = rw (s, e) (record {
  owes = owes_all (run_lines first.number first.client first.transaction commits (runs before all)) old;
  leaves = refl;
  refuses = refl;
  counted = refl;
})

-- the rest of a transaction, by what comes of its next statement
rest_is : (before state : State) (r : Ran) (s : Statement) (left : List Statement) (o : Outcome) → drop r.ran r.statements ≡ s ∷ left → runs_statement (present state r.variables) s ≡ o
    → rest_of before state r ≡ followed before (r.ran + 1) o (λ next. runs_from before (r.ran + 1 + 1) next left)
rest_is before state r s left o d e = rw (d, e) refl

-- the lines of a run whose first statement was answered
lines_step : (number client transaction commits : ℕ) (answers : List (List ℕ)) (run : Run)
    → run_lines number client transaction commits (record run { answers = answers ∷ run.answers }) ≡ flat_map (line number client transaction) answers ++ run_lines (number + 1) client transaction commits run
lines_step number client transaction commits answers run =
    let moved : number + suc (length run.answers) ≡ number + 1 + length run.answers = omega arith in
    append_assoc (flat_map (line number client transaction) answers) (answer_lines (number + 1) client transaction run.answers) (line (number + suc (length run.answers)) client transaction (end_tail run.state.schema.names commits run.refused))
    ∙ ap (λ n. flat_map (line number client transaction) answers ++ (answer_lines (number + 1) client transaction run.answers ++ line n client transaction (end_tail run.state.schema.names commits run.refused))) moved

-- the turn of a statement
abbrev turn_at : Turn → ℕ → Turn
turn_at first number = record { number = number; client = first.client; transaction = first.transaction }

-- what a run prints whose rest is what comes of a statement
abbrev LinesOf : State → Turn → ℕ → ℕ → ℕ → List Statement → Outcome → Type 0
LinesOf before first commits number place left o =
    (behind : List ℕ) × (run_lines number first.client first.transaction commits (followed before place o (λ next. runs_from before (place + 1) next left)) ≡ turn_lines (turn_at first number) before.schema.names commits o ++ behind)

lines_of : (before : State) (first : Turn) (commits number place : ℕ) (left : List Statement) (o : Outcome) → LinesOf before first commits number place left o
lines_of before first commits number place left (runs.Went next answers) =
    (run_lines (number + 1) first.client first.transaction commits (runs_from before (place + 1) next left), lines_step number first.client first.transaction commits answers (runs_from before (place + 1) next left))
lines_of before first commits number place left (runs.Refused refusal) =
    let same : number + 0 ≡ number = omega arith in
    ([], ap (λ n. line n first.client first.transaction (refused_tail before.schema.names commits refusal)) same ∙ sym (append-nil _))

-- a front of the lines of the next statement
pub front_of_turn : (before : State) (first : Turn) (commits : ℕ) (all : List Statement) (number : ℕ) (state : State) (r : Ran) (s : Statement) (left : List Statement) (old mid new : Option (List ℕ))
    → Ongoing before first commits all number state r old mid → drop r.ran r.statements ≡ s ∷ left
    → (n : ℕ) × Appends mid new (take n (turn_lines (turn_at first number) before.schema.names commits (runs_statement (present state r.variables) s)))
    → (m : ℕ) × Appends old new (take m (run_lines first.number first.client first.transaction commits (runs before all)))
front_of_turn before first commits all number state r s left old mid new on d front =
    let o = runs_statement (present state r.variables) s in
    let lines = lines_of before first commits number (r.ran + 1) left o in
    let is = ap (λ run. run_lines number first.client first.transaction commits run) (rest_is before state r s left o d refl) ∙ lines.1 in
    owes_front _ _ (turn_lines (turn_at first number) before.schema.names commits o) (lines.0) old mid new on.owes is front

-- the statement at a place, and those behind it
next_to : {X : Type 0} (xs : List X) (i : ℕ) → i < length xs → (x : X) × (slice_get xs i ≡ Some x) × (drop i xs ≡ x ∷ drop (suc i) xs)
next_to [] i h = absurd (omega (arith, h))
next_to (x ∷ xs) zero h = (x, refl, refl)
next_to (x ∷ xs) (suc i) h = next_to xs i (omega (arith, h))

pub next_of : {X : Type 0} (xs : List X) (i : ℕ) → i < length xs → (x : X) × (slice_get xs i ≡ Some x) × (drop i xs ≡ x ∷ drop (i + 1) xs)
next_of xs i h = rw (add-one) (next_to xs i h)

-- none is left at the end
pub none_left : {X : Type 0} (xs : List X) (i : ℕ) → length xs ≤ i → drop i xs ≡ []
none_left [] i h = drop_nil i
  where
    drop_nil : {Y : Type 0} (n : ℕ) → drop n [] ≡ (let ys : List Y = [] in ys)
    drop_nil zero = refl
    drop_nil (suc n) = refl
none_left (x ∷ xs) zero h = absurd (omega (arith, h))
none_left (x ∷ xs) (suc i) h = none_left xs i (omega (arith, h))

-- the rest of a transaction is what comes of its next statement
abbrev Comes : State → Turn → ℕ → List Statement → ℕ → Ran → List Statement → Outcome → Option (List ℕ) → Option (List ℕ) → Type 0
Comes before first commits all number r left o old mid =
    let run = followed before (r.ran + 1) o (λ p. runs_from before (r.ran + 1 + 1) p left) in
    Owes (run_lines first.number first.client first.transaction commits (runs before all)) (run_lines number first.client first.transaction commits run) old mid
    × (run.state ≡ (runs before all).state)
    × (run.refused ≡ (runs before all).refused)
    × (number + length run.answers ≡ first.number + length (runs before all).answers)

comes : (before : State) (first : Turn) (commits : ℕ) (all : List Statement) (number : ℕ) (state : State) (r : Ran) (s : Statement) (left : List Statement) (old mid : Option (List ℕ))
    → Ongoing before first commits all number state r old mid → drop r.ran r.statements ≡ s ∷ left
    → Comes before first commits all number r left (runs_statement (present state r.variables) s) old mid
comes before first commits all number state r s left old mid on d =
    let is = rest_is before state r s left (runs_statement (present state r.variables) s) d refl in
    rw (← is) (on.owes, on.leaves, on.refuses, on.counted)

went_on : (before : State) (first : Turn) (commits : ℕ) (all : List Statement) (number : ℕ) (now : State) (r next : Ran) (left : List Statement) (o : Outcome) (old mid new : Option (List ℕ))
    → drop (r.ran + 1) r.statements ≡ left
    → Comes before first commits all number r left o old mid
    → Appends mid new (turn_lines (turn_at first number) before.schema.names commits o)
    → Goes o r next now
    → Ongoing before first commits all (number + 1) now next old new
went_on before first commits all number now r next left (runs.Refused refusal) old mid new d coming took goes = absurd goes
went_on before first commits all number now r next left (runs.Went p answers) old mid new d coming took goes =
    let rest = runs_from before (r.ran + 1 + 1) p left in
    let e : number + 1 + length rest.answers ≡ number + suc (length rest.answers) = omega arith in
    let same : rest_of before now next ≡ rest = rw (goes.0, goes.1, d) refl in
    record {
      owes = rw same (owes_less _ _ (flat_map (line number first.client first.transaction) answers) (run_lines (number + 1) first.client first.transaction commits rest) old mid new (coming.0) (lines_step number first.client first.transaction commits answers rest) took);
      leaves = rw same (coming.1);
      refuses = rw same (coming.2);
      counted = rw same (e ∙ coming.3);
    }

-- a statement more was run
pub more : (before : State) (first : Turn) (commits : ℕ) (all : List Statement) (number : ℕ) (state now : State) (r next : Ran) (s : Statement) (old mid new : Option (List ℕ))
    → Ongoing before first commits all number state r old mid → drop r.ran r.statements ≡ s ∷ drop (r.ran + 1) r.statements
    → Appends mid new (turn_lines (turn_at first number) before.schema.names commits (runs_statement (present state r.variables) s))
    → Goes (runs_statement (present state r.variables) s) r next now
    → Ongoing before first commits all (number + 1) now next old new
more before first commits all number state now r next s old mid new on d took goes =
    went_on before first commits all number now r next (drop (r.ran + 1) r.statements) (runs_statement (present state r.variables) s) old mid new refl (comes before first commits all number state r s (drop (r.ran + 1) r.statements) old mid on d) took goes

-- what a transaction leaves and how it ended, where all its lines were taken
pub record Ended (before : State) (first : Turn) (commits : ℕ) (all : List Statement) (number : ℕ) (state : State) (committed : Bool) (old new : Option (List ℕ)) : Type 0 where
  pub taken : Appends old new (run_lines first.number first.client first.transaction commits (runs before all))
  pub leaves : state ≡ (runs before all).state
  pub commits_or_not : committed ≡ is_none (runs before all).refused
  pub counted : number + 1 ≡ first.number + length (runs before all).answers + 1

refused_here : (before : State) (first : Turn) (commits : ℕ) (all : List Statement) (number : ℕ) (now : State) (r next : Ran) (left : List Statement) (o : Outcome) (old mid new : Option (List ℕ))
    → Comes before first commits all number r left o old mid
    → Appends mid new (turn_lines (turn_at first number) before.schema.names commits o)
    → IsTurned o r next now false
    → Ended before first commits all number before false old new
refused_here before first commits all number now r next left (runs.Went p answers) old mid new coming took turned = absurd turned
refused_here before first commits all number now r next left (runs.Refused refusal) old mid new coming took turned =
    let same : number + 0 ≡ number = omega arith in
    let c : number + 0 ≡ first.number + length (runs before all).answers = coming.3 in
    record {
      taken = owes_none _ _ old mid new (coming.0) (rw same took);
      leaves = coming.1;
      commits_or_not = ap is_none (coming.2);
      counted = omega arith;
    }

-- a statement was refused
pub refused : (before : State) (first : Turn) (commits : ℕ) (all : List Statement) (number : ℕ) (state now : State) (r next : Ran) (s : Statement) (old mid new : Option (List ℕ))
    → Ongoing before first commits all number state r old mid → drop r.ran r.statements ≡ s ∷ drop (r.ran + 1) r.statements
    → Appends mid new (turn_lines (turn_at first number) before.schema.names commits (runs_statement (present state r.variables) s))
    → IsTurned (runs_statement (present state r.variables) s) r next now false
    → Ended before first commits all number before false old new
refused before first commits all number state now r next s old mid new on d took turned =
    refused_here before first commits all number now r next (drop (r.ran + 1) r.statements) (runs_statement (present state r.variables) s) old mid new (comes before first commits all number state r s (drop (r.ran + 1) r.statements) old mid on d) took turned

-- no statement is left: the rest is the commit's line
at_end : (before state : State) (r : Ran) → drop r.ran r.statements ≡ [] → rest_of before state r ≡ record { state = state; answers = []; refused = None }
at_end before state r d = rw d refl

commit_lines : (before state : State) (first : Turn) (commits number : ℕ) (r : Ran) → drop r.ran r.statements ≡ []
    → run_lines number first.client first.transaction commits (rest_of before state r) ≡ line number first.client first.transaction (commit_tail (commits + 1))
commit_lines before state first commits number r d =
    let same : number + 0 ≡ number = omega arith in
    ap (λ run. run_lines number first.client first.transaction commits run) (at_end before state r d) ∙ ap (λ n. line n first.client first.transaction (commit_tail (commits + 1))) same

pub committed : (before : State) (first : Turn) (commits : ℕ) (all : List Statement) (number : ℕ) (state : State) (r : Ran) (old mid new : Option (List ℕ))
    → Ongoing before first commits all number state r old mid → drop r.ran r.statements ≡ []
    → Appends mid new (line number first.client first.transaction (commit_tail (commits + 1)))
    → Ended before first commits all number state true old new
committed before first commits all number state r old mid new on d took =
    let e = at_end before state r d in
    let c : number + 0 ≡ first.number + length (runs before all).answers = rw e at on.counted in
    record {
      taken = owes_none _ _ old mid new on.owes (subst (λ x. Appends mid new x) (sym (commit_lines before state first commits number r d)) took);
      leaves = rw e at on.leaves;
      commits_or_not = ap is_none (rw e at on.refuses);
      counted = omega arith;
    }

pub front_of_commit : (before : State) (first : Turn) (commits : ℕ) (all : List Statement) (number : ℕ) (state : State) (r : Ran) (old mid new : Option (List ℕ))
    → Ongoing before first commits all number state r old mid → drop r.ran r.statements ≡ []
    → (n : ℕ) × Appends mid new (take n (line number first.client first.transaction (commit_tail (commits + 1))))
    → (m : ℕ) × Appends old new (take m (run_lines first.number first.client first.transaction commits (runs before all)))
front_of_commit before first commits all number state r old mid new on d front =
    owes_front _ _ (line number first.client first.transaction (commit_tail (commits + 1))) [] old mid new on.owes (commit_lines before state first commits number r d ∙ sym (append-nil _)) front

-- a turn of the transaction, by its number
pub turn_is : (first turn : Turn) (n : ℕ) → turn ≡ record first { number = n } → turn ≡ turn_at first turn.number
turn_is first turn n e = rw e refl

-- the lines of a turn, by its number
pub in_turn : (first turn : Turn) (n : ℕ) (names others : List (List ℕ)) (commits : ℕ) (o : Outcome) → turn ≡ record first { number = n } → names ≡ others → turn_lines turn names commits o ≡ turn_lines (turn_at first turn.number) others commits o
in_turn first turn n names others commits o e f = ap (λ t. turn_lines t names commits o) (turn_is first turn n e) ∙ ap (λ x. turn_lines (turn_at first turn.number) x commits o) f

pub commit_in_turn : (first turn : Turn) (n : ℕ) (tail : List ℕ) → turn ≡ record first { number = n } → line turn.number turn.client turn.transaction tail ≡ line turn.number first.client first.transaction tail
commit_in_turn first turn n tail e = rw e refl

pub first_turn : (first : Turn) → first ≡ record first { number = first.number + 0 }
first_turn first = let e : first.number + 0 ≡ first.number = omega arith in rw e refl

pub next_turn : (first turn : Turn) (n : ℕ) → turn ≡ record first { number = first.number + n } → record turn { number = turn.number + 1 } ≡ record first { number = first.number + (n + 1) }
next_turn first turn n e = let s : first.number + n + 1 ≡ first.number + (n + 1) = omega arith in rw (e, s) refl

-- a statement that was run is counted
pub ran_on : (o : Outcome) (r next : Ran) (now : State) → Goes o r next now → next.ran ≡ r.ran + 1
ran_on (runs.Went p lines) r next now goes = ap (λ x. x.ran) (goes.1)
ran_on (runs.Refused refusal) r next now goes = absurd goes
