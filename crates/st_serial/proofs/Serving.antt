-- Transactions of a script, one after another.
use Rattle.std.proofs.Common.{◌≡◌, ◌∙◌, ℕ, ◌+◌, Bool, true, false, List, [], ◌∷◌, length, take, Option, Some, None, refl, sym, subst, append-nil}
use Rattle.std.specs.Prelude.{is_none, ◌&&◌}
use Rattle.std.specs.Io.KnownBytes.{Appends}
use Rattle.st_query.specs.declared.statement.Transaction.{Transaction}
use Rattle.st_state.specs.State.{State}
use Rattle.st_meaning.specs.Lines.{run_lines, lines_from, commits_after, client_lines}
use Rattle.st_meaning.specs.Runs.{RefusedAt, runs, is_serial_run}
use Rattle.st_serial.specs.Serial.{statements_of, state_behind}
use Rattle.st_serial.proofs.Pieces.{Owes, owes_all, owes_less, owes_front}

-- How far the transactions have run: what was printed, with what those that are left print, is all that is printed.
pub record Serving (before : State) (all : List Transaction) (number transaction commits : ℕ) (state : State) (left : List Transaction) (served : Bool) (old new : Option (List ℕ)) : Type 0 where
  pub owes : Owes (client_lines before (statements_of all)) (lines_from number 1 transaction commits state (statements_of left)) old new
  pub leaves : state_behind state (statements_of left) ≡ state_behind before (statements_of all)
  pub serves : (served && is_serial_run state (statements_of left)) ≡ is_serial_run before (statements_of all)

pub started : (before : State) (all left : List Transaction) (old : Option (List ℕ)) → left ≡ all → Serving before all 1 1 0 before left true old old
unfolding client_lines
started before all left old e = rw e (record {
  owes = owes_all (client_lines before (statements_of all)) old;
  leaves = refl;
  serves = refl;
})

-- the count of commits behind a transaction
pub counted : (commits : ℕ) (refused : Option RefusedAt) (committed : Bool) → committed ≡ is_none refused → (committed ≡ true → commits_after commits refused ≡ commits + 1) × (committed ≡ false → commits_after commits refused ≡ commits)
counted commits None committed e = (λ _. refl, λ n. cc)
counted commits (Some r) committed e = (λ n. cc, λ _. refl)

-- whether all were served behind a transaction
served_on : (served committed rest : Bool) → ((served && committed) && rest) ≡ (served && (committed && rest))
served_on true committed rest = refl
served_on false committed rest = refl

-- a transaction more was run
more : (before : State) (all : List Transaction) (number transaction commits : ℕ) (state now : State) (t : Transaction) (left : List Transaction) (served committed : Bool) (old mid new : Option (List ℕ))
    → Serving before all number transaction commits state (t ∷ left) served old mid
    → Appends mid new (run_lines number 1 transaction commits (runs state t.statements))
    → now ≡ (runs state t.statements).state
    → committed ≡ is_none (runs state t.statements).refused
    → Serving before all (number + length (runs state t.statements).answers + 1) (transaction + 1) (commits_after commits (runs state t.statements).refused) now left (served && committed) old new
more before all number transaction commits state now t left served committed old mid new on took e c =
    let run = runs state t.statements in
    rw (e, c) (record {
      owes = owes_less _ _ (run_lines number 1 transaction commits run) (lines_from (number + length run.answers + 1) 1 (transaction + 1) (commits_after commits run.refused) run.state (statements_of left)) old mid new on.owes refl took;
      leaves = on.leaves;
      serves = served_on served (is_none run.refused) (is_serial_run run.state (statements_of left)) ∙ on.serves;
    })

and_true : (b : Bool) → (b && true) ≡ b
and_true true = refl
and_true false = refl

and_false : (b : Bool) → (b && false) ≡ false
and_false true = refl
and_false false = refl

-- a transaction more was committed
pub on_commit : (before : State) (all : List Transaction) (number transaction commits end : ℕ) (state now : State) (t : Transaction) (left : List Transaction) (served committed : Bool) (old mid new : Option (List ℕ))
    → Serving before all number transaction commits state (t ∷ left) served old mid
    → Appends mid new (run_lines number 1 transaction commits (runs state t.statements))
    → now ≡ (runs state t.statements).state
    → committed ≡ is_none (runs state t.statements).refused
    → end ≡ number + length (runs state t.statements).answers + 1
    → committed ≡ true
    → Serving before all end (transaction + 1) (commits + 1) now left served old new
on_commit before all number transaction commits end state now t left served committed old mid new on took e c at is =
    let m = more before all number transaction commits state now t left served committed old mid new on took e c in
    rw (is, and_true served, (counted commits (runs state t.statements).refused committed c).0 is, sym at) at m

-- a transaction more was refused
pub on_refusal : (before : State) (all : List Transaction) (number transaction commits end : ℕ) (state now : State) (t : Transaction) (left : List Transaction) (served committed : Bool) (old mid new : Option (List ℕ))
    → Serving before all number transaction commits state (t ∷ left) served old mid
    → Appends mid new (run_lines number 1 transaction commits (runs state t.statements))
    → now ≡ (runs state t.statements).state
    → committed ≡ is_none (runs state t.statements).refused
    → end ≡ number + length (runs state t.statements).answers + 1
    → committed ≡ false
    → Serving before all end (transaction + 1) commits now left false old new
on_refusal before all number transaction commits end state now t left served committed old mid new on took e c at is =
    let m = more before all number transaction commits state now t left served committed old mid new on took e c in
    rw (is, and_false served, (counted commits (runs state t.statements).refused committed c).1 is, sym at) at m

-- a front of a transaction's lines was taken
pub front : (before : State) (all : List Transaction) (number transaction commits : ℕ) (state : State) (t : Transaction) (left : List Transaction) (served : Bool) (old mid new : Option (List ℕ))
    → Serving before all number transaction commits state (t ∷ left) served old mid
    → (n : ℕ) × Appends mid new (take n (run_lines number 1 transaction commits (runs state t.statements)))
    → (m : ℕ) × Appends old new (take m (client_lines before (statements_of all)))
front before all number transaction commits state t left served old mid new on part =
    let run = runs state t.statements in
    owes_front _ _ (run_lines number 1 transaction commits run) (lines_from (number + length run.answers + 1) 1 (transaction + 1) (commits_after commits run.refused) run.state (statements_of left)) old mid new on.owes refl part

-- none is left
pub ended : (before : State) (all : List Transaction) (number transaction commits : ℕ) (state : State) (left : List Transaction) (served : Bool) (old new : Option (List ℕ))
    → Serving before all number transaction commits state left served old new → left ≡ []
    → Appends old new (client_lines before (statements_of all)) × (state ≡ state_behind before (statements_of all)) × (served ≡ is_serial_run before (statements_of all))
ended before all number transaction commits state left served old new on none =
    let owes : Owes (client_lines before (statements_of all)) [] old new = rw none at on.owes in
    let all_taken : owes.lines ≡ client_lines before (statements_of all) = sym (append-nil owes.lines) ∙ owes.is in
    let leaves : state ≡ state_behind before (statements_of all) = rw none at on.leaves in
    let serves : (served && true) ≡ is_serial_run before (statements_of all) = rw none at on.serves in
    (subst (λ x. Appends old new x) all_taken owes.taken, leaves, sym (and_true served) ∙ serves)
