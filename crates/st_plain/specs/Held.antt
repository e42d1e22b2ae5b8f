-- What lists hold.
use Rattle.st_state.specs.State.{State}

-- a state, and the one that was at the mark
pub record Held : Type 0 where
  pub state : State
  pub mark : State

-- a state with a mark at it
abbrev pub marked : State → Held
marked state = record { state = state; mark = state }
