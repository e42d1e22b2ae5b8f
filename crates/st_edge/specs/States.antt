-- What sources and sinks tell at a time, and how much a sink took between two times.
use Rattle.std.specs.Prelude.{ℕ, ◌⊎◌, List, take, Option}
use Rattle.std.specs.Io.KnownBytes.{Appends}
use Rattle.st_edge.specs.Faults.{Rose}

pub record SourceState : Type 0 where
  -- the bytes still to be read, where the source tells them
  pub left : Option (List ℕ)
  -- how often a call has failed
  pub faults : ℕ

pub record SinkState : Type 0 where
  -- all bytes that were taken, where the sink tells them
  pub taken : Option (List ℕ)
  -- how often a call has failed
  pub faults : ℕ

-- a sink took this text
abbrev pub TakesAll : SinkState → SinkState → List ℕ → Type 0
TakesAll old new text = Appends old.taken new.taken text

-- a sink took some first bytes of this text, perhaps none or all
abbrev pub TakesFront : SinkState → SinkState → List ℕ → Type 0
TakesFront old new text = (n : ℕ) × TakesAll old new (take n text)

-- a sink took this text, or a front of it where its count of faults rose
abbrev pub Takes : SinkState → SinkState → List ℕ → Type 0
Takes old new text = TakesAll old new text ⊎ (Rose old.faults new.faults × TakesFront old new text)
