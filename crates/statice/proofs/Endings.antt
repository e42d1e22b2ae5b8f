-- Where no call failed, the input decides how `try` ends.
use Rattle.std.proofs.Common.{◌≡◌, ◌≤◌, ◌<◌, inl, inr, ℕ, Bool, true, false, List, length, Option, Some, None, refl, sym, ap, subst, arith}
use Rattle.std.specs.Prelude.{⊤, IfSome}
use Rattle.st_edge.specs.Faults.{Rose}
use Rattle.st_edge.specs.States.{SourceState, SinkState}
use Rattle.statice.specs.declared.status.Ended.{Ended}
use Rattle.statice.specs.declared.status.Ended.TheVariants.{Done, SomeRefused, Refused, SourceFailed, SinkFailed, OutOfMemory, TooLong}
use Rattle.statice.specs.Ending.{IsFaultless, RunsOn, EndsBy, end_by, end_of}
use Rattle.statice.specs.Fault.{IsFaulty}
use Rattle.statice.specs.Form.{Program, IsProgram, IsNoProgram}
use Rattle.statice.specs.Output.{is_served}
use Rattle.statice.specs.Try.{Answers}

-- an input is one program at most, and none where it has a fault
abbrev pub OneProgram : Type 0
OneProgram = (input : List ℕ) (a b : Program) → IsProgram input a → IsProgram input b → a ≡ b

abbrev pub NeverBoth : Type 0
NeverBoth = (input line : List ℕ) → IsFaulty input line → IsNoProgram input

-- a count that stayed didn't rise
never_rose : (old new : ℕ) → IsFaultless old new → Rose old new → ⊥
never_rose old new (stays, below) rose = let up = rose below in omega arith

-- the input that a source told is the only one that it gave
same_input : (left : Option (List ℕ)) (input given : List ℕ) → left ≡ Some input → IfSome left (λ bytes. given ≡ bytes) → given ≡ input
same_input None input given told is = absurd (cc)
same_input (Some bytes) input given told is = cc

told_long : (left : Option (List ℕ)) (input : List ℕ) → left ≡ Some input → IfSome left (λ bytes. 1048576 < length bytes) → 1048576 < length input
told_long None input told long = absurd (cc)
told_long (Some bytes) input told long = let same : bytes ≡ input = cc in subst (λ xs. 1048576 < length xs) same long

-- What a run without a failed call can end by: an answer to its input, its length, or want of memory.
abbrev Left : List ℕ → SinkState → SinkState → Ended → Type 0
Left input old new OutOfMemory = ⊤
Left input old new SourceFailed = ⊥
Left input old new SinkFailed = ⊥
Left input old new TooLong = 1048576 < length input
Left input old new ended = (length input ≤ 1048576) × Answers input old new ended

answered : (source : SourceState) (input : List ℕ) (old new : SinkState) (ended : Ended) → source.left ≡ Some input
    → (given : List ℕ) × IfSome source.left (λ bytes. given ≡ bytes) × (length given ≤ 1048576) × Answers given old new ended
    → (length input ≤ 1048576) × Answers input old new ended
answered source input old new ended told (given, is, short, answers) =
    let same = same_input source.left input given told is in
    (subst (λ bytes. length bytes ≤ 1048576) same short, subst (λ bytes. Answers bytes old new ended) same answers)

left : (input : List ℕ) (ended : Ended) (run : RunsOn input ended) → Left input run.old run.new ended
left input Done run = answered run.source input run.old run.new Done run.told run.tries.ends
left input SomeRefused run = answered run.source input run.old run.new SomeRefused run.told run.tries.ends
left input Refused run = answered run.source input run.old run.new Refused run.told run.tries.ends
left input SourceFailed run = never_rose run.source.faults run.later.faults run.source_stays (run.tries.ends.0)
left input SinkFailed run =
    let answers = answered run.source input run.old run.new SinkFailed run.told run.tries.ends in
    never_rose run.old.faults run.new.faults run.sink_stays (answers.1.2)
left input OutOfMemory run = tt
left input TooLong run = told_long run.source.left input run.told (run.tries.ends.0)

module _ (one : OneProgram) (never : NeverBoth) (input : List ℕ) (old new : SinkState) where
  -- a program that is served or not ends so
  served : (program other : Program) (all : Bool) → IsProgram input program → IsProgram input other → is_served other ≡ all → end_by all ≡ end_of program
  served program other all is was e = ap end_by (sym (subst (λ p. is_served p ≡ all) (one input other program was is) e))

  of_program : (ended : Ended) (program : Program) → Left input old new ended → length input ≤ 1048576 → IsProgram input program → EndsBy (end_of program) ended
  of_program Done program (within, (other, was, e, took)) short is = inl (served program other true is was e)
  of_program SomeRefused program (within, (other, was, e, took)) short is = inl (served program other false is was e)
  of_program Refused program (within, (line, faulty, took)) short is = absurd (never input line faulty program is)
  of_program SourceFailed program fails short is = absurd fails
  of_program SinkFailed program fails short is = absurd fails
  of_program OutOfMemory program wants short is = inr refl
  of_program TooLong program long short is = absurd (omega arith)

  of_faulty : (ended : Ended) (line : List ℕ) → Left input old new ended → length input ≤ 1048576 → IsFaulty input line → EndsBy Refused ended
  of_faulty Done line (within, (other, was, e, took)) short faulty = absurd (never input line faulty other was)
  of_faulty SomeRefused line (within, (other, was, e, took)) short faulty = absurd (never input line faulty other was)
  of_faulty Refused line refused short faulty = inl refl
  of_faulty SourceFailed line fails short faulty = absurd fails
  of_faulty SinkFailed line fails short faulty = absurd fails
  of_faulty OutOfMemory line wants short faulty = inr refl
  of_faulty TooLong line long short faulty = absurd (omega arith)

of_long : (input : List ℕ) (old new : SinkState) (ended : Ended) → Left input old new ended → 1048576 < length input → EndsBy TooLong ended
of_long input old new Done (within, answers) long = absurd (omega arith)
of_long input old new SomeRefused (within, answers) long = absurd (omega arith)
of_long input old new Refused (within, answers) long = absurd (omega arith)
of_long input old new SourceFailed fails long = absurd fails
of_long input old new SinkFailed fails long = absurd fails
of_long input old new OutOfMemory wants long = inr refl
of_long input old new TooLong is long = inl refl

pub ends_program : OneProgram → NeverBoth → (input : List ℕ) (ended : Ended) (program : Program) → RunsOn input ended → length input ≤ 1048576 → IsProgram input program → EndsBy (end_of program) ended
ends_program one never input ended program run short is = of_program one never input run.old run.new ended program (left input ended run) short is

pub ends_faulty : OneProgram → NeverBoth → (input line : List ℕ) (ended : Ended) → RunsOn input ended → length input ≤ 1048576 → IsFaulty input line → EndsBy Refused ended
ends_faulty one never input line ended run short faulty = of_faulty one never input run.old run.new ended line (left input ended run) short faulty

pub ends_long : (input : List ℕ) (ended : Ended) → RunsOn input ended → 1048576 < length input → EndsBy TooLong ended
ends_long input ended run long = of_long input run.old run.new ended (left input ended run) long
