-- What an input is found to be.
use Rattle.std.specs.Prelude.{◌≡◌, ℕ, List, Some, Result, Ok, IsTrue}
use Rattle.st_lattice.specs.Outline.{Outline}
use Rattle.st_query.specs.declared.statement.Transaction.{Transaction}
use Rattle.st_state.specs.Legal.{IsLegal}
use Rattle.st_state.specs.State.{empty_state}
use Rattle.st_serial.specs.Serial.{are_written}
use Rattle.statice.specs.declared.program.Found.{Found}
use Rattle.statice.specs.declared.program.Found.TheVariants.{Program, Faulty}
use Rattle.statice.specs.Fault.{line_of, IsFaulty}
use Rattle.statice.specs.Form.{Program as ProgramOf, Flaw, IsProgram}

-- a schema and a script can be run: the empty state of the schema is legal, and all statements can be written
pub record CanRun (schema : Outline) (script : List Transaction) : Type 0 where
  pub legal : IsLegal (empty_state schema)
  pub written : IsTrue (are_written script)

-- what was found in forms is what they are
abbrev pub IsFoundAs : Result ProgramOf Flaw → Found → Type 0
IsFoundAs is (Program schema script) = (is ≡ Ok (schema, script)) × CanRun schema script
IsFoundAs is (Faulty line) = line_of is ≡ Some line

-- what was found is what the input is
abbrev pub IsFound : List ℕ → Found → Type 0
IsFound input (Program schema script) = IsProgram input (schema, script) × CanRun schema script
IsFound input (Faulty line) = IsFaulty input line
