-- What faults tell of what was read. Want of memory tells nothing, and may come at any time.
use Rattle.std.specs.Prelude.{Option, Some, None, Result, Ok, Err}
use Rattle.st_statements.specs.declared.fault.Misread.{Misread}
use Rattle.st_statements.specs.declared.fault.Misread.TheVariants as misread
use Rattle.st_reader.specs.declared.fault.ScriptFault.{ScriptFault}
use Rattle.st_reader.specs.declared.fault.ScriptFault.TheVariants as fault

-- what a fault of an input tells
abbrev pub told : ScriptFault → Option ScriptFault
told fault.Memory = None
told found = Some found

-- the fault of an input whose forms are misread so
abbrev pub fault_of : Misread → ScriptFault
fault_of (misread.Form place) = fault.Form place
fault_of (misread.TooManyStatements count) = fault.TooManyStatements count
fault_of (misread.BadClient number) = fault.BadClient number

-- what is due for an input, by what its forms are read as
abbrev pub in_input : {A : Type 0} → Result A Misread → Result A ScriptFault
in_input (Ok x) = Ok x
in_input (Err found) = Err (fault_of found)
