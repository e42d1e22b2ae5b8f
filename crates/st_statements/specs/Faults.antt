-- What ends the reading of forms tells of them. Want of memory tells nothing, and may come at any time.
use Rattle.std.specs.Prelude.{Option, Some, None}
use Rattle.st_statements.specs.declared.fault.Misread.{Misread}
use Rattle.st_statements.specs.declared.fault.Stop.{Stop}
use Rattle.st_statements.specs.declared.fault.Stop.TheVariants as stop

-- what ends the reading of forms
abbrev pub misread_of : Stop → Option Misread
misread_of (stop.Misread found) = Some found
misread_of stop.Memory = None
