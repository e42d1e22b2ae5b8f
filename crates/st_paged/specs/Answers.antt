-- Answers of look-ups, as bases answer.
use Rattle.std.specs.Prelude.{Result, Ok, Err}
use Rattle.st_page.specs.declared.fault.PageFault.{PageFault}
use Rattle.st_plain.specs.declared.fault.BaseFault.{BaseFault}
use Rattle.st_edits.specs.Edits.{told}

-- the same answer, with a fault of pages as bases tell it
abbrev pub told_answer : {A : Type 0} → Result A PageFault → Result A BaseFault
told_answer (Ok x) = Ok x
told_answer (Err fault) = Err (told fault)
