use Rattle.st_memory_pages.proofs.Blank.{blank_by}
use Rattle.st_memory_pages.proofs.images.is_blank.Goals as goal

pub returns-clause-blank : goal.returns-clause-blank
returns-clause-blank c = blank_by _ _ _ c.bytes_of.ensures.bytes c.bytes_of.ensures.size c.are_zero.ensures
