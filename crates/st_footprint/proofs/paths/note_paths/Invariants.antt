use Rattle.std.proofs.Common.{◌≡◌, take}
use Rattle.st_query.specs.Footprint.{path_stores}
use Rattle.st_footprint.specs.Noted.{noted}
use Rattle.st_footprint.specs.Terms.{targets}
use Rattle.st_footprint.proofs.paths.note_paths.Given as goal

abbrev pub invariant-loop-term : goal.invariant-loop-term
invariant-loop-term l = l.into ≡ noted (path_stores l.schema (targets (take l.term-index l.terms))) l.initial.into
