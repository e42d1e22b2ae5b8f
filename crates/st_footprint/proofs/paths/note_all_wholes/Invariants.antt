use Rattle.std.proofs.Common.{◌≡◌, take}
use Rattle.std.specs.Prelude.{flat_map}
use Rattle.st_query.specs.Ways.{way}
use Rattle.st_footprint.specs.Noted.{noted}
use Rattle.st_footprint.specs.Parts.{wholes_called}
use Rattle.st_footprint.specs.Terms.{targets}
use Rattle.st_footprint.proofs.paths.note_all_wholes.Given as goal

abbrev pub invariant-loop-term : goal.invariant-loop-term
invariant-loop-term l = l.into ≡ noted (flat_map (λ term. wholes_called l.schema (way term).features) (targets (take l.term-index l.terms))) l.initial.into
