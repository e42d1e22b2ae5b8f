use Rattle.std.proofs.Common.{◌≡◌, take}
use Rattle.std.specs.Prelude.{flat_map}
use Rattle.std.specs.Option.{option_copied}
use Rattle.st_query.specs.Ways.{way}
use Rattle.st_footprint.specs.Noted.{noted}
use Rattle.st_footprint.specs.Parts.{seen_stores}
use Rattle.st_footprint.specs.Terms.{targets}
use Rattle.st_footprint.proofs.starts.note_starts.Given as goal

abbrev pub invariant-loop-term : goal.invariant-loop-term
invariant-loop-term l =
    l.into ≡ noted (flat_map (λ term. seen_stores l.schema l.variables (option_copied l.hidden) (way term).start) (targets (take l.term-index l.terms))) l.initial.into
