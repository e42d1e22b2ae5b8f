-- What contracts see of triples that go back to a mark.
use Rattle.std.specs.Prelude.{ℕ, List}
use Rattle.st_values.specs.declared.value.EntityId.{EntityId}
use Rattle.st_values.specs.declared.value.Value.{Value}
use Rattle.st_state.specs.declared.triple.Triple.{Triple}

-- the triples, and what they were at the mark
pub record MarkedTriples : Type 0 where
  pub triples : List Triple
  pub mark : List Triple

-- a triple of its parts
abbrev pub triple_of : ℕ → EntityId → Value → Triple
triple_of attribute entity value = record { attribute = attribute; entity = entity; value = value }
