-- Words for lists that hold a state.
use Rattle.std.specs.Prelude.{Bool, List, [], not, nat_lt}
use Rattle.st_values.specs.declared.value.EntityId.{EntityId}
use Rattle.st_values.specs.Arranged.{each_pair}
use Rattle.st_values.specs.Order.{entity_before}
use Rattle.st_lattice.specs.declared.attribute.Attribute.{Attribute}
use Rattle.st_lattice.specs.Outline.{Outline}
use Rattle.st_state.specs.declared.triple.Triple.{Triple}
use Rattle.st_state.specs.State.{State}

-- whether an attribute has the lower number
abbrev pub number_before : Attribute → Attribute → Bool
number_before a b = nat_lt a.number b.number

-- a state of which the rules on values look at no more than schema and triples
abbrev pub state_of : Outline → List Triple → State
state_of schema triples = record { schema = schema; live = []; triples = triples; last = [] }

-- whether no entity stands before one in front of it
abbrev pub in_order : List EntityId → Bool
in_order entities = each_pair (λ a b. not (entity_before b a)) entities
