-- What terms stand for. A term is asked once it was found to be in form: elsewhere it stands for null.
use Rattle.std.specs.Prelude.{ℕ, if◌then◌else◌, List, [], ◌∷◌, map}
use Rattle.st_values.specs.declared.value.Value.{Value}
use Rattle.st_values.specs.declared.value.Value.TheVariants as value
use Rattle.st_lattice.specs.declared.attribute.Attribute.{Attribute}
use Rattle.st_lattice.specs.declared.called.Called.{Called}
use Rattle.st_lattice.specs.declared.called.Called.TheVariants.{Nothing, Own, Inverse}
use Rattle.st_lattice.specs.Called.{called}
use Rattle.st_query.specs.declared.term.Term.{Term}
use Rattle.st_query.specs.declared.term.Variable.{Variable}
use Rattle.st_query.specs.Terms.{literal_value, variable_value}
use Rattle.st_query.specs.Ways.{Start, Written, Named, Way, way}
use Rattle.st_state.specs.State.{State, values_at, value_at, turned}
pub use Rattle.st_meaning.specs.declared.meaning.Meaning.{Meaning}
pub use Rattle.st_meaning.specs.declared.meaning.Meaning.TheVariants.{Single, Set}

-- the value where there is one; a set is no value
abbrev pub single : Meaning → Value
single (Single v) = v
single (Set _) = value.Null

-- the value of an entity's attribute, or its set; over null it is null or the empty set
abbrev pub attribute_value : State → Attribute → Value → Meaning
attribute_value state a (value.Entity e) = if a.many then Set (values_at a.number e state.triples) else Single (value_at a.number e state.triples)
attribute_value state a _ = if a.many then Set [] else Single value.Null

-- the entities whose attribute has an entity as its value or in its set; over null there are none
abbrev pub inverse_value : State → Attribute → Value → Meaning
inverse_value state a (value.Entity e) = Set (map value.Entity (turned a.number (value.Entity e) state.triples))
inverse_value state a _ = Set []

-- a feature of a value
abbrev pub feature_value : State → Called Attribute → Value → Meaning
feature_value state Nothing v = Single value.Null
feature_value state (Own a) v = attribute_value state a v
feature_value state (Inverse a) v = inverse_value state a v

-- features of a value, the last one first
abbrev pub features_value : State → List (List ℕ) → Value → Meaning
features_value state [] v = Single v
features_value state (name ∷ names) v = feature_value state (called state.schema name) (single (features_value state names v))

-- what a term begins with
abbrev pub start_value : State → List Variable → Start → Value
start_value state variables (Written written) = literal_value state.schema written
start_value state variables (Named name) = variable_value variables name

abbrev pub way_meaning : State → List Variable → Way → Meaning
way_meaning state variables w = features_value state w.features (start_value state variables w.start)

-- what a term stands for in a state, with these variables
unfoldable pub term_meaning : State → List Variable → Term → Meaning
term_meaning state variables term = way_meaning state variables (way term)

-- the value that a term stands for, where a single value is wanted
abbrev pub term_value : State → List Variable → Term → Value
term_value state variables term = single (term_meaning state variables term)
