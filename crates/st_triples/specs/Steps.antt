-- What a change of all columns makes of each one.
use Rattle.std.specs.Prelude.{Bool, not, nat_le, length, filter}
use Rattle.st_values.specs.declared.value.EntityId.{EntityId}
use Rattle.st_state.specs.State.{speaks_of}
use Rattle.st_triples.specs.declared.column.Column.{Column}

-- a column, whatever room it has
abbrev pub bare : Column → Column
bare c = record c { cells = record c.cells { room = 0 } }

-- marked as it is
abbrev pub marked : Column → Column
marked c = record c { cells = record { items = c.cells.items; mark = c.cells.items; room = 0 } }

-- gone back to its mark
abbrev pub rolled_back : Column → Column
rolled_back c = record c { cells = record { items = c.cells.mark; mark = c.cells.mark; room = 0 } }

-- without the triples that are of an entity or refer to it
abbrev pub rid_of : EntityId → Column → Column
rid_of entity c = record c { cells = record { items = filter (λ t. not (speaks_of entity t)) c.cells.items; mark = c.cells.mark; room = 0 } }

-- whether there is room to take these triples out
abbrev pub is_roomy : EntityId → Column → Bool
is_roomy entity c = nat_le (length (filter (speaks_of entity) c.cells.items)) c.cells.room
