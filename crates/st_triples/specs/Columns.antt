-- Triples by attribute: a column for each attribute that has some, or had some.
use Rattle.std.specs.Prelude.{◌≡◌, ℕ, ◌+◌, ◌<◌, ◌≤◌, Bool, ◌&&◌, ◌==◌, nat_lt, List, ◌++◌, length, take, drop, slice_index_or, IsTrue}
use Rattle.std.specs.List.{list_all, flat_map}
use Rattle.st_values.specs.Arranged.{ascends}
use Rattle.st_state.specs.declared.triple.Triple.{Triple}
use Rattle.st_state.specs.State.{triple_before}
use Rattle.st_triples.specs.declared.column.Column.{Column}

-- the triples of all columns, one column after another
abbrev pub triples_of : List Column → List Triple
triples_of columns = flat_map (λ c. c.cells.items) columns

-- the same at the mark
abbrev pub marked_of : List Column → List Triple
marked_of columns = flat_map (λ c. c.cells.mark) columns

abbrev pub column_before : Column → Column → Bool
column_before a b = nat_lt a.attribute b.attribute

-- whether triples may stand in the column of an attribute: they are of it, and in order
abbrev pub fill : ℕ → List Triple → Bool
fill attribute triples = list_all (λ t. t.attribute == attribute) triples && ascends triple_before triples

-- columns in the order of their attributes, none of them twice, each with triples that may stand in it, now and at the mark
pub record AreInOrder (columns : List Column) : Type 0 where
  pub ascend : IsTrue (ascends column_before columns)
  pub now : IsTrue (list_all (λ c. fill c.attribute c.cells.items) columns)
  pub mark : IsTrue (list_all (λ c. fill c.attribute c.cells.mark) columns)

-- the column of an attribute stands at a place
pub record IsColumnAt (attribute : ℕ) (columns : List Column) (place : ℕ) : Type 0 where
  pub within : place < length columns
  pub is : (d : Column) → (slice_index_or columns place d).attribute ≡ attribute
  pub front : IsTrue (list_all (λ c. nat_lt c.attribute attribute) (take place columns))
  pub back : IsTrue (list_all (λ c. nat_lt attribute c.attribute) (drop (place + 1) columns))

-- an attribute has no column, and a place is where it goes
pub record IsGapAt (attribute : ℕ) (columns : List Column) (place : ℕ) : Type 0 where
  pub within : place ≤ length columns
  pub front : IsTrue (list_all (λ c. nat_lt c.attribute attribute) (take place columns))
  pub back : IsTrue (list_all (λ c. nat_lt attribute c.attribute) (drop place columns))

-- triples in order that are all of an attribute that there are: those in front of them are of lower attributes, and those
-- behind them of higher ones
pub record IsPart (attribute : ℕ) (cells triples : List Triple) : Type 0 where
  pub front : List Triple
  pub back : List Triple
  pub whole : triples ≡ front ++ (cells ++ back)
  pub lower : IsTrue (list_all (λ t. nat_lt t.attribute attribute) front)
  pub higher : IsTrue (list_all (λ t. nat_lt attribute t.attribute) back)
  pub in_order : IsTrue (ascends triple_before cells)
