-- A database behind a setting of a single value.
use Rattle.std.specs.Prelude.{◌≡◌, ℕ, ◌∷◌, true, false, List, pos, filter, find, slice_get, slice_set, slice_index_or, Some, None, ⊤}
use Rattle.st_values.specs.declared.value.EntityId.{EntityId}
use Rattle.st_values.specs.declared.value.Kind.{Kind}
use Rattle.st_values.specs.declared.value.Value.{Value}
use Rattle.st_values.specs.declared.value.Value.TheVariants.{Int, Null}
use Rattle.st_lattice.specs.declared.attribute.Attribute.{Attribute}
use Rattle.st_lattice.specs.Outline.{Outline}
use Rattle.st_lattice.specs.Lattice.{attributes_in, isa}
use Rattle.st_state.specs.State.{State, is_live, turned}
use Rattle.st_state.specs.Bases.{is_other}
use Rattle.st_state.specs.Calls.{CanBe}
use Rattle.st_rows.specs.Rows.{AreHeld, cell_fields, row, row_fields}
use Rattle.st_store.specs.Rows.{with_row}
use Rattle.st_index.specs.Turned.{IsLike, IsOrNull}
use Rattle.st_database.specs.Database.{View, with_rows}
use Rattle.st_lookups.specs.Looks.{is_cell}

-- the row of an entity with these cells
abbrev pub its_row : Outline → EntityId → List Value → List ℕ
its_row schema entity cells = row (row_fields schema entity.ty) (Int (pos entity.serial) ∷ cells)

-- the rows of its extent, which is this store, have this one in place of the entity's
abbrev pub put_view : Outline → ℕ → EntityId → List Value → View → View
put_view schema store entity cells view = with_rows store (with_row 4 (its_row schema entity cells) (view.rows store)) view

-- a value is null, or is of a kind and fits it but for what the program's types say
abbrev pub IsLikeOrNull : Kind → Value → Type 0
IsLikeOrNull kind Null = ⊤
IsLikeOrNull kind value = IsLike kind value

-- the cell of an attribute stands at an index in the rows of a type
abbrev pub IsCellAt : Outline → ℕ → Attribute → ℕ → Type 0
IsCellAt schema ty a index = slice_get (filter is_cell (attributes_in schema ty)) index ≡ Some a

-- cells of a row of a type with a value in place of an attribute's, and the value that was there
pub record IsReplaced (schema : Outline) (ty : ℕ) (a : Attribute) (cells : List Value) (value : Value) (new : List Value) (old : Value) : Type 0 where
  pub index : ℕ
  pub there : IsCellAt schema ty a index
  pub new_is : new ≡ slice_set cells index value
  pub old_is : old ≡ slice_index_or cells index Null
  pub held : AreHeld (cell_fields schema ty) new
  pub old_fits : IsOrNull a.kind old
  pub new_fits : IsOrNull a.kind value

-- an entity is live and has an attribute with single values, which can be set to a value
pub record IsToBeSet (s : State) (e : EntityId) (a : Attribute) (v : Value) : Type 0 where
  pub live : is_live s e ≡ true
  pub owner : isa s.schema e.ty a.owner ≡ true
  pub one : a.many ≡ false
  pub fits : CanBe s a.number v

-- no other entity has the value of an attribute, where it is unique
abbrev pub IsFreeFor : State → EntityId → Attribute → Value → Type 0
IsFreeFor s e a v = a.unique ≡ true → find (is_other (Some e)) (turned a.number v s.triples) ≡ None
