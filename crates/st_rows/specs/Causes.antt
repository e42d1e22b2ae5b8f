-- When bytes are no row, as the faults say it.
use Rattle.std.specs.Prelude.{◌≡◌, ℕ, ◌+◌, ◌-◌, ◌^◌, ◌<◌, ◌≤◌, List, [], ◌∷◌, ◌++◌, take, drop, ⊤}
use Rattle.st_values.specs.declared.value.Value.{Value}
use Rattle.st_keys.specs.declared.fault.KeyFault.{KeyFault}
use Rattle.st_keys.specs.declared.fault.KeyFault.TheVariants as key
use Rattle.st_rows.specs.declared.field.Field.{Field}
use Rattle.st_rows.specs.declared.fault.RowFault.{RowFault}
use Rattle.st_rows.specs.declared.fault.RowFault.TheVariants.{BadRow, Memory}
use Rattle.st_rows.specs.Rows.{field_width, Holds, spelled, IsRefused, RowRefused}

-- why a field doesn't take bytes: it refuses them at a place, or there is no memory
abbrev pub IsFieldCause : Field → List ℕ → RowFault → Type 0
IsFieldCause field bytes (BadRow place) = IsRefused field bytes place
IsFieldCause field bytes Memory = ⊤

-- why bytes give no row of fields: the fields refuse them at a place, or there is no memory
abbrev pub IsRowCause : List Field → List ℕ → RowFault → Type 0
IsRowCause fields bytes (BadRow place) = RowRefused fields bytes place
IsRowCause fields bytes Memory = ⊤

-- the fault of a key that is a whole field
abbrev pub of_key : KeyFault → RowFault
of_key (key.BadKey place) = BadRow place
of_key key.Memory = Memory

-- a fault with its place behind so many bytes more
abbrev pub moved : RowFault → ℕ → RowFault
moved (BadRow place) by = BadRow (place + by)
moved Memory by = Memory

-- the place of a fault fits 16 bits there
abbrev pub PlaceFits : RowFault → ℕ → Type 0
PlaceFits (BadRow place) by = place + by < 2 ^ 16
PlaceFits Memory by = by < 2 ^ 16

-- why a field that begins at a byte doesn't take its bytes: it refuses them, at a place among all bytes
abbrev pub IsCauseAt : Field → List ℕ → ℕ → RowFault → Type 0
IsCauseAt field bytes start (BadRow place) =
    (start ≤ place) × IsRefused field (take (field_width field) (drop start bytes)) (place - start)
IsCauseAt field bytes start Memory = ⊤

-- values have one more at the end, which the field that begins at a byte holds and has there
abbrev pub IsPushed : Field → List ℕ → ℕ → List Value → List Value → Type 0
IsPushed field bytes start old new =
    (value : Value) × Holds field value × (spelled field value ≡ take (field_width field) (drop start bytes)) × (new ≡ old ++ value ∷ [])
