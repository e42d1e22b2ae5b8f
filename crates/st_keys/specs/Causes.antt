-- When a value has no key, and bytes are none.
use Rattle.std.specs.Prelude.{◌≡◌, ◌≢◌, ℕ, ◌+◌, nat_lt, if◌then◌else◌, List, length, Option, Some, None, ⊤}
use Rattle.st_values.specs.declared.value.Kind.{Kind}
use Rattle.st_values.specs.declared.value.Kind.TheVariants as kind
use Rattle.st_values.specs.declared.value.Value.{Value}
use Rattle.st_values.specs.declared.value.Value.TheVariants.{Text}
use Rattle.st_keys.specs.declared.fault.ValueFault.{ValueFault}
use Rattle.st_keys.specs.declared.fault.ValueFault.TheVariants.{TextTooLong}
use Rattle.st_keys.specs.declared.fault.KeyFault.{KeyFault}
use Rattle.st_keys.specs.declared.fault.KeyFault.TheVariants.{BadKey, Memory}
use Rattle.st_keys.specs.Keys.{Fits, key, width}

-- the fault of a text that is longer than its kind's limit
abbrev pub too_long : Kind → Value → Option ValueFault
too_long (kind.Text limit) (Text text) = if nat_lt limit (length text) then Some (TextTooLong (length text) limit) else None
too_long _ _ = None

-- bytes are the key of no value that fits a kind
abbrev pub IsNoKey : Kind → List ℕ → Type 0
IsNoKey kind bytes = (value : Value) → Fits kind value → key kind value ≢ bytes

-- memory is taken for a text alone
abbrev pub TakesMemory : Kind → Type 0
TakesMemory (kind.Text _) = ⊤
TakesMemory _ = ⊥

-- why bytes give no value of a kind: they are no key, which is told at their last byte, or there is no memory
abbrev pub IsCause : Kind → List ℕ → KeyFault → Type 0
IsCause kind bytes (BadKey place) = IsNoKey kind bytes × (place + 1 ≡ width kind)
IsCause kind bytes Memory = TakesMemory kind
