-- The key of a value: the bytes by which it is stored and ordered. In a number the highest byte stands first.
use Rattle.std.specs.Prelude.{ℕ, suc, ◌+◌, ◌-◌, ◌^◌, ◌<◌, ◌≤◌, ℤ, pos, negsuc, FitsSigned, Bool, true, false, nat_lt, if◌then◌else◌, List, [], ◌∷◌, ◌++◌, length, replicate, IsUtf8, ⊤}
use Rattle.std.specs.Int.{w16, w32, w64, to_be_bytes}
use Rattle.st_values.specs.declared.value.EntityId.{EntityId}
use Rattle.st_values.specs.declared.value.Kind.{Kind}
use Rattle.st_values.specs.declared.value.Kind.TheVariants as kind
use Rattle.st_values.specs.declared.value.Value.{Value}
use Rattle.st_values.specs.declared.value.Value.TheVariants.{Int, Bool as Truth, Text, Entity}

-- how many bytes a key of a kind has
abbrev pub width : Kind → ℕ
width kind.Int = 8
width kind.Bool = 1
width (kind.Text limit) = limit + 1
width (kind.Entity _) = 6

-- whether a value is of a kind: null is of none, and an entity of any type is of each kind of entities
abbrev pub has_kind : Kind → Value → Bool
has_kind kind.Int (Int _) = true
has_kind kind.Bool (Truth _) = true
has_kind (kind.Text _) (Text _) = true
has_kind (kind.Entity _) (Entity _) = true
has_kind _ _ = false

-- an entity has a serial from 1 on. That a serial lies in 32 bits, and a type in 16, is what the types of the program say
abbrev pub IsEntity : EntityId → Type 0
IsEntity entity = (0 < entity.serial) × (entity.serial < 2 ^ 32) × (entity.ty < 2 ^ 16)

-- a value is of a kind and fits it: a text isn't longer than the kind takes, and an entity has a serial. That an integer
-- lies in 64 bits, and that a text is UTF-8, is what the types of the program say
abbrev pub Fits : Kind → Value → Type 0
Fits kind.Int (Int number) = FitsSigned w64 number
Fits kind.Bool (Truth _) = ⊤
Fits (kind.Text limit) (Text text) = (length text ≤ limit) × IsUtf8 text
Fits (kind.Entity _) (Entity entity) = IsEntity entity
Fits _ _ = ⊥

-- whether a value is no entity, or one with a serial
abbrev pub has_serial : Value → Bool
has_serial (Entity entity) = nat_lt 0 entity.serial
has_serial _ = true

-- an integer moved up by 2 ^ 63, so that the least stands at 0
abbrev pub raised : ℤ → ℕ
raised (pos n) = n + 2 ^ 63
raised (negsuc n) = 2 ^ 63 - suc n

-- a text, zeros up to the limit, and its length
abbrev pub text_key : ℕ → List ℕ → List ℕ
text_key limit text = text ++ replicate (limit - length text) 0 ++ length text ∷ []

-- the type of an entity, and its serial
abbrev pub entity_key : EntityId → List ℕ
entity_key entity = to_be_bytes w16 entity.ty ++ to_be_bytes w32 entity.serial

-- the key of a value under a kind that it has; there is none under any other
abbrev pub key : Kind → Value → List ℕ
key kind.Int (Int number) = to_be_bytes w64 (raised number)
key kind.Bool (Truth truth) = (if truth then 1 else 0) ∷ []
key (kind.Text limit) (Text text) = text_key limit text
key (kind.Entity _) (Entity entity) = entity_key entity
key _ _ = []
