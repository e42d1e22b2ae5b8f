-- What a qualified name calls.
use Rattle.std.specs.Prelude.{ℕ, List, Option, Some, None}
use Rattle.std.specs.Borrow.{Bor}
use Rattle.st_lattice.specs.declared.attribute.Attribute.{Attribute}
use Rattle.st_lattice.specs.declared.called.Called.{Called}
use Rattle.st_lattice.specs.declared.called.Called.TheVariants.{Nothing, Own, Inverse}
use Rattle.st_lattice.specs.declared.feature.Feature.{Feature}
use Rattle.st_lattice.specs.declared.feature.Feature.TheVariants as feature
use Rattle.st_lattice.specs.Outline.{Outline, attribute}
use Rattle.st_lattice.specs.Features.{lookup}

-- an attribute, if there is one
abbrev pub own : Option Attribute → Called Attribute
own None = Nothing
own (Some a) = Own a

-- the inverse of an attribute, if there is one
abbrev pub inverse : Option Attribute → Called Attribute
inverse None = Nothing
inverse (Some a) = Inverse a

-- the attribute of a feature, or the inverse of it
abbrev pub called_by : Outline → Option Feature → Called Attribute
called_by schema None = Nothing
called_by schema (Some (feature.Attribute number)) = own (attribute schema number)
called_by schema (Some (feature.Inverse number)) = inverse (attribute schema number)

-- what a qualified name calls: nothing, an attribute, or the inverse of one
abbrev pub called : Outline → List ℕ → Called Attribute
called schema name = called_by schema (lookup schema name)

-- what is called, where references stand for it
abbrev pub called_copied : {A : Type 0} → Called (Bor A) → Called A
called_copied Nothing = Nothing
called_copied (Own a) = Own a.now
called_copied (Inverse a) = Inverse a.now
