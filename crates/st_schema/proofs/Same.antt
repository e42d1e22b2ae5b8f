-- Written schemas that are the same but for places, and for options that change nothing.
use Rattle.std.proofs.Common.{◌≡◌, List, [], ◌∷◌}
use Rattle.st_schema.specs.declared.written.AttributeForm.{AttributeForm}
use Rattle.st_schema.specs.declared.written.TypeForm.{TypeForm}
use Rattle.st_schema.specs.declared.written.Written.{Written}
use Rattle.st_schema.proofs.Text.{settings, kept_of}

-- an attribute as its text is read again
pub record IsAttribute (a again : AttributeForm) : Type 0 where
  pub name : again.name ≡ a.name
  pub worded : again.worded ≡ a.worded
  pub many : again.many ≡ a.many
  pub options : settings again.choices ≡ kept_of a.choices

abbrev pub AreAttributes : List AttributeForm → List AttributeForm → Type 0
AreAttributes [] [] = Unit {0}
AreAttributes [] (b ∷ again) = ⊥
AreAttributes (a ∷ attributes) [] = ⊥
AreAttributes (a ∷ attributes) (b ∷ again) = IsAttribute a b × AreAttributes attributes again

pub record IsType (t again : TypeForm) : Type 0 where
  pub name : again.name ≡ t.name
  pub parents : again.parents ≡ t.parents
  pub attributes : AreAttributes t.attributes again.attributes

abbrev pub AreTypes : List TypeForm → List TypeForm → Type 0
AreTypes [] [] = Unit {0}
AreTypes [] (u ∷ again) = ⊥
AreTypes (t ∷ types) [] = ⊥
AreTypes (t ∷ types) (u ∷ again) = IsType t u × AreTypes types again

pub record IsWritten (w again : Written) : Type 0 where
  pub name : again.name ≡ w.name
  pub types : AreTypes w.types again.types
