-- The state is legal, and such as the program has.
use Rattle.std.proofs.Common.{◌≡◌, ◌^◌, ◌<◌, [], ◌∷◌, Some, refl, subst, arith}
use Rattle.std.specs.Prelude.{codes, FitsSigned, pos}
use Rattle.std.specs.Int.{w64}
use Rattle.std.specs.Str.{IsUtf8}
use Rattle.std.proofs.lemmas.List.Elements.{All-cons, All-nil}
use Rattle.std.proofs.lemmas.Str.{IsUtf8-from_ascii}
use Rattle.std.proofs.lemmas.Str.Ascii.{IsAscii-cons, IsAscii-nil}
use Rattle.st_lattice.specs.declared.attribute.Attribute.{Attribute}
use Rattle.st_lattice.specs.Outline.{IsOrderly}
use Rattle.st_lattice.specs.Consistent.{IsConsistent}
use Rattle.st_values.specs.declared.value.Value.{Value}
use Rattle.st_keys.specs.Keys.{Fits, IsEntity}
use Rattle.st_state.specs.Legal.{IsLegal}
use Rattle.st_standing.specs.Standing.{FitsOne, IsOfProgram}
use Rattle.st_standing_example.specs.Ada.{ada, ada_state, age_attribute, age_of_ada, name_attribute, name_of_ada, tiny}

pub legal : IsOrderly tiny → IsConsistent tiny → IsLegal ada_state
legal orderly consistent = record {
  nearly = record {
    orderly = orderly;
    consistent = consistent;
    counts = refl;
    live_ascends = refl;
    triples_ascend = refl;
    counted = refl;
    sound = refl;
    single = refl;
    unique = refl;
  };
  filled = refl;
}

letters : IsUtf8 (codes "Ada")
letters = IsUtf8-from_ascii (codes "Ada") (IsAscii-cons 65 (codes "da") (omega arith) (IsAscii-cons 100 (codes "a") (omega arith) (IsAscii-cons 97 [] (omega arith) IsAscii-nil)))

some-fits : (a : Attribute) (value : Value) → Fits a.kind value → (x : Attribute) → Some a ≡ Some x → Fits x.kind value
some-fits a value h x e = let same : a ≡ x = cc in subst (λ (b : Attribute). Fits b.kind value) same h

fits : FitsSigned w64 (pos 36)
fits = omega arith

pub of-program : IsOfProgram ada_state
of-program = record {
  entities = All-cons IsEntity ada [] (omega arith, omega arith, omega arith) (All-nil IsEntity);
  values =
      All-cons (FitsOne tiny) name_of_ada (age_of_ada ∷ []) (some-fits name_attribute name_of_ada.value (omega arith, letters))
      (All-cons (FitsOne tiny) age_of_ada [] (some-fits age_attribute age_of_ada.value fits) (All-nil (FitsOne tiny)));
  serials = All-cons (λ serial. serial < 2 ^ 32) 1 [] (omega arith) (All-nil (λ serial. serial < 2 ^ 32));
}
