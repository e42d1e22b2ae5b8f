use Rattle.std.proofs.Common.{◌<◌, [], ◌∷◌, refl, arith}
use Rattle.std.proofs.lemmas.List.Elements.{All-cons, All-nil}
use Rattle.st_standing_example.specs.Ada.{ada_pages, tiny}
use Rattle.st_standing_example.proofs.Readable.{readable}
use Rattle.st_standing_example.proofs.Schema.{pages-stand}
use Rattle.st_standing_example.proofs.Standing.{stands}
use Rattle.st_standing_example.proofs.example.example_stands.Goals as goal

pub returns : goal.returns
returns c =
    stands (c.laws_of_schemas.ensures.orderly readable.0 tiny readable.1) (c.laws_of_schemas.ensures.consistent readable.0 tiny readable.1)
    (c.laws_of_new_databases.ensures tiny (2 ∷ []) ada_pages readable refl (All-cons (λ f. f < 65536) 2 [] (omega arith) (All-nil (λ f. f < 65536))) pages-stand)
