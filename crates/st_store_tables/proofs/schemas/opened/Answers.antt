use Rattle.st_store_tables.proofs.Agreeing.{seen_array, seen-agrees}
use Rattle.st_store_tables.proofs.schemas.opened.Goals as goal

pub returns-then-are_places-clause-of : goal.returns-then-are_places-clause-of
returns-then-are_places-clause-of g c =
    let new = g.P.Pages.attempt c.read_database.new.pages in
    (c.in-Ok.ensures.has (seen_array new) (seen-agrees new)).names.of
