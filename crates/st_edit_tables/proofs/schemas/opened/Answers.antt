use Rattle.st_pages.specs.Attempt.{over}
use Rattle.st_edit_tables.proofs.Agreeing.{seen_array, seen-agrees}
use Rattle.st_edit_tables.proofs.schemas.opened.Goals as goal

pub returns-in-Ok-clause-of : goal.returns-in-Ok-clause-of
returns-in-Ok-clause-of g c =
    let new = g.P.Pages.attempt c.read_database.new.pages in
    (c.in-Ok.ensures.has (seen_array new) (seen-agrees new)).names.of

pub returns-in-Ok-clause-fair : goal.returns-in-Ok-clause-fair
returns-in-Ok-clause-fair g c =
    let new = g.P.Pages.attempt c.read_database.new.pages in
    let array = over (g.P.Pages.attempt c.args.pages.now) (seen_array new) in
    c.laws_of_places.ensures.fair array c.in-Ok.found.0 c.in-Ok.found.1 (c.in-Ok.ensures.has (seen_array new) (seen-agrees new))
