use Rattle.st_new_database.proofs.Written.{written-first}
use Rattle.st_new_database.proofs.page.first_page.Goals as goal

pub returns : goal.returns
returns c = rw (c.set_store.ensures, c.set_kind.ensures, c.blank-page.ensures) (written-first c.args.store)
