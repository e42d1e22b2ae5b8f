use Rattle.st_new_database.proofs.Written.{written-page}
use Rattle.st_new_database.proofs.page.chain_page.Goals as goal

pub returns : goal.returns
returns c = rw (c.write.ensures, c.set_next.ensures, c.set_count.ensures, c.set_kind.ensures, c.blank-page.ensures) (written-page c.args.kind c.args.count c.args.next c.args.piece.now)
