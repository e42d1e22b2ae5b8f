use Rattle.st_lattice.proofs.Tables.{put_found}
use Rattle.st_lattice.proofs.table.put.Goals as goal

pub returns : goal.returns
returns c = λ other. rw c.in_ok-insert.ensures.entries (put_found c.args.table.now.entries c.args.name c.args.feature other)
