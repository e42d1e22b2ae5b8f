use Rattle.std.proofs.Common.{◌∙◌}
use Rattle.st_triples.proofs.Steps.{rid-bare}
use Rattle.st_triples.proofs.whole.take_all_of.Goals as goal

pub returns-clause-ok : goal.returns-clause-ok
returns-clause-ok c = c.sift.ensures ∙ rid-bare c.args.entity c.args.columns.now.items c.make_room.new.columns.items c.make_room.ensures.same
