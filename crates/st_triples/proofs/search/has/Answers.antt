use Rattle.std.proofs.Common.{refl, sym, arith}
use Rattle.st_state.specs.State.{same_triple}
use Rattle.st_triples.specs.Marked.{triple_of}
use Rattle.st_triples.proofs.Parts.{some-run, empty-run}
use Rattle.st_triples.proofs.search.has.Goals as goal

pub returns-in-Ok : goal.returns-in-Ok
returns-in-Ok c = sym (some-run (same_triple (triple_of c.args.attribute c.args.entity c.args.value.now)) c.args.triples.now _ _ c.in-Ok.ensures.there (omega arith))

pub returns-in-Err : goal.returns-in-Err
returns-in-Err c = sym (empty-run (same_triple (triple_of c.args.attribute c.args.entity c.args.value.now)) c.args.triples.now _ _ c.in-Err.ensures.absent refl)
