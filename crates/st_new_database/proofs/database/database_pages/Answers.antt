use Rattle.std.proofs.Common.{length, ap, arith}
use Rattle.st_new_database.proofs.Chained.{few-pages}
use Rattle.st_new_database.proofs.database.database_pages.Goals as goal

pub returns-clause-few : goal.returns-clause-few
returns-clause-few c =
    few-pages c.as_slice.result.now c.as_slice-2.result.now c.args.firsts.now c.new-pages.result.items c.push_chains.new.pages.items c.new-pages.ensures.items c.in_ok-push_chains.ensures
    (omega (arith, ap length c.as_slice.ensures.value, c.in_ok-bytes.ensures.few)) (omega (arith, ap length c.as_slice-2.ensures, c.in_ok-stores.ensures.few))
