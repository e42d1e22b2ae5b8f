use Rattle.std.proofs.Common.{length, ap, sym, ◌∙◌}
use Rattle.std.proofs.lemmas.List.FromFn.{length-range_with_len}
use Rattle.st_new_database.proofs.database.new_database.Goals as goal

pub push_chains-requires-clause-firsts : goal.push_chains-requires-clause-firsts
push_chains-requires-clause-firsts c =
    ap length (c.as_slice-3.ensures.value ∙ c.in_ok-firsts.ensures) ∙ length-range_with_len _ c.len-3.result ∙ c.len-3.ensures ∙ sym (ap length c.as_slice-2.ensures)
