use Rattle.std.proofs.Common.{rules, w64, SFits}
use Rattle.std.proofs.lemmas.Int.{to_z-of_z}
use Rattle.st_sexp.proofs.NestLemmas.{tokens_of_name_kind, tokens_of_number_kind, tokens_of_quoted_kind}
use Rattle.st_sexp.proofs.nest.Nest.put.Goals as goal

pub returns-in-Name-clause-tokens : goal.returns-in-Name-clause-tokens
returns-in-Name-clause-tokens c = rw (tokens_of_name_kind c.args.token c.in-Name.letters c.in-Name.is) at c.add.ensures.tokens

pub returns-in-Number-clause-tokens : goal.returns-in-Number-clause-tokens
returns-in-Number-clause-tokens c =
    let fits : SFits w64 c.in-Number.number = search rules in
    rw (to_z-of_z w64 c.in-Number.number fits, tokens_of_number_kind c.args.token c.in-Number.number c.in-Number.is) at c.add-in-Number.ensures.tokens

pub returns-in-Quoted-clause-tokens : goal.returns-in-Quoted-clause-tokens
returns-in-Quoted-clause-tokens c = rw (tokens_of_quoted_kind c.args.token c.in-Quoted.letters c.in-Quoted.is) at c.add-in-Quoted.ensures.tokens
