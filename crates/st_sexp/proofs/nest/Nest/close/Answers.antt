use Rattle.st_sexp.proofs.NestLemmas.{on_ok, places-push, tokens_at_close}
use Rattle.std.proofs.Common.{refl}
use Rattle.st_sexp.proofs.nest.Nest.close.Goals as goal

pub returns-in-Some-clause-tokens : goal.returns-in-Some-clause-tokens
returns-in-Some-clause-tokens c =
    rw (c.replace-forms.ensures.value, c.replace-forms.ensures.after, tokens_at_close c.args.self.now c.pop.new.self c.in-Some.level c.args.from c.args.to c.in-Some.ensures c.requires) at c.add.ensures.tokens

pub returns-in-Some-clause-opens : goal.returns-in-Some-clause-opens
returns-in-Some-clause-opens c = rw (c.in-Some.ensures, places-push, c.add.ensures.levels) (on_ok c.add.result _ refl)
