use Rattle.std.proofs.Common.{sym, subst, Ok}
use Rattle.st_sexp.specs.Reading.{Due}
use Rattle.st_schema_bytes.proofs.Same.{again, refused, found-is, found-short, other-err}
use Rattle.st_schema_bytes.proofs.decode.schema_of.Goals as goal

pub returns-clause-text : goal.returns-clause-text
returns-clause-text c = λ schema readable e.
    found-is c.schema_from.result c.as_slice.result.now schema c.schema_from.ensures.ok (again c.laws_of_canonical_texts.ensures.same c.laws_of_texts.ensures.no_other c.args.text.now schema c.as_slice.result.now readable e (subst (λ forms. Due c.args.text.now (Ok forms)) (sym c.as_slice.ensures) c.in-Ok.ensures.due))

pub returns-clause-none : goal.returns-clause-none
returns-clause-none c = λ none schema readable e.
    c.schema_from.ensures.none none schema (again c.laws_of_canonical_texts.ensures.same c.laws_of_texts.ensures.no_other c.args.text.now schema c.as_slice.result.now readable e (subst (λ forms. Due c.args.text.now (Ok forms)) (sym c.as_slice.ensures) c.in-Ok.ensures.due))

pub returns-clause-short : goal.returns-clause-short
returns-clause-short c = found-short c.laws_of_canonical_texts.ensures.short c.schema_from.result c.as_slice.result.now c.schema_from.ensures.ok

pub returns-in-Err-clause-none : goal.returns-in-Err-clause-none
returns-in-Err-clause-none c = λ none schema readable e.
    refused c.laws_of_canonical_texts.ensures.same c.laws_of_texts.ensures.no_other c.args.text.now (c.in-Err.ensures.none (other-err _ _ none)) schema readable e
