use Rattle.std.proofs.Common.{◌≡◌, ◌∙◌, ap, sym}
use Rattle.st_lines.proofs.Each.{each-answered, routes-read}
use Rattle.st_lines.proofs.query.for_each.Goals as goal

pub returns-clause-looks : goal.returns-clause-looks
returns-clause-looks g c = λ w s agrees stands checked of.
    let same : c.args.schema.now ≡ s.schema = c.requires ∙ sym (g.met.B.Base.stands_with_schema _ w s stands) in
    each-answered (λ lines text. lines ≡ text) _ _ _ s c.args.variables.now c.args.query.now c.args.entities.now c.type_names.result.now c.as_slice-3.result.now c.query_tails.result checked of
    (c.type_names.ensures ∙ ap (λ schema. schema.names) same)
    (c.as_slice-3.ensures.value ∙ c.in_ok-shown.ensures.value
    ∙ routes-read c.args.schema.now s.schema c.args.variables.now c.args.query.now c.as_slice.result.now c.as_slice-2.result.now same c.as_slice.ensures.value c.as_slice-2.ensures)
    (c.query_tails.ensures.looks w s agrees stands)
