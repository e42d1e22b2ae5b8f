use Rattle.std.proofs.Common.{List, sym, ap, subst, ◌∙◌}
use Rattle.st_state.specs.declared.triple.Triple.{Triple}
use Rattle.st_triples.specs.Columns.{triples_of, IsPart}
use Rattle.st_triples.proofs.OnePart.{any-same-part}
use Rattle.st_triples.proofs.triples.Triples.has.Goals as goal

pub returns : goal.returns
returns c =
    let a = c.args.attribute in
    let cells = c.cells_of.result.now in
    let triples = c.args.self.now.triples in
    let W : List Triple → Type 0 = IsPart a cells in
    let w = subst W (ap triples_of c.deref.ensures.value ∙ ap (λ m. m.triples) c.self.view_is) c.cells_of.ensures in
    c.has.ensures ∙ sym (any-same-part a cells triples w c.args.entity c.args.value.now)
