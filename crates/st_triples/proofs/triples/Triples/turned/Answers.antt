use Rattle.std.proofs.Common.{◌≡◌, List, sym, ap, subst, ◌∙◌}
use Rattle.std.specs.Prelude.{IfOk}
use Rattle.st_values.specs.declared.value.EntityId.{EntityId}
use Rattle.st_state.specs.declared.triple.Triple.{Triple}
use Rattle.st_triples.specs.Columns.{triples_of, IsPart}
use Rattle.st_triples.proofs.OnePart.{turned-part}
use Rattle.st_triples.proofs.triples.Triples.turned.Goals as goal

pub returns : goal.returns
returns c =
    let a = c.args.attribute in
    let cells = c.cells_of.result.now in
    let triples = c.args.self.now.triples in
    let W : List Triple → Type 0 = IsPart a cells in
    let w = subst W (ap triples_of c.deref.ensures.value ∙ ap (λ m. m.triples) c.self.view_is) c.cells_of.ensures in
    let P : List EntityId → Type 0 = λ v. IfOk c.turned.result (λ x. x ≡ v) in
    subst P (sym (turned-part a cells triples w c.args.value.now)) c.turned.ensures
