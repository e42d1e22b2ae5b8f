use Rattle.std.proofs.Common.{◌≡◌, List, map, ap, subst, ◌∙◌}
use Rattle.st_triples.specs.declared.column.Column.{Column}
use Rattle.st_triples.specs.Steps.{bare, marked}
use Rattle.st_triples.proofs.Steps.{marked-in_order, marked-triples, marked-mark}
use Rattle.st_triples.proofs.triples.Triples.copy.Goals as goal

pub invariant_of-result : goal.invariant_of-result
invariant_of-result c =
    let ys = c.in_ok-copy.field-0.items in
    let P : List Column → Type 0 = λ z. map bare ys ≡ map marked z in
    marked-in_order c.self.inside.columns.items ys c.self.invariant (subst P c.deref.ensures.value c.in_ok-copy.ensures)

pub returns : goal.returns
returns c =
    let xs = c.self.inside.columns.items in
    let ys = c.in_ok-copy.field-0.items in
    let P : List Column → Type 0 = λ z. map bare ys ≡ map marked z in
    let copied = subst P c.deref.ensures.value c.in_ok-copy.ensures in
    let was = ap (λ m. m.triples) c.self.view_is in
    let now = marked-triples xs ys c.self.invariant copied ∙ was in
    let mark = marked-mark xs ys c.self.invariant copied ∙ was in
    λ i. record { triples = now i; mark = mark i }
