use Rattle.std.proofs.Common.{ap, ◌∙◌}
use Rattle.st_triples.proofs.Steps.{marked-in_order, marked-triples, marked-mark}
use Rattle.st_triples.proofs.triples.Triples.set_mark.Goals as goal

pub invariant_of-self : goal.invariant_of-self
invariant_of-self c = marked-in_order c.self.inside.columns.items c.set_mark.new.columns.items c.self.invariant c.set_mark.ensures

pub returns : goal.returns
returns c =
    let xs = c.self.inside.columns.items in
    let ys = c.set_mark.new.columns.items in
    let was = ap (λ m. m.triples) c.self.view_is in
    let now = marked-triples xs ys c.self.invariant c.set_mark.ensures ∙ was in
    let mark = marked-mark xs ys c.self.invariant c.set_mark.ensures ∙ was in
    λ i. record { triples = now i; mark = mark i }
