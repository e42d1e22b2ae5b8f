use Rattle.std.proofs.Common.{ap, ◌∙◌}
use Rattle.st_triples.proofs.Steps.{rolled-in_order, rolled-triples, rolled-mark}
use Rattle.st_triples.proofs.triples.Triples.roll_back.Goals as goal

pub invariant_of-self : goal.invariant_of-self
invariant_of-self c = rolled-in_order c.self.inside.columns.items c.roll_back.new.columns.items c.self.invariant c.roll_back.ensures

pub returns : goal.returns
returns c =
    let xs = c.self.inside.columns.items in
    let ys = c.roll_back.new.columns.items in
    let was = ap (λ m. m.mark) c.self.view_is in
    let now = rolled-triples xs ys c.self.invariant c.roll_back.ensures ∙ was in
    let mark = rolled-mark xs ys c.self.invariant c.roll_back.ensures ∙ was in
    λ i. record { triples = now i; mark = mark i }
