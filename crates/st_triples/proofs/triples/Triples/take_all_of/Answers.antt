use Rattle.std.proofs.Common.{◌≡◌, map, not, ap, ◌∙◌}
use Rattle.std.specs.Prelude.{filter}
use Rattle.st_state.specs.State.{speaks_of}
use Rattle.st_triples.specs.Columns.{triples_of}
use Rattle.st_triples.specs.Steps.{bare, rid_of}
use Rattle.st_triples.proofs.Changes.{ok-then, err-then}
use Rattle.st_triples.proofs.Steps.{either-in_order, either-mark, rid-triples, bare-triples}
use Rattle.st_triples.proofs.triples.Triples.take_all_of.Goals as goal

pub invariant_of-self : goal.invariant_of-self
invariant_of-self c =
    either-in_order c.take_all_of.result c.self.inside.columns.items c.take_all_of.new.columns.items c.self.invariant c.args.entity c.take_all_of.ensures.ok c.take_all_of.ensures.err

pub returns-clause-mark : goal.returns-clause-mark
returns-clause-mark c =
    either-mark c.take_all_of.result c.self.inside.columns.items c.take_all_of.new.columns.items c.self.invariant c.args.entity c.take_all_of.ensures.ok c.take_all_of.ensures.err
    ∙ ap (λ m. m.mark) c.self.view_is

pub returns-clause-ok : goal.returns-clause-ok
returns-clause-ok c =
    let xs = c.self.inside.columns.items in
    let ys = c.take_all_of.new.columns.items in
    ok-then c.take_all_of.result (map bare ys ≡ map (rid_of c.args.entity) xs) (triples_of ys ≡ filter (λ t. not (speaks_of c.args.entity t)) c.args.self.now.triples)
    (λ e. rid-triples xs ys c.self.invariant c.args.entity e ∙ ap (λ m. filter (λ t. not (speaks_of c.args.entity t)) m.triples) c.self.view_is) c.take_all_of.ensures.ok

pub returns-clause-err : goal.returns-clause-err
returns-clause-err c =
    let xs = c.self.inside.columns.items in
    let ys = c.take_all_of.new.columns.items in
    err-then c.take_all_of.result (map bare ys ≡ map bare xs) (triples_of ys ≡ c.args.self.now.triples)
    (λ e. bare-triples xs ys c.self.invariant e ∙ ap (λ m. m.triples) c.self.view_is) c.take_all_of.ensures.err
