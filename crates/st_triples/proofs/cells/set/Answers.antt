use Rattle.std.proofs.Common.{◌≡◌, ◌<◌, ◌+◌, List, set, ap, subst, ◌∙◌, arith}
use Rattle.std.specs.Prelude.{not, filter, insert}
use Rattle.std.specs.List.{remove_range}
use Rattle.st_values.specs.declared.value.Value.TheVariants.{Null}
use Rattle.st_state.specs.declared.triple.Triple.{Triple}
use Rattle.st_state.specs.State.{is_at, triple_before, with_triple}
use Rattle.st_triples.specs.Marked.{triple_of}
use Rattle.st_triples.specs.Parts.{IsPlace, IsRun}
use Rattle.st_triples.proofs.Runs.{set-inserted, set-replaced}
use Rattle.st_triples.proofs.Changes.{ok-then}
use Rattle.st_triples.proofs.cells.set.Goals as goal

pub returns-then-run-clause-ok : goal.returns-then-run-clause-ok
returns-then-run-clause-ok c =
    let a = c.args.triple.attribute in
    let e = c.args.triple.entity in
    let v = c.args.triple.value in
    let old = c.args.cells.now.items in
    let from = c.run_of-run.result.from in
    let to = c.run_of-run.result.to in
    let P : List Triple → Type 0 = λ z. IsRun (is_at a e) z from to in
    let Q : List Triple → Type 0 = λ z. IsPlace (λ u. triple_before u (triple_of a e Null)) z from in
    let run = subst P c.as_slice.ensures c.run_of-run.ensures.run in
    let at = subst Q c.as_slice.ensures c.run_of-run.ensures.place in
    let new = c.insert.new.self.items in
    ok-then c.insert.result (new ≡ insert old from c.args.triple) (new ≡ with_triple c.args.triple (filter (λ u. not (is_at a e u)) old))
    (λ is. is ∙ set-inserted a e old c.requires from at to run v c.if-run.true) c.insert.ensures.ok

pub returns-clause-ok : goal.returns-clause-ok
returns-clause-ok c =
    let a = c.args.triple.attribute in
    let e = c.args.triple.entity in
    let v = c.args.triple.value in
    let old = c.args.cells.now.items in
    let from = c.run_of-run.result.from in
    let to = c.run_of-run.result.to in
    let P : List Triple → Type 0 = λ z. IsRun (is_at a e) z from to in
    let Q : List Triple → Type 0 = λ z. IsPlace (λ u. triple_before u (triple_of a e Null)) z from in
    let run = subst P c.as_slice.ensures c.run_of-run.ensures.run in
    let at = subst Q c.as_slice.ensures c.run_of-run.ensures.place in
    let o = run.ordered in
    let lt : from < to = omega arith in
    c.remove_range.ensures.items
    ∙ ap (λ z. remove_range z (from + 1) to) (c.replace.ensures.items ∙ ap (λ z. set z from c.args.triple) c.make_room.ensures.items)
    ∙ set-replaced a e old c.requires from at to run v lt
