use Rattle.std.proofs.Common.{List, not, refl}
use Rattle.std.specs.Prelude.{filter}
use Rattle.st_state.specs.declared.triple.Triple.{Triple}
use Rattle.st_triples.specs.declared.column.Column.{Column}
use Rattle.st_state.specs.State.{is_at}
use Rattle.st_triples.specs.Columns.{triples_of}
use Rattle.st_triples.proofs.Runs.{fill-filter}
use Rattle.st_triples.proofs.OnePart.{clear-part}
use Rattle.st_triples.proofs.Flat.{column-part}
use Rattle.st_triples.proofs.Changes.{at-in_order, at-mark, at-err, at-ok}
use Rattle.st_triples.proofs.columns.clear_at.Goals as goal

pub returns-clause-in_order : goal.returns-clause-in_order
returns-clause-in_order c =
    let a = c.args.attribute in
    let cs = c.args.columns.now.items in
    let old : Column = c.index_mut.result.now in
    let new : Column = record { attribute = old.attribute; cells = c.clear.new.cells } in
    let change : List Triple → List Triple = filter (λ t. not (is_at a c.args.entity t)) in
    at-in_order a cs c.requires.in_order c.args.place c.requires.there old new c.index_mut.ensures.value refl c.clear.ensures.mark c.clear.result change c.clear.ensures.ok c.clear.ensures.err
    (λ f. fill-filter a old.cells.items f (λ t. not (is_at a c.args.entity t)))

pub returns-clause-err : goal.returns-clause-err
returns-clause-err c =
    let a = c.args.attribute in
    let cs = c.args.columns.now.items in
    let old : Column = c.index_mut.result.now in
    let new : Column = record { attribute = old.attribute; cells = c.clear.new.cells } in
    let change : List Triple → List Triple = filter (λ t. not (is_at a c.args.entity t)) in
    at-err a cs c.requires.in_order c.args.place c.requires.there old new c.index_mut.ensures.value refl c.clear.ensures.mark c.clear.result change c.clear.ensures.ok c.clear.ensures.err
    (λ f. fill-filter a old.cells.items f (λ t. not (is_at a c.args.entity t)))

pub returns-clause-mark : goal.returns-clause-mark
returns-clause-mark c =
    let a = c.args.attribute in
    let cs = c.args.columns.now.items in
    let old : Column = c.index_mut.result.now in
    let new : Column = record { attribute = old.attribute; cells = c.clear.new.cells } in
    let change : List Triple → List Triple = filter (λ t. not (is_at a c.args.entity t)) in
    at-mark a cs c.requires.in_order c.args.place c.requires.there old new c.index_mut.ensures.value refl c.clear.ensures.mark c.clear.result change c.clear.ensures.ok c.clear.ensures.err
    (λ f. fill-filter a old.cells.items f (λ t. not (is_at a c.args.entity t)))

pub returns-clause-ok : goal.returns-clause-ok
returns-clause-ok c =
    let a = c.args.attribute in
    let cs = c.args.columns.now.items in
    let old : Column = c.index_mut.result.now in
    let new : Column = record { attribute = old.attribute; cells = c.clear.new.cells } in
    let change : List Triple → List Triple = filter (λ t. not (is_at a c.args.entity t)) in
    at-ok a cs c.requires.in_order c.args.place c.requires.there old new c.index_mut.ensures.value refl c.clear.ensures.mark c.clear.result change c.clear.ensures.ok c.clear.ensures.err
    (λ f. fill-filter a old.cells.items f (λ t. not (is_at a c.args.entity t)))
    (clear-part a old.cells.items (triples_of cs) (column-part a cs c.requires.in_order c.args.place c.requires.there old c.index_mut.ensures.value) c.args.entity)
