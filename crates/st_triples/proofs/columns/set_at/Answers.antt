use Rattle.std.proofs.Common.{List, not, refl}
use Rattle.std.specs.Prelude.{filter}
use Rattle.st_state.specs.declared.triple.Triple.{Triple}
use Rattle.st_triples.specs.declared.column.Column.{Column}
use Rattle.st_state.specs.State.{is_at, with_triple}
use Rattle.st_triples.specs.Columns.{triples_of}
use Rattle.st_triples.proofs.Runs.{fill-set}
use Rattle.st_triples.proofs.OnePart.{set-part}
use Rattle.st_triples.proofs.Flat.{column-part}
use Rattle.st_triples.proofs.Changes.{at-in_order, at-mark, at-err, at-ok}
use Rattle.st_triples.proofs.columns.set_at.Goals as goal

pub returns-clause-in_order : goal.returns-clause-in_order
returns-clause-in_order c =
    let a = c.args.triple.attribute in
    let cs = c.args.columns.now.items in
    let old : Column = c.index_mut.result.now in
    let new : Column = record { attribute = old.attribute; cells = c.set.new.cells } in
    let change : List Triple → List Triple = λ ts. with_triple c.args.triple (filter (λ t. not (is_at a c.args.triple.entity t)) ts) in
    at-in_order a cs c.requires.in_order c.args.place c.requires.there old new c.index_mut.ensures.value refl c.set.ensures.mark c.set.result change c.set.ensures.ok c.set.ensures.err
    (λ f. fill-set a c.args.triple.entity c.args.triple.value old.cells.items f)

pub returns-clause-err : goal.returns-clause-err
returns-clause-err c =
    let a = c.args.triple.attribute in
    let cs = c.args.columns.now.items in
    let old : Column = c.index_mut.result.now in
    let new : Column = record { attribute = old.attribute; cells = c.set.new.cells } in
    let change : List Triple → List Triple = λ ts. with_triple c.args.triple (filter (λ t. not (is_at a c.args.triple.entity t)) ts) in
    at-err a cs c.requires.in_order c.args.place c.requires.there old new c.index_mut.ensures.value refl c.set.ensures.mark c.set.result change c.set.ensures.ok c.set.ensures.err
    (λ f. fill-set a c.args.triple.entity c.args.triple.value old.cells.items f)

pub returns-clause-mark : goal.returns-clause-mark
returns-clause-mark c =
    let a = c.args.triple.attribute in
    let cs = c.args.columns.now.items in
    let old : Column = c.index_mut.result.now in
    let new : Column = record { attribute = old.attribute; cells = c.set.new.cells } in
    let change : List Triple → List Triple = λ ts. with_triple c.args.triple (filter (λ t. not (is_at a c.args.triple.entity t)) ts) in
    at-mark a cs c.requires.in_order c.args.place c.requires.there old new c.index_mut.ensures.value refl c.set.ensures.mark c.set.result change c.set.ensures.ok c.set.ensures.err
    (λ f. fill-set a c.args.triple.entity c.args.triple.value old.cells.items f)

pub returns-clause-ok : goal.returns-clause-ok
returns-clause-ok c =
    let a = c.args.triple.attribute in
    let cs = c.args.columns.now.items in
    let old : Column = c.index_mut.result.now in
    let new : Column = record { attribute = old.attribute; cells = c.set.new.cells } in
    let change : List Triple → List Triple = λ ts. with_triple c.args.triple (filter (λ t. not (is_at a c.args.triple.entity t)) ts) in
    at-ok a cs c.requires.in_order c.args.place c.requires.there old new c.index_mut.ensures.value refl c.set.ensures.mark c.set.result change c.set.ensures.ok c.set.ensures.err
    (λ f. fill-set a c.args.triple.entity c.args.triple.value old.cells.items f)
    (set-part a old.cells.items (triples_of cs) (column-part a cs c.requires.in_order c.args.place c.requires.there old c.index_mut.ensures.value) c.args.triple.entity c.args.triple.value)
