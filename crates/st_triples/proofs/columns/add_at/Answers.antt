use Rattle.std.proofs.Common.{◌≡◌, Bool, List, not, refl, sym, subst}
use Rattle.std.specs.Prelude.{IfOk}
use Rattle.st_state.specs.declared.triple.Triple.{Triple}
use Rattle.st_triples.specs.declared.column.Column.{Column}
use Rattle.st_state.specs.State.{triple_added}
use Rattle.st_triples.specs.Columns.{triples_of}
use Rattle.st_state.proofs.Changed.{number-itself}
use Rattle.st_triples.proofs.Runs.{fill-added}
use Rattle.st_triples.proofs.OnePart.{added-part, any-same-part}
use Rattle.st_triples.proofs.Flat.{column-part}
use Rattle.st_triples.proofs.Changes.{at-in_order, at-mark, at-err, at-ok}
use Rattle.st_triples.proofs.columns.add_at.Goals as goal

pub returns-clause-in_order : goal.returns-clause-in_order
returns-clause-in_order c =
    let a = c.args.triple.attribute in
    let cs = c.args.columns.now.items in
    let old : Column = c.index_mut.result.now in
    let new : Column = record { attribute = old.attribute; cells = c.add.new.cells } in
    let change : List Triple → List Triple = triple_added c.args.triple in
    at-in_order a cs c.requires.in_order c.args.place c.requires.there old new c.index_mut.ensures.value refl c.add.ensures.mark c.add.result change c.add.ensures.ok c.add.ensures.err
    (λ f. fill-added a old.cells.items f c.args.triple (number-itself a))

pub returns-clause-err : goal.returns-clause-err
returns-clause-err c =
    let a = c.args.triple.attribute in
    let cs = c.args.columns.now.items in
    let old : Column = c.index_mut.result.now in
    let new : Column = record { attribute = old.attribute; cells = c.add.new.cells } in
    let change : List Triple → List Triple = triple_added c.args.triple in
    at-err a cs c.requires.in_order c.args.place c.requires.there old new c.index_mut.ensures.value refl c.add.ensures.mark c.add.result change c.add.ensures.ok c.add.ensures.err
    (λ f. fill-added a old.cells.items f c.args.triple (number-itself a))

pub returns-clause-mark : goal.returns-clause-mark
returns-clause-mark c =
    let a = c.args.triple.attribute in
    let cs = c.args.columns.now.items in
    let old : Column = c.index_mut.result.now in
    let new : Column = record { attribute = old.attribute; cells = c.add.new.cells } in
    let change : List Triple → List Triple = triple_added c.args.triple in
    at-mark a cs c.requires.in_order c.args.place c.requires.there old new c.index_mut.ensures.value refl c.add.ensures.mark c.add.result change c.add.ensures.ok c.add.ensures.err
    (λ f. fill-added a old.cells.items f c.args.triple (number-itself a))

pub returns-clause-ok : goal.returns-clause-ok
returns-clause-ok c =
    let a = c.args.triple.attribute in
    let cs = c.args.columns.now.items in
    let old : Column = c.index_mut.result.now in
    let new : Column = record { attribute = old.attribute; cells = c.add.new.cells } in
    let change : List Triple → List Triple = triple_added c.args.triple in
    at-ok a cs c.requires.in_order c.args.place c.requires.there old new c.index_mut.ensures.value refl c.add.ensures.mark c.add.result change c.add.ensures.ok c.add.ensures.err
    (λ f. fill-added a old.cells.items f c.args.triple (number-itself a))
    (added-part a old.cells.items (triples_of cs) (column-part a cs c.requires.in_order c.args.place c.requires.there old c.index_mut.ensures.value) c.args.triple.entity c.args.triple.value)

pub returns-clause-changed : goal.returns-clause-changed
returns-clause-changed c =
    let a = c.args.triple.attribute in
    let cs = c.args.columns.now.items in
    let old : Column = c.index_mut.result.now in
    let P : Bool → Type 0 = λ b. IfOk c.add.result (λ changed. changed ≡ not b) in
    subst P (sym (any-same-part a old.cells.items (triples_of cs) (column-part a cs c.requires.in_order c.args.place c.requires.there old c.index_mut.ensures.value) c.args.triple.entity c.args.triple.value)) c.add.ensures.changed
