use Rattle.std.proofs.Common.{◌≡◌, Bool, List, not, refl, sym, subst}
use Rattle.std.specs.Prelude.{IfOk}
use Rattle.st_state.specs.declared.triple.Triple.{Triple}
use Rattle.st_triples.specs.declared.column.Column.{Column}
use Rattle.st_state.specs.State.{same_triple, triple_taken}
use Rattle.st_triples.specs.Marked.{triple_of}
use Rattle.st_triples.specs.Columns.{triples_of}
use Rattle.st_triples.proofs.Runs.{fill-filter}
use Rattle.st_triples.proofs.OnePart.{taken-part, any-same-part}
use Rattle.st_triples.proofs.Flat.{column-part}
use Rattle.st_triples.proofs.Changes.{at-in_order, at-mark, at-err, at-ok}
use Rattle.st_triples.proofs.columns.take_at.Goals as goal

pub returns-clause-in_order : goal.returns-clause-in_order
returns-clause-in_order c =
    let a = c.args.attribute in
    let cs = c.args.columns.now.items in
    let old : Column = c.index_mut.result.now in
    let new : Column = record { attribute = old.attribute; cells = c.take.new.cells } in
    let change : List Triple → List Triple = triple_taken (triple_of a c.args.entity c.args.value.now) in
    at-in_order a cs c.requires.in_order c.args.place c.requires.there old new c.index_mut.ensures.value refl c.take.ensures.mark c.take.result change c.take.ensures.ok c.take.ensures.err
    (λ f. fill-filter a old.cells.items f (λ t. not (same_triple (triple_of a c.args.entity c.args.value.now) t)))

pub returns-clause-err : goal.returns-clause-err
returns-clause-err c =
    let a = c.args.attribute in
    let cs = c.args.columns.now.items in
    let old : Column = c.index_mut.result.now in
    let new : Column = record { attribute = old.attribute; cells = c.take.new.cells } in
    let change : List Triple → List Triple = triple_taken (triple_of a c.args.entity c.args.value.now) in
    at-err a cs c.requires.in_order c.args.place c.requires.there old new c.index_mut.ensures.value refl c.take.ensures.mark c.take.result change c.take.ensures.ok c.take.ensures.err
    (λ f. fill-filter a old.cells.items f (λ t. not (same_triple (triple_of a c.args.entity c.args.value.now) t)))

pub returns-clause-mark : goal.returns-clause-mark
returns-clause-mark c =
    let a = c.args.attribute in
    let cs = c.args.columns.now.items in
    let old : Column = c.index_mut.result.now in
    let new : Column = record { attribute = old.attribute; cells = c.take.new.cells } in
    let change : List Triple → List Triple = triple_taken (triple_of a c.args.entity c.args.value.now) in
    at-mark a cs c.requires.in_order c.args.place c.requires.there old new c.index_mut.ensures.value refl c.take.ensures.mark c.take.result change c.take.ensures.ok c.take.ensures.err
    (λ f. fill-filter a old.cells.items f (λ t. not (same_triple (triple_of a c.args.entity c.args.value.now) t)))

pub returns-clause-ok : goal.returns-clause-ok
returns-clause-ok c =
    let a = c.args.attribute in
    let cs = c.args.columns.now.items in
    let old : Column = c.index_mut.result.now in
    let new : Column = record { attribute = old.attribute; cells = c.take.new.cells } in
    let change : List Triple → List Triple = triple_taken (triple_of a c.args.entity c.args.value.now) in
    at-ok a cs c.requires.in_order c.args.place c.requires.there old new c.index_mut.ensures.value refl c.take.ensures.mark c.take.result change c.take.ensures.ok c.take.ensures.err
    (λ f. fill-filter a old.cells.items f (λ t. not (same_triple (triple_of a c.args.entity c.args.value.now) t)))
    (taken-part a old.cells.items (triples_of cs) (column-part a cs c.requires.in_order c.args.place c.requires.there old c.index_mut.ensures.value) c.args.entity c.args.value.now)

pub returns-clause-changed : goal.returns-clause-changed
returns-clause-changed c =
    let a = c.args.attribute in
    let cs = c.args.columns.now.items in
    let old : Column = c.index_mut.result.now in
    let P : Bool → Type 0 = λ b. IfOk c.take.result (λ changed. changed ≡ b) in
    subst P (sym (any-same-part a old.cells.items (triples_of cs) (column-part a cs c.requires.in_order c.args.place c.requires.there old c.index_mut.ensures.value) c.args.entity c.args.value.now)) c.take.ensures.changed
