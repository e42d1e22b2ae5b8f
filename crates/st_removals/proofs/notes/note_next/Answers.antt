use Rattle.std.proofs.Common.{◌≡◌, ℕ, suc, ◌+◌, ◌<◌, ◌≤◌, true, List, ◌∷◌, length, drop, sym, ◌∙◌, subst, drop-cons}
use Rattle.std.specs.Prelude.{Ok, Err}
use Rattle.std.proofs.lemmas.List.{drop_all}
use Rattle.st_values.specs.declared.value.Value.{Value}
use Rattle.st_values.proofs.Tests.{right}
use Rattle.st_lattice.specs.Lattice.{isa}
use Rattle.st_index.proofs.Called.{PageLaws}
use Rattle.st_state.specs.declared.triple.Triple.{Triple}
use Rattle.st_lookups.specs.Looks.{is_cell}
use Rattle.st_removals.specs.Noting.{NotesThese, is_cell_of}
use Rattle.st_removals.proofs.Leading.{notes-answer, notes-fault, notes-none}
use Rattle.st_removals.proofs.Walking.{first-holds, first-is, first-none, first-not}
use Rattle.st_removals.proofs.notes.note_next.Given as given
use Rattle.st_removals.proofs.notes.note_next.Goals as goal

laws : (g : given.Over) → PageLaws g.P.Pages.attempt g.P.Pages.follows g.P.Pages.asked
laws g = record {
  is_sound = g.met.P.Pages.is_sound;
  seen_stays = g.met.P.Pages.seen_stays;
  drawn_stays = g.met.P.Pages.drawn_stays;
  drawn_unwritten = g.met.P.Pages.drawn_unwritten;
  follows_on = g.met.P.Pages.follows_on;
  asked_more = g.met.P.Pages.asked_more;
  asked_on = g.met.P.Pages.asked_on;
  asked_tells = g.met.P.Pages.asked_tells;
}

pub returns-then-index-cells-clause-notes : goal.returns-then-index-cells-clause-notes
returns-then-index-cells-clause-notes g c = λ found held.
    let cells = c.args.cells.now in
    let index = c.args.index in
    let past : length cells ≤ index = c.if-index-cells.true in
    subst (λ (ts : List Triple). NotesThese g.S.Store.holds (g.P.Pages.asked c.args.pages.now c.args.pages.now) (g.P.Pages.attempt c.args.pages.now) (g.P.Pages.attempt c.args.pages.now) c.args.schema.now c.args.places.now c.args.entity ts (Ok index))
    (sym (first-none c.args.schema.now c.args.entity c.args.which c.args.attribute.now (drop index cells) (drop_all index cells past)))
    (notes-none g.P.Pages.attempt g.P.Pages.follows g.P.Pages.asked (laws g) g.S.Store.holds c.args.schema.now c.args.places.now c.args.entity g.met.P.Pages.asked_nothing c.args.pages.now index)

pub returns-then-not-is_cell_of-clause-notes : goal.returns-then-not-is_cell_of-clause-notes
returns-then-not-is_cell_of-clause-notes g c = λ found held.
    let index = c.args.index in
    subst (λ (ts : List Triple). NotesThese g.S.Store.holds (g.P.Pages.asked c.args.pages.now c.args.pages.now) (g.P.Pages.attempt c.args.pages.now) (g.P.Pages.attempt c.args.pages.now) c.args.schema.now c.args.places.now c.args.entity ts (Ok index))
    (sym (first-not c.args.schema.now c.args.entity c.args.which c.args.attribute.now (drop index c.args.cells.now) (sym c.is_cell_of.ensures ∙ c.if-not-is_cell_of.true)))
    (notes-none g.P.Pages.attempt g.P.Pages.follows g.P.Pages.asked (laws g) g.S.Store.holds c.args.schema.now c.args.places.now c.args.entity g.met.P.Pages.asked_nothing c.args.pages.now index)

pub returns-in-Ok-clause-notes : goal.returns-in-Ok-clause-notes
returns-in-Ok-clause-notes g c = λ found held.
    let schema = c.args.schema.now in
    let e = c.args.entity in
    let a = c.args.attribute.now in
    let cells = c.args.cells.now in
    let index = c.args.index in
    let within : index < length cells = c.if-index-cells.false in
    let v : Value = c.index-cells-index.result in
    let here : drop index cells ≡ v ∷ drop (suc index) cells = drop-cons cells index v within ∙ (λ i. sym c.index-cells-index.is i ∷ drop (suc index) cells) in
    let of : is_cell_of schema e.ty a ≡ true = sym c.is_cell_of.ensures ∙ c.if-not-is_cell_of.false in
    subst (λ (ts : List Triple). NotesThese g.S.Store.holds (g.P.Pages.asked c.args.pages.now c.note_cell.new.pages) (g.P.Pages.attempt c.args.pages.now) (g.P.Pages.attempt c.note_cell.new.pages) schema c.args.places.now e ts (Ok (index + 1)))
    (sym (first-is schema e c.args.which a (drop index cells) v (drop (suc index) cells) here of))
    (notes-answer g.P.Pages.attempt g.P.Pages.follows g.P.Pages.asked (laws g) g.S.Store.holds schema c.args.places.now e c.args.pages.now c.note_cell.new.pages _ c.in-Ok.field-0 (index + 1)
    (c.in-Ok.ensures.notes found (right (isa schema e.ty a.owner) (is_cell a) of) (first-holds schema e c.args.which a (drop index cells) v (drop (suc index) cells) here of held)))

pub returns-in-Err-clause-notes : goal.returns-in-Err-clause-notes
returns-in-Err-clause-notes g c = λ found held.
    let schema = c.args.schema.now in
    let e = c.args.entity in
    let a = c.args.attribute.now in
    let cells = c.args.cells.now in
    let index = c.args.index in
    let within : index < length cells = c.if-index-cells.false in
    let v : Value = c.index-cells-index.result in
    let here : drop index cells ≡ v ∷ drop (suc index) cells = drop-cons cells index v within ∙ (λ i. sym c.index-cells-index.is i ∷ drop (suc index) cells) in
    let of : is_cell_of schema e.ty a ≡ true = sym c.is_cell_of.ensures ∙ c.if-not-is_cell_of.false in
    subst (λ (ts : List Triple). NotesThese {A = ℕ} g.S.Store.holds (g.P.Pages.asked c.args.pages.now c.note_cell.new.pages) (g.P.Pages.attempt c.args.pages.now) (g.P.Pages.attempt c.note_cell.new.pages) schema c.args.places.now e ts (Err c.in-Err.fault))
    (sym (first-is schema e c.args.which a (drop index cells) v (drop (suc index) cells) here of))
    (notes-fault g.P.Pages.attempt g.P.Pages.follows g.P.Pages.asked (laws g) g.S.Store.holds schema c.args.places.now e c.args.pages.now c.note_cell.new.pages _ c.in-Err.fault
    (c.in-Err.ensures.notes found (right (isa schema e.ty a.owner) (is_cell a) of) (first-holds schema e c.args.which a (drop index cells) v (drop (suc index) cells) here of held)))
