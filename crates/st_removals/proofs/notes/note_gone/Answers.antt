use Rattle.std.proofs.Common.{◌≡◌, ◌+◌, ◌<◌, ◌≤◌, List, [], ◌∷◌, ◌++◌, length, drop, refl, sym, subst, arith}
use Rattle.std.specs.Prelude.{Ok, Err}
use Rattle.st_lattice.specs.declared.attribute.Attribute.{Attribute}
use Rattle.st_state.specs.declared.triple.Triple.{Triple}
use Rattle.st_index.proofs.Called.{PageLaws}
use Rattle.st_lookups.proofs.Celled.{cells_among}
use Rattle.st_removals.specs.Noting.{NotesThese, cells_behind, gone_first}
use Rattle.st_removals.specs.Taken.{gone_among, gone_cells}
use Rattle.st_removals.proofs.Leading.{notes-answer, notes-fault, notes-none, notes-stopped, notes-then}
use Rattle.st_removals.proofs.Walking.{Passed, first-held, found-at, passed-end, passed-here, passed-more, passed-none}
use Rattle.st_removals.proofs.notes.note_gone.Given as given
use Rattle.st_removals.proofs.notes.note_gone.Goals as goal

laws : (g : given.Over) → PageLaws g.P.Pages.attempt g.P.Pages.follows g.P.Pages.asked
laws g = record {
  is_sound = g.met.P.Pages.is_sound;
  seen_stays = g.met.P.Pages.seen_stays;
  drawn_stays = g.met.P.Pages.drawn_stays;
  drawn_unwritten = g.met.P.Pages.drawn_unwritten;
  follows_on = g.met.P.Pages.follows_on;
  asked_more = g.met.P.Pages.asked_more;
  asked_on = g.met.P.Pages.asked_on;
  asked_tells = g.met.P.Pages.asked_tells;
}

pub loop-attribute-init : goal.loop-attribute-init
loop-attribute-init g c = record {
  gone = [];
  passed = passed-none c.args.schema.now c.args.entity c.args.which c.args.cells.now c.requires.held;
  follows = g.met.P.Pages.follows_itself c.args.pages.now;
  kinds = λ puts. puts;
  notes = notes-none g.P.Pages.attempt g.P.Pages.follows g.P.Pages.asked (laws g) g.S.Store.holds c.args.schema.now c.args.places.now c.args.entity g.met.P.Pages.asked_nothing c.args.pages.now (tt {0});
}

pub loop-attribute-preserved : goal.loop-attribute-preserved
loop-attribute-preserved g c =
    let page-laws = g.met.P.Pages in
    let schema = c.args.schema.now in
    let e = c.args.entity in
    let which = c.args.which in
    let cells = c.args.cells.now in
    let xs : List Attribute = c.attributes-attribute-items.result.now in
    let is : xs ≡ schema.attributes = c.attributes-attribute-items.ensures.value in
    let k = c.loop-attribute.attribute-index in
    let a = c.attribute-item.result in
    let rest = drop (k + 1) schema.attributes in
    let left = drop c.loop-attribute.index cells in
    let gone = c.loop-attribute.invariant.gone in
    let within : k < length xs = omega arith in
    let here : Passed schema e which cells (a ∷ rest) left gone = passed-here schema e which cells left gone k xs is a within c.attribute-item.is c.loop-attribute.invariant.passed in
    record {
      gone = gone ++ gone_first schema e which a left;
      passed = passed-more schema e which a cells rest left (drop c.in-Ok.next cells) gone c.in-Ok.ensures.behind here;
      follows = page-laws.follows_on c.args.pages.now c.loop-attribute.pages c.note_next.new.pages c.loop-attribute.invariant.follows c.note_next.ensures.follows;
      kinds = λ puts. c.note_next.ensures.kinds (c.loop-attribute.invariant.kinds puts);
      notes = notes-answer g.P.Pages.attempt g.P.Pages.follows g.P.Pages.asked (laws g) g.S.Store.holds schema c.args.places.now e c.args.pages.now c.note_next.new.pages (gone ++ gone_first schema e which a left) c.in-Ok.next (tt {0})
          (notes-then g.P.Pages.attempt g.P.Pages.follows g.P.Pages.asked (laws g) g.S.Store.holds schema c.args.places.now e c.args.pages.now c.loop-attribute.pages c.note_next.new.pages c.loop-attribute.invariant.follows c.note_next.ensures.follows
          gone (gone_first schema e which a left) (tt {0}) (Ok c.in-Ok.next) c.loop-attribute.invariant.notes
          (λ array s at rows agrees same legal program at_is d.
          c.in-Ok.ensures.notes (found-at s schema xs k a same legal is within c.attribute-item.is) (first-held schema e which a cells rest left gone here) array s at rows agrees same legal program at_is d));
    }

pub returns-in-Err-clause-notes : goal.returns-in-Err-clause-notes
returns-in-Err-clause-notes g c =
    let schema = c.args.schema.now in
    let e = c.args.entity in
    let which = c.args.which in
    let cells = c.args.cells.now in
    let xs : List Attribute = c.attributes-attribute-items.result.now in
    let is : xs ≡ schema.attributes = c.attributes-attribute-items.ensures.value in
    let k = c.loop-attribute.attribute-index in
    let a = c.attribute-item.result in
    let rest = drop (k + 1) schema.attributes in
    let left = drop c.loop-attribute.index cells in
    let gone = c.loop-attribute.invariant.gone in
    let within : k < length xs = omega arith in
    let here : Passed schema e which cells (a ∷ rest) left gone = passed-here schema e which cells left gone k xs is a within c.attribute-item.is c.loop-attribute.invariant.passed in
    let more = passed-more schema e which a cells rest left (cells_behind schema e.ty a left) gone refl here in
    let A = g.P.Pages.attempt c.args.pages.now in
    let C = g.P.Pages.attempt c.note_next.new.pages in
    let all : NotesThese {A = Unit {0}} g.S.Store.holds (g.P.Pages.asked c.args.pages.now c.note_next.new.pages) A C schema c.args.places.now e (gone_cells schema e which cells) (Err c.in-Err.fault) =
    subst (λ (ts : List Triple). NotesThese {A = Unit {0}} g.S.Store.holds (g.P.Pages.asked c.args.pages.now c.note_next.new.pages) A C schema c.args.places.now e ts (Err c.in-Err.fault)) (sym more.all)
    (notes-stopped g.P.Pages.attempt g.P.Pages.follows g.P.Pages.asked (laws g) g.S.Store.holds schema c.args.places.now e c.args.pages.now c.note_next.new.pages (gone ++ gone_first schema e which a left)
    (gone_among e which (cells_among schema e.ty rest) (cells_behind schema e.ty a left)) c.in-Err.fault
    (notes-fault g.P.Pages.attempt g.P.Pages.follows g.P.Pages.asked (laws g) g.S.Store.holds schema c.args.places.now e c.args.pages.now c.note_next.new.pages (gone ++ gone_first schema e which a left) c.in-Err.fault
    (notes-then g.P.Pages.attempt g.P.Pages.follows g.P.Pages.asked (laws g) g.S.Store.holds schema c.args.places.now e c.args.pages.now c.loop-attribute.pages c.note_next.new.pages c.loop-attribute.invariant.follows c.note_next.ensures.follows
    gone (gone_first schema e which a left) (tt {0}) (Err c.in-Err.fault) c.loop-attribute.invariant.notes
    (λ array s at rows agrees same legal program at_is d.
    c.in-Err.ensures.notes (found-at s schema xs k a same legal is within c.attribute-item.is) (first-held schema e which a cells rest left gone here) array s at rows agrees same legal program at_is d)))) in
    λ array s at rows agrees same legal program live cells_are at_is d. all array s at rows agrees same legal program at_is d

pub returns-clause-notes : goal.returns-clause-notes
returns-clause-notes g c =
    let schema = c.args.schema.now in
    let e = c.args.entity in
    let cells = c.args.cells.now in
    let xs : List Attribute = c.attributes-attribute-items.result.now in
    let is : xs ≡ schema.attributes = c.attributes-attribute-items.ensures.value in
    let k = c.loop-attribute.attribute-index in
    let past : length xs ≤ k = omega arith in
    let gone = c.loop-attribute.invariant.gone in
    let A = g.P.Pages.attempt c.args.pages.now in
    let B = g.P.Pages.attempt c.loop-attribute.pages in
    let all : NotesThese g.S.Store.holds (g.P.Pages.asked c.args.pages.now c.loop-attribute.pages) A B schema c.args.places.now e (gone_cells schema e c.args.which cells) (Ok (tt {0})) =
    subst (λ (ts : List Triple). NotesThese g.S.Store.holds (g.P.Pages.asked c.args.pages.now c.loop-attribute.pages) A B schema c.args.places.now e ts (Ok (tt {0})))
    (sym (passed-end schema e c.args.which cells (drop c.loop-attribute.index cells) gone k xs is past c.loop-attribute.invariant.passed)) c.loop-attribute.invariant.notes in
    λ array s at rows agrees same legal program live cells_are at_is d. all array s at rows agrees same legal program at_is d
