use Rattle.std.proofs.Common.{◌≡◌, Bool, true, false, [], ◌∷◌, ◌∙◌, sym, subst, if◌then◌else◌}
use Rattle.std.specs.Prelude.{Ok}
use Rattle.st_state.specs.declared.triple.Triple.{Triple}
use Rattle.st_index.proofs.Called.{PageLaws}
use Rattle.st_removals.specs.Noting.{NotesThese}
use Rattle.st_removals.specs.Taken.{goes}
use Rattle.st_removals.proofs.Leading.{fits-going, notes-none}
use Rattle.st_removals.proofs.notes.note_cell.Given as given
use Rattle.st_removals.proofs.notes.note_cell.Goals as goal

laws : (g : given.Over) → PageLaws g.P.Pages.attempt g.P.Pages.follows g.P.Pages.asked
laws g = record {
  is_sound = g.met.P.Pages.is_sound;
  seen_stays = g.met.P.Pages.seen_stays;
  drawn_stays = g.met.P.Pages.drawn_stays;
  drawn_unwritten = g.met.P.Pages.drawn_unwritten;
  follows_on = g.met.P.Pages.follows_on;
  asked_more = g.met.P.Pages.asked_more;
  asked_on = g.met.P.Pages.asked_on;
  asked_tells = g.met.P.Pages.asked_tells;
}

pub returns-clause-notes : goal.returns-clause-notes
returns-clause-notes g c = λ found cell held.
    let going : goes c.args.which c.args.cell.now ≡ true = sym c.goes.ensures ∙ c.if-not-goes.false in
    let t : Triple = record { attribute = c.args.attribute.now.number; entity = c.args.entity; value = c.args.cell.now } in
    subst (λ (b : Bool). NotesThese g.S.Store.holds (g.P.Pages.asked c.args.pages.now c.note_value.new.pages) (g.P.Pages.attempt c.args.pages.now) (g.P.Pages.attempt c.note_value.new.pages) c.args.schema.now c.args.places.now c.args.entity (if b then t ∷ [] else []) c.note_value.result) (sym going)
    (c.note_value.ensures.notes found cell (fits-going c.args.which c.args.attribute.now.kind c.args.cell.now held going))

pub returns-then-not-goes-clause-notes : goal.returns-then-not-goes-clause-notes
returns-then-not-goes-clause-notes g c = λ found cell held.
    let staying : goes c.args.which c.args.cell.now ≡ false = sym c.goes.ensures ∙ c.if-not-goes.true in
    let t : Triple = record { attribute = c.args.attribute.now.number; entity = c.args.entity; value = c.args.cell.now } in
    subst (λ (b : Bool). NotesThese g.S.Store.holds (g.P.Pages.asked c.args.pages.now c.args.pages.now) (g.P.Pages.attempt c.args.pages.now) (g.P.Pages.attempt c.args.pages.now) c.args.schema.now c.args.places.now c.args.entity (if b then t ∷ [] else []) (Ok (tt {0}))) (sym staying)
    (notes-none g.P.Pages.attempt g.P.Pages.follows g.P.Pages.asked (laws g) g.S.Store.holds c.args.schema.now c.args.places.now c.args.entity g.met.P.Pages.asked_nothing c.args.pages.now (tt {0}))
