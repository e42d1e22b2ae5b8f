use Rattle.std.proofs.Common.{◌≡◌, true, false, None, sym, ap, ◌∙◌, arith}
use Rattle.st_lattice.specs.Outline.{Outline}
use Rattle.st_lattice.specs.Stores.{deleted}
use Rattle.st_state.specs.Bases.{needed}
use Rattle.st_index.proofs.Called.{PageLaws}
use Rattle.st_database.proofs.Touching.{touches-more}
use Rattle.st_lookups.proofs.Lived.{finds-nothing}
use Rattle.st_deletes.specs.Needs.{names_type}
use Rattle.st_deletes.proofs.Needed.{can-have, found-deleted, needed-found, needed-not, needed-nothing}
use Rattle.st_deletes.proofs.needs.needed.Given as given
use Rattle.st_deletes.proofs.needs.needed.Goals as goal
use Rattle.st_deletes.proofs.needs.needed.Goals.{then-not-attribute-via-then-not-attribute, then-not-attribute-via-else-not-attribute+then-not-names_type}

laws : (g : given.Over) → PageLaws g.P.Pages.attempt g.P.Pages.follows g.P.Pages.asked
laws g = record {
  is_sound = g.met.P.Pages.is_sound;
  seen_stays = g.met.P.Pages.seen_stays;
  drawn_stays = g.met.P.Pages.drawn_stays;
  drawn_unwritten = g.met.P.Pages.drawn_unwritten;
  follows_on = g.met.P.Pages.follows_on;
  asked_more = g.met.P.Pages.asked_more;
  asked_on = g.met.P.Pages.asked_on;
  asked_tells = g.met.P.Pages.asked_tells;
}

pub returns-then-not-attribute-clause-finds : goal.returns-then-not-attribute-clause-finds
returns-then-not-attribute-clause-finds g c = λ array s agrees same stands live f.
    let a = c.args.attribute.now in
    let e = c.args.entity in
    let none : needed s e a ≡ None = elim c.then-not-attribute.branch [
      | then-not-attribute-via-then-not-attribute w ↦
          let off : a.no_nulls ≡ false = grind (arith, w.if-not-attribute.true) in
          needed-not s stands.legal e a f off
      | then-not-attribute-via-else-not-attribute+then-not-names_type w ↦
          let names : w.names_type.result ≡ names_type c.args.schema.now e.ty a.kind = w.names_type.ensures in
          let no : w.names_type.result ≡ false = grind (arith, w.if-not-names_type.true) in
          needed-nothing s stands.legal e a f (ap (λ (o : Outline). names_type o e.ty a.kind) same ∙ sym names ∙ no)
    ] in
    finds-nothing (g.P.Pages.asked c.args.pages.now c.args.pages.now) (g.P.Pages.attempt c.args.pages.now) array (g.met.P.Pages.asked_nothing c.args.pages.now) (λ refusal. refusal ≡ needed s e a) (deleted c.args.schema.now e.ty) None (sym none)

pub returns-in-Ok-needed_by-clause-finds : goal.returns-in-Ok-needed_by-clause-finds
returns-in-Ok-needed_by-clause-finds g c = λ array s agrees same stands live f.
    let a = c.args.attribute.now in
    let e = c.args.entity in
    let on : a.no_nulls ≡ true = grind (arith, c.if-not-attribute.false) in
    let yes : c.names_type.result ≡ true = grind (arith, c.if-not-names_type.false) in
    let names : names_type s.schema e.ty a.kind ≡ true = ap (λ (o : Outline). names_type o e.ty a.kind) same ∙ sym c.names_type.ensures ∙ yes in
    let x = c.in-Ok.ensures.finds array s agrees same stands (can-have s stands.legal e a f live names) in
    record {
      answers = c.in-Ok-needed_by.ensures ∙ needed-found s stands.legal e a f c.args.schema.now c.in-Ok.other same on x.answers;
      sound = tt;
      touches = touches-more g.P.Pages.attempt g.P.Pages.follows g.P.Pages.asked (laws g) c.args.pages.now c.needed_at.new.pages array _ (deleted c.args.schema.now e.ty) false false 0 0 0 0
          (found-deleted s stands.legal e a f live names c.args.schema.now same) (λ h. h) (omega arith) (omega arith) x.touches;
    }

pub returns-in-Err-needed_by-clause-finds : goal.returns-in-Err-needed_by-clause-finds
returns-in-Err-needed_by-clause-finds g c = λ array s agrees same stands live f.
    let a = c.args.attribute.now in
    let e = c.args.entity in
    let yes : c.names_type.result ≡ true = grind (arith, c.if-not-names_type.false) in
    let names : names_type s.schema e.ty a.kind ≡ true = ap (λ (o : Outline). names_type o e.ty a.kind) same ∙ sym c.names_type.ensures ∙ yes in
    let x = c.in-Ok.ensures.finds array s agrees same stands (can-have s stands.legal e a f live names) in
    record {
      answers = tt;
      sound = tt;
      touches = touches-more g.P.Pages.attempt g.P.Pages.follows g.P.Pages.asked (laws g) c.args.pages.now c.needed_at.new.pages array _ (deleted c.args.schema.now e.ty) false false 0 0 0 0
          (found-deleted s stands.legal e a f live names c.args.schema.now same) (λ h. h) (omega arith) (omega arith) x.touches;
    }

pub returns-in-Err-clause-finds : goal.returns-in-Err-clause-finds
returns-in-Err-clause-finds g c = λ array s agrees same stands live f.
    let a = c.args.attribute.now in
    let e = c.args.entity in
    let yes : c.names_type.result ≡ true = grind (arith, c.if-not-names_type.false) in
    let names : names_type s.schema e.ty a.kind ≡ true = ap (λ (o : Outline). names_type o e.ty a.kind) same ∙ sym c.names_type.ensures ∙ yes in
    let x = c.in-Err.ensures.finds array s agrees same stands (can-have s stands.legal e a f live names) in
    record {
      answers = tt;
      sound = x.sound;
      touches = touches-more g.P.Pages.attempt g.P.Pages.follows g.P.Pages.asked (laws g) c.args.pages.now c.needed_at.new.pages array _ (deleted c.args.schema.now e.ty) false false 0 0 0 0
          (found-deleted s stands.legal e a f live names c.args.schema.now same) (λ h. h) (omega arith) (omega arith) x.touches;
    }
