use Rattle.std.proofs.Common.{◌≡◌, List, ◌∷◌, [], ap, ◌∙◌}
use Rattle.st_values.specs.declared.value.EntityId.{EntityId}
use Rattle.st_lattice.specs.declared.stores.StoreKind.TheVariants.{Set}
use Rattle.st_lattice.specs.Outline.{Outline, attribute}
use Rattle.st_lattice.specs.Stores.{cell, extents, store}
use Rattle.st_state.specs.State.{turned}
use Rattle.st_index.proofs.Called.{PageLaws}
use Rattle.st_lookups.proofs.Kept.{extents-first, set-among}
use Rattle.st_lookups.proofs.Rowed.{finds-more}
use Rattle.st_lookups.proofs.holders.row_holders.Given as given
use Rattle.st_lookups.proofs.holders.row_holders.Goals as goal

laws : (g : given.Over) → PageLaws g.P.Pages.attempt g.P.Pages.follows g.P.Pages.asked
laws g = record {
  is_sound = g.met.P.Pages.is_sound;
  seen_stays = g.met.P.Pages.seen_stays;
  drawn_stays = g.met.P.Pages.drawn_stays;
  drawn_unwritten = g.met.P.Pages.drawn_unwritten;
  follows_on = g.met.P.Pages.follows_on;
  asked_more = g.met.P.Pages.asked_more;
  asked_on = g.met.P.Pages.asked_on;
  asked_tells = g.met.P.Pages.asked_tells;
}

pub returns-then-attribute-clause-finds : goal.returns-then-attribute-clause-finds
returns-then-attribute-clause-finds g c = λ array s agrees same stands can.
    let x = c.args.attribute.now in
    let v = c.args.value.now in
    finds-more g.P.Pages.attempt g.P.Pages.follows g.P.Pages.asked (laws g) c.args.pages.now c.set_holders.new.pages array (λ (entities : List EntityId). entities ≡ turned x.number v s.triples) (λ entities. entities ≡ turned x.number v s.triples)
    (store Set x.number ∷ []) (cell c.args.schema.now x) c.set_holders.result (set-among c.args.schema.now x) (λ entities e. e)
    (c.set_holders.ensures.finds c.if-attribute.true array s agrees same stands)

pub returns-else-attribute-clause-finds : goal.returns-else-attribute-clause-finds
returns-else-attribute-clause-finds g c = λ array s agrees same stands can.
    let x = c.args.attribute.now in
    let v = c.args.value.now in
    finds-more g.P.Pages.attempt g.P.Pages.follows g.P.Pages.asked (laws g) c.args.pages.now c.cell_holders.new.pages array (λ (entities : List EntityId). entities ≡ turned x.number v s.triples) (λ entities. entities ≡ turned x.number v s.triples)
    (extents c.args.schema.now x.owner) (cell c.args.schema.now x) c.cell_holders.result (extents-first c.args.schema.now x) (λ entities e. e)
    (c.cell_holders.ensures.finds array s agrees same stands (ap (λ (o : Outline). attribute o x.number) same ∙ c.requires.there) c.if-attribute.false can)
