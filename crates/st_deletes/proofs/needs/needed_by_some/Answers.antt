use Rattle.std.proofs.Common.{◌≡◌, ℕ, ◌+◌, ◌<◌, length, drop, List, true, false, Some, refl, sym, ap, ◌∙◌, subst, inl, arith}
use Rattle.std.specs.Prelude.{is_some, map}
use Rattle.std.proofs.Math.Seq.{drop-length}
use Rattle.st_lattice.specs.declared.attribute.Attribute.{Attribute}
use Rattle.st_lattice.specs.Outline.{attribute}
use Rattle.st_lattice.specs.Stores.{deleted}
use Rattle.st_pages.specs.Attempt.{over}
use Rattle.st_pages.proofs.Carried.{Stays}
use Rattle.st_state.specs.Bases.{needed}
use Rattle.st_state.specs.Refusals.{first_of}
use Rattle.st_index.proofs.Called.{PageLaws, earlier}
use Rattle.st_index.proofs.Counted.{differences-none}
use Rattle.st_lookups.specs.Looks.{Finds}
use Rattle.st_lookups.proofs.Rowed.{stands-still, touches-both}
use Rattle.st_deletes.proofs.Needed.{first-from, first-none, first-some, handed}
use Rattle.st_deletes.proofs.needs.needed_by_some.Given as given
use Rattle.st_deletes.proofs.needs.needed_by_some.Goals as goal

laws : (g : given.Over) → PageLaws g.P.Pages.attempt g.P.Pages.follows g.P.Pages.asked
laws g = record {
  is_sound = g.met.P.Pages.is_sound;
  seen_stays = g.met.P.Pages.seen_stays;
  drawn_stays = g.met.P.Pages.drawn_stays;
  drawn_unwritten = g.met.P.Pages.drawn_unwritten;
  follows_on = g.met.P.Pages.follows_on;
  asked_more = g.met.P.Pages.asked_more;
  asked_on = g.met.P.Pages.asked_on;
  asked_tells = g.met.P.Pages.asked_tells;
}

pub loop-attribute-init : goal.loop-attribute-init
loop-attribute-init g c = record {
  follows = g.met.P.Pages.follows_itself c.args.pages.now;
  written = refl;
  found = λ array s agrees same stands live all. (
    record { asks = g.met.P.Pages.asked_nothing c.args.pages.now _ _; numbers = λ store page k. inl k; few = differences-none (over (g.P.Pages.attempt c.args.pages.now) array) 0 },
    refl,
  );
}

pub returns-in_err-refusal-clause-finds : goal.returns-in_err-refusal-clause-finds
returns-in_err-refusal-clause-finds g c =
    let page-laws = g.met.P.Pages in
    let A = g.P.Pages.attempt c.args.pages.now in
    let B = g.P.Pages.attempt c.loop-attribute.pages in
    let C = g.P.Pages.attempt c.needed.new.pages in
    let on = c.needed.ensures.keeps.below in
    let a = c.attribute-item.result in
    let xs = c.args.attributes.now in
    let i = c.loop-attribute.attribute-index in
    let stays : Stays B C = page-laws.seen_stays c.loop-attribute.pages c.needed.new.pages on in
    let less : i < length xs = omega arith in
    λ array s agrees same stands live all.
    let far = c.loop-attribute.invariant.found array s (earlier B C array stays agrees) same stands live all in
    let its : attribute s.schema a.number ≡ Some a = subst (λ (b : Attribute). attribute s.schema b.number ≡ Some b) (sym c.attribute-item.is) (all i a less) in
    let next = c.in_err-refusal.ensures.finds array s agrees same (stands-still g.S.Store.holds A B array c.args.places.now s c.loop-attribute.invariant.written stands) live its in
    let both = touches-both g.P.Pages.attempt g.P.Pages.follows g.P.Pages.asked (laws g) c.args.pages.now c.loop-attribute.pages c.needed.new.pages c.loop-attribute.invariant.follows on array (deleted c.args.schema.now c.args.entity.ty) far.0 next.touches in
    handed
    (Finds (g.P.Pages.asked c.args.pages.now c.needed.new.pages) A C array (λ refusal. refusal ≡ first_of (map (needed s c.args.entity) xs)) (deleted c.args.schema.now c.args.entity.ty))
    c.in_err-refusal.field-0.0 c.from_residual.result c.from_residual.ensures (record { answers = tt; sound = next.sound; touches = both })

pub returns-then-is_some-clause-finds : goal.returns-then-is_some-clause-finds
returns-then-is_some-clause-finds g c =
    let page-laws = g.met.P.Pages in
    let A = g.P.Pages.attempt c.args.pages.now in
    let B = g.P.Pages.attempt c.loop-attribute.pages in
    let C = g.P.Pages.attempt c.needed.new.pages in
    let on = c.needed.ensures.keeps.below in
    let a = c.attribute-item.result in
    let e = c.args.entity in
    let r = c.in_ok-refusal.refusal in
    let xs = c.args.attributes.now in
    let i = c.loop-attribute.attribute-index in
    let stays : Stays B C = page-laws.seen_stays c.loop-attribute.pages c.needed.new.pages on in
    let less : i < length xs = omega arith in
    let some : is_some r ≡ true = grind (arith, c.is_some.ensures, c.if-is_some.true) in
    λ array s agrees same stands live all.
    let far = c.loop-attribute.invariant.found array s (earlier B C array stays agrees) same stands live all in
    let its : attribute s.schema a.number ≡ Some a = subst (λ (b : Attribute). attribute s.schema b.number ≡ Some b) (sym c.attribute-item.is) (all i a less) in
    let next = c.in_ok-refusal.ensures.finds array s agrees same (stands-still g.S.Store.holds A B array c.args.places.now s c.loop-attribute.invariant.written stands) live its in
    let is : r ≡ needed s e a = next.answers in
    record {
      answers = is ∙ sym (first-some (needed s e a) (map (needed s e) (drop (i + 1) xs)) (ap is_some (sym is) ∙ some)) ∙ sym (first-from s e xs i a less c.attribute-item.is) ∙ sym far.1;
      sound = tt;
      touches = touches-both g.P.Pages.attempt g.P.Pages.follows g.P.Pages.asked (laws g) c.args.pages.now c.loop-attribute.pages c.needed.new.pages c.loop-attribute.invariant.follows on array (deleted c.args.schema.now e.ty) far.0 next.touches;
    }

pub loop-attribute-preserved : goal.loop-attribute-preserved
loop-attribute-preserved g c =
    let page-laws = g.met.P.Pages in
    let A = g.P.Pages.attempt c.args.pages.now in
    let B = g.P.Pages.attempt c.loop-attribute.pages in
    let C = g.P.Pages.attempt c.needed.new.pages in
    let on = c.needed.ensures.keeps.below in
    let a = c.attribute-item.result in
    let e = c.args.entity in
    let r = c.in_ok-refusal.refusal in
    let xs = c.args.attributes.now in
    let i = c.loop-attribute.attribute-index in
    let stays : Stays B C = page-laws.seen_stays c.loop-attribute.pages c.needed.new.pages on in
    let less : i < length xs = omega arith in
    let none : is_some r ≡ false = grind (arith, c.is_some.ensures, c.if-is_some.false) in
    record {
      follows = page-laws.follows_on c.args.pages.now c.loop-attribute.pages c.needed.new.pages c.loop-attribute.invariant.follows on;
      written = c.needed.ensures.keeps.written ∙ c.loop-attribute.invariant.written;
      found = λ array s agrees same stands live all.
          let far = c.loop-attribute.invariant.found array s (earlier B C array stays agrees) same stands live all in
          let its : attribute s.schema a.number ≡ Some a = subst (λ (b : Attribute). attribute s.schema b.number ≡ Some b) (sym c.attribute-item.is) (all i a less) in
          let next = c.in_ok-refusal.ensures.finds array s agrees same (stands-still g.S.Store.holds A B array c.args.places.now s c.loop-attribute.invariant.written stands) live its in
          let is : r ≡ needed s e a = next.answers in (
            touches-both g.P.Pages.attempt g.P.Pages.follows g.P.Pages.asked (laws g) c.args.pages.now c.loop-attribute.pages c.needed.new.pages c.loop-attribute.invariant.follows on array (deleted c.args.schema.now e.ty) far.0 next.touches,
            far.1 ∙ first-from s e xs i a less c.attribute-item.is ∙ first-none (needed s e a) (map (needed s e) (drop (i + 1) xs)) (ap is_some (sym is) ∙ none),
          );
    }

pub returns-clause-finds : goal.returns-clause-finds
returns-clause-finds g c = λ array s agrees same stands live all.
    let far = c.loop-attribute.invariant.found array s agrees same stands live all in
    let xs = c.args.attributes.now in
    let end : c.loop-attribute.attribute-index ≡ length xs = omega arith in
    record {
      answers = sym (far.1 ∙ ap (λ (n : ℕ). first_of (map (needed s c.args.entity) (drop n xs))) end ∙ ap (λ (l : List Attribute). first_of (map (needed s c.args.entity) l)) (drop-length xs));
      sound = tt;
      touches = far.0;
    }
