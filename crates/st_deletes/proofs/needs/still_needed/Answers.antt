use Rattle.std.proofs.Common.{◌≡◌, List, Some, refl, sym, ap, ◌∙◌, subst, inl}
use Rattle.std.specs.Prelude.{map, nat_lt}
use Rattle.std.specs.List.{All}
use Rattle.st_values.specs.Arranged.{arranged}
use Rattle.st_lattice.specs.declared.attribute.Attribute.{Attribute}
use Rattle.st_lattice.specs.Outline.{attribute}
use Rattle.st_lattice.specs.Lattice.{by_number}
use Rattle.st_lattice.specs.Stores.{deleted}
use Rattle.st_pages.specs.Attempt.{over}
use Rattle.st_state.specs.Bases.{needed, still_needed}
use Rattle.st_state.specs.Refusals.{first_of}
use Rattle.st_index.proofs.Counted.{differences-none}
use Rattle.st_lookups.proofs.Lived.{finds-less}
use Rattle.st_deletes.proofs.Needed.{each-numbered}
use Rattle.st_deletes.proofs.needs.still_needed.Goals as goal

pub returns-in-Ok-clause-finds : goal.returns-in-Ok-clause-finds
returns-in-Ok-clause-finds g c = λ array s agrees same stands live.
    let e = c.args.entity in
    let stores = deleted c.args.schema.now e.ty in
    let ordered : c.as_slice.result.now ≡ by_number s.schema = c.as_slice.ensures.value ∙ c.in-Ok.ensures ∙ ap (arranged (λ a b. nat_lt a.number b.number)) c.attributes.ensures.value ∙ ap by_number (sym same) in
    let x = c.needed_by_some.ensures.finds array s agrees same stands live (subst (All (λ a. attribute s.schema a.number ≡ Some a)) (sym ordered) (each-numbered s stands.legal)) in
    finds-less (g.P.Pages.asked c.args.pages.now c.needed_by_some.new.pages) (g.P.Pages.attempt c.args.pages.now) (g.P.Pages.attempt c.needed_by_some.new.pages) array
    (λ refusal. refusal ≡ first_of (map (needed s e) c.as_slice.result.now)) (λ refusal. refusal ≡ still_needed s e) stores stores c.needed_by_some.result refl
    (λ refusal h. h ∙ ap (λ (l : List Attribute). first_of (map (needed s e) l)) ordered) x

pub returns-in-Err-clause-finds : goal.returns-in-Err-clause-finds
returns-in-Err-clause-finds g c = λ array s agrees same stands live.
    record {
      answers = tt;
      sound = tt;
      touches = record { asks = g.met.P.Pages.asked_nothing c.args.pages.now _ _; numbers = λ store page k. inl k; few = differences-none (over (g.P.Pages.attempt c.args.pages.now) array) 0 };
    }
