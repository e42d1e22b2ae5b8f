use Rattle.std.proofs.Common.{◌≡◌, Bool, true, false, Some, None, refl, sym, ap, ◌∙◌, arith, if◌then◌else◌}
use Rattle.std.specs.Prelude.{find}
use Rattle.st_lattice.specs.Stores.{aside}
use Rattle.st_state.specs.State.{turned}
use Rattle.st_state.specs.Bases.{is_other}
use Rattle.st_lookups.proofs.Lived.{finds-less, finds-nothing}
use Rattle.st_edits.proofs.holder.holder.Goals as goal

pub returns-then-not-attribute-clause-finds : goal.returns-then-not-attribute-clause-finds
returns-then-not-attribute-clause-finds g c = λ array s agrees same stands f.
    let a = c.args.attribute.now in
    let off : a.unique ≡ false = grind (arith, c.if-not-attribute.true) in
    finds-nothing (g.P.Pages.asked c.args.pages.now c.args.pages.now) (g.P.Pages.attempt c.args.pages.now) array (g.met.P.Pages.asked_nothing c.args.pages.now)
    (λ other. other ≡ (if a.unique then find (is_other (Some c.args.entity)) (turned a.number c.args.value.now s.triples) else None)) (aside a) None
    (sym (ap (λ (b : Bool). if b then find (is_other (Some c.args.entity)) (turned a.number c.args.value.now s.triples) else None) off))

pub returns-clause-finds : goal.returns-clause-finds
returns-clause-finds g c = λ array s agrees same stands f.
    let a = c.args.attribute.now in
    let on : a.unique ≡ true = grind (arith, c.if-not-attribute.false) in
    let found = find (is_other (Some c.args.entity)) (turned a.number c.args.value.now s.triples) in
    finds-less (g.P.Pages.asked c.args.pages.now c.other_holder.new.pages) (g.P.Pages.attempt c.args.pages.now) (g.P.Pages.attempt c.other_holder.new.pages) array (λ other. other ≡ found) (λ other. other ≡ (if a.unique then found else None)) (aside a) (aside a)
    c.other_holder.result refl (λ other h. h ∙ sym (ap (λ (b : Bool). if b then found else None) on)) (c.other_holder.ensures.finds array s agrees same stands a f on)
