use Rattle.std.proofs.Common.{◌≡◌, true, ℕ, None, Some, Option, sym, ◌∙◌, subst, arith}
use Rattle.std.specs.Prelude.{IfSome}
use Rattle.st_lattice.specs.Lattice.{isa}
use Rattle.st_lookups.specs.Looks.{is_cell}
use Rattle.st_edits.specs.Values.{IsCellAt}
use Rattle.st_edits.proofs.Exchanged.{cell-place}
use Rattle.st_edits.proofs.replacing.cell_place.Goals as goal

pub returns-clause-there : goal.returns-clause-there
returns-clause-there c =
    let schema = c.args.schema.now in
    let a = c.args.attribute.now in
    let cell : is_cell a ≡ true = grind (arith, c.is_cell.ensures, c.if-not-is_cell.false) in
    let here : isa schema c.args.ty a.owner ≡ true = grind (arith, c.isa.ensures, c.if-not-isa.false) in
    let k = cell-place schema c.args.ty a c.requires.numbered cell here in
    subst (λ (o : Option ℕ). IfSome o (λ index. IsCellAt schema c.args.ty a index)) (sym (c.cell_index.ensures ∙ k.1)) k.2

pub returns-clause-none : goal.returns-clause-none
returns-clause-none c = λ none cell here.
    let k = cell-place c.args.schema.now c.args.ty c.args.attribute.now c.requires.numbered cell here in
    apart k.0 (sym none ∙ c.cell_index.ensures ∙ k.1)
  where
    apart : (n : ℕ) → None ≡ Some n → ⊥
    apart n e = cc
