use Rattle.std.proofs.Common.{◌+◌, ◌<◌, ◌≤◌, ◌==◌, Bool, List, length, drop, sym, ap, ◌∙◌, arith}
use Rattle.std.specs.Prelude.{position}
use Rattle.st_lattice.specs.declared.attribute.Attribute.{Attribute}
use Rattle.st_lookups.proofs.Celled.{all-cells, cells_among, end-cells, has-cell, passed-all, passed-here, same-number}
use Rattle.st_lookups.proofs.extent.cell_index.Goals as goal

pub returns-then-attribute-number : goal.returns-then-attribute-number
returns-then-attribute-number c =
    let schema = c.args.schema.now in
    let ty = c.args.ty in
    let xs = c.attributes-attributes.result.now in
    let k = c.loop-attribute.attribute-index in
    let a = c.attribute-item.result in
    let test : Attribute → Bool = λ b. b.number == c.args.number in
    let within : k < length xs = omega arith in
    passed-here test (cells_among schema ty xs) (cells_among schema ty (drop k xs)) (cells_among schema ty (drop (k + 1) xs)) a c.loop-attribute.index
    (has-cell schema ty k xs a c.is_cell_of.result within c.attribute-item.is c.is_cell_of.ensures c.if-is_cell_of.true) (same-number a.number c.args.number c.if-attribute-number.true) c.loop-attribute.invariant.passed
    ∙ ap (λ (l : List Attribute). position test (cells_among schema ty l)) c.attributes-attributes.ensures.value ∙ sym (ap (position test) (all-cells schema ty))

pub returns : goal.returns
returns c =
    let schema = c.args.schema.now in
    let ty = c.args.ty in
    let xs = c.attributes-attributes.result.now in
    let k = c.loop-attribute.attribute-index in
    let test : Attribute → Bool = λ b. b.number == c.args.number in
    let past : length xs ≤ k = omega arith in
    passed-all test (cells_among schema ty xs) (cells_among schema ty (drop k xs)) c.loop-attribute.index (end-cells schema ty k xs past) c.loop-attribute.invariant.passed
    ∙ ap (λ (l : List Attribute). position test (cells_among schema ty l)) c.attributes-attributes.ensures.value ∙ sym (ap (position test) (all-cells schema ty))
