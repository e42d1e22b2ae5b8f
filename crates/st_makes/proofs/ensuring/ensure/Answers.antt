use Rattle.std.proofs.Common.{◌-◌, ◌∷◌, length, take, drop, sym, ◌∙◌, ap, subst}
use Rattle.std.specs.Option.{option_copied}
use Rattle.st_lattice.specs.Lattice.{attribute_of}
use Rattle.st_state.specs.Calls.{HasAttribute}
use Rattle.st_terms.proofs.Walks.{parted}
use Rattle.st_makes.proofs.Holding.{there-by-name}
use Rattle.st_makes.proofs.Ensures.{ensure-as}
use Rattle.st_makes.proofs.ensuring.ensure.Goals as goal

pub ensure_of-requires-clause-key : goal.ensure_of-requires-clause-key
ensure_of-requires-clause-key g c =
    subst (λ o. HasAttribute o c.in-Some.key.now.number) c.requires
    (there-by-name c.args.schema.now c.in-Some-len1-up.ty c.as_slice.result.now c.in-Some.key.now (sym c.attribute_of.ensures ∙ ap option_copied c.in-Some.is))

pub returns-in-Some-clause-changes : goal.returns-in-Some-clause-changes
returns-in-Some-clause-changes g c = λ w s agrees stands var checked.
    let key = c.key-item.result in
    let rest = take (length c.args.cells.now - 1) (drop 1 c.args.cells.now) in
    let same = g.met.B.Base.stands_with_schema _ w s stands ∙ sym c.requires in
    ensure-as s c.args.schema.now c.args.variables.now var c.args.ty.now c.args.cells.now key rest c.in-Some-len1-up.ty c.in-Some.key.now same
    (sym c.type_named.ensures.value ∙ c.in-Some-len1-up.is-0) (ap (λ n. attribute_of c.args.schema.now c.in-Some-len1-up.ty n) (sym c.as_slice.ensures.value) ∙ sym c.attribute_of.ensures ∙ ap option_copied c.in-Some.is)
    (parted c.args.cells.now key c.in-Some-len1-up.len_at_least ∙ ap (λ x. x ∷ rest) (sym c.key-item.is)) _ _ _
    (λ admits first others is near meant can. c.ensure_of.ensures.changes w s agrees stands admits first others is near meant can) checked
