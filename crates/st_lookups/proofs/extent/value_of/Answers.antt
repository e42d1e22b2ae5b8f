use Rattle.std.proofs.Common.{◌≡◌, sym, ap, ◌∙◌}
use Rattle.std.specs.Prelude.{position, ◌==◌, filter}
use Rattle.st_lattice.specs.declared.attribute.Attribute.{Attribute}
use Rattle.st_lattice.specs.Lattice.{attributes_in}
use Rattle.st_lattice.specs.Outline.{Outline}
use Rattle.st_pages.specs.Attempt.{over}
use Rattle.st_state.specs.State.{value_at}
use Rattle.st_lookups.specs.Looks.{is_cell, value_among}
use Rattle.st_index.proofs.Looked.{ok-weaken}
use Rattle.st_lookups.proofs.Valued.{cells-dead, cells-live, memory-sound, value-there}
use Rattle.st_lookups.proofs.extent.value_of.Goals as goal

pub returns-in-Ok-Some-clause-finds : goal.returns-in-Ok-Some-clause-finds
returns-in-Ok-Some-clause-finds g c = λ array s agrees same stands has.
    let x = c.in-Ok-Some.ensures.finds array s agrees same stands in
    let e = c.args.entity in
    let number = c.args.number in
    let test : Attribute → _ = λ a. a.number == number in
    let cells = cells-live s e c.in-Ok-Some.cells has.live (sym c.in-Ok-Some.field-0-is ∙ x.answers) in
    let in-rows = c.laws_of_places.ensures.in_rows (over (g.P.Pages.attempt c.args.pages.now) array) s.schema c.args.places.now stands.database.has in
    record {
      answers = ok-weaken (λ value. value ≡ value_among (position test (filter is_cell (attributes_in c.args.schema.now e.ty))) c.as_slice.result.now) (λ value. value ≡ value_at number e s.triples) c.cell_value.result
          (λ value h. h ∙ ap (λ (o : Outline). value_among (position test (filter is_cell (attributes_in o e.ty))) c.as_slice.result.now) (sym same)
          ∙ ap (value_among (position test (filter is_cell (attributes_in s.schema e.ty)))) (c.as_slice.ensures ∙ cells) ∙ value-there s e number in-rows has) c.cell_value.ensures.value;
      sound = memory-sound c.cell_value.result c.cell_value.ensures.memory;
      touches = x.touches;
    }

pub returns-in-Ok-None-clause-finds : goal.returns-in-Ok-None-clause-finds
returns-in-Ok-None-clause-finds g c = λ array s agrees same stands has.
    let x = c.in-Ok-None.ensures.finds array s agrees same stands in
    absurd (cells-dead s c.args.entity has.live (sym c.in-Ok-None.field-0-is ∙ x.answers))

pub returns-in-Err-clause-finds : goal.returns-in-Err-clause-finds
returns-in-Err-clause-finds g c = λ array s agrees same stands has.
    let x = c.in-Err.ensures.finds array s agrees same stands in
    record { answers = tt; sound = x.sound; touches = x.touches }
