use Rattle.st_rows.proofs.Ordered.{serial-order, row-width, row-order, row-once, pair-order}
use Rattle.st_rows.proofs.Reading.{row-within}
use Rattle.st_rows.proofs.Refused.{row-refused, row-place}
use Rattle.st_rows.proofs.RowLaws.{row_fields-width, pair_fields-width}
use Rattle.st_rows.proofs.laws.laws_of_rows.Goals as goal

pub returns-clause-width : goal.returns-clause-width
returns-clause-width c = row-width c.laws_of_keys.ensures.width

pub returns-clause-row_width : goal.returns-clause-row_width
returns-clause-row_width c = row_fields-width

pub returns-clause-pair_width : goal.returns-clause-pair_width
returns-clause-pair_width c = pair_fields-width

pub returns-clause-one_spelling : goal.returns-clause-one_spelling
returns-clause-one_spelling c = row-once c.laws_of_keys.ensures.width c.laws_of_keys.ensures.order

pub returns-clause-refused : goal.returns-clause-refused
returns-clause-refused c = row-refused c.laws_of_keys.ensures.width

pub returns-clause-one_place : goal.returns-clause-one_place
returns-clause-one_place c = row-place

pub returns-clause-within : goal.returns-clause-within
returns-clause-within c = row-within

pub returns-clause-order : goal.returns-clause-order
returns-clause-order c = row-order c.laws_of_keys.ensures.width c.laws_of_keys.ensures.order

pub returns-clause-pairs : goal.returns-clause-pairs
returns-clause-pairs c = pair-order c.laws_of_keys.ensures.width c.laws_of_keys.ensures.order

pub returns-clause-serials : goal.returns-clause-serials
returns-clause-serials c = λ schema ty m n xs ys small less. serial-order m n small less
