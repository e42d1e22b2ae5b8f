use Rattle.std.proofs.Common.{◌∷◌, ◌++◌, take, drop, refl, inl}
use Rattle.st_image.specs.Fields.{rows_of}
use Rattle.st_pages.specs.Attempt.{over}
use Rattle.st_chain.proofs.Numbered.{of-made, one-put}
use Rattle.st_chain.proofs.Putting.{edit-on-ok}
use Rattle.st_chain.proofs.insert.add.Goals as goal

pub returns-then-count-width-le4080-clause-added : goal.returns-then-count-width-le4080-clause-added
returns-then-count-width-le4080-clause-added g c =
    edit-on-ok c.args.place (g.P.Pages.attempt c.args.pages.now) (g.P.Pages.attempt c.put_one.new.pages) c.put_one.result c.args.page c.args.frame.now c.insert_row.new.page
    (take c.args.index (rows_of c.args.place.width c.args.frame.now) ++ c.args.row.now ∷ drop c.args.index (rows_of c.args.place.width c.args.frame.now)) c.put_one.ensures.ok
    (record { laid = c.insert_row.ensures.laid; head = c.insert_row.ensures.head; lists = c.insert_row.ensures.rows })

pub returns-then-count-width-le4080-clause-numbers : goal.returns-then-count-width-le4080-clause-numbers
returns-then-count-width-le4080-clause-numbers g c = λ array agrees at.
    let old = g.P.Pages.attempt c.args.pages.now in
    one-put old (g.P.Pages.attempt c.put_one.new.pages) array c.put_one.result old c.args.page c.insert_row.new.page c.put_one.ensures.ok c.put_one.ensures.err refl
    (inl (of-made c.args.frame.now c.insert_row.new.page (over old array c.args.page) c.insert_row.ensures.head at))
