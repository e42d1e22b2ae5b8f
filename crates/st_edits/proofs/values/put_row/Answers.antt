use Rattle.std.proofs.Common.{◌≡◌, ℕ, sym, ap, subst, ◌∙◌}
use Rattle.std.specs.Prelude.{IsSome, take}
use Rattle.std.specs.Int.{w32, to_be_bytes}
use Rattle.st_pages.specs.Attempt.{over}
use Rattle.st_database.specs.Touches.{WithStore}
use Rattle.st_edits.specs.Values.{its_row}
use Rattle.st_edits.proofs.Putting.{its-key, leads-put, on-ok}
use Rattle.st_edits.proofs.values.put_row.Goals as goal

pub returns-clause-leads : goal.returns-clause-leads
returns-clause-leads g c = λ array outline places view agrees d at.
    leads-put g.S.Store.holds (g.P.Pages.asked c.args.pages.now c.insert_row.new.pages) (g.P.Pages.attempt c.args.pages.now) (g.P.Pages.attempt c.insert_row.new.pages) array outline places view c.args.place.store c.args.place.key
    c.write_row.new.into (its_row c.args.schema.now c.args.entity c.args.cells.now) c.insert_row.result c.requires.extent.key c.write_row.ensures (c.insert_row.ensures.leads array outline places view agrees d at)

pub returns-clause-put : goal.returns-clause-put
returns-clause-put g c =
    let A = g.P.Pages.attempt c.args.pages.now in
    let B = g.P.Pages.attempt c.insert_row.new.pages in
    let place = c.args.place in
    let e = c.args.entity in
    let bytes = c.write_row.new.into in
    let key : take place.key bytes ≡ take place.key (to_be_bytes w32 e.serial) =
    ap (take place.key) c.write_row.ensures ∙ subst (λ (k : ℕ). take k (its_row c.args.schema.now e c.args.cells.now) ≡ take k (to_be_bytes w32 e.serial)) (sym c.requires.extent.key) (its-key c.args.schema.now e c.args.cells.now) in
    on-ok (WithStore g.S.Store.holds A B place (λ array outline places view. (page : ℕ) × g.S.Store.spot place (over A array) bytes page × IsSome (B.written page)))
    (WithStore g.S.Store.holds A B place (λ array outline places view. (page : ℕ) × g.S.Store.spot place (over A array) (to_be_bytes w32 e.serial) page × IsSome (B.written page)))
    c.insert_row.result (λ h array outline places view agrees d at. let x = h array outline places view agrees d at in (x.0, g.met.S.Store.spot_of_key place (over A array) bytes (to_be_bytes w32 e.serial) x.0 key x.1, x.2)) c.insert_row.ensures.put
