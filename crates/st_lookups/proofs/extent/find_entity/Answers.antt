use Rattle.std.proofs.Common.{ℕ, List, OnOk, subst}
use Rattle.std.specs.Prelude.{IsSome}
use Rattle.st_pages.specs.Attempt.{over}
use Rattle.st_store.specs.Stores.{Found}
use Rattle.st_database.specs.Touches.{WithStore}
use Rattle.st_lookups.proofs.Found.{leads-finds}
use Rattle.std.specs.Int.{w32, to_be_bytes}
use Rattle.st_lookups.proofs.extent.find_entity.Goals as goal

pub returns-clause-finds : goal.returns-clause-finds
returns-clause-finds g c =
    leads-finds g.S.Store.holds (g.P.Pages.asked c.args.pages.now c.find_row.new.pages) (g.P.Pages.attempt c.args.pages.now) (g.P.Pages.attempt c.find_row.new.pages) c.args.place
    (λ found rows. Found c.args.place.key c.serial_key.result rows found c.find_row.new.row) (λ found rows. Found 4 (to_be_bytes w32 c.args.serial) rows found c.find_row.new.row)
    (λ found rows h. subst (λ (l : List ℕ). Found 4 l rows found c.find_row.new.row) c.serial_key.ensures (subst (λ (k : ℕ). Found k c.serial_key.result rows found c.find_row.new.row) c.requires.key h))
    c.find_row.result c.find_row.ensures.leads

pub returns-clause-seen : goal.returns-clause-seen
returns-clause-seen g c =
    let A = g.P.Pages.attempt c.args.pages.now in
    let B = g.P.Pages.attempt c.find_row.new.pages in
    subst (λ (l : List ℕ). OnOk c.find_row.result (WithStore g.S.Store.holds A B c.args.place (λ array schema places view. (page : ℕ) × g.S.Store.spot c.args.place (over A array) l page × IsSome (B.seen page)))) c.serial_key.ensures c.find_row.ensures.seen
