use Rattle.std.proofs.Common.{◌≡◌, ◌||◌, true, false, List, ℕ, Some, ◌∷◌, [], sym, ap, ◌∙◌, subst}
use Rattle.std.specs.Prelude.{◌==◌, is_some}
use Rattle.st_values.specs.declared.value.EntityId.{EntityId}
use Rattle.st_lattice.specs.Outline.{Outline, attribute}
use Rattle.st_lattice.specs.Stores.{cell, index_of, inverse_of}
use Rattle.st_pages.specs.Attempt.{over}
use Rattle.st_state.specs.State.{turned}
use Rattle.st_state.specs.Calls.{CanHold, found_in, stores_by}
use Rattle.st_standing.proofs.Fitting.{found-holds}
use Rattle.st_lookups.specs.Looks.{Finds}
use Rattle.st_lookups.proofs.Kept.{found-in, in-cells}
use Rattle.st_lookups.proofs.Lived.{finds-less}
use Rattle.st_lookups.proofs.Membered.{found-again, its-number, number-below}
use Rattle.st_lookups.proofs.having.turned.Goals as goal

pub row_holders-requires-clause-there : goal.row_holders-requires-clause-there
row_holders-requires-clause-there g c = found-again c.args.schema.now c.args.number c.in-Some.attribute.now c.in-Some.ensures

pub returns-then-is_found-clause-finds : goal.returns-then-is_found-clause-finds
returns-then-is_found-clause-finds g c = λ array s agrees same stands can.
    let A = g.P.Pages.attempt c.args.pages.now in
    let B = g.P.Pages.attempt c.found_holders.new.pages in
    let asked = g.P.Pages.asked c.args.pages.now c.found_holders.new.pages in
    let schema = c.args.schema.now in
    let n = c.args.number in
    let v = c.args.value.now in
    let x = c.in-Some.attribute.now in
    let f : attribute schema n ≡ Some x = sym c.in-Some.ensures in
    let fs : attribute s.schema n ≡ Some x = ap (λ (o : Outline). attribute o n) same ∙ f in
    let has = stands.database.has in
    let unique = found-holds (λ b. b.unique ≡ true → b.index ≡ true) (λ b. b.number == n) s.schema.attributes x (c.laws_of_places.ensures.indexed (over A array) s.schema c.args.places.now has) fs in
    let test : (is_some x.inverse || (x.index || x.unique)) ≡ true = sym c.is_found.ensures ∙ c.if-is_found.true in
    let found = found-in s.schema c.args.places.now has.names.of n stands.legal.orderly.few_types stands.legal.orderly.next (number-below s.schema n x has.spells.readable fs) x fs (its-number schema n x c.in-Some.ensures) unique test in
    finds-less asked A B array (λ (entities : List EntityId). entities ≡ turned n v s.triples) (λ entities. entities ≡ turned n v s.triples) (found.0.store ∷ []) (stores_by (found_in schema) (attribute schema n)) c.found_holders.result
    (found.2 ∙ ap (λ (o : Outline). found_in o x) same ∙ ap (stores_by (found_in schema)) (sym f)) (λ entities e. e)
    (c.found_holders.ensures.finds found.0 found.1 array s agrees same stands (ap is_some fs))

pub returns-else-is_found-clause-finds : goal.returns-else-is_found-clause-finds
returns-else-is_found-clause-finds g c = λ array s agrees same stands can.
    let A = g.P.Pages.attempt c.args.pages.now in
    let B = g.P.Pages.attempt c.row_holders.new.pages in
    let asked = g.P.Pages.asked c.args.pages.now c.row_holders.new.pages in
    let schema = c.args.schema.now in
    let n = c.args.number in
    let v = c.args.value.now in
    let x = c.in-Some.attribute.now in
    let f : attribute schema n ≡ Some x = sym c.in-Some.ensures in
    let test : (is_some x.inverse || (x.index || x.unique)) ≡ false = sym c.is_found.ensures ∙ c.if-is_found.false in
    let found = subst (λ (k : ℕ). CanHold s k v → Finds asked A B array (λ (entities : List EntityId). entities ≡ turned k v s.triples) (cell schema x) c.row_holders.result) (its-number schema n x c.in-Some.ensures)
    (c.row_holders.ensures.finds array s agrees same stands) can in
    finds-less asked A B array (λ (entities : List EntityId). entities ≡ turned n v s.triples) (λ entities. entities ≡ turned n v s.triples) (cell schema x) (stores_by (found_in schema) (attribute schema n)) c.row_holders.result
    (in-cells (inverse_of x) (index_of x) (cell schema x) (is_some x.inverse) (x.index || x.unique) test ∙ ap (stores_by (found_in schema)) (sym f)) (λ entities e. e) found
