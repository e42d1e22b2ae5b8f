use Rattle.std.proofs.Common.{◌≡◌, ◌∙◌, ℕ, Bool, ap, sym, true, false}
use Rattle.std.specs.Option.{option_copied}
use Rattle.st_lattice.specs.Stores.{store, keeps_one}
use Rattle.st_lattice.specs.Outline.{attribute}
use Rattle.st_lattice.proofs.Lattices.{stores_more, stores_same}
use Rattle.st_lattice.proofs.stores.push_stores.Goals.{then-keeps_one+in_ok-push, else-keeps_one}
use Rattle.st_lattice.proofs.stores.push_stores.Goals as goal

pub loop-number-preserved : goal.loop-number-preserved
loop-number-preserved c =
    let i = c.loop-number.number in
    let p : ℕ → Bool = λ number. keeps_one c.args.kind (attribute c.args.schema.now number) in
    let same : p i ≡ keeps_one c.args.kind (option_copied c.attribute.result) = ap (keeps_one c.args.kind) (sym c.attribute.ensures) in
    elim c.if-keeps_one.branch [
      | then-keeps_one+in_ok-push w ↦ let yes : p i ≡ true = same ∙ sym w.if-keeps_one.ensures in
          rw (w.into-is, w.in_ok-push.ensures.ok, c.loop-number.invariant, w.store.ensures) (stores_more (store c.args.kind) p c.args.into.now i yes)
      | else-keeps_one w ↦ let no : p i ≡ false = same ∙ sym w.if-keeps_one.ensures in
          rw (w.into-is, c.loop-number.invariant) (stores_same (store c.args.kind) p c.args.into.now i no)
    ]
