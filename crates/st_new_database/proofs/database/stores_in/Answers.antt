use Rattle.std.proofs.Common.{◌≡◌, ◌≤◌, List, ℕ, length, ap, arith}
use Rattle.std.proofs.lemmas.Result.{IfOk-weaker}
use Rattle.st_lattice.specs.Stores.{stores_of}
use Rattle.st_new_database.proofs.Sizes.{few-stores}
use Rattle.st_new_database.proofs.database.stores_in.Goals as goal

pub returns-clause-few : goal.returns-clause-few
returns-clause-few c =
    let few : length (stores_of c.args.schema.now) ≤ 66560 =
    omega (arith, few-stores c.args.schema.now, c.type_count-types.ensures, c.attributes-attributes.ensures.few, ap length c.attributes-attributes.ensures.value) in
    IfOk-weaker c.stores_of.result (λ (stores : List ℕ). stores ≡ stores_of c.args.schema.now) _ (λ stores e. omega (arith, ap length e, few)) c.stores_of.ensures
