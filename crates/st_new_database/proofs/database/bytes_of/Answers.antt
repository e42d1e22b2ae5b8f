use Rattle.std.proofs.Common.{◌≡◌, ◌≤◌, length, ap, arith}
use Rattle.std.proofs.lemmas.Result.{IfOk-weaker}
use Rattle.st_schema_bytes.specs.SchemaBytes.{schema_bytes}
use Rattle.st_schema_bytes.proofs.ByteLaws.{short-bytes}
use Rattle.st_new_database.proofs.database.bytes_of.Goals as goal

pub returns-clause-few : goal.returns-clause-few
returns-clause-few c =
    let few : length (schema_bytes c.args.schema.now) ≤ 1049350 =
    short-bytes c.args.schema.now c.requires (omega (arith, c.attributes-attributes.ensures.few, ap length c.attributes-attributes.ensures.value)) in
    IfOk-weaker c.encode_schema.result (λ bytes. bytes.items ≡ schema_bytes c.args.schema.now) _ (λ bytes e. omega (arith, ap length e, few)) c.encode_schema.ensures
