use Rattle.std.proofs.Common.{arith, inl, inr}
use Rattle.st_schema_bytes.specs.SchemaBytes.{schema_text}
use Rattle.st_schema_bytes.proofs.Front.{text-read, four, fits}
use Rattle.st_schema_bytes.proofs.decode.text_of.Goals as goal

-- src/decode.rt:46:9
pub returns-then-bytes-lt4-clause-none : goal.returns-then-bytes-lt4-clause-none
returns-then-bytes-lt4-clause-none c = λ schema readable same.
    let size = four c.args.bytes.now schema same in
    omega (arith, size, c.if-bytes-lt4.true)

-- src/decode.rt:51:9
pub returns-then-length-gt1048576-clause-none : goal.returns-then-length-gt1048576-clause-none
unfolding schema_text
returns-then-length-gt1048576-clause-none c = λ schema readable same.
    let both = fits c.args.bytes.now c.read_u32-length.result schema same (c.laws_of_canonical_texts.ensures.short readable.0 schema readable.1) c.read_u32-length.ensures in
    elim c.then-length-gt1048576.either [
      | inl long ↦ omega (arith, both.0, long)
      | inr far ↦ omega (arith, both.1, far.1)
    ]

pub returns-clause-text : goal.returns-clause-text
unfolding schema_text
returns-clause-text c = λ schema readable same.
    text-read c.args.bytes.now c.read_u32-length.result schema same (c.laws_of_canonical_texts.ensures.short readable.0 schema readable.1) c.read_u32-length.ensures
