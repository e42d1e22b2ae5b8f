use Rattle.std.proofs.Common.{refl, sym, ap, ◌∙◌, Err, subst, inl, inr}
use Rattle.st_image.specs.declared.wanted.Wanted.TheVariants.{Schema}
use Rattle.st_pages.specs.Attempt.{over}
use Rattle.st_schema_bytes.specs.SchemaBytes.{AreOfNone}
use Rattle.st_catalog.specs.Catalog.{bytes_in}
use Rattle.st_catalog.specs.Reading.{Walked, IsUpTo}
use Rattle.st_catalog.proofs.Gathered.{spelled, unspelled}
use Rattle.st_catalog.proofs.read.read_schema.Goals as goal

pub returns-in-Ok-false-clause-broken : goal.returns-in-Ok-false-clause-broken
returns-in-Ok-false-clause-broken g c = λ pages agrees.
    let array = over (g.P.Pages.attempt c.args.pages.now) pages in
    inr (refl, refl, inl (subst (λ b. Walked b Schema array 1 (λ images. IsUpTo 1049350 c.walk.new.gather.bytes.items (bytes_in images))) c.in-Ok-false.field-0-test (c.in-Ok-false.ensures.walked pages agrees)))

pub returns-in-Ok-clause-spells : goal.returns-in-Ok-clause-spells
returns-in-Ok-clause-spells g c = λ pages agrees.
    let array = over (g.P.Pages.attempt c.args.pages.now) pages in
    spelled c.laws_of_schema_bytes.ensures.short array c.walk.new.gather.bytes.items c.in-Ok.schema
    (subst (λ b. Walked b Schema array 1 (λ images. IsUpTo 1049350 c.walk.new.gather.bytes.items (bytes_in images))) c.in-Ok-true.field-0-test (c.in-Ok-true.ensures.walked pages agrees))
    (sym c.deref.ensures.value ∙ c.in-Ok.ensures.bytes) c.in-Ok.ensures.readable

pub returns-in-Err-NoSchema-clause-broken : goal.returns-in-Err-NoSchema-clause-broken
returns-in-Err-NoSchema-clause-broken g c = λ pages agrees.
    let array = over (g.P.Pages.attempt c.args.pages.now) pages in
    inr (
      refl,
      refl,
      unspelled c.laws_of_schema_bytes.ensures.short array c.walk.new.gather.bytes.items
          (subst (λ b. Walked b Schema array 1 (λ images. IsUpTo 1049350 c.walk.new.gather.bytes.items (bytes_in images))) c.in-Ok-true.field-0-test (c.in-Ok-true.ensures.walked pages agrees))
          (subst AreOfNone c.deref.ensures.value (c.in-Err-NoSchema.ensures.none (ap (λ f. Err f) c.in-Err-NoSchema.field-0-is))),
    )
