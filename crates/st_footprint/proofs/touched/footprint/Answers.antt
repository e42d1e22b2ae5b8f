use Rattle.std.proofs.Common.{◌≡◌, ◌∙◌, List, ℕ, ap}
use Rattle.std.proofs.lemmas.Result.{IfOk-weaker}
use Rattle.st_query.specs.Footprint.{footprint}
use Rattle.st_footprint.specs.Parts.{kept_of, touched}
use Rattle.st_footprint.proofs.Footprints.{footprint_kept}
use Rattle.st_footprint.proofs.touched.footprint.Goals as goal

pub returns : goal.returns
returns c =
    let schema = c.args.schema.now in
    let variables = c.args.variables.now in
    let statement = c.args.statement.now in
    let noted = c.in_ok-numbers.ensures ∙ ap (λ vs. touched schema vs statement) c.as_slice.ensures.value in
    IfOk-weaker c.kept.result (λ (kept : List ℕ). kept ≡ kept_of schema c.in_ok-numbers.numbers) (λ (found : List ℕ). found ≡ footprint schema variables statement)
    (λ (found : List ℕ) e. e ∙ ap (kept_of schema) noted ∙ footprint_kept schema variables statement) c.kept.ensures
