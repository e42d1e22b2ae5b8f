use Rattle.std.proofs.Common.{◌≤◌, ℕ, List, length, sym, subst}
use Rattle.std.proofs.lemmas.Bool.{ltb-false}
use Rattle.st_pages.specs.Attempt.{IsImage}
use Rattle.st_memory_pages.proofs.Blank.{behind, blank-image}
use Rattle.st_memory_pages.proofs.images.is_blank_at.Goals as goal

pub returns-in-None-clause-image : goal.returns-in-None-clause-image
returns-in-None-clause-image c =
    let past : length c.args.images.now ≤ c.args.page = ltb-false _ _ (sym c.in-None.ensures.lookup.0) in
    subst (λ (image : List ℕ). IsImage image) (sym (behind c.args.images.now c.args.page past)) blank-image
