use Rattle.std.proofs.Common.{◌≡◌, ℕ, ◌≤◌, take, replicate, ap, ◌∙◌}
use Rattle.std.proofs.lemmas.List.{take-replicate}
use Rattle.st_image.specs.Bytes.{number}
use Rattle.st_image.proofs.Zeros.{number-zeros}
use Rattle.st_image.proofs.rows.rows_fault.Goals as goal

pub rows_between-requires-clause-zero : goal.rows_between-requires-clause-zero
rows_between-requires-clause-zero c = zeros 256 c.args.key c.requires.key
  where
    zeros : (n k : ℕ) → k ≤ n → number (take k (replicate n 0)) ≡ 0
    zeros n k h = ap number (take-replicate k n 0 h) ∙ number-zeros k
