use Rattle.std.proofs.Common.{ℕ, List, ap, ◌∙◌, arith}
use Rattle.st_image.specs.Bytes.{number, part}
use Rattle.st_image.proofs.Read.{field-is}
use Rattle.st_image.proofs.page.Page.count.Goals as goal

pub returns : goal.returns
returns c =
    c.read_u16.ensures ∙ field-is 2 2 4094 c.self.inside.bytes (omega arith) (omega arith) ∙ ap (λ (p : List ℕ). number (part 2 2 p)) c.self.view_is
