use Rattle.std.proofs.Common.{ℕ, List, ap, ◌∙◌, arith}
use Rattle.st_image.specs.Bytes.{number, part}
use Rattle.st_image.proofs.Read.{field-is}
use Rattle.st_image.proofs.page.Page.next.Goals as goal

pub returns : goal.returns
returns c =
    c.read_u32.ensures ∙ field-is 8 4 4088 c.self.inside.bytes (omega arith) (omega arith) ∙ ap (λ (p : List ℕ). number (part 8 4 p)) c.self.view_is
