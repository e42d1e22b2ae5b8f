use Rattle.std.proofs.Common.{◌-◌, ◌∙◌, length, arith}
use Rattle.st_image.proofs.Read.{field-is}
use Rattle.st_image.proofs.form.count_of_page.Goals as goal

pub returns : goal.returns
returns c =
    c.from.ensures ∙ c.read_u16.ensures ∙ field-is 2 2 (length c.args.bytes.now - 2) c.args.bytes.now (omega (arith, c.requires)) (omega (arith, c.requires))
