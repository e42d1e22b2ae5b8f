use Rattle.st_keys.proofs.Texts.{written}
use Rattle.st_keys.proofs.encode.encode_text.Goals as goal

pub returns-clause-ok : goal.returns-clause-ok
returns-clause-ok c =
    written c.args.limit c.args.text.now c.args.into.now c.copy_from_slice.new.self c.fill.new.self c.if-text-end.false c.requires c.copy_from_slice.ensures.after
    (c.fill.ensures.after (λ y e. e))
