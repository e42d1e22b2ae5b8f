use Rattle.std.proofs.Common.{arith, refl, ap, sym, subst, ◌∙◌, length-take, length, get_or, true≢false}
use Rattle.std.specs.Prelude.{IsUtf8}
use Rattle.st_keys.specs.Keys.{text_key}
use Rattle.st_keys.proofs.Texts.{rebuilt, parts}
use Rattle.st_keys.proofs.decode.text_of.Goals as goal
use Rattle.st_keys.proofs.decode.text_of.Goals.{then-length-end-via-then-length-end, then-length-end-via-else-length-end+then-not-is_blank}

pub returns-in-Ok-clause-some : goal.returns-in-Ok-clause-some
returns-in-Ok-clause-some c =
    let n = get_or c.args.bytes.now c.args.limit 0 in
    let same = c.in-Ok.ensures.cases.0 in (
      omega (arith, ap length same, length-take n c.args.bytes.now),
      subst IsUtf8 (sym same) c.in-Ok.ensures.cases.1,
      ap (text_key c.args.limit) same ∙ rebuilt c.args.limit c.args.bytes.now n c.requires refl c.if-length-end.false (sym c.if-not-is_blank.ensures),
    )

pub returns-then-length-end-clause-none : goal.returns-then-length-end-clause-none
returns-then-length-end-clause-none c = λ text fits utf8 e.
    let p = parts c.args.limit text c.args.bytes.now fits e in
    elim c.then-length-end.branch [
      | then-length-end-via-then-length-end w ↦ omega (arith, p.0)
      | then-length-end-via-else-length-end+then-not-is_blank w ↦ true≢false (sym p.2 ∙ sym w.if-not-is_blank.ensures)
    ]

pub returns-in-Err-clause-none : goal.returns-in-Err-clause-none
returns-in-Err-clause-none c = λ text fits utf8 e.
    let p = parts c.args.limit text c.args.bytes.now fits e in
    c.in-Err.ensures.cases.0 (subst IsUtf8 (sym p.1) utf8)
