use Rattle.std.proofs.Common.{refl, subst, arith}
use Rattle.std.proofs.Math.Nat.{div-le_self}
use Rattle.st_image.specs.Fields.{rows_of}
use Rattle.st_page_rows.specs.PageRows.{IsAbsent, IsThere}
use Rattle.st_page_rows.proofs.Standing.{absent-from, there-from, there-within}
use Rattle.st_chain.proofs.Walks.{count-rows}
use Rattle.st_chain.proofs.chain.index_from.Goals as goal

pub overflow_cast-result : goal.overflow_cast-result
overflow_cast-result c =
    let rows = rows_of c.args.place.width c.args.page.now in
    let key = c.args.key.now in
    let within = there-within c.args.place.key key key rows c.in-Ok.index refl (subst (λ n. IsThere n key rows c.in-Ok.index) c.requires.key c.in-Ok.ensures.there) in
    let size = count-rows c.args.place c.args.page.now in
    let most = c.requires.sound.has_header.most in
    let least = div-le_self 4080 c.args.place.width in
    omega (arith, within, size, most, least)

pub returns-in-Ok-clause-within : goal.returns-in-Ok-clause-within
returns-in-Ok-clause-within c =
    let rows = rows_of c.args.place.width c.args.page.now in
    let key = c.args.key.now in
    let within = there-within c.args.place.key key key rows c.in-Ok.index refl (subst (λ n. IsThere n key rows c.in-Ok.index) c.requires.key c.in-Ok.ensures.there) in
    let size = count-rows c.args.place c.args.page.now in
    omega (arith, within, size)

pub returns-in-Ok-clause-from : goal.returns-in-Ok-clause-from
returns-in-Ok-clause-from c =
    let rows = rows_of c.args.place.width c.args.page.now in
    let key = c.args.key.now in
    there-from c.args.place.key key key rows c.in-Ok.index refl (subst (λ n. IsThere n key rows c.in-Ok.index) c.requires.key c.in-Ok.ensures.there)

pub overflow_cast-result-in-Err : goal.overflow_cast-result-in-Err
overflow_cast-result-in-Err c =
    let within = c.in-Err.ensures.absent.within in
    let size = count-rows c.args.place c.args.page.now in
    let most = c.requires.sound.has_header.most in
    let least = div-le_self 4080 c.args.place.width in
    omega (arith, within, size, most, least)

pub returns-in-Err-clause-within : goal.returns-in-Err-clause-within
returns-in-Err-clause-within c =
    let within = c.in-Err.ensures.absent.within in
    let size = count-rows c.args.place c.args.page.now in
    omega (arith, within, size)

pub returns-in-Err-clause-from : goal.returns-in-Err-clause-from
returns-in-Err-clause-from c =
    let rows = rows_of c.args.place.width c.args.page.now in
    let key = c.args.key.now in
    absent-from c.args.place.key key key rows c.in-Err.index refl (subst (λ n. IsAbsent n key rows c.in-Err.index) c.requires.key c.in-Err.ensures.absent)
