use Rattle.std.proofs.Common.{◌<◌, ◌≤◌, length, sym, arith}
use Rattle.std.proofs.lemmas.Result.{err_from_is_err_and}
use Rattle.st_sexp.proofs.ReadLemmas.{read_none, read_more, due_next, due_put, due_end}
use Rattle.st_sexp.proofs.reader.read.Goals as goal

pub loop-nest-init : goal.loop-nest-init
loop-nest-init c = read_none c.args.bytes.now c.new-nest.result c.new-nest.ensures.levels c.new-nest.ensures.forms

pub next-requires-clause-at : goal.next-requires-clause-at
next-requires-clause-at c = c.loop-nest.invariant.inside

pub returns-in_err-token : goal.returns-in_err-token
returns-in_err-token c =
    let p = err_from_is_err_and c.from_residual.result c.from_residual.ensures.1 in
    rw (p.1, p.2) (due_next c.args.bytes.now c.loop-nest.at c.loop-nest.nest _ c.in_default.ensures.cases.1 c.loop-nest.invariant c.in_err-token.ensures.read)

pub loop-nest-smaller : goal.loop-nest-smaller
loop-nest-smaller c =
    let within = rw c.in-Some.is at c.in_ok-token.ensures.within in
    let behind : c.loop-nest.at < c.in-Some.token.to = omega (arith, within.begins, within.some) in
    let inside : c.in-Some.token.to ≤ length c.args.bytes.now = within.ends in
    omega arith

pub loop-nest-preserved : goal.loop-nest-preserved
loop-nest-preserved c =
    let within = rw c.in-Some.is at c.in_ok-token.ensures.within in
    let found = sym (rw c.in-Some.is at c.in_ok-token.ensures.read) in
    read_more c.args.bytes.now c.loop-nest.at c.loop-nest.nest c.put.new.self c.in-Some.token c.loop-nest.invariant within.ends found c.in_ok-put.ensures.tokens c.in_ok-put.ensures.opens

pub returns-in_err-put : goal.returns-in_err-put
returns-in_err-put c =
    let p = err_from_is_err_and c.from_residual-in_err-put.result c.from_residual-in_err-put.ensures.1 in
    let found = sym (rw c.in-Some.is at c.in_ok-token.ensures.read) in
    rw (p.1, p.2) (due_put c.args.bytes.now c.loop-nest.at c.loop-nest.nest c.in-Some.token _ _ c.in_default.ensures.cases.1 c.loop-nest.invariant found c.in_err-put.ensures.fault)

pub returns : goal.returns
returns c =
    let ended = sym (rw c.in_default-2.is at c.in_ok-token.ensures.read) in
    due_end c.args.bytes.now c.loop-nest.at c.loop-nest.nest c.finish.result c.in_default.ensures.cases.1 c.loop-nest.invariant ended c.finish.ensures.closed c.finish.ensures.tokens c.finish.ensures.fault
