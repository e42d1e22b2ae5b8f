use Rattle.std.proofs.Common.{inl, arith}
use Rattle.st_pages.specs.Attempt.{Agrees, over}
use Rattle.st_pages.specs.Calls.{no_page, only}
use Rattle.st_chain.specs.Changes.{either_of}
use Rattle.st_chain.proofs.Asking.{itself, nowhere}
use Rattle.st_chain.proofs.Numbered.{of-gone, of-linked, over-size, two-put}
use Rattle.st_chain.proofs.Putting.{on-ok, unlinked}
use Rattle.st_chain.proofs.remove.unlink.Goals as goal

pub returns-clause-asked : goal.returns-clause-asked
returns-clause-asked g c =
    let both = either_of c.args.previous c.args.page in
    g.met.P.Pages.asked_on c.args.pages.now c.get_image.new.pages c.put_both.new.pages (only c.args.previous) both 0 0 c.get_image.ensures.follows c.put_both.ensures.follows
    (g.met.P.Pages.asked_more _ _ (only c.args.previous) no_page (only c.args.previous) both 0 0 (itself (only c.args.previous)) (nowhere both) (omega arith) c.get_image.ensures.asked)
    (g.met.P.Pages.asked_more _ _ no_page both (only c.args.previous) both 0 0 (nowhere (only c.args.previous)) (itself both) (omega arith) c.put_both.ensures.asked)

pub returns-clause-unlinked : goal.returns-clause-unlinked
returns-clause-unlinked g c =
    let attempt = g.P.Pages.attempt in
    on-ok _ _ c.put_both.result c.put_both.ensures.ok (λ is array agrees.
    unlinked (attempt c.args.pages.now) (attempt c.get_image.new.pages) (attempt c.put_both.new.pages) array c.args.previous c.args.page c.args.next c.get_image.new.frame c.set_next.new.self c.blank.result
    c.get_image.ensures.written (g.met.P.Pages.seen_stays c.get_image.new.pages c.put_both.new.pages c.put_both.ensures.follows) c.in-Ok.ensures.image c.set_next.ensures c.blank.ensures is agrees)

pub returns-clause-numbers : goal.returns-clause-numbers
returns-clause-numbers g c = λ array agrees.
    let attempt = g.P.Pages.attempt in
    let old = attempt c.args.pages.now in
    let mid = attempt c.get_image.new.pages in
    let earlier : Agrees mid array = λ p image e. agrees p image (g.met.P.Pages.seen_stays c.get_image.new.pages c.put_both.new.pages c.put_both.ensures.follows p image e) in
    let size = over-size old mid array c.args.previous (g.met.P.Pages.is_sound c.args.pages.now) (g.met.P.Pages.is_sound c.get_image.new.pages) earlier c.in-Ok.ensures.seen in
    two-put old (attempt c.put_both.new.pages) array c.put_both.result mid c.args.previous c.args.page c.set_next.new.self c.blank.result c.put_both.ensures.ok c.put_both.ensures.err c.get_image.ensures.written
    (inl (of-linked c.args.next c.get_image.new.frame c.set_next.new.self (over old array c.args.previous) c.set_next.ensures (c.in-Ok.ensures.image array earlier) size))
    (inl (of-gone c.blank.result (over old array c.args.page) c.blank.ensures))
