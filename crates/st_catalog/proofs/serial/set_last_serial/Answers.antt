use Rattle.std.proofs.Common.{IsTrue, refl, subst, sym, arith, true≢false}
use Rattle.st_image.specs.Grammar.{IsPage}
use Rattle.st_pages.specs.Attempt.{may_put}
use Rattle.st_pages.specs.Calls.{no_page, only}
use Rattle.st_pages.proofs.Carried.{only-within}
use Rattle.st_store.specs.Stores.{any_page}
use Rattle.st_catalog.proofs.Serials.{chain-may, on-ok, sets}
use Rattle.st_catalog.proofs.serial.set_last_serial.Goals as goal

pub returns-clause-set : goal.returns-clause-set
returns-clause-set g c =
    let attempt = g.P.Pages.attempt in
    on-ok _ _ c.put.result c.put.ensures.ok (λ put-is.
    sets c.laws_of_attempts.ensures.put (attempt c.args.pages.now) (attempt c.get_wanted.new.pages) (attempt c.put.new.self) c.args.place c.args.serial c.get_wanted.new.frame c.set_last_serial.new.self c.get_wanted.ensures.written
    (g.met.P.Pages.seen_stays c.get_wanted.new.pages c.put.new.self c.put.ensures.follows) c.in-Ok.ensures.image (subst (λ w. IsPage w c.get_wanted.new.frame) c.first_page-wanted.ensures c.in-Ok.ensures.wanted) c.set_last_serial.ensures put-is)

pub returns-clause-kinds : goal.returns-clause-kinds
returns-clause-kinds g c = λ puts.
    let laws = g.met.P.Pages in
    let attempt = g.P.Pages.attempt in
    let got = c.get_wanted.new.pages in
    let new = c.put.new.self in
    let sound = subst (λ w. IsPage w c.get_wanted.new.frame) c.first_page-wanted.ensures c.in-Ok.ensures.wanted in
    let may = chain-may (attempt c.args.pages.now) (attempt got) (attempt new) c.args.place.first c.get_wanted.new.frame puts c.get_wanted.ensures.written
    (laws.seen_stays c.args.pages.now got c.get_wanted.ensures.follows) (laws.seen_stays got new c.put.ensures.follows)
    (laws.drawn_stays c.args.pages.now got c.get_wanted.ensures.follows c.args.place.first) (laws.drawn_stays got new c.put.ensures.follows c.args.place.first) c.in-Ok.ensures.image sound.has_header.kind in
    laws.asked_on c.args.pages.now got new any_page (may_put (attempt new)) 0 0 c.get_wanted.ensures.follows c.put.ensures.follows
    (laws.asked_more c.args.pages.now got (only c.args.place.first) no_page any_page (may_put (attempt new)) 0 0 (λ p e. refl) (λ p e. absurd (true≢false (sym e))) (omega arith) c.get_wanted.ensures.asked)
    (laws.asked_more got new no_page (only c.args.place.first) any_page (may_put (attempt new)) 0 0 (λ p e. refl) (only-within (may_put (attempt new)) c.args.place.first may) (omega arith) c.put.ensures.asked)
