use Rattle.std.proofs.Common.{◌≤◌, ℕ, List, arith}
use Rattle.st_image.specs.Parts.{IsText}
use Rattle.st_image.proofs.PageChecks.{body-wrong, front-wrong, page-right, text-some}
use Rattle.st_image.proofs.form.text_page_fault.Goals as goal

pub returns-in-Some : goal.returns-in-Some
returns-in-Some c =
    let kind : ℕ = c.args.head.now.kind in
    let least : ℕ = c.args.head.now.least in
    let most : ℕ = c.args.head.now.most in
    let store : ℕ = c.args.head.now.store in
    let next : ℕ = c.args.head.now.next in
    let last : ℕ = c.args.head.now.last in
    let page : List ℕ = c.args.bytes.now in
    let small : most ≤ 4080 = c.requires.room in
    front-wrong kind least most store next last IsText (λ n h. text-some n (omega (arith, h, small))) page c.in-Some.place c.requires.size c.in-Some.ensures

pub returns-in-Some-text_fault : goal.returns-in-Some-text_fault
returns-in-Some-text_fault c =
    let kind : ℕ = c.args.head.now.kind in
    let least : ℕ = c.args.head.now.least in
    let most : ℕ = c.args.head.now.most in
    let store : ℕ = c.args.head.now.store in
    let next : ℕ = c.args.head.now.next in
    let last : ℕ = c.args.head.now.last in
    let page : List ℕ = c.args.bytes.now in
    body-wrong kind least most store next last IsText page c.count_of_page.result c.in-Some-text_fault.place c.requires.size c.count_of_page.ensures c.in_default.ensures c.in-Some-text_fault.ensures

pub returns-in-None : goal.returns-in-None
returns-in-None c =
    let kind : ℕ = c.args.head.now.kind in
    let least : ℕ = c.args.head.now.least in
    let most : ℕ = c.args.head.now.most in
    let store : ℕ = c.args.head.now.store in
    let next : ℕ = c.args.head.now.next in
    let last : ℕ = c.args.head.now.last in
    let page : List ℕ = c.args.bytes.now in
    page-right kind least most store next last IsText page c.count_of_page.result c.count_of_page.ensures c.in_default.ensures c.in-None.ensures
