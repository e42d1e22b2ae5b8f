use Rattle.std.proofs.Common.{ℕ, ◌-◌, ◌*◌, List}
use Rattle.st_image.specs.Parts.{Rows}
use Rattle.st_image.proofs.PageChecks.{front-wrong, rows-body-right, rows-body-some, rows-body-wrong}
use Rattle.st_image.proofs.form.row_page_fault.Goals as goal

pub returns-in-Some : goal.returns-in-Some
returns-in-Some c =
    let kind : ℕ = c.args.head.now.kind in
    let least : ℕ = c.args.head.now.least in
    let most : ℕ = c.args.head.now.most in
    let store : ℕ = c.args.head.now.store in
    let next : ℕ = c.args.head.now.next in
    let last : ℕ = c.args.head.now.last in
    let page : List ℕ = c.args.bytes.now in
    front-wrong kind least most store next last (λ m. Rows c.args.child c.args.key c.args.width (4080 - m * c.args.width) c.args.first m 0) (λ n h. rows-body-some c.args.child c.args.key c.args.width c.args.first most n c.requires.within c.requires.keys h) page c.in-Some.place c.requires.size c.in-Some.ensures

pub returns-in-Some-rows_fault : goal.returns-in-Some-rows_fault
returns-in-Some-rows_fault c =
    let kind : ℕ = c.args.head.now.kind in
    let least : ℕ = c.args.head.now.least in
    let most : ℕ = c.args.head.now.most in
    let store : ℕ = c.args.head.now.store in
    let next : ℕ = c.args.head.now.next in
    let last : ℕ = c.args.head.now.last in
    let page : List ℕ = c.args.bytes.now in
    rows-body-wrong kind least most store next last c.args.child c.args.key c.args.width c.args.first page c.count_of_page.result c.in-Some-rows_fault.place c.requires.size c.count_of_page.ensures c.in_default.ensures c.in-Some-rows_fault.ensures

pub returns-in-None : goal.returns-in-None
returns-in-None c =
    let kind : ℕ = c.args.head.now.kind in
    let least : ℕ = c.args.head.now.least in
    let most : ℕ = c.args.head.now.most in
    let store : ℕ = c.args.head.now.store in
    let next : ℕ = c.args.head.now.next in
    let last : ℕ = c.args.head.now.last in
    let page : List ℕ = c.args.bytes.now in
    rows-body-right kind least most store next last c.args.child c.args.key c.args.width c.args.first page c.count_of_page.result c.requires.size c.count_of_page.ensures c.in_default.ensures c.in-None.ensures
