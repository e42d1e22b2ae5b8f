use Rattle.std.proofs.Common.{◌≡◌, ℕ, ◌+◌, ◌-◌, ◌*◌, ◌/◌, ◌≤◌, ◌∙◌, refl, ap, sym, subst, arith}
use Rattle.st_image.specs.Fields.{count_of}
use Rattle.st_chain.proofs.Parting.{IsCut, count-behind, count-front, cut-half, cut-whole, parted-behind, parted-front}
use Rattle.st_chain.proofs.insert.parted.Goals as goal
use Rattle.st_chain.proofs.insert.parted.Goals.{then-index-count, else-index-count}

pub insert_row-requires-clause-within : goal.insert_row-requires-clause-within
insert_row-requires-clause-within c =
    let cuts : IsCut c.args.width (count_of c.args.page.now) c.args.index c.if-index-count.cut = elim c.if-index-count.branch [
      | then-index-count w ↦ cut-whole c.args.width (count_of c.args.page.now) c.args.index c.if-index-count.cut c.requires.short c.requires.laid.room c.requires.full (w.if-index-count.true ∙ c.count-count.ensures) (w.cut-is ∙ c.count-count.ensures)
      | else-index-count w ↦ cut-half c.args.width (count_of c.args.page.now) c.args.index c.if-index-count.cut c.requires.short c.requires.laid.room c.requires.full (w.cut-is ∙ ap (λ (n : ℕ). n / 2) c.count-count.ensures)
    ] in
    let front : count_of c.split_off-other.new.page ≡ c.if-index-count.cut = count-front c.args.width (count_of c.args.page.now) c.if-index-count.cut c.args.page.now c.split_off-other.new.page refl cuts.within c.split_off-other.ensures.rows in
    omega arith

pub insert_row-requires-clause-room : goal.insert_row-requires-clause-room
insert_row-requires-clause-room c =
    let cuts : IsCut c.args.width (count_of c.args.page.now) c.args.index c.if-index-count.cut = elim c.if-index-count.branch [
      | then-index-count w ↦ cut-whole c.args.width (count_of c.args.page.now) c.args.index c.if-index-count.cut c.requires.short c.requires.laid.room c.requires.full (w.if-index-count.true ∙ c.count-count.ensures) (w.cut-is ∙ c.count-count.ensures)
      | else-index-count w ↦ cut-half c.args.width (count_of c.args.page.now) c.args.index c.if-index-count.cut c.requires.short c.requires.laid.room c.requires.full (w.cut-is ∙ ap (λ (n : ℕ). n / 2) c.count-count.ensures)
    ] in
    let front : count_of c.split_off-other.new.page ≡ c.if-index-count.cut = count-front c.args.width (count_of c.args.page.now) c.if-index-count.cut c.args.page.now c.split_off-other.new.page refl cuts.within c.split_off-other.ensures.rows in
    let room : (c.if-index-count.cut + 1) * c.args.width ≤ 4080 = cuts.front c.if-index-cut.true in
    subst (λ (n : ℕ). (n + 1) * c.args.width ≤ 4080) (sym front) room

pub insert_row-requires-else-index-cut-clause-within : goal.insert_row-requires-else-index-cut-clause-within
insert_row-requires-else-index-cut-clause-within c =
    let cuts : IsCut c.args.width (count_of c.args.page.now) c.args.index c.if-index-count.cut = elim c.if-index-count.branch [
      | then-index-count w ↦ cut-whole c.args.width (count_of c.args.page.now) c.args.index c.if-index-count.cut c.requires.short c.requires.laid.room c.requires.full (w.if-index-count.true ∙ c.count-count.ensures) (w.cut-is ∙ c.count-count.ensures)
      | else-index-count w ↦ cut-half c.args.width (count_of c.args.page.now) c.args.index c.if-index-count.cut c.requires.short c.requires.laid.room c.requires.full (w.cut-is ∙ ap (λ (n : ℕ). n / 2) c.count-count.ensures)
    ] in
    let behind : count_of c.split_off-other.result ≡ count_of c.args.page.now - c.if-index-count.cut = count-behind c.args.width (count_of c.args.page.now) c.if-index-count.cut c.args.page.now c.split_off-other.result refl c.split_off-other.ensures.other_rows in
    omega arith

pub insert_row-requires-else-index-cut-clause-room : goal.insert_row-requires-else-index-cut-clause-room
insert_row-requires-else-index-cut-clause-room c =
    let cuts : IsCut c.args.width (count_of c.args.page.now) c.args.index c.if-index-count.cut = elim c.if-index-count.branch [
      | then-index-count w ↦ cut-whole c.args.width (count_of c.args.page.now) c.args.index c.if-index-count.cut c.requires.short c.requires.laid.room c.requires.full (w.if-index-count.true ∙ c.count-count.ensures) (w.cut-is ∙ c.count-count.ensures)
      | else-index-count w ↦ cut-half c.args.width (count_of c.args.page.now) c.args.index c.if-index-count.cut c.requires.short c.requires.laid.room c.requires.full (w.cut-is ∙ ap (λ (n : ℕ). n / 2) c.count-count.ensures)
    ] in
    let behind : count_of c.split_off-other.result ≡ count_of c.args.page.now - c.if-index-count.cut = count-behind c.args.width (count_of c.args.page.now) c.if-index-count.cut c.args.page.now c.split_off-other.result refl c.split_off-other.ensures.other_rows in
    subst (λ (n : ℕ). (n + 1) * c.args.width ≤ 4080) (sym behind) (cuts.behind c.if-index-cut.false)

pub returns-then-index-cut : goal.returns-then-index-cut
returns-then-index-cut c =
    let cuts : IsCut c.args.width (count_of c.args.page.now) c.args.index c.if-index-count.cut = elim c.if-index-count.branch [
      | then-index-count w ↦ cut-whole c.args.width (count_of c.args.page.now) c.args.index c.if-index-count.cut c.requires.short c.requires.laid.room c.requires.full (w.if-index-count.true ∙ c.count-count.ensures) (w.cut-is ∙ c.count-count.ensures)
      | else-index-count w ↦ cut-half c.args.width (count_of c.args.page.now) c.args.index c.if-index-count.cut c.requires.short c.requires.laid.room c.requires.full (w.cut-is ∙ ap (λ (n : ℕ). n / 2) c.count-count.ensures)
    ] in
    parted-front c.args.width c.args.index (count_of c.args.page.now) c.if-index-count.cut c.args.page.now c.split_off-other.new.page c.split_off-other.result c.insert_row.new.page c.args.row.now refl cuts c.if-index-cut.true c.split_off-other.ensures.head c.split_off-other.ensures.rows c.split_off-other.ensures.other_laid c.split_off-other.ensures.other_head c.split_off-other.ensures.other_rows c.insert_row.ensures.laid c.insert_row.ensures.head c.insert_row.ensures.rows

pub returns-else-index-cut : goal.returns-else-index-cut
returns-else-index-cut c =
    let cuts : IsCut c.args.width (count_of c.args.page.now) c.args.index c.if-index-count.cut = elim c.if-index-count.branch [
      | then-index-count w ↦ cut-whole c.args.width (count_of c.args.page.now) c.args.index c.if-index-count.cut c.requires.short c.requires.laid.room c.requires.full (w.if-index-count.true ∙ c.count-count.ensures) (w.cut-is ∙ c.count-count.ensures)
      | else-index-count w ↦ cut-half c.args.width (count_of c.args.page.now) c.args.index c.if-index-count.cut c.requires.short c.requires.laid.room c.requires.full (w.cut-is ∙ ap (λ (n : ℕ). n / 2) c.count-count.ensures)
    ] in
    parted-behind c.args.width c.args.index (count_of c.args.page.now) c.if-index-count.cut c.args.page.now c.split_off-other.new.page c.split_off-other.result c.insert_row-else-index-cut.new.page c.args.row.now refl cuts c.if-index-cut.false c.split_off-other.ensures.laid c.split_off-other.ensures.head c.split_off-other.ensures.rows c.split_off-other.ensures.other_head c.split_off-other.ensures.other_rows c.insert_row-else-index-cut.ensures.laid c.insert_row-else-index-cut.ensures.head c.insert_row-else-index-cut.ensures.rows
