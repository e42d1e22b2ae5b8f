-- The bytes of the row that are its key are compared with the key, all of which is its own key.
use Rattle.std.proofs.Common.{List, ℕ, Some, length, take, refl, sym, ap, ◌∙◌}
use Rattle.std.proofs.Math.Seq.{take-length}
use Rattle.std.specs.Ordering.{is_lt, is_some_and, nat_cmp}
use Rattle.std.specs.Cmp.Lexicographic.{lists_agrees, slice_cmp}
use Rattle.st_page_rows.proofs.look.is_below.Goals as goal

pub returns : goal.returns
returns c =
    let key = c.args.key.now in
    let row = c.args.row.now in
    c.lt.ensures
    ∙ ap (is_some_and is_lt) (lists_agrees {R = nat_cmp} {C = λ x y. Some (nat_cmp x y)} (λ x y. refl) (take (length key) row) key)
    ∙ ap (λ (t : List ℕ). is_lt (slice_cmp nat_cmp (take (length key) row) t)) (sym (take-length key))
