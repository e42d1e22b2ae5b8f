-- What a text had stays at its front, over two additions.
use Rattle.std.proofs.Common.{◌≡◌, ℕ, ◌≤◌, List, length, take, ap, sym, ◌∙◌, arith, length-take, take-take}

-- the last text begins with the middle one, and that with the first
pub kept-after : (first middle last : List ℕ) → take (length first) middle ≡ first → take (length middle) last ≡ middle → take (length first) last ≡ first
kept-after first middle last start next =
    let fits : length first ≤ length middle = omega (arith, sym (length-take (length first) middle) ∙ ap length start) in
    sym (take-take (length first) (length middle) last fits) ∙ ap (take (length first)) next ∙ start
