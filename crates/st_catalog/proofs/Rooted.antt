-- Roots, row by row.
use Rattle.std.proofs.Common.{◌≡◌, ℕ, suc, ◌+◌, ◌-◌, ◌*◌, ◌<◌, List, [], ◌∷◌, ◌++◌, map, take, drop, refl, sym, ap, ◌∙◌, arith}
use Rattle.std.proofs.lemmas.List.{drop-drop, append_assoc}
use Rattle.st_image.specs.Fields.{pieces}
use Rattle.st_catalog.specs.declared.root.Root.{Root}
use Rattle.st_catalog.specs.Catalog.{root_of}

unrolled : (count index : ℕ) (body : List ℕ) → index < count → map root_of (pieces (count - index) 8 (drop (8 * index) body)) ≡ root_of (take 8 (drop (8 * index) body)) ∷ map root_of (pieces (count - (index + 1)) 8 (drop (8 * (index + 1)) body))
unrolled count index body within =
    let less : count - index ≡ suc (count - (index + 1)) = omega (arith, within) in
    let on : drop 8 (drop (8 * index) body) ≡ drop (8 * (index + 1)) body = drop-drop 8 (8 * index) body ∙ ap (λ (n : ℕ). drop n body) (omega arith) in
    rw (less, ← on) refl

pub next-row : (roots new front : List Root) (body row : List ℕ) (r : Root) (count index : ℕ) → index < count → roots ++ map root_of (pieces (count - index) 8 (drop (8 * index) body)) ≡ front → r ≡ root_of row → row ≡ take 8 (drop (8 * index) body) → new ≡ roots ++ r ∷ []
    → new ++ map root_of (pieces (count - (index + 1)) 8 (drop (8 * (index + 1)) body)) ≡ front
next-row roots new front body row r count index within so is at pushed =
    let rest = map root_of (pieces (count - (index + 1)) 8 (drop (8 * (index + 1)) body)) in
    let here : r ≡ root_of (take 8 (drop (8 * index) body)) = is ∙ ap root_of at in
    ap (λ (xs : List Root). xs ++ rest) pushed ∙ append_assoc roots (r ∷ []) rest ∙ ap (λ (x : Root). roots ++ x ∷ rest) here ∙ ap (λ (xs : List Root). roots ++ xs) (sym (unrolled count index body within)) ∙ so
