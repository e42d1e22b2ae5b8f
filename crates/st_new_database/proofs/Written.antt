-- Pages as they are written into a blank one.
use Rattle.std.proofs.Common.{◌≡◌, ℕ, ◌-◌, List, ◌∷◌, ◌++◌, length, replicate, refl, sym, ap, ◌∙◌}
use Rattle.std.proofs.lemmas.List.{drop-drop, drop-replicate}
use Rattle.std.specs.Int.{w16, w32, to_be_bytes}
use Rattle.st_image.specs.Fields.{blank, with_part, with_kind, with_count, with_next, with_store}
use Rattle.st_new_database.specs.New.{page_bytes, first_page}

-- sixteen zeros in front of others
abbrev fielded : List ℕ → List ℕ
fielded rest = 0 ∷ 0 ∷ 0 ∷ 0 ∷ 0 ∷ 0 ∷ 0 ∷ 0 ∷ 0 ∷ 0 ∷ 0 ∷ 0 ∷ 0 ∷ 0 ∷ 0 ∷ 0 ∷ rest

page-is : (kind count next n : ℕ) (piece page : List ℕ) → page ≡ fielded (replicate n 0)
    → with_part 16 piece (with_next next (with_count count (with_kind kind page)))
    ≡ kind ∷ 0 ∷ to_be_bytes w16 count ++ to_be_bytes w32 0 ++ to_be_bytes w32 next ++ to_be_bytes w32 0 ++ piece ++ replicate (n - length piece) 0
page-is kind count next n piece page e =
    ap (λ (p : List ℕ). with_part 16 piece (with_next next (with_count count (with_kind kind p)))) e
    ∙ ap (λ (rest : List ℕ). kind ∷ 0 ∷ to_be_bytes w16 count ++ to_be_bytes w32 0 ++ to_be_bytes w32 next ++ to_be_bytes w32 0 ++ piece ++ rest)
    (sym (drop-drop (length piece) 16 (with_next next (with_count count (with_kind kind (fielded (replicate n 0)))))) ∙ drop-replicate (length piece) n 0)

blank-is : blank ≡ fielded (replicate 4080 0)
unfolding blank
blank-is = refl

pub written-page : (kind count next : ℕ) (piece : List ℕ) → with_part 16 piece (with_next next (with_count count (with_kind kind blank))) ≡ page_bytes kind count next piece
unfolding page_bytes
written-page kind count next piece = page-is kind count next 4080 piece blank blank-is

pub written-first : (store : ℕ) → with_store store (with_kind 2 blank) ≡ first_page store
unfolding first_page blank
written-first store = refl
