-- Texts that are joined with a space between two.
use Rattle.std.proofs.Common.{◌≡◌, ℕ, ◌-◌, ◌≤◌, List, [], ◌∷◌, ◌++◌, length, get_or, take, drop, map, sym, ap, ◌∙◌, append_assoc, append-nil, arith}
use Rattle.std.specs.Prelude.{flat_map}
use Rattle.std.specs.List.{join_with_byte}
use Rattle.std.proofs.lemmas.List.{take_rest}

module _ {X : Type 0} (f : X → List ℕ) where
  -- each behind a space
  abbrev pub behind : List X → List ℕ
  behind xs = flat_map (λ x. 32 ∷ f x) xs

  joined : (x : X) (xs : List X) → join_with_byte 32 (map f (x ∷ xs)) ≡ f x ++ behind xs
  joined x [] = sym (append-nil (f x))
  joined x (y ∷ ys) = ap (λ z. f x ++ 32 ∷ z) (joined y ys)

  -- the first, and the others behind a space each
  pub joined_behind : (xs : List X) (x : X) (into before : List ℕ) → 1 ≤ length xs → x ≡ get_or xs 0 x → before ≡ into ++ f x
      → before ++ behind (take (length xs - 1) (drop 1 xs)) ≡ into ++ join_with_byte 32 (map f xs)
  joined_behind [] x into before h e k = absurd (omega (arith, h))
  joined_behind (y ∷ ys) x into before h e k =
      ap (λ z. before ++ behind z) (take_rest (y ∷ ys) 1) ∙ ap (λ z. z ++ behind ys) (k ∙ ap (λ z. into ++ f z) e)
      ∙ append_assoc into (f y) (behind ys) ∙ ap (λ z. into ++ z) (sym (joined y ys))
