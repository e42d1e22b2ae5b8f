-- What a line says of further values.
use Rattle.std.proofs.Common.{◌≡◌, ℕ, ◌+◌, ◌<◌, List, [], ◌∷◌, ◌++◌, length, get_or, take, map, sym, ap, ◌∙◌, append_assoc, append-nil}
use Rattle.std.specs.Prelude.{flat_map}
use Rattle.std.proofs.lemmas.Grind.{flat_map-append}
use Rattle.std.proofs.lemmas.List.{map-append}
use Rattle.st_meaning.specs.declared.meaning.Meaning.{Meaning}
use Rattle.st_meaning.specs.Statements.{printed_meaning}
use Rattle.st_terms.proofs.Loops.{taken}

-- one value more
pub tail-next : {X : Type 0} (names : List (List ℕ)) (f : X → Meaning) (xs : List X) (i : ℕ) (x : X) (front before after : List ℕ) → i < length xs → x ≡ get_or xs i x
    → before ≡ front ++ flat_map (λ m. 32 ∷ printed_meaning names m) (map f (take i xs)) → after ≡ before ++ 32 ∷ printed_meaning names (f x)
    → after ≡ front ++ flat_map (λ m. 32 ∷ printed_meaning names m) (map f (take (i + 1) xs))
tail-next names f xs i x front before after h e b a =
    let say : Meaning → List ℕ = λ m. 32 ∷ printed_meaning names m in
    a ∙ ap (λ t. t ++ say (f x)) b ∙ append_assoc front (flat_map say (map f (take i xs))) (say (f x))
    ∙ ap (λ t. front ++ t) (sym (ap (λ ys. flat_map say (map f ys)) (taken xs i x h e) ∙ ap (flat_map say) (map-append f (take i xs) (x ∷ []))
    ∙ flat_map-append say (map f (take i xs)) (f x ∷ []) ∙ ap (λ ys. flat_map say (map f (take i xs)) ++ ys) (append-nil (say (f x)))))

-- one line more
pub lines-next : {X : Type 0} (f : X → List ℕ) (xs : List X) (i : ℕ) (x : X) (before after : List (List ℕ)) → i < length xs → x ≡ get_or xs i x
    → before ≡ map f (take i xs) → after ≡ before ++ f x ∷ [] → after ≡ map f (take (i + 1) xs)
lines-next f xs i x before after h e b a = a ∙ ap (λ t. t ++ f x ∷ []) b ∙ sym (ap (map f) (taken xs i x h e) ∙ map-append f (take i xs) (x ∷ []))
