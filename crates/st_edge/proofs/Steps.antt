-- One more piece of a list that is written or read from its start.
use Rattle.std.proofs.Common.{◌≡◌, ℕ, ◌+◌, ◌-◌, List, ◌++◌, Option, length, take, drop, sym, ap, subst, ◌∙◌, take-append-drop}
use Rattle.std.proofs.lemmas.List.{take_rest, drop-drop}
use Rattle.std.proofs.Math.Seq.{take-add}
use Rattle.std.specs.Io.KnownBytes.{Appends}
use Rattle.std.proofs.KnownBytes.{Appends-trans}

-- the first bytes went in, and then the first n of the others
pub Appends-take_add : (a b c : Option (List ℕ)) (bytes : List ℕ) (at n : ℕ) → Appends a b (take at bytes) → Appends b c (take n (take (length bytes - at) (drop at bytes))) → Appends a c (take (at + n) bytes)
Appends-take_add a b c bytes at n p q =
    let next : Appends b c (take n (drop at bytes)) = subst (λ l. Appends b c (take n l)) (take_rest bytes at) q in
    subst (Appends a c) (sym (take-add at n bytes)) (Appends-trans a b c _ _ p next)

-- what is left is the n bytes that were given and then what is left after them
pub drop-given : (all given : List ℕ) (at n : ℕ) → given ≡ take n (take (length all - at) (drop at all)) → drop at all ≡ given ++ drop (at + n) all
drop-given all given at n is =
    let given_is : given ≡ take n (drop at all) = is ∙ ap (λ l. take n l) (take_rest all at) in
    sym (take-append-drop n (drop at all)) ∙ ap (λ l. take n (drop at all) ++ l) (drop-drop n at all) ∙ ap (λ l. l ++ drop (at + n) all) (sym given_is)
