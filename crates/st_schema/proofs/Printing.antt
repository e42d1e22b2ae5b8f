-- How the parts of the canonical text are joined.
use Rattle.std.proofs.Common.{◌≡◌, ℕ, suc, ◌+◌, ◌-◌, ◌<◌, Bool, true, false, cond, List, [], ◌∷◌, ◌++◌, length, map, drop, get_or, refl, ap, sym, ◌∙◌, arith, add-one, drop-cons, append-nil, append_assoc}
use Rattle.std.specs.Prelude.{filter, flat_map}
use Rattle.std.specs.List.{join_with_byte, range_with_len}
use Rattle.std.proofs.lemmas.List.Concat.{flat_map-append}
use Rattle.st_schema.specs.Parts.{gap, spaced}

-- a first item, and each other one with a space before it
pub join_first : (item : List ℕ) (items : List (List ℕ)) → join_with_byte 32 (item ∷ items) ≡ item ++ spaced items
join_first item [] = sym (append-nil item)
join_first item (next ∷ items) = ap (λ more. item ++ (32 ∷ more)) (join_first next items)

pub spaced_append : (items more : List (List ℕ)) → spaced (items ++ more) ≡ spaced items ++ spaced more
spaced_append items more = flat_map-append (λ item. 32 ∷ item) items more

-- items behind none or some others
abbrev pub from_here : Bool → List (List ℕ) → List ℕ
from_here false items = join_with_byte 32 items
from_here true items = spaced items

-- the next of them
pub one_more : (later : Bool) (item : List ℕ) (items : List (List ℕ)) → from_here later (item ∷ items) ≡ gap later ++ item ++ spaced items
one_more false item items = join_first item items
one_more true item items = refl

pub none_left : (later : Bool) → from_here later [] ≡ []
none_left false = refl
none_left true = refl

-- the text of an attribute, between its parentheses
pub attribute_parts : (name ty : List ℕ) (options : List (List ℕ)) (into front all : List ℕ) → front ≡ into ++ (name ++ 32 ∷ ty) → all ≡ front ++ spaced options → all ≡ into ++ join_with_byte 32 (name ∷ ty ∷ options)
attribute_parts name ty options into front all first is =
    is ∙ ap (λ front. front ++ spaced options) first ∙ append_assoc into (name ++ 32 ∷ ty) (spaced options)
    ∙ ap (λ rest. into ++ rest) (append_assoc name (32 ∷ ty) (spaced options) ∙ ap (λ more. name ++ (32 ∷ more)) (sym (join_first ty options)))

-- three texts, one behind the other
pub three_parts : (into a b c one two three : List ℕ) → one ≡ into ++ a → two ≡ one ++ b → three ≡ two ++ c → three ≡ into ++ (a ++ (b ++ c))
three_parts into a b c one two three p q r = r ∙ ap (λ front. front ++ c) (q ∙ ap (λ front. front ++ b) p) ∙ (simp append_assoc)

-- one more item written
pub one_step : (later : Bool) (into now item : List ℕ) (items : List (List ℕ)) → now ≡ into ++ gap later ++ item → now ++ spaced items ≡ into ++ from_here later (item ∷ items)
one_step later into now item items is =
    ap (λ front. front ++ spaced items) is ∙ (simp append_assoc) ∙ ap (λ rest. into ++ rest) (sym (one_more later item items ∙ append_assoc (gap later) item (spaced items)))

-- what is left from a place on
pub drop_next : {A : Type 0} (xs : List A) (i : ℕ) (d : A) → i < length xs → drop i xs ≡ get_or xs i d ∷ drop (i + 1) xs
drop_next xs i d below = rw (add-one, drop-cons xs i d) refl

-- one more of some items written
pub item_step : {A : Type 0} (f : A → List ℕ) (later : Bool) (into now : List ℕ) (xs : List A) (i : ℕ) (x : A) → drop i xs ≡ x ∷ drop (i + 1) xs → now ≡ into ++ gap later ++ f x →
    now ++ spaced (map f (drop (i + 1) xs)) ≡ into ++ from_here later (map f (drop i xs))
item_step f later into now xs i x here is =
    one_step later into now (f x) (map f (drop (i + 1) xs)) is ∙ ap (λ rest. into ++ from_here later (map f rest)) (sym here)

-- the same where only those that pass a test are written
pub passing_step : {A : Type 0} (f : A → List ℕ) (p : A → Bool) (later again : Bool) (into now after : List ℕ) (xs : List A) (i : ℕ) (x : A) → drop i xs ≡ x ∷ drop (i + 1) xs → p x ≡ true → now ≡ into ++ gap later ++ f x → after ≡ now → again ≡ true →
    after ++ from_here again (map f (filter p (drop (i + 1) xs))) ≡ into ++ from_here later (map f (filter p (drop i xs)))
passing_step f p later again into now after xs i x here passes is same more =
    let rest = drop (i + 1) xs in
    (λ j. same j ++ from_here (more j) (map f (filter p rest))) ∙ one_step later into now (f x) (map f (filter p rest)) is
    ∙ ap (λ (b : Bool). into ++ from_here later (map f (cond b (x ∷ filter p rest) (filter p rest)))) (sym passes)
    ∙ ap (λ all. into ++ from_here later (map f (filter p all))) (sym here)

pub other_step : {A : Type 0} (f : A → List ℕ) (p : A → Bool) (later again : Bool) (into after : List ℕ) (xs : List A) (i : ℕ) (x : A) → drop i xs ≡ x ∷ drop (i + 1) xs → p x ≡ false → after ≡ into → again ≡ later →
    after ++ from_here again (map f (filter p (drop (i + 1) xs))) ≡ into ++ from_here later (map f (filter p (drop i xs)))
other_step f p later again into after xs i x here fails same more =
    let rest = drop (i + 1) xs in
    (λ j. same j ++ from_here (more j) (map f (filter p rest)))
    ∙ ap (λ (b : Bool). into ++ from_here later (map f (cond b (x ∷ filter p rest) (filter p rest)))) (sym fails)
    ∙ ap (λ all. into ++ from_here later (map f (filter p all))) (sym here)

-- one more of the first numbers
pub number_step : (f : ℕ → List ℕ) (text now : List ℕ) (n end : ℕ) → n < end → now ≡ text ++ f n →
    now ++ flat_map f (range_with_len (n + 1) (end - (n + 1))) ≡ text ++ flat_map f (range_with_len n (end - n))
number_step f text now n end below is =
    let rest = flat_map f (range_with_len (n + 1) (end - (n + 1))) in
    let one : end - n ≡ suc (end - (n + 1)) = omega arith in
    ap (λ front. front ++ rest) is ∙ append_assoc text (f n) rest ∙ ap (λ (count : ℕ). text ++ flat_map f (range_with_len n count)) (sym one)
