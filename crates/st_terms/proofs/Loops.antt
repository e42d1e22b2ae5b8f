-- Calls that only look, for each item of a list.
use Rattle.std.proofs.Common.{◌≡◌, ℕ, ◌+◌, ◌<◌, false, List, [], ◌∷◌, Result, Ok, Err, refl, sym, ◌∙◌, ap, subst, arith, length, take, get_or, append-nil, true≢false}
use Rattle.std.specs.Prelude.{◌++◌, zero, suc, flat_map, All}
use Rattle.std.specs.Result.{IsErr, IsErrAnd}
use Rattle.std.proofs.Math.Seq.{take-length}
use Rattle.std.proofs.lemmas.Grind.{flat_map-append}
use Rattle.std.proofs.lemmas.List.Elements.{All-nil}
use Rattle.st_values.specs.declared.value.EntityId.{EntityId}
use Rattle.st_plain.specs.declared.fault.BaseFault.{BaseFault}
use Rattle.st_plain.specs.Base.{Asked}
use Rattle.st_terms.specs.Looks.{AreAmong, Place, Looks}
use Rattle.st_terms.proofs.Looking.{among-chain, among-left, among-right, among-both, at-nothing, looks-then, looks-fail, looks-more}

pub take-more : {X : Type 0} (xs : List X) (i : ℕ) (d : X) → i < length xs → take (i + 1) xs ≡ take i xs ++ get_or xs i d ∷ []
take-more [] i d h = absurd (omega (arith, h))
take-more (x ∷ xs) zero d h = refl
take-more (x ∷ xs) (suc i) d h =
    let next : suc (i + 1) ≡ suc i + 1 = omega arith in
    subst (λ n. take n (x ∷ xs) ≡ x ∷ (take i xs ++ get_or xs i d ∷ [])) next (ap (λ ys. x ∷ ys) (take-more xs i d (omega (arith, h))))

-- up to an item
pub taken : {X : Type 0} (xs : List X) (i : ℕ) (x : X) → i < length xs → x ≡ get_or xs i x → take (i + 1) xs ≡ take i xs ++ x ∷ []
taken xs i x h e = take-more xs i x h ∙ ap (λ y. take i xs ++ y ∷ []) (sym e)

flat-more : {X Y : Type 0} (f : X → List Y) (xs : List X) (i : ℕ) (x : X) → i < length xs → x ≡ get_or xs i x → flat_map f (take (i + 1) xs) ≡ flat_map f (take i xs) ++ f x
flat-more f xs i x h e =
    ap (flat_map f) (taken xs i x h e) ∙ flat_map-append f (take i xs) (x ∷ []) ∙ ap (λ ys. flat_map f (take i xs) ++ ys) (append-nil (f x))

-- what holds of each item
pub item-holds : {X : Type 0} (P : X → Type 0) (xs : List X) (i : ℕ) (x : X) → i < length xs → x ≡ get_or xs i x → All P xs → P x
item-holds P xs i x h e f = subst P (sym e) (f i x h)

item-among : {X : Type 0} (f : X → List ℕ) (xs : List X) (i : ℕ) (d : X) → i < length xs → AreAmong (f (get_or xs i d)) (flat_map f xs)
item-among f [] i d h = absurd (omega (arith, h))
item-among f (x ∷ xs) zero d h = among-left (f x) (flat_map f xs)
item-among f (x ∷ xs) (suc i) d h = among-chain (f (get_or xs i d)) (flat_map f xs) (f x ++ flat_map f xs) (item-among f xs i d (omega (arith, h))) (among-right (f x) (flat_map f xs))

pub front-among : {X : Type 0} (f : X → List ℕ) (xs : List X) (i : ℕ) → AreAmong (flat_map f (take i xs)) (flat_map f xs)
front-among f [] zero = λ test h. h
front-among f [] (suc i) = λ test h. h
front-among f (x ∷ xs) zero = λ test h. refl
front-among f (x ∷ xs) (suc i) =
    among-both (f x) (flat_map f (take i xs)) (f x ++ flat_map f xs) (among-left (f x) (flat_map f xs))
    (among-chain (flat_map f (take i xs)) (flat_map f xs) (f x ++ flat_map f xs) (front-among f xs i) (among-right (f x) (flat_map f xs)))

-- before the first item
pub loop-begin : {X : Type 0} (xs : List X) (stores : X → List ℕ) (places : X → List Place) (stands : Type 0) (asks : List Asked → Type 0) (got : EntityId → ℕ → Type 0) (right : Unit {0} → Type 0)
    → stands → asks [] → right tt → Looks stands asks got right (flat_map stores (take 0 xs)) (flat_map places (take 0 xs)) (Ok tt)
loop-begin xs stores places stands asks got right s a r = record { answers = (r, s); asked = at-nothing asks false (flat_map stores (take 0 xs)) a; reached = All-nil (λ p. got p.entity p.number) }

-- one item more
pub loop-next : {X : Type 0} (xs : List X) (i : ℕ) (x : X) → i < length xs → x ≡ get_or xs i x → (stores : X → List ℕ) (places : X → List Place)
    (stands behind : Type 0) (first second whole : List Asked → Type 0) (got got_then : EntityId → ℕ → Type 0) (right_before right_item right : Unit {0} → Type 0)
    → ((f g : List Asked) → first f → second g → whole (f ++ g)) → ((e : EntityId) (n : ℕ) → got e n → got_then e n) → (right_before tt → right_item tt → right tt)
    → Looks stands first got right_before (flat_map stores (take i xs)) (flat_map places (take i xs)) (Ok tt)
    → Looks behind second got_then right_item (stores x) (places x) (Ok tt)
    → Looks behind whole got_then right (flat_map stores (take (i + 1) xs)) (flat_map places (take (i + 1) xs)) (Ok tt)
loop-next xs i x h k stores places stands behind first second whole got got_then right_before right_item right on stay follows f g =
    let both = looks-then stands behind first second whole got got_then right_before right_item (flat_map stores (take i xs)) (stores x) (flat_map places (take i xs)) (places x) tt (Ok tt) on stay f g in
    let named : Looks behind whole got_then right (flat_map stores (take i xs) ++ stores x) (flat_map places (take i xs) ++ places x) (Ok tt) =
    record { answers = (follows f.answers.0 g.answers.0, g.answers.1); asked = both.asked; reached = both.reached } in
    subst (λ ps. Looks behind whole got_then right (flat_map stores (take (i + 1) xs)) ps (Ok tt)) (sym (flat-more places xs i x h k))
    (subst (λ ns. Looks behind whole got_then right ns (flat_map places (take i xs) ++ places x) (Ok tt)) (sym (flat-more stores xs i x h k)) named)

-- an item that was not answered
pub loop-fail : {X B A : Type 0} (xs : List X) (i : ℕ) (x : X) → i < length xs → x ≡ get_or xs i x → (stores : X → List ℕ) (places : X → List Place)
    (stands behind : Type 0) (first second whole : List Asked → Type 0) (got got_then : EntityId → ℕ → Type 0) (right_before : Unit {0} → Type 0) (right_item : B → Type 0) (right : A → Type 0) (e : BaseFault)
    → ((f g : List Asked) → first f → second g → whole (f ++ g)) → ((e : EntityId) (n : ℕ) → got e n → got_then e n)
    → Looks stands first got right_before (flat_map stores (take i xs)) (flat_map places (take i xs)) (Ok tt)
    → Looks behind second got_then right_item (stores x) (places x) (Err e)
    → Looks behind whole got_then right (flat_map stores xs) (flat_map places xs) (Err e)
loop-fail xs i x h k stores places stands behind first second whole got got_then right_before right_item right e on stay f g =
    let some = flat_map stores (take i xs) ++ stores x in
    let both = looks-then stands behind first second whole got got_then right_before right_item (flat_map stores (take i xs)) (stores x) (flat_map places (take i xs)) (places x) tt (Err e) on stay f g in
    let nothing = looks-fail behind behind whole got_then right_item right some [] (flat_map places (take i xs) ++ places x) (flat_map places xs) e both in
    looks-more behind whole got_then right (some ++ []) (flat_map stores xs) (flat_map places xs) (Err e)
    (among-both some [] (flat_map stores xs) (among-both (flat_map stores (take i xs)) (stores x) (flat_map stores xs) (front-among stores xs i) (subst (λ y. AreAmong (stores y) (flat_map stores xs)) (sym k) (item-among stores xs i x h))) (λ test t. refl)) nothing

-- behind the last item
pub loop-end : {X : Type 0} (xs : List X) (i : ℕ) → i ≡ length xs → take i xs ≡ xs
loop-end xs i h = ap (λ n. take n xs) h ∙ take-length xs

-- an error that is handed on
pub handed : {C : Type 0} (P : Result C BaseFault → Type 0) (e : BaseFault) (r : Result C BaseFault) → IsErr r × IsErrAnd r (λ x. x ≡ e) → P (Err e) → P r
handed P e (Ok y) h p = absurd (true≢false (sym h.0))
handed P e (Err x) h p = subst (λ z. P (Err z)) (sym h.1) p

-- what a loop gives that came to its end
pub loop-done : {X A : Type 0} (xs : List X) (i : ℕ) → i ≡ length xs → (stores : X → List ℕ) (places : X → List Place) (stands : Type 0) (asks : List Asked → Type 0) (got : EntityId → ℕ → Type 0)
    (right : List X → Type 0) (right_then : A → Type 0) (y : A) → (right xs → right_then y)
    → Looks stands asks got (λ (_ : Unit {0}). right (take i xs)) (flat_map stores (take i xs)) (flat_map places (take i xs)) (Ok tt) → Looks stands asks got right_then (flat_map stores xs) (flat_map places xs) (Ok y)
loop-done xs i h stores places stands asks got right right_then y so f =
    let g = subst (λ ys. Looks stands asks got (λ (_ : Unit {0}). right ys) (flat_map stores ys) (flat_map places ys) (Ok tt)) (loop-end xs i h) f in
    record { answers = (so g.answers.0, g.answers.1); asked = g.asked; reached = g.reached }

-- an item that is read by its place, where it has no name
pub read-at : {X : Type 0} (xs : List X) (i : ℕ) (d : X) → i < length xs → get_or xs i d ≡ get_or xs i (get_or xs i d)
read-at [] i d h = absurd (omega (arith, h))
read-at (x ∷ xs) zero d h = refl
read-at (x ∷ xs) (suc i) d h = read-at xs i d (omega (arith, h))
