-- The first of two checks that refuses.
use Rattle.std.proofs.Common.{◌≡◌, ℕ, suc, ◌+◌, ◌-◌, ◌<◌, List, [], ◌∷◌, ◌++◌, length, get_or, take, drop, map, Option, Some, None, Ok, Err, IfSome, refl, ap, sym, arith}
use Rattle.std.proofs.Math.Seq.{drop-cons}
use Rattle.std.proofs.Math.Numerals.{add-one}
use Rattle.std.proofs.lemmas.List.{take-map, map_more}
use Rattle.std.specs.Option.{option_or}
use Rattle.std.specs.List.{range_with_len}
use Rattle.st_text.specs.Answer.{Answers}
use Rattle.st_schema.specs.declared.fault.SchemaFault.{SchemaFault}
use Rattle.st_schema.specs.declared.written.TypeForm.{TypeForm}
use Rattle.st_schema.specs.Written.{told}
use Rattle.st_schema.specs.Checks.{unless, parent_fault, parents_fault, unknown_in, unknown_type}
use Rattle.st_schema.specs.Meaning.{first_of}

-- a fault that is due where there is none tells nothing
no_fault : (found b : Option SchemaFault) → IfSome found (λ f. Err f ≡ unless None (tt {0})) → IfSome found (λ f. Err f ≡ unless b (tt {0}))
no_fault None b h = tt
no_fault (Some f) b h = absurd (cc)

pub first_refuses : (e : SchemaFault) (a b : Option SchemaFault) → Answers told (Err e) (unless a (tt {0})) → Answers told (Err e) (unless (option_or a b) (tt {0}))
first_refuses e None b h = no_fault (told e) b h
first_refuses e (Some found) b h = h

-- the list from a place on
pub at_place : {X : Type 0} (xs : List X) (i : ℕ) (x : X) → i < length xs → x ≡ get_or xs i x → drop i xs ≡ x ∷ drop (i + 1) xs
at_place xs i x h is = rw (add-one, drop-cons xs i x h) (ap (λ y. y ∷ drop (suc i) xs) (sym is))

pub unknown_refuses : (names : List (List ℕ)) (types : List TypeForm) (i : ℕ) (t : TypeForm) (e : SchemaFault) → i < length types → t ≡ get_or types i t →
    unknown_type names (drop i types) ≡ unknown_type names types → Answers told (Err e) (unless (unknown_in names t.attributes) (tt {0})) →
    Answers told (Err e) (unless (unknown_type names types) (tt {0}))
unknown_refuses names types i t e inside is left found =
    rw (← left, at_place types i t inside is) (first_refuses e (unknown_in names t.attributes) (unknown_type names (drop (i + 1) types)) found)

abbrev names_in : List TypeForm → List (List ℕ)
names_in types = map (λ t. t.name) types

pub parents_refuse : (names : List (List ℕ)) (types : List TypeForm) (i : ℕ) (t : TypeForm) (e : SchemaFault) → names ≡ names_in types → i < length types → t ≡ get_or types i t →
    parents_fault (names_in (take i types)) (drop i types) ≡ parents_fault [] types → Answers told (Err e) (unless (parent_fault (take i names) [] t.parents) (tt {0})) →
    Answers told (Err e) (unless (parents_fault [] types) (tt {0}))
parents_refuse names types i t e all inside is left found =
    let before : take i names ≡ names_in (take i types) = rw (all, take-map (λ (t : TypeForm). t.name) i types) refl in
    let refused = rw before at found in
    rw (← left, at_place types i t inside is)
    (first_refuses e (parent_fault (names_in (take i types)) [] t.parents) (parents_fault (names_in (take i types) ++ t.name ∷ []) (drop (i + 1) types)) refused)

pub no_refusal : (fault : Option SchemaFault) → Answers told (Ok (tt {0})) (unless fault (tt {0})) → fault ≡ None
no_refusal None h = refl
no_refusal (Some e) h = grind (arith, h)

pub parents_pass : (names : List (List ℕ)) (types : List TypeForm) (i : ℕ) (t : TypeForm) → names ≡ names_in types → i < length types → t ≡ get_or types i t →
    parents_fault (names_in (take i types)) (drop i types) ≡ parents_fault [] types → Answers told (Ok (tt {0})) (unless (parent_fault (take i names) [] t.parents) (tt {0})) →
    parents_fault (names_in (take (i + 1) types)) (drop (i + 1) types) ≡ parents_fault [] types
parents_pass names types i t all inside is left passed =
    let before : take i names ≡ names_in (take i types) = rw (all, take-map (λ (t : TypeForm). t.name) i types) refl in
    let none = no_refusal (parent_fault (names_in (take i types)) [] t.parents) (rw before at passed) in
    let step : names_in (take (i + 1) types) ≡ names_in (take i types) ++ t.name ∷ [] = rw (map_more (λ (t : TypeForm). t.name) types i t inside, ← is) refl in
    let now = rw (at_place types i t inside is, none) at left in
    rw step now

-- the numbers that are left from one on
pub numbers_left : (n k : ℕ) → k < n → range_with_len k (n - k) ≡ k ∷ range_with_len (k + 1) (n - (k + 1))
numbers_left n k h = let e : n - k ≡ suc (n - (k + 1)) = omega (arith, h) in rw e refl

pub passes_on : (fault : ℕ → Option SchemaFault) (n k : ℕ) → k < n → first_of fault (range_with_len k (n - k)) ≡ first_of fault (range_with_len 0 n) →
    Answers told (Ok (tt {0})) (unless (fault k) (tt {0})) → first_of fault (range_with_len (k + 1) (n - (k + 1))) ≡ first_of fault (range_with_len 0 n)
passes_on fault n k h left passed =
    let none = no_refusal (fault k) passed in
    rw (numbers_left n k h, none) at left

pub refuses_at : (fault : ℕ → Option SchemaFault) (n k : ℕ) (e : SchemaFault) → k < n → first_of fault (range_with_len k (n - k)) ≡ first_of fault (range_with_len 0 n) →
    Answers told (Err e) (unless (fault k) (tt {0})) → Answers told (Err e) (unless (first_of fault (range_with_len 0 n)) (tt {0}))
refuses_at fault n k e h left found =
    rw (← left, numbers_left n k h) (first_refuses e (fault k) (first_of fault (range_with_len (k + 1) (n - (k + 1)))) found)
