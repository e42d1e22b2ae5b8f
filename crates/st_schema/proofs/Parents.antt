-- The parents of types are earlier types, and a type has no more of them than there are.
use Rattle.std.proofs.Common.{◌≡◌, ℕ, suc, ◌+◌, ◌<◌, ◌≤◌, Bool, true, false, not, ◌||◌, cond, List, [], ◌∷◌, ◌++◌, length, Option, Some, None, refl, ap, sym, ◌∙◌, subst, arith, length-append}
use Rattle.std.specs.Prelude.{filter}
use Rattle.std.specs.Str.{bytes_eq}
use Rattle.std.proofs.lemmas.Bool.{or_parts}
use Rattle.std.proofs.lemmas.List.Folds.{list_any-append}
use Rattle.std.proofs.lemmas.Slice.Eq.{bytes_eq-Decides}
use Rattle.st_schema.specs.declared.fault.SchemaFault.{SchemaFault}
use Rattle.st_schema.specs.declared.fault.SchemaFault.TheVariants.{UnknownParent, Repeated}
use Rattle.st_schema.specs.declared.written.TypeForm.{TypeForm}
use Rattle.st_values.specs.Names.{has}
use Rattle.st_schema.specs.Checks.{parent_fault, parents_fault}
use Rattle.st_schema.proofs.Content.{option_or_none}

-- each of these names is among some
abbrev pub HasAll : List (List ℕ) → List (List ℕ) → Type 0
HasAll names [] = Unit {0}
HasAll names (parent ∷ parents) = (has names parent ≡ true) × HasAll names parents

parent_parts : (b c : Bool) (x y : SchemaFault) (more : Option SchemaFault) → cond (not b) (Some x) (cond c (Some y) more) ≡ None → (b ≡ true) × (c ≡ false) × (more ≡ None)
parent_parts true true x y more none = absurd (cc)
parent_parts true false x y more none = (refl, refl, none)
parent_parts false c x y more none = absurd (cc)

-- where no check of them finds a fault, parents are earlier types
pub all_earlier : (earlier before parents : List (List ℕ)) → parent_fault earlier before parents ≡ None → HasAll earlier parents
all_earlier earlier before [] none = tt
all_earlier earlier before (parent ∷ parents) none =
    let parts = parent_parts (has earlier parent) (has before parent) (UnknownParent parent) (Repeated parent) (parent_fault earlier (before ++ parent ∷ []) parents) none in
    (parts.0, all_earlier earlier (before ++ parent ∷ []) parents parts.2)

has_more : (earlier later : List (List ℕ)) (name : List ℕ) → has earlier name ≡ true → has (earlier ++ later) name ≡ true
has_more earlier later name h = list_any-append (λ other. bytes_eq other name) earlier later ∙ ap (λ b. b || has later name) h

-- what is among some names is among more of them
pub all_more : (earlier later parents : List (List ℕ)) → HasAll earlier parents → HasAll (earlier ++ later) parents
all_more earlier later [] all = tt
all_more earlier later (parent ∷ parents) all = (has_more earlier later parent all.0, all_more earlier later parents all.1)

-- names without one
abbrev without : List ℕ → List (List ℕ) → List (List ℕ)
without name names = filter (λ other. not (bytes_eq other name)) names

no_longer : (name : List ℕ) (names : List (List ℕ)) → length (without name names) ≤ length names
no_longer name [] = omega arith
no_longer name (x ∷ names) = longer (bytes_eq x name) (without name names) (no_longer name names)
  where
    longer : (same : Bool) (left : List (List ℕ)) → length left ≤ length names → length (cond (not same) (x ∷ left) left) ≤ suc (length names)
    longer true left le = omega arith
    longer false left le = omega arith

shorter_first : (same : Bool) (x name : List ℕ) (names : List (List ℕ)) → ((same || has names name) ≡ true) → (has names name ≡ true → length (without name names) < length names) → length (cond (not same) (x ∷ without name names) (without name names)) < suc (length names)
shorter_first true x name names h more = omega (arith, no_longer name names)
shorter_first false x name names h more = omega (arith, more h)

shorter : (name : List ℕ) (names : List (List ℕ)) → has names name ≡ true → length (without name names) < length names
shorter name [] h = absurd (cc)
shorter name (x ∷ names) h = shorter_first (bytes_eq x name) x name names h (shorter name names)

still_first : (same found : Bool) (x name other : List ℕ) (names : List (List ℕ)) → (same ≡ true → found ≡ false) → found ≡ bytes_eq x other → (found || has names other) ≡ true → (has names other ≡ true → has (without name names) other ≡ true) → has (cond (not same) (x ∷ without name names) (without name names)) other ≡ true
still_first true found x name other names apart is h more = let no = apart refl in more (subst (λ (b : Bool). (b || has names other) ≡ true) no h)
still_first false true x name other names apart is h more = rw (← is) refl
still_first false false x name other names apart is h more = rw (← is) (more h)

still_there : (name other : List ℕ) (names : List (List ℕ)) → bytes_eq name other ≡ false → has names other ≡ true → has (without name names) other ≡ true
still_there name other [] apart h = absurd (cc)
still_there name other (x ∷ names) apart h =
    still_first (bytes_eq x name) (bytes_eq x other) x name other names (λ same. ap (λ x. bytes_eq x other) ((bytes_eq-Decides x name).0 same) ∙ apart) refl h (still_there name other names apart)

abbrev HasNone : List (List ℕ) → List (List ℕ) → Type 0
HasNone names [] = Unit {0}
HasNone names (parent ∷ parents) = (has names parent ≡ false) × HasNone names parents

abbrev AreOther : List ℕ → List (List ℕ) → Type 0
AreOther name [] = Unit {0}
AreOther name (parent ∷ parents) = (bytes_eq name parent ≡ false) × AreOther name parents

abbrev Differ : List (List ℕ) → Type 0
Differ [] = Unit {0}
Differ (parent ∷ parents) = AreOther parent parents × Differ parents

none_before : (earlier before parents : List (List ℕ)) → parent_fault earlier before parents ≡ None → HasNone before parents
none_before earlier before [] none = tt
none_before earlier before (parent ∷ parents) none =
    let parts = parent_parts (has earlier parent) (has before parent) (UnknownParent parent) (Repeated parent) (parent_fault earlier (before ++ parent ∷ []) parents) none in
    (parts.1, less before parent parents (none_before earlier (before ++ parent ∷ []) parents parts.2))
  where
    less : (before : List (List ℕ)) (parent : List ℕ) (parents : List (List ℕ)) → HasNone (before ++ parent ∷ []) parents → HasNone before parents
    less before parent [] none = tt
    less before parent (other ∷ parents) none =
        ((or_parts (has before other) (has (parent ∷ []) other) (sym (list_any-append (λ name. bytes_eq name other) before (parent ∷ [])) ∙ none.0)).0, less before parent parents none.1)

others : (before : List (List ℕ)) (parent : List ℕ) (parents : List (List ℕ)) → HasNone (before ++ parent ∷ []) parents → AreOther parent parents
others before parent [] none = tt
others before parent (other ∷ parents) none =
    let both = or_parts (has before other) (has (parent ∷ []) other) (sym (list_any-append (λ name. bytes_eq name other) before (parent ∷ [])) ∙ none.0) in
    ((or_parts (bytes_eq parent other) false both.1).0, others before parent parents none.1)

differ : (earlier before parents : List (List ℕ)) → parent_fault earlier before parents ≡ None → Differ parents
differ earlier before [] none = tt
differ earlier before (parent ∷ parents) none =
    let parts = parent_parts (has earlier parent) (has before parent) (UnknownParent parent) (Repeated parent) (parent_fault earlier (before ++ parent ∷ []) parents) none in
    (others before parent parents (none_before earlier (before ++ parent ∷ []) parents parts.2), differ earlier (before ++ parent ∷ []) parents parts.2)

all_still : (name : List ℕ) (names parents : List (List ℕ)) → AreOther name parents → HasAll names parents → HasAll (without name names) parents
all_still name names [] other all = tt
all_still name names (parent ∷ parents) other all = (still_there name parent names other.0 all.0, all_still name names parents other.1 all.1)

no_more : (earlier parents : List (List ℕ)) → HasAll earlier parents → Differ parents → length parents ≤ length earlier
no_more earlier [] all apart = omega arith
no_more earlier (parent ∷ parents) all apart =
    let less = shorter parent earlier all.0 in
    let more = no_more (without parent earlier) parents (all_still parent earlier parents apart.0 all.1) apart.1 in
    omega arith

-- each of these types has at most 64 parents
abbrev pub HaveFewParents : List TypeForm → Type 0
HaveFewParents [] = Unit {0}
HaveFewParents (t ∷ types) = (length t.parents ≤ 64) × HaveFewParents types

pub few_parents : (earlier : List (List ℕ)) (types : List TypeForm) → parents_fault earlier types ≡ None → length earlier + length types ≤ 64 → HaveFewParents types
few_parents earlier [] none few = tt
few_parents earlier (t ∷ types) none few =
    let both = option_or_none (parent_fault earlier [] t.parents) (parents_fault (earlier ++ t.name ∷ []) types) none in
    let count = no_more earlier t.parents (all_earlier earlier [] t.parents both.0) (differ earlier [] t.parents both.0) in
    let total : length earlier + suc (length types) ≤ 64 = few in
    (omega arith, few_parents (earlier ++ t.name ∷ []) types both.1 (omega (arith, length-append earlier (t.name ∷ []))))
