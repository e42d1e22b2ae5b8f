-- What a call over lists gives is what each base gives.
use Rattle.std.proofs.Common.{◌≡◌, ℕ, ◌<◌, ◌==◌, true, false, cond, nat_lt, List, [], ◌∷◌, map, Option, Some, None, Result, Ok, Err, refl, sym, ◌∙◌, ap, subst, arith, lit<, lit≤}
use Rattle.std.specs.Prelude.{find, slice_index, IsTrue, ⊤}
use Rattle.std.specs.List.{list_any}
use Rattle.st_values.specs.declared.value.EntityId.{EntityId}
use Rattle.st_values.specs.declared.value.Value.{Value}
use Rattle.st_values.specs.declared.value.Value.TheVariants.{Entity}
use Rattle.st_lattice.specs.declared.attribute.Attribute.{Attribute}
use Rattle.st_lattice.specs.Outline.{Outline, attribute, type_name}
use Rattle.st_lattice.specs.Lattice.{by_number}
use Rattle.st_page.specs.declared.fault.PageFault.{PageFault}
use Rattle.st_state.specs.declared.refusal.Refusal.{Refusal}
use Rattle.st_state.specs.declared.refusal.Refusal.TheVariants.{UnknownName, WrongType, NullNotAllowed, NotUnique, NoSuchEntity, StillNeeded, NotASet, TextTooLong, NumbersSpent, Aborted, NullEntity, TooManyPages, Full}
use Rattle.st_state.specs.Refusals.{rule_number, first_of}
use Rattle.st_state.specs.State.{State, turned}
use Rattle.st_state.specs.Bases.{is_other, shared_with, needed_by, needed, spent, last_serial}
use Rattle.st_state.specs.Calls.{Call, Live, Make, Get, Set, Members, Add, Take, Turned, Delete, Listed, shared_at, due, after, rules_of}
use Rattle.st_plain.specs.declared.fault.BaseFault.{BaseFault}
use Rattle.st_plain.specs.declared.fault.BaseFault.TheVariants.{Refused, Page, Memory}
use Rattle.st_plain.specs.Base.{Refuses, Gives, IsOwn, TellsMet, behind, fault_behind, Does, nothing_met}

none-some : {X : Type 0} (x : X) → None ≡ Some x → ⊥
none-some x e = cc

-- a refusal is by one rule, if there is one
abbrev pub IsRule : ℕ → Option Refusal → Type 0
IsRule number None = ⊤
IsRule number (Some refusal) = rule_number refusal ≡ number

-- the rule of a call
abbrev pub own_rule : Call → ℕ
own_rule (Make ty) = 9
own_rule (Set e number value) = 4
own_rule (Delete e) = 6
own_rule _ = 0

spent-rule : (s : State) (ty : ℕ) → IsRule 9 (spent s ty)
spent-rule s ty = elim (nat_lt (slice_index s.last ty) last_serial) as (λ b. IsRule 9 (cond b None (Some (NumbersSpent (type_name s.schema ty))))) [ true ↦ tt | false ↦ refl ]

shared_with-rule : (schema : Outline) (a : Attribute) (holder : Option EntityId) → IsRule 4 (shared_with schema a holder)
shared_with-rule schema a None = tt
shared_with-rule schema a (Some holder) = refl

shared-rule : (s : State) (a : Option Attribute) (e : EntityId) (v : Value) → IsRule 4 (shared_at s a e v)
shared-rule s None e v = tt
shared-rule s (Some a) e v =
    let other = find (is_other (Some e)) (turned a.number v s.triples) in
    elim a.unique as (λ b. IsRule 4 (cond b (shared_with s.schema a other) None)) [ true ↦ shared_with-rule s.schema a other | false ↦ tt ]

needed_by-rule : (schema : Outline) (a : Attribute) (other : Option EntityId) → IsRule 6 (needed_by schema a other)
needed_by-rule schema a None = tt
needed_by-rule schema a (Some other) = refl

needed-rule : (s : State) (e : EntityId) (a : Attribute) → IsRule 6 (needed s e a)
needed-rule s e a =
    let other = find (is_other (Some e)) (turned a.number (Entity e) s.triples) in
    elim a.no_nulls as (λ b. IsRule 6 (cond b (needed_by s.schema a other) None)) [ true ↦ needed_by-rule s.schema a other | false ↦ tt ]

first-rule : (o : Option Refusal) (os : List (Option Refusal)) → IsRule 6 o → IsRule 6 (first_of os) → IsRule 6 (first_of (o ∷ os))
first-rule None os r rest = rest
first-rule (Some refusal) os r rest = r

still-rule : (s : State) (e : EntityId) (attributes : List Attribute) → IsRule 6 (first_of (map (needed s e) attributes))
still-rule s e [] = tt
still-rule s e (a ∷ others) = first-rule (needed s e a) (map (needed s e) others) (needed-rule s e a) (still-rule s e others)

-- what is due for a call is by its rule
due-rule : (s : State) (call : Call) → IsRule (own_rule call) (due s call)
due-rule s (Live e) = tt
due-rule s (Make ty) = spent-rule s ty
due-rule s (Get e number) = tt
due-rule s (Set e number value) = shared-rule s (attribute s.schema number) e value
due-rule s (Members e number) = tt
due-rule s (Add e number value) = tt
due-rule s (Take e number value) = tt
due-rule s (Turned number value) = tt
due-rule s (Delete e) = still-rule s e (by_number s.schema)
due-rule s (Listed ty) = tt

by-rule : (s : State) (call : Call) (refusal : Refusal) → due s call ≡ Some refusal → rule_number refusal ≡ own_rule call
by-rule s call refusal e = let P : Option Refusal → Type 0 = IsRule (own_rule call) in subst P e (due-rule s call)

-- a call with nothing due is not refused, and each other one may be refused by its rule
own-among : (s : State) (call : Call) (refusal : Refusal) → due s call ≡ Some refusal → rule_number refusal ≡ own_rule call → IsTrue (list_any (λ rule. rule == rule_number refusal) (rules_of call))
own-among s (Live e) refusal d r = absurd (none-some refusal d)
own-among s (Make ty) refusal d r = let P : ℕ → Type 0 = λ n. IsTrue (list_any (λ rule. rule == n) (9 ∷ 12 ∷ 13 ∷ [])) in subst P (sym r) refl
own-among s (Get e number) refusal d r = absurd (none-some refusal d)
own-among s (Set e number value) refusal d r = let P : ℕ → Type 0 = λ n. IsTrue (list_any (λ rule. rule == n) (4 ∷ 12 ∷ 13 ∷ [])) in subst P (sym r) refl
own-among s (Members e number) refusal d r = absurd (none-some refusal d)
own-among s (Add e number value) refusal d r = absurd (none-some refusal d)
own-among s (Take e number value) refusal d r = absurd (none-some refusal d)
own-among s (Turned number value) refusal d r = absurd (none-some refusal d)
own-among s (Delete e) refusal d r = let P : ℕ → Type 0 = λ n. IsTrue (list_any (λ rule. rule == n) (6 ∷ 12 ∷ 13 ∷ [])) in subst P (sym r) refl
own-among s (Listed ty) refusal d r = absurd (none-some refusal d)

own-early : (call : Call) → own_rule call < 12
own-early (Live e) = lit< tt
own-early (Make ty) = lit< tt
own-early (Get e number) = lit< tt
own-early (Set e number value) = lit< tt
own-early (Members e number) = lit< tt
own-early (Add e number value) = lit< tt
own-early (Take e number value) = lit< tt
own-early (Turned number value) = lit< tt
own-early (Delete e) = lit< tt
own-early (Listed ty) = lit< tt

-- a refusal by an early rule: what is due and the same state are what it has to be, and no fault of pages is behind it
early-refuses : (d : Option Refusal) (same : Type 0) (refusal : Refusal) → rule_number refusal < 12 → d ≡ Some refusal → same → Refuses d same refusal
early-refuses d same (UnknownName name) r e h = (e, h)
early-refuses d same WrongType r e h = (e, h)
early-refuses d same (NullNotAllowed name) r e h = (e, h)
early-refuses d same (NotUnique name holder) r e h = (e, h)
early-refuses d same (NoSuchEntity entity) r e h = (e, h)
early-refuses d same (StillNeeded entity name) r e h = (e, h)
early-refuses d same (NotASet name) r e h = (e, h)
early-refuses d same (TextTooLong size limit) r e h = (e, h)
early-refuses d same (NumbersSpent ty) r e h = (e, h)
early-refuses d same Aborted r e h = (e, h)
early-refuses d same NullEntity r e h = (e, h)
early-refuses d same (TooManyPages count) r e h = absurd (omega (arith, r))
early-refuses d same (Full in_use) r e h = absurd (omega (arith, r))

early-behind : (refusal : Refusal) → rule_number refusal < 12 → behind refusal ≡ None
early-behind (UnknownName name) r = refl
early-behind WrongType r = refl
early-behind (NullNotAllowed name) r = refl
early-behind (NotUnique name holder) r = refl
early-behind (NoSuchEntity entity) r = refl
early-behind (StillNeeded entity name) r = refl
early-behind (NotASet name) r = refl
early-behind (TextTooLong size limit) r = refl
early-behind (NumbersSpent ty) r = refl
early-behind Aborted r = refl
early-behind NullEntity r = refl
early-behind (TooManyPages count) r = absurd (omega (arith, r))
early-behind (Full in_use) r = absurd (omega (arith, r))

early : (s : State) (call : Call) (refusal : Refusal) → due s call ≡ Some refusal → rule_number refusal < 12
early s call refusal d = let P : ℕ → Type 0 = λ n. n < 12 in subst P (sym (by-rule s call refusal d)) (own-early call)

gives-at : {A : Type 0} (old new : State) (call : Call) (right : A → Type 0) (r : Result A BaseFault) → Does old call right new r → Gives (λ s. new ≡ s) old call right r
gives-at old new call right (Ok x) d = d
gives-at old new call right (Err (Refused refusal)) d = early-refuses (due old call) (new ≡ old) refusal (early old call refusal d.0) d.0 d.1
gives-at old new call right (Err (Page fault)) d = absurd d
gives-at old new call right (Err Memory) d = tt

pub gives : {A : Type 0} (old new : State) (call : Call) (right : State → A → Type 0) (r : Result A BaseFault) → Does old call (right old) new r → (s : State) → old ≡ s → Gives (λ t. new ≡ t) s call (right s) r
gives old new call right r d s e = let P : State → Type 0 = λ t. Gives (λ u. new ≡ u) t call (right t) r in subst P e (gives-at old new call (right old) r d)

pub own : {A : Type 0} (old new : State) (call : Call) (right : A → Type 0) (r : Result A BaseFault) → Does old call right new r → IsOwn call r
own old new call right (Ok x) d = tt
own old new call right (Err (Refused refusal)) d = own-among old call refusal d.0 (by-rule old call refusal d.0)
own old new call right (Err (Page fault)) d = absurd d
own old new call right (Err Memory) d = tt

none-behind : {A : Type 0} (old new : State) (call : Call) (right : A → Type 0) (r : Result A BaseFault) → Does old call right new r → fault_behind r ≡ None
none-behind old new call right (Ok x) d = refl
none-behind old new call right (Err (Refused refusal)) d = early-behind refusal (early old call refusal d.0)
none-behind old new call right (Err (Page fault)) d = absurd d
none-behind old new call right (Err Memory) d = refl

nothing-told : (told : Option PageFault) → told ≡ None → TellsMet nothing_met nothing_met told
nothing-told told e = record { never_falls = lit≤ tt; is_last = λ fault s. absurd (none-some fault (sym e ∙ s)) }

pub tells : {A : Type 0} (old new : State) (call : Call) (right : A → Type 0) (r : Result A BaseFault) → Does old call right new r → TellsMet nothing_met nothing_met (fault_behind r)
tells old new call right r d = nothing-told (fault_behind r) (none-behind old new call right r d)

after-schema : (s : State) (call : Call) → (after s call).schema ≡ s.schema
after-schema s (Live e) = refl
after-schema s (Make ty) = refl
after-schema s (Get e number) = refl
after-schema s (Set e number value) = refl
after-schema s (Members e number) = refl
after-schema s (Add e number value) = refl
after-schema s (Take e number value) = refl
after-schema s (Turned number value) = refl
after-schema s (Delete e) = refl
after-schema s (Listed ty) = refl

pub schema_stays : {A : Type 0} (old new : State) (call : Call) (right : A → Type 0) (r : Result A BaseFault) → Does old call right new r → new.schema ≡ old.schema
schema_stays old new call right (Ok x) d = ap (λ s. s.schema) d.2 ∙ after-schema old call
schema_stays old new call right (Err (Refused refusal)) d = ap (λ s. s.schema) d.1
schema_stays old new call right (Err (Page fault)) d = absurd d
schema_stays old new call right (Err Memory) d = ap (λ s. s.schema) d
