-- A term of a query that passed the checks can be read, of each entity that the query looks at, and means what it means there.
use Rattle.std.proofs.Common.{◌≡◌, ℕ, ◌+◌, true, false, List, [], ◌∷◌, Some, None, refl, sym, ◌∙◌, ap, subst, true≢false, arith}
use Rattle.std.specs.Prelude.{◌++◌, suc, cond, find, take, drop, if◌then◌else◌, not}
use Rattle.std.specs.List.{position_or_len}
use Rattle.std.specs.Str.{bytes_eq}
use Rattle.st_values.specs.declared.value.EntityId.{EntityId}
use Rattle.st_values.specs.declared.value.Value.{Value}
use Rattle.st_values.specs.declared.value.Value.TheVariants as value
use Rattle.st_values.proofs.Tests.{either, never}
use Rattle.st_lattice.specs.Lattice.{isa}
use Rattle.st_query.specs.declared.kind.Expected.{Expected}
use Rattle.st_query.specs.declared.kind.Expected.TheVariants.{Storable}
use Rattle.st_query.specs.declared.kind.Typing.TheVariants.{One}
use Rattle.st_query.specs.declared.kind.Sort.{Sort}
use Rattle.st_query.specs.declared.kind.Sort.TheVariants as sort
use Rattle.st_query.specs.declared.query.Query.{Query}
use Rattle.st_query.specs.declared.term.Term.{Term}
use Rattle.st_query.specs.declared.term.Variable.{Variable}
use Rattle.st_query.specs.Kinds.{value_sort, known, known_in, store_well, start_typing, start_name, variable_typing}
use Rattle.st_query.specs.Terms.{variable_named, bound_to, variable_value, bind}
use Rattle.st_query.specs.Ways.{Start, Written, Named, way}
use Rattle.st_query.specs.Written.{begins_with}
use Rattle.st_state.specs.State.{State, is_live}
use Rattle.st_state.specs.Legal.{IsNearlyLegal}
use Rattle.st_meaning.specs.Terms.{features_value, start_value, term_meaning}
use Rattle.st_meaning.specs.Selection.{variables_at}
use Rattle.st_meaning.specs.Checks.{fit_or_refused, term_refused}
use Rattle.st_meaning.proofs.Sorts.{LiveValue, fit-none, start-sort, chain}
use Rattle.st_meaning.proofs.Cells.{name-is, name-itself}
use Rattle.st_terms.specs.declared.route.Origin.TheVariants.{Fixed, Subject}
use Rattle.st_terms.specs.Routes.{origin_of, origin_value, route_of, route_meaning, AdmitsRoute}
use Rattle.st_terms.proofs.Routes.{features-walked}
use Rattle.st_terms.proofs.Admitted.{way-admits}

-- variables where one is written over, or put at the end
abbrev put_at : ℕ → List ℕ → Value → List Variable → List Variable
put_at place name v variables = take place variables ++ record { name = name; value = v } ∷ drop (place + 1) variables

put-first : (name : List ℕ) (v : Value) (xs : List Variable) (other : List ℕ) → bytes_eq name other ≡ true → variable_value (record { name = name; value = v } ∷ xs) other ≡ v
put-first name v xs other h = ap (λ b. bound_to (cond b (Some (record { name = name; value = v })) (find (λ variable. bytes_eq variable.name other) xs))) h

put-other : (x : Variable) (xs : List Variable) (other : List ℕ) → bytes_eq x.name other ≡ false → variable_value (x ∷ xs) other ≡ variable_value xs other
put-other x xs other h = ap (λ b. bound_to (cond b (Some x) (find (λ variable. bytes_eq variable.name other) xs))) h

-- a name that is bound stands for the value
bound-itself : (variables : List Variable) (name other : List ℕ) (v : Value) → bytes_eq name other ≡ true → variable_value (bind name v variables) other ≡ v
bound-itself [] name other v h = put-first name v [] other h
bound-itself (x ∷ xs) name other v h =
    let same : name ≡ other = name-is name other h in
    let rest = position_or_len (λ variable. bytes_eq variable.name name) xs in
    either (bytes_eq x.name name) (λ b. variable_value (put_at (cond (not b) (1 + rest) 0) name v (x ∷ xs)) other ≡ v)
    (λ _. put-first name v xs other h)
    (λ k.
    let next : suc rest ≡ 1 + rest = omega arith in
    let ends : suc (rest + 1) ≡ suc rest + 1 = omega arith in
    let unlike : bytes_eq x.name other ≡ false = subst (λ n. bytes_eq x.name n ≡ false) same k in
    subst (λ n. variable_value (put_at n name v (x ∷ xs)) other ≡ v) next
    (subst (λ n. variable_value (x ∷ take rest xs ++ record { name = name; value = v } ∷ drop n (x ∷ xs)) other ≡ v) ends
    (put-other x (put_at rest name v xs) other unlike ∙ bound-itself xs name other v h)))

-- and another name what it stood for
bound-other : (variables : List Variable) (name other : List ℕ) (v : Value) → bytes_eq name other ≡ false → variable_value (bind name v variables) other ≡ variable_value variables other
bound-other [] name other v h = put-other (record { name = name; value = v }) [] other h
bound-other (x ∷ xs) name other v h =
    let rest = position_or_len (λ variable. bytes_eq variable.name name) xs in
    either (bytes_eq x.name name) (λ b. variable_value (put_at (cond (not b) (1 + rest) 0) name v (x ∷ xs)) other ≡ variable_value (x ∷ xs) other)
    (λ k.
    let unlike : bytes_eq x.name other ≡ false = subst (λ n. bytes_eq n other ≡ false) (sym (name-is x.name name k)) h in
    put-other (record { name = name; value = v }) xs other h ∙ sym (put-other x xs other unlike))
    (λ k.
    let next : suc rest ≡ 1 + rest = omega arith in
    let ends : suc (rest + 1) ≡ suc rest + 1 = omega arith in
    subst (λ n. variable_value (put_at n name v (x ∷ xs)) other ≡ variable_value (x ∷ xs) other) next
    (subst (λ n. variable_value (x ∷ take rest xs ++ record { name = name; value = v } ∷ drop n (x ∷ xs)) other ≡ variable_value (x ∷ xs) other) ends
    (both-first x (put_at rest name v xs) xs other (bound-other xs name other v h))))
  where
    both-first : (x : Variable) (ys zs : List Variable) (other : List ℕ) → variable_value ys other ≡ variable_value zs other → variable_value (x ∷ ys) other ≡ variable_value (x ∷ zs) other
    both-first x ys zs other e = either (bytes_eq x.name other) (λ b. bound_to (cond b (Some x) (variable_named ys other)) ≡ bound_to (cond b (Some x) (variable_named zs other))) (λ _. refl) (λ _. e)

start-in : (s : State) (variables : List Variable) (var : List ℕ) (e : EntityId) (start : Start) → origin_value (origin_of s.schema variables (Some var) start) (Some e) ≡ start_value s (bind var (value.Entity e) variables) start
start-in s variables var e (Written written) = refl
start-in s variables var e (Named name) =
    either (bytes_eq var name) (λ b. bytes_eq var name ≡ b → origin_value (if b then Subject else Fixed (variable_value variables name)) (Some e) ≡ variable_value (bind var (value.Entity e) variables) name)
    (λ k _. sym (bound-itself variables var name (value.Entity e) k)) (λ k _. sym (bound-other variables var name (value.Entity e) k)) refl

pub meaning-in : (s : State) (variables : List Variable) (query : Query) (e : EntityId) (t : Term) → route_meaning s (route_of s.schema variables (Some query.var) (way t)) (Some e) ≡ term_meaning s (variables_at variables query e) t
unfolding term_meaning
meaning-in s variables query e t =
    features-walked s (way t).features (origin_value (origin_of s.schema variables (Some query.var) (way t).start) (Some e))
    ∙ ap (λ v. features_value s (way t).features v) (start-in s variables query.var e (way t).start)

-- the value that a term of a query begins with is of the sort that was checked
sort-in : (s : State) (n : IsNearlyLegal s) (variables : List Variable) (query : Query) (ty : ℕ) (e : EntityId) → isa s.schema e.ty ty ≡ true → (start : Start) (b : Sort)
    → fit_or_refused s.schema (Storable b) (start_name start) (start_typing s.schema (known_in (known variables) query ty) start) ≡ None
    → store_well s.schema b (value_sort (origin_value (origin_of s.schema variables (Some query.var) start) (Some e))) ≡ true
sort-in s n variables query ty e of (Written written) b h = start-sort s n variables b (Written written) h
sort-in s n variables query ty e of (Named name) b h =
    either (bytes_eq query.var name)
    (λ c. fit_or_refused s.schema (Storable b) name (variable_typing (cond c (Some (record { name = query.var; sort = sort.Entity ty })) (find (λ k. bytes_eq k.name name) (known variables)))) ≡ None
    → store_well s.schema b (value_sort (origin_value (if c then Subject else Fixed (variable_value variables name)) (Some e))) ≡ true)
    (λ _ k. chain s n [] b (sort.Entity ty) (sort.Entity e.ty) some (fit-none s n [] (Storable b) name (One (sort.Entity ty)) k) of)
    (λ _ k. start-sort s n variables b (Named name) k) h
  where
    some : sort.Entity ty ≡ sort.Null → ⊥
    some k = cc

live-in : (s : State) (variables : List Variable) (var : List ℕ) (e : EntityId) → is_live s e ≡ true → (start : Start) → (begins_with var start ≡ false → LiveValue s (start_value s variables start))
    → LiveValue s (origin_value (origin_of s.schema variables (Some var) start) (Some e))
live-in s variables var e l (Written written) h = h refl
live-in s variables var e l (Named name) h =
    either (bytes_eq var name) (λ b. bytes_eq var name ≡ b → LiveValue s (origin_value (if b then Subject else Fixed (variable_value variables name)) (Some e)))
    (λ _ _ x k. subst (λ y. is_live s y ≡ true) (inside x k) l) (λ k _. h (turned k)) refl
  where
    inside : (x : EntityId) → value.Entity e ≡ value.Entity x → e ≡ x
    inside x k = cc

    turned : bytes_eq var name ≡ false → bytes_eq name var ≡ false
    turned k = never (bytes_eq name var) (λ t. true≢false (sym (name-itself name) ∙ subst (λ z. bytes_eq z name ≡ false) (sym (name-is name var t)) k))

pub admitted-in : (s : State) → IsNearlyLegal s → (variables : List Variable) (query : Query) (ty : ℕ) (e : EntityId) → isa s.schema e.ty ty ≡ true → is_live s e ≡ true → (expected : Expected) (t : Term)
    → term_refused s.schema (known_in (known variables) query ty) expected t ≡ None → (begins_with query.var (way t).start ≡ false → LiveValue s (start_value s variables (way t).start))
    → AdmitsRoute s (route_of s.schema variables (Some query.var) (way t)) (Some e)
unfolding term_refused
admitted-in s n variables query ty e of l expected t h live =
    way-admits s n (known_in (known variables) query ty) (origin_value (origin_of s.schema variables (Some query.var) (way t).start) (Some e)) (way t).start
    (live-in s variables query.var e l (way t).start live) (λ b k. sort-in s n variables query ty e of (way t).start b k) expected (way t).features h
