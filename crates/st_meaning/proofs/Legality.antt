-- A statement of a legal state that no rule refuses leaves a legal state.
use Rattle.std.proofs.Common.{◌≡◌, ℕ, true, false, List, [], ◌∷◌, Option, Some, None, length, refl, sym, ap, subst, ◌∙◌, true≢false}
use Rattle.std.specs.Prelude.{not, ◌&&◌, ◌||◌, nat_lt, nat_le, map, find, is_none, if◌then◌else◌}
use Rattle.std.specs.List.{list_all}
use Rattle.st_values.specs.declared.value.EntityId.{EntityId}
use Rattle.st_values.specs.declared.value.Kind.{Kind}
use Rattle.st_values.specs.declared.value.Kind.TheVariants as kind
use Rattle.st_values.specs.declared.value.Value.{Value}
use Rattle.st_values.specs.declared.value.Value.TheVariants as value
use Rattle.st_values.specs.Order.{same_entity}
use Rattle.st_values.proofs.Tests.{not-true, one-of, first-of, other-of, both, either}
use Rattle.st_values.proofs.Tests as tests
use Rattle.st_lattice.specs.declared.attribute.Attribute.{Attribute}
use Rattle.st_lattice.specs.declared.called.Called.{Called}
use Rattle.st_lattice.specs.declared.called.Called.TheVariants.{Nothing, Own, Inverse}
use Rattle.st_lattice.specs.Outline.{Outline, attribute_name}
use Rattle.st_lattice.specs.Lattice.{isa, by_number}
use Rattle.st_lattice.specs.Called.{called}
use Rattle.st_query.specs.declared.statement.Statement.{Statement}
use Rattle.st_query.specs.declared.statement.Statement.TheVariants.{Set as SetTo, Add, Take, Delete}
use Rattle.st_query.specs.declared.term.Term.{Term}
use Rattle.st_query.specs.declared.kind.Expected.TheVariants.{Storable}
use Rattle.st_query.specs.declared.kind.Sort.TheVariants as sort
use Rattle.st_query.specs.Ways.{way}
use Rattle.st_query.specs.Kinds.{kind_sort, value_sort, store_well, Known, known}
use Rattle.st_state.specs.declared.refusal.Refusal.TheVariants.{NoSuchEntity, NullNotAllowed, NotUnique, TextTooLong, NotASet}
use Rattle.st_state.specs.State.{State, is_live, turned}
use Rattle.st_state.specs.Legal.{can_hold, IsLegal}
use Rattle.st_state.specs.Refusals.{first_of}
use Rattle.st_state.specs.Bases.{shared_with, is_other, needed, needed_by}
use Rattle.st_state.proofs.Kept.{unneeded, deleted-legal}
use Rattle.st_state.proofs.Changed.{added-legal, taken-legal}
use Rattle.st_state.proofs.Set.{null, set-legal}
use Rattle.st_meaning.specs.Terms.{start_value}
use Rattle.st_meaning.specs.Selection.{is_null}
use Rattle.st_meaning.specs.Statements.{Present, value_now, does, sets, adds, takes, deletes}
use Rattle.st_meaning.specs.Checks.{wrong_unless, set_refused, member_refused, term_refused}
use Rattle.st_meaning.specs.Rules.{rules_1_2_7, rule_10, rule_5, rule_11, rule_8, rule_3, rule_4, rule_6, rule_9, refusal, dead, Filling, set_fillings, member_fillings, too_long, missing, shared, entity_in, needed_value}
use Rattle.st_meaning.proofs.Sorts.{first-none, others-none, when-none, unless-none, LiveValue, called-own, term-live, term-sort}

-- ---- what no rule refuses

pub some-none : {A : Type 0} (a : A) → Some a ≡ None → ⊥
some-none a e = cc

-- each rule passes
pub record Passes (p : Present) (st : Statement) : Type 0 where
  pub text : rules_1_2_7 p st ≡ None
  pub live : rule_5 p st ≡ None
  pub target : rule_11 p st ≡ None
  pub long : rule_8 p st ≡ None
  pub null : rule_3 p st ≡ None
  pub shared : rule_4 p st ≡ None
  pub needed : rule_6 p st ≡ None
  pub numbers : rule_9 p st ≡ None

pub passes-all : (p : Present) (st : Statement) → refusal p st ≡ None → Passes p st
unfolding refusal
passes-all p st h =
    let a = others-none (rule_10 p st) _ h in
    let b = others-none (rules_1_2_7 p st) _ a in
    let c = others-none (rule_5 p st) _ b in
    let d = others-none (rule_11 p st) _ c in
    let e = others-none (rule_8 p st) _ d in
    let f = others-none (rule_3 p st) _ e in
    let g = others-none (rule_4 p st) _ f in
    let i = others-none (rule_6 p st) _ g in
    record {
      text = first-none (rules_1_2_7 p st) _ a;
      live = first-none (rule_5 p st) _ b;
      target = first-none (rule_11 p st) _ c;
      long = first-none (rule_8 p st) _ d;
      null = first-none (rule_3 p st) _ e;
      shared = first-none (rule_4 p st) _ f;
      needed = first-none (rule_6 p st) _ g;
      numbers = first-none (rule_9 p st) _ i;
    }

-- what is no entity that isn't live
pub dead-none : (s : State) (v : Value) → dead s v ≡ None → LiveValue s v
dead-none s v h e k = when-none (is_live s e) (NoSuchEntity e) (subst (λ w. dead s w ≡ None) k h)

-- ---- values that are to be stored

pub is_null-is : (v : Value) → is_null v ≡ null v
is_null-is value.Null = refl
is_null-is (value.Int _) = refl
is_null-is (value.Bool _) = refl
is_null-is (value.Text _) = refl
is_null-is (value.Entity _) = refl

-- a value of the sort that is short enough and live can be stored
pub storable : (s : State) (k : Kind) (v : Value) → store_well s.schema (kind_sort k) (value_sort v) ≡ true → LiveValue s v → too_long k v ≡ None → null v ≡ false → can_hold s k v ≡ true
storable s kind.Int value.Null h l t n = absurd (true≢false n)
storable s kind.Int (value.Int i) h l t n = refl
storable s kind.Int (value.Bool i) h l t n = h
storable s kind.Int (value.Text i) h l t n = h
storable s kind.Int (value.Entity i) h l t n = h
storable s kind.Bool value.Null h l t n = absurd (true≢false n)
storable s kind.Bool (value.Int i) h l t n = h
storable s kind.Bool (value.Bool i) h l t n = refl
storable s kind.Bool (value.Text i) h l t n = h
storable s kind.Bool (value.Entity i) h l t n = h
storable s (kind.Text limit) value.Null h l t n = absurd (true≢false n)
storable s (kind.Text limit) (value.Int i) h l t n = h
storable s (kind.Text limit) (value.Bool i) h l t n = h
storable s (kind.Text limit) (value.Text i) h l t n = when-none (nat_le (length i) limit) (TextTooLong (length i) limit) t
storable s (kind.Text limit) (value.Entity i) h l t n = h
storable s (kind.Entity ty) value.Null h l t n = absurd (true≢false n)
storable s (kind.Entity ty) (value.Int i) h l t n = h
storable s (kind.Entity ty) (value.Bool i) h l t n = h
storable s (kind.Entity ty) (value.Text i) h l t n = h
storable s (kind.Entity ty) (value.Entity e) h l t n = both (isa s.schema e.ty ty) (is_live s e) h (l e refl)

-- an attribute that has to have a value has one
pub given-value : (schema : Outline) (f : Filling) → missing schema f ≡ None → f.wanted ≡ true → null f.value ≡ false
given-value schema f h w =
    sym (is_null-is f.value) ∙ sym (ap (λ b. b && is_null f.value) w) ∙ unless-none (f.wanted && is_null f.value) (NullNotAllowed (attribute_name schema f.attribute)) h

-- no other entity has the value of a unique attribute
pub not-shared : (s : State) (filled : Option EntityId) (f : Filling) → shared s filled f ≡ None → f.attribute.unique ≡ true
    → find (is_other filled) (turned f.attribute.number f.value s.triples) ≡ None
not-shared s filled f h u = by (find (is_other filled) (turned f.attribute.number f.value s.triples)) (sym (ap (λ b. if b then shared_with s.schema f.attribute (find (is_other filled) (turned f.attribute.number f.value s.triples)) else None) u) ∙ h)
  where
    by : (o : Option EntityId) → shared_with s.schema f.attribute o ≡ None → o ≡ None
    by None k = refl
    by (Some e) k = absurd (some-none (NotUnique (attribute_name s.schema f.attribute) e) k)

module _ (p : Present) (g : IsLegal p.state) where
  abbrev pub s : State
  s = p.state

  abbrev pub names : List Known
  names = known p.variables

  -- a term that was checked for a place stands for a value of its sort
  pub of_sort : (term : Term) (k : Kind) → term_refused s.schema names (Storable (kind_sort k)) term ≡ None → store_well s.schema (kind_sort k) (value_sort (value_now p term)) ≡ true
  of_sort term k h = term-sort s g.nearly p.variables (kind_sort k) term h

  -- an entity of a type that was checked
  pub of_type : (term : Term) (ty : ℕ) (e : EntityId) → term_refused s.schema names (Storable (sort.Entity ty)) term ≡ None → value_now p term ≡ value.Entity e → isa s.schema e.ty ty ≡ true
  of_type term ty e h k = subst (λ v. store_well s.schema (sort.Entity ty) (value_sort v) ≡ true) k (term-sort s g.nearly p.variables (sort.Entity ty) term h)

  -- two terms of a statement are live
  pub first-live : (target written : Term) → first_of (map (λ start. dead s (start_value s p.variables start)) ((way target).start ∷ (way written).start ∷ [])) ≡ None → LiveValue s (value_now p target)
  first-live target written h =
      term-live s g.nearly p.variables target (dead-none s (start_value s p.variables (way target).start) (first-none (dead s (start_value s p.variables (way target).start)) _ h))

  pub second-live : (target written : Term) → first_of (map (λ start. dead s (start_value s p.variables start)) ((way target).start ∷ (way written).start ∷ [])) ≡ None → LiveValue s (value_now p written)
  second-live target written h =
      term-live s g.nearly p.variables written (dead-none s (start_value s p.variables (way written).start)
      (first-none (dead s (start_value s p.variables (way written).start)) [] (others-none (dead s (start_value s p.variables (way target).start)) _ h)))

  -- ---- set

  pub set-by : (feature : List ℕ) (target written : Term) (c : Called Attribute) → called s.schema feature ≡ c
      → set_refused s.schema names feature target written c ≡ None
      → first_of (map (λ start. dead s (start_value s p.variables start)) ((way target).start ∷ (way written).start ∷ [])) ≡ None
      → first_of (map (λ f. too_long f.attribute.kind f.value) (set_fillings (value_now p written) c)) ≡ None
      → first_of (map (missing s.schema) (set_fillings (value_now p written) c)) ≡ None
      → first_of (map (shared s (entity_in (value_now p target))) (set_fillings (value_now p written) c)) ≡ None
      → (v : Value) → value_now p target ≡ v → IsLegal (sets s c v (value_now p written))
  set-by feature target written Nothing e text live long null_ shared_ value.Null k = g
  set-by feature target written Nothing e text live long null_ shared_ (value.Int _) k = g
  set-by feature target written Nothing e text live long null_ shared_ (value.Bool _) k = g
  set-by feature target written Nothing e text live long null_ shared_ (value.Text _) k = g
  set-by feature target written Nothing e text live long null_ shared_ (value.Entity _) k = g
  set-by feature target written (Inverse a) e text live long null_ shared_ value.Null k = g
  set-by feature target written (Inverse a) e text live long null_ shared_ (value.Int _) k = g
  set-by feature target written (Inverse a) e text live long null_ shared_ (value.Bool _) k = g
  set-by feature target written (Inverse a) e text live long null_ shared_ (value.Text _) k = g
  set-by feature target written (Inverse a) e text live long null_ shared_ (value.Entity _) k = g
  set-by feature target written (Own a) e text live long null_ shared_ value.Null k = g
  set-by feature target written (Own a) e text live long null_ shared_ (value.Int _) k = g
  set-by feature target written (Own a) e text live long null_ shared_ (value.Bool _) k = g
  set-by feature target written (Own a) e text live long null_ shared_ (value.Text _) k = g
  set-by feature target written (Own a) e text live long null_ shared_ (value.Entity x) k =
      let after = others-none (wrong_unless (not a.many)) _ text in
      let target_fits = first-none (term_refused s.schema names (Storable (sort.Entity a.owner)) target) _ after in
      let value_fits = first-none (term_refused s.schema names (Storable (kind_sort a.kind)) written) [] (others-none (term_refused s.schema names (Storable (sort.Entity a.owner)) target) _ after) in
      let v = value_now p written in
      let f : Filling = record { attribute = a; value = v; wanted = a.no_nulls } in
      let alone = subst (λ w. first_of (map (shared s (entity_in w)) (set_fillings v (Own a))) ≡ None) k shared_ in
      set-legal s a.number x v a (called-own s.schema feature a e) g (first-live target written live x k) (of_type target a.owner x target_fits k)
      (λ m. storable s a.kind v (of_sort written a.kind value_fits) (second-live target written live) (first-none (too_long a.kind v) [] long) m)
      (λ u. not-shared s (Some x) f (first-none (shared s (Some x) f) [] alone) u)
      (λ w. given-value s.schema f (first-none (missing s.schema f) [] null_) w)

  pub set-kept : (feature : List ℕ) (target written : Term) → Passes p (SetTo feature target written) → IsLegal (does p (SetTo feature target written)).state
  set-kept feature target written h =
      set-by feature target written (called s.schema feature) refl h.text h.live h.long h.null h.shared (value_now p target) refl

  -- ---- add-to-set and delete-from-set

  pub is-set : (feature : List ℕ) (a : Attribute) → (if a.many then None else Some (NotASet feature)) ≡ None → a.many ≡ true
  is-set feature a h = when-none a.many (NotASet feature) h

  pub add-by : (feature : List ℕ) (target written : Term) (c : Called Attribute) → called s.schema feature ≡ c
      → member_refused s.schema names feature target written c ≡ None
      → first_of (map (λ start. dead s (start_value s p.variables start)) ((way target).start ∷ (way written).start ∷ [])) ≡ None
      → first_of (map (λ f. too_long f.attribute.kind f.value) (member_fillings (value_now p written) c)) ≡ None
      → first_of (map (missing s.schema) (member_fillings (value_now p written) c)) ≡ None
      → first_of (map (shared s None) (member_fillings (value_now p written) c)) ≡ None
      → (v : Value) → value_now p target ≡ v → IsLegal (adds s c v (value_now p written))
  add-by feature target written Nothing e text live long null_ shared_ value.Null k = g
  add-by feature target written Nothing e text live long null_ shared_ (value.Int _) k = g
  add-by feature target written Nothing e text live long null_ shared_ (value.Bool _) k = g
  add-by feature target written Nothing e text live long null_ shared_ (value.Text _) k = g
  add-by feature target written Nothing e text live long null_ shared_ (value.Entity _) k = g
  add-by feature target written (Inverse a) e text live long null_ shared_ value.Null k = g
  add-by feature target written (Inverse a) e text live long null_ shared_ (value.Int _) k = g
  add-by feature target written (Inverse a) e text live long null_ shared_ (value.Bool _) k = g
  add-by feature target written (Inverse a) e text live long null_ shared_ (value.Text _) k = g
  add-by feature target written (Inverse a) e text live long null_ shared_ (value.Entity _) k = g
  add-by feature target written (Own a) e text live long null_ shared_ value.Null k = g
  add-by feature target written (Own a) e text live long null_ shared_ (value.Int _) k = g
  add-by feature target written (Own a) e text live long null_ shared_ (value.Bool _) k = g
  add-by feature target written (Own a) e text live long null_ shared_ (value.Text _) k = g
  add-by feature target written (Own a) e text live long null_ shared_ (value.Entity x) k =
      let many = is-set feature a (first-none (if a.many then None else Some (NotASet feature)) _ text) in
      let after = others-none (if a.many then None else Some (NotASet feature)) _ text in
      let target_fits = first-none (term_refused s.schema names (Storable (sort.Entity a.owner)) target) _ after in
      let value_fits = first-none (term_refused s.schema names (Storable (kind_sort a.kind)) written) [] (others-none (term_refused s.schema names (Storable (sort.Entity a.owner)) target) _ after) in
      let v = value_now p written in
      let f : Filling = record { attribute = a; value = v; wanted = true } in
      added-legal s a.number x v a (called-own s.schema feature a e) many g (first-live target written live x k) (of_type target a.owner x target_fits k)
      (storable s a.kind v (of_sort written a.kind value_fits) (second-live target written live) (first-none (too_long a.kind v) [] long) (given-value s.schema f (first-none (missing s.schema f) [] null_) refl))
      (λ u. not-shared s None f (first-none (shared s None f) [] shared_) u)

  pub add-kept : (feature : List ℕ) (target written : Term) → Passes p (Add feature target written) → IsLegal (does p (Add feature target written)).state
  add-kept feature target written h =
      add-by feature target written (called s.schema feature) refl h.text h.live h.long h.null h.shared (value_now p target) refl

  pub take-by : (feature : List ℕ) (target written : Term) (c : Called Attribute) → called s.schema feature ≡ c
      → member_refused s.schema names feature target written c ≡ None → (v : Value) → IsLegal (takes s c v (value_now p written))
  take-by feature target written Nothing e text value.Null = g
  take-by feature target written Nothing e text (value.Int _) = g
  take-by feature target written Nothing e text (value.Bool _) = g
  take-by feature target written Nothing e text (value.Text _) = g
  take-by feature target written Nothing e text (value.Entity _) = g
  take-by feature target written (Inverse a) e text value.Null = g
  take-by feature target written (Inverse a) e text (value.Int _) = g
  take-by feature target written (Inverse a) e text (value.Bool _) = g
  take-by feature target written (Inverse a) e text (value.Text _) = g
  take-by feature target written (Inverse a) e text (value.Entity _) = g
  take-by feature target written (Own a) e text value.Null = g
  take-by feature target written (Own a) e text (value.Int _) = g
  take-by feature target written (Own a) e text (value.Bool _) = g
  take-by feature target written (Own a) e text (value.Text _) = g
  take-by feature target written (Own a) e text (value.Entity x) =
      taken-legal s a.number x (value_now p written) a (called-own s.schema feature a e) (is-set feature a (first-none (if a.many then None else Some (NotASet feature)) _ text)) g

  pub take-kept : (feature : List ℕ) (target written : Term) → Passes p (Take feature target written) → IsLegal (does p (Take feature target written)).state
  take-kept feature target written h = take-by feature target written (called s.schema feature) refl h.text (value_now p target)

  -- ---- delete-entity

  pub none-needed : (e : EntityId) (a : Attribute) → needed s e a ≡ None → unneeded s e a ≡ true
  none-needed e a h =
      either a.no_nulls (λ b. (if b then needed_by s.schema a (find (is_other (Some e)) (turned a.number (value.Entity e) s.triples)) else None) ≡ None
      → (not b || is_none (find (λ other. not (same_entity e other)) (turned a.number (value.Entity e) s.triples))) ≡ true)
      (λ _ k. ap is_none (by (find (is_other (Some e)) (turned a.number (value.Entity e) s.triples)) k)) (λ _ k. refl) h
    where
      by : (o : Option EntityId) → needed_by s.schema a o ≡ None → o ≡ None
      by None k = refl
      by (Some x) k = cc

  pub all-unneeded : (e : EntityId) (xs : List Attribute) → first_of (map (needed s e) xs) ≡ None → list_all (unneeded s e) xs ≡ true
  all-unneeded e [] h = refl
  all-unneeded e (a ∷ xs) h =
      both (unneeded s e a) (list_all (unneeded s e) xs) (none-needed e a (first-none (needed s e a) _ h)) (all-unneeded e xs (others-none (needed s e a) _ h))

  pub delete-by : (v : Value) → needed_value s v ≡ None → IsLegal (deletes s v)
  delete-by value.Null h = g
  delete-by (value.Int _) h = g
  delete-by (value.Bool _) h = g
  delete-by (value.Text _) h = g
  delete-by (value.Entity e) h = deleted-legal s e g (tests.all-unarranged (λ a b. nat_lt a.number b.number) (unneeded s e) s.schema.attributes (all-unneeded e (by_number s.schema) h))

  pub delete-kept : (target : Term) → Passes p (Delete target) → IsLegal (does p (Delete target)).state
  delete-kept target h = delete-by (value_now p target) h.needed
